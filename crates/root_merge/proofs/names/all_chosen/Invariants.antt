use Rattle.std.proofs.Common.{◌≡◌, ◌++◌, map}
use Rattle.root_merge.specs.Names.{all_chosen, chosen_for}
use Rattle.root_merge.proofs.names.all_chosen.Given as goal

abbrev pub invariant-loop-name : goal.invariant-loop-name
invariant-loop-name l = record {
  can : (goal.iterator-loop-name).can_next l.name-iterator;
  finite : (goal.iterator-loop-name).is_finite l.name-iterator;
  rest : l.named.items ++ map (chosen_for l.base l.ours l.theirs) l.name-iterator.rest.items ≡ all_chosen l.base l.ours l.theirs;
}
