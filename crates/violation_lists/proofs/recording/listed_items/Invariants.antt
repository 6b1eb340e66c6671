use Rattle.std.proofs.Common.{◌≡◌, ◌++◌, true, drop, map}
use Rattle.std.specs.List.{list_all}
use Rattle.node_format.specs.Views.{leaf_of}
use Rattle.violation_lists.specs.Recording.{has_name, listed_items}
use Rattle.violation_lists.proofs.recording.listed_items.Given as goal

abbrev pub invariant-loop-one : goal.invariant-loop-one
invariant-loop-one l = record {
  names : list_all has_name (drop l.one-index l.list) ≡ true;
  left : map leaf_of l.items.items ++ listed_items l.name (drop l.one-index l.list) ≡ listed_items l.name l.list;
}
