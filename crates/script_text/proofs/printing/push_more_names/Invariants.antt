use Rattle.std.proofs.Common.{◌≡◌, ◌++◌, ◌∷◌, drop}
use Rattle.std.specs.List.{flat_map}
use Rattle.script_text.proofs.printing.push_more_names.Given as goal

abbrev pub invariant-loop-name : goal.invariant-loop-name
invariant-loop-name l = l.out.items ++ flat_map (λ name. 44 ∷ name) (drop l.name-index l.names) ≡ l.fn.out.items ++ flat_map (λ name. 44 ∷ name) l.names
