use Rattle.std.proofs.Common.{◌≡◌, ◌++◌, ◌∷◌, drop, length}
use Rattle.std.specs.List.{flat_map}
use Rattle.sql_text.specs.Values.{value_texts}
use Rattle.sql_text.proofs.printed_values.push_more_values.Given as goal

abbrev pub invariant-loop-kind : goal.invariant-loop-kind
invariant-loop-kind l = l.out.items ++ flat_map (λ text. 44 ∷ text) (value_texts (drop (length l.yielded) l.kinds) (drop (length l.yielded) l.values))
    ≡ l.fn.out.items ++ flat_map (λ text. 44 ∷ text) (value_texts l.kinds l.values)
