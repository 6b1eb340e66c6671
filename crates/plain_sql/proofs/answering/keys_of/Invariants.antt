use Rattle.std.proofs.Common.{◌≡◌, ◌++◌, map, drop, Ok}
use Rattle.expr_eval.specs.Binding.{and_then}
use Rattle.plain_sql.specs.Answers.{cell_of, keys_shown}
use Rattle.plain_sql.specs.Lists.{each}
use Rattle.plain_sql.specs.Seen.{key_seen}
use Rattle.plain_sql.proofs.answering.keys_of.Given as goal

abbrev pub invariant-loop-key : goal.invariant-loop-key
invariant-loop-key l =
    keys_shown (map key_seen l.keys) l.rows
    ≡ and_then (each (λ key. cell_of l.rows key.shown) (map key_seen (drop l.key-index l.keys))) (λ more. Ok (l.cells ++ more))
