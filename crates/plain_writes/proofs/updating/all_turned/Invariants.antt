use Rattle.std.proofs.Common.{◌≡◌, ◌++◌, map, drop, Ok}
use Rattle.expr_eval.specs.Binding.{and_then}
use Rattle.plain_sql.specs.Lists.{each}
use Rattle.plain_sql.specs.Plans.{meaning}
use Rattle.plain_writes.specs.Seen.{setting_seen}
use Rattle.plain_writes.specs.Writes.{turned_small}
use Rattle.plain_writes.proofs.updating.all_turned.Given as goal

abbrev pub invariant-loop-row : goal.invariant-loop-row
invariant-loop-row l =
    each (turned_small l.schema (map meaning l.tests) (map setting_seen l.settings)) l.rows
    ≡ and_then (each (turned_small l.schema (map meaning l.tests) (map setting_seen l.settings)) (drop l.row-index l.rows)) (λ more. Ok (l.all ++ more))
