use Rattle.std.proofs.Common.{◌≡◌, drop}
use Rattle.std.specs.List.{list_any}
use Rattle.merge_procs.specs.Resolving.{is_flawed}
use Rattle.merge_procs.proofs.takings.any_flawed.Given as goal

abbrev pub invariant-loop-row : goal.invariant-loop-row
invariant-loop-row l = list_any (is_flawed l.flaw l.schema) l.rows ≡ list_any (is_flawed l.flaw l.schema) (drop l.row-index l.rows)
