use Rattle.std.proofs.Common.{◌≡◌, ◌++◌, drop}
use Rattle.plain_writes.specs.Violations.{types_at}
use Rattle.constraint_scan.proofs.cells.types_at.Given as goal

abbrev pub invariant-loop-place : goal.invariant-loop-place
invariant-loop-place l = types_at l.schema l.places ≡ l.types ++ types_at l.schema (drop l.place-index l.places)
