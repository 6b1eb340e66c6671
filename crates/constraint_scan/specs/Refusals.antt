-- What the refusal of a statement depends on.
use Rattle.std.specs.Prelude.{◌≡◌, false, None}
use Rattle.schema_model.specs.PlainTables.{PlainDatabase}
use Rattle.plain_writes.specs.Violations.{Checks, first_violation}
use Rattle.violation_lists.specs.Scanning.{bare, has_constraints}

-- it is told by schemas and rows alone; nothing is refused that leaves the database as it is, or that leaves it without a
-- unique index, a CHECK or a foreign key
pub record ConstraintsSuffice : Type 0 where
  pub told : (checks : Checks) (old new : PlainDatabase) → first_violation checks (bare old) (bare new) ≡ first_violation checks old new
  pub same : (checks : Checks) (database : PlainDatabase) → first_violation checks database database ≡ None
  pub free : (checks : Checks) (old new : PlainDatabase) → has_constraints new ≡ false → first_violation checks old new ≡ None
