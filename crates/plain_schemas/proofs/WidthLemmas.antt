-- Schemas with too many columns are past the limits.
use Rattle.std.proofs.Common.{◌≡◌, ℕ, ◌<◌, false, List, length, ap, Ok, Err}
use Rattle.std.specs.Prelude.{◌||◌, not, nat_le}
use Rattle.std.proofs.lemmas.Bool.{and_left, lt-leb}
use Rattle.schema_model.specs.declared.schemas.Schema.{Schema}
use Rattle.schema_model.specs.Limits.{is_within_limits, most_tables}
use Rattle.schema_model.specs.PlainTables.{PlainDatabase}
use Rattle.plain_sql.specs.Lists.{unless}
use Rattle.plain_schemas.specs.Effects.{changed_to, if_within, with_table}

wide : (schema : Schema) → 64 < length schema.columns → is_within_limits schema ≡ false
wide schema h = and_left _ _ (and_left _ _ (and_left _ _ (and_left _ _ (and_left _ _ (and_left _ _ (and_left _ _ (and_left _ _ (lt-leb _ _ h))))))))

pub too_wide : (database : PlainDatabase) (name : List ℕ) (schema : Schema) → 64 < length schema.columns → if_within database name schema ≡ Err 9010
too_wide database name schema h =
    ap (λ within. unless (not within || nat_le most_tables (length database)) 9010 (Ok (changed_to (with_table database name schema)))) (wide schema h)
