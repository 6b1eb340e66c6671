use Rattle.std.proofs.Common.{◌≡◌, ◌++◌, drop, map}
use Rattle.schema_model.specs.declared.schemas.Column.{Column}
use Rattle.tuple_codec.specs.declared.values.Value.TheVariants as cell
use Rattle.system_tables.proofs.conflicts.push_nulls.Given as goal

abbrev pub invariant-loop-column : goal.invariant-loop-column
invariant-loop-column l = l.row ++ map (λ (column : Column). cell.Null) (drop l._column-index l.columns) ≡ l.fn.row ++ map (λ (column : Column). cell.Null) l.columns
