-- What contracts see of the code's own types.
use Rattle.std.specs.Prelude.{ℕ, List, map, Some}
use Rattle.tuple_codec.specs.declared.values.Value.TheVariants as cell
use Rattle.sql_values.specs.declared.kinds.Kind.TheVariants as kind
use Rattle.expr_eval.specs.declared.bound.BoundExpr.{BoundExpr}
use Rattle.expr_eval.specs.declared.bound.BoundNode.TheVariants as node
use Rattle.schema_model.specs.PlainTables as plain
use Rattle.schema_model.specs.PlainTables.{Conflict, PlainTable, Violation}
use Rattle.plain_sql.specs.Plans.{meaning}
use Rattle.plain_writes.specs.declared.breaking.Broken.{Broken}
use Rattle.plain_writes.specs.declared.effects.Effect as effects
use Rattle.plain_writes.specs.declared.inserting.Given.{Given}
use Rattle.plain_writes.specs.declared.inserting.Given.TheVariants as told
use Rattle.plain_writes.specs.declared.listing.Found as listing
use Rattle.plain_writes.specs.declared.tables.Dispute.{Dispute}
use Rattle.plain_writes.specs.declared.tables.NamedTable.{NamedTable}
use Rattle.plain_writes.specs.declared.tables.Table.{Table}
use Rattle.plain_writes.specs.declared.updating.BoundAssignment.{BoundAssignment}
use Rattle.plain_writes.specs.Violations.{Found}
use Rattle.plain_writes.specs.Writes.{Assign, Effect, Said, Nothing, Worth}

abbrev pub setting_seen : BoundAssignment → Assign
setting_seen s = record { place = s.place; column = s.column; kind = s.value.kind; meaning = meaning s.value }

-- a string as an expression with its kind
abbrev pub bound_string : List ℕ → BoundExpr
bound_string text = record { kind = kind.Text; node = node.Constant kind.Text (cell.Text text) }

abbrev pub given_seen : Given → Said
given_seen told.Standard = Nothing
given_seen (told.Text text) = Worth kind.Text (λ row. Some (cell.Text text.now))
given_seen (told.Value bound) = Worth bound.kind (meaning bound)

abbrev pub broken_seen : Broken → Violation
broken_seen b = record { kind = b.kind; constraint = b.constraint; key = b.key; row = b.row }

abbrev pub dispute_seen : Dispute → Conflict
dispute_seen d = record { key = d.key; base = d.base; ours = d.ours; theirs = d.theirs }

abbrev pub table_seen : Table → PlainTable
table_seen t = record { schema = t.schema; rows = t.rows; conflicts = map dispute_seen t.conflicts; violations = map broken_seen t.violations }

abbrev pub named_seen : NamedTable → plain.NamedTable
named_seen n = record { name = n.name; table = table_seen n.table }

abbrev pub found_seen : listing.Found → Found
found_seen f = record { table = f.table; violation = broken_seen f.violation }

abbrev pub effect_seen : effects.Effect → Effect
effect_seen e = record { database = map named_seen e.database; count = e.count }
