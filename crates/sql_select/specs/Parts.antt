-- What is looked for in a test: parts that have a value on each row, and among them some that tell where the columns of the primary key lie.
use Rattle.std.specs.Prelude.{◌≡◌, ◌⊎◌, ⊤, ℕ, Bool, true, false, List, [], ◌∷◌, Some, slice_get}
use Rattle.std.specs.List.{All, AllZip, Contains}
use Rattle.sql_ast.specs.declared.expressions.Comparison.{Comparison}
use Rattle.sql_ast.specs.declared.expressions.Comparison.TheVariants as op
use Rattle.tuple_codec.specs.Rows.{Cells, cell_at, fits, value_cmp}
use Rattle.tuple_codec.specs.declared.values.SqlType.{SqlType}
use Rattle.tuple_codec.specs.declared.values.Value.{Value}
use Rattle.tuple_codec.specs.declared.values.Value.TheVariants as cell
use Rattle.schema_model.specs.declared.schemas.Column.{Column}
use Rattle.schema_model.specs.declared.schemas.IndexDef.{IndexDef}
use Rattle.schema_model.specs.declared.schemas.Schema.{Schema}
use Rattle.sql_values.specs.Worths.{Worth, worth_of}
use Rattle.sql_values.specs.declared.kinds.Kind.{Kind}
use Rattle.expr_eval.specs.Valuing.{holds, worth}
use Rattle.expr_eval.specs.declared.bound.BoundNode.{BoundNode}
use Rattle.expr_eval.specs.declared.bound.BoundNode.TheVariants as node
use Rattle.plain_sql.specs.Passing.{IsCalm, is_so}
use Rattle.sql_select.specs.declared.entries.Entries.{Entries}
use Rattle.sql_select.specs.declared.spans.End.{End}
use Rattle.sql_select.specs.declared.spans.End.TheVariants as end
use Rattle.sql_select.specs.declared.spans.KeySpan.{KeySpan}

-- in a column that both fit, it compares with a cell as the two values do; decimals of a literal may have another scale
abbrev pub is_exact : Value → Bool
is_exact cell.Null = false
is_exact (cell.Decimal n) = false
is_exact value = true

abbrev pub IsColumn : ℕ → BoundNode → Type 0
IsColumn place part = (kind : Kind) × (part ≡ node.Column kind place)

-- it is worth the same on each row: a literal is, and one behind a minus
abbrev pub IsLiteral : SqlType → Value → BoundNode → Type 0
IsLiteral type value part = (kind : Kind) × ((row : Cells) → worth row part ≡ Some (worth_of kind value)) × (fits type value ≡ true) × (is_exact value ≡ true)

-- the comparison with its sides changed
abbrev pub turned : Comparison → Comparison
turned op.Equal = op.Equal
turned op.NotEqual = op.NotEqual
turned op.Less = op.Greater
turned op.AtMost = op.AtLeast
turned op.Greater = op.Less
turned op.AtLeast = op.AtMost

-- the value is the type's, and the part isn't true on a row whose cell at the place doesn't compare so with the value
abbrev pub Tells : SqlType → ℕ → Comparison → Value → BoundNode → Type 0
Tells type place comparison value part =
    (fits type value ≡ true)
    × ((row : Cells) (w : Worth) → fits type (cell_at row place) ≡ true → holds comparison (value_cmp (cell_at row place) value) ≡ false → worth row part ≡ Some w → is_so w ≡ false)

-- one of these parts tells it
abbrev pub IsSaid : SqlType → ℕ → Comparison → Value → BoundNode → List BoundNode → Type 0
IsSaid type place comparison value first rest = Tells type place comparison value first ⊎ ((part : BoundNode) × Contains rest part × Tells type place comparison value part)

-- of the schema's column at the place
abbrev pub IsFixed : Schema → BoundNode → List BoundNode → Comparison → ℕ → Value → Type 0
IsFixed schema first rest comparison place value = (column : Column) × (slice_get schema.columns place ≡ Some column) × IsSaid column.kind place comparison value first rest

abbrev pub IsLow : Schema → BoundNode → List BoundNode → ℕ → End → Type 0
IsLow schema first rest place end.Open = ⊤
IsLow schema first rest place (end.With value) = IsFixed schema first rest op.AtLeast place value
IsLow schema first rest place (end.Without value) = IsFixed schema first rest op.Greater place value

abbrev pub IsHigh : Schema → BoundNode → List BoundNode → ℕ → End → Type 0
IsHigh schema first rest place end.Open = ⊤
IsHigh schema first rest place (end.With value) = IsFixed schema first rest op.AtMost place value
IsHigh schema first rest place (end.Without value) = IsFixed schema first rest op.Less place value

-- the parts fix the columns at the first of these places, and bound that at the next
abbrev pub AreTold : Schema → BoundNode → List BoundNode → List ℕ → Cells → End → End → Type 0
AreTold schema first rest [] [] low high = (low ≡ end.Open) × (high ≡ end.Open)
AreTold schema first rest [] (value ∷ fixed) low high = ⊥
AreTold schema first rest (place ∷ places) [] low high = IsLow schema first rest place low × IsHigh schema first rest place high
AreTold schema first rest (place ∷ places) (value ∷ fixed) low high = IsFixed schema first rest op.Equal place value × AreTold schema first rest places fixed low high

-- the parts are calm, and tell the span
pub record IsSpanIn (schema : Schema) (first : BoundNode) (rest : List BoundNode) (span : KeySpan) : Type 0 where
  pub first_calm : IsCalm first
  pub rest_calm : All IsCalm rest
  pub told : AreTold schema first rest schema.key span.fixed span.low span.high

-- the parts are calm, and fix the columns of the index at a place
pub record AreEntriesIn (schema : Schema) (first : BoundNode) (rest : List BoundNode) (entries : Entries) : Type 0 where
  pub first_calm : IsCalm first
  pub rest_calm : All IsCalm rest
  pub index : IndexDef
  pub there : slice_get schema.indexes entries.place ≡ Some index
  pub fixed : AllZip (IsFixed schema first rest op.Equal) index.columns entries.cells
