-- Plain contents that are the same part by part are equal.
use Rattle.std.proofs.Common.{◌≡◌, refl, ◌∙◌, ap, ℕ, Bool, true, false, List, Option, None, Some}
use Rattle.std.specs.Bool.{Decides}
use Rattle.std.specs.Cmp.Lexicographic.{slice_cmp, pointwise_decides, bytes_decides}
use Rattle.std.specs.Ordering.{nat_cmp, is_eq}
use Rattle.std.proofs.lemmas.Bool.Decides.{Decides-at, Decides-and, Decides-like, Decides-eqb}
use Rattle.std.proofs.lemmas.Map.Text.{is_eq-slice_cmp}
use Rattle.tuple_codec.specs.Rows.{Cells, same_cells, same_value}
use Rattle.tuple_codec.proofs.Orders.{cells_told, values_told}
use Rattle.tuple_codec.specs.declared.values.SqlType.{SqlType}
use Rattle.tuple_codec.specs.declared.values.SqlType.TheVariants as kind
use Rattle.schema_model.specs.PlainTables.{Conflict, NamedTable, PlainDatabase, PlainTable, Violation}
use Rattle.schema_model.specs.Sameness.{SamenessIsEquality, is_same_check, is_same_column, is_same_conflict, is_same_database, is_same_foreign, is_same_index, is_same_kind, is_same_named, is_same_option, is_same_schema, is_same_table, is_same_truth, is_same_violation}
use Rattle.schema_model.specs.declared.schemas.Column.{Column}
use Rattle.schema_model.specs.declared.schemas.IndexDef.{IndexDef}
use Rattle.schema_model.specs.declared.schemas.CheckDef.{CheckDef}
use Rattle.schema_model.specs.declared.schemas.ForeignKey.{ForeignKey}
use Rattle.schema_model.specs.declared.schemas.Schema.{Schema}

-- ---- values and rows

truth_decides : (a b : Bool) → Decides (is_same_truth a b) (a ≡ b)
truth_decides true true = (λ _. refl, λ _. refl)
truth_decides false false = (λ _. refl, λ _. refl)
truth_decides true false = (λ e. cc, λ e. cc)
truth_decides false true = (λ e. cc, λ e. cc)

pub text_decides : (a b : List ℕ) → Decides (is_eq (slice_cmp nat_cmp a b)) (a ≡ b)
text_decides a b = Decides-at _ _ (is_eq-slice_cmp a b) (bytes_decides a b)

option_decides : {A : Type 0} (same : A → A → Bool) → ((a b : A) → Decides (same a b) (a ≡ b)) → (a b : Option A) → Decides (is_same_option same a b) (a ≡ b)
option_decides same decides None None = (λ _. refl, λ _. refl)
option_decides same decides None (Some b) = (λ e. cc, λ e. cc)
option_decides same decides (Some a) None = (λ e. cc, λ e. cc)
option_decides same decides (Some a) (Some b) = Decides-like _ (λ e. ap Some e) (λ e. cc) (decides a b)

-- ---- schemas

kind_decides : (a b : SqlType) → Decides (is_same_kind a b) (a ≡ b)
kind_decides kind.BigInt kind.BigInt = (λ _. refl, λ _. refl)
kind_decides kind.Int kind.Int = (λ _. refl, λ _. refl)
kind_decides kind.Bool kind.Bool = (λ _. refl, λ _. refl)
kind_decides (kind.Varchar a) (kind.Varchar b) = Decides-like _ (λ e. ap kind.Varchar e) (λ e. cc) (Decides-eqb a b)
kind_decides (kind.Varbinary a) (kind.Varbinary b) = Decides-like _ (λ e. ap kind.Varbinary e) (λ e. cc) (Decides-eqb a b)
kind_decides (kind.Decimal a c) (kind.Decimal b d) =
    Decides-like _ (λ p. ap (λ n. kind.Decimal n c) p.0 ∙ ap (λ n. kind.Decimal b n) p.1) (λ (e : kind.Decimal a c ≡ kind.Decimal b d). let first : a ≡ b = cc in let rest : c ≡ d = cc in (first, rest))
    (Decides-and _ _ (Decides-eqb a b) (Decides-eqb c d))
kind_decides a b = (λ e. cc, λ e. cc)

column_decides : (a b : Column) → Decides (is_same_column a b) (a ≡ b)
column_decides a b =
    Decides-like _
    (λ p. ap (λ x. record { name = x; kind = a.kind; not_null = a.not_null; default = a.default }) p.0.0.0
    ∙ ap (λ x. record { name = b.name; kind = x; not_null = a.not_null; default = a.default }) p.0.0.1
    ∙ ap (λ x. record { name = b.name; kind = b.kind; not_null = x; default = a.default }) p.0.1
    ∙ ap (λ x. record { name = b.name; kind = b.kind; not_null = b.not_null; default = x }) p.1)
    (λ e. (((ap (λ c. c.name) e, ap (λ c. c.kind) e), ap (λ c. c.not_null) e), ap (λ c. c.default) e))
    (Decides-and _ _ (Decides-and _ _ (Decides-and _ _ (bytes_decides a.name b.name) (kind_decides a.kind b.kind)) (truth_decides a.not_null b.not_null))
    (option_decides same_value values_told a.default b.default))

index_decides : (a b : IndexDef) → Decides (is_same_index a b) (a ≡ b)
index_decides a b =
    Decides-like _
    (λ p. ap (λ x. record { name = x; unique = a.unique; columns = a.columns }) p.0.0
    ∙ ap (λ x. record { name = b.name; unique = x; columns = a.columns }) p.0.1
    ∙ ap (λ x. record { name = b.name; unique = b.unique; columns = x }) p.1)
    (λ e. ((ap (λ c. c.name) e, ap (λ c. c.unique) e), ap (λ c. c.columns) e))
    (Decides-and _ _ (Decides-and _ _ (bytes_decides a.name b.name) (truth_decides a.unique b.unique)) (bytes_decides a.columns b.columns))

check_decides : (a b : CheckDef) → Decides (is_same_check a b) (a ≡ b)
check_decides a b =
    Decides-like _ (λ p. ap (λ x. record { name = x; text = a.text }) p.0 ∙ ap (λ x. record { name = b.name; text = x }) p.1)
    (λ e. (ap (λ c. c.name) e, ap (λ c. c.text) e))
    (Decides-and _ _ (bytes_decides a.name b.name) (bytes_decides a.text b.text))

foreign_decides : (a b : ForeignKey) → Decides (is_same_foreign a b) (a ≡ b)
foreign_decides a b =
    Decides-like _
    (λ p. ap (λ x. record { name = x; columns = a.columns; parent = a.parent; parent_columns = a.parent_columns }) p.0.0.0
    ∙ ap (λ x. record { name = b.name; columns = x; parent = a.parent; parent_columns = a.parent_columns }) p.0.0.1
    ∙ ap (λ x. record { name = b.name; columns = b.columns; parent = x; parent_columns = a.parent_columns }) p.0.1
    ∙ ap (λ x. record { name = b.name; columns = b.columns; parent = b.parent; parent_columns = x }) p.1)
    (λ e. (((ap (λ c. c.name) e, ap (λ c. c.columns) e), ap (λ c. c.parent) e), ap (λ c. c.parent_columns) e))
    (Decides-and _ _ (Decides-and _ _ (Decides-and _ _ (bytes_decides a.name b.name) (bytes_decides a.columns b.columns)) (bytes_decides a.parent b.parent))
    (pointwise_decides bytes_decides a.parent_columns b.parent_columns))

schema_decides : (a b : Schema) → Decides (is_same_schema a b) (a ≡ b)
schema_decides a b =
    Decides-like _
    (λ p. ap (λ x. record { columns = x; key = a.key; indexes = a.indexes; checks = a.checks; foreign = a.foreign }) p.0.0.0.0
    ∙ ap (λ x. record { columns = b.columns; key = x; indexes = a.indexes; checks = a.checks; foreign = a.foreign }) p.0.0.0.1
    ∙ ap (λ x. record { columns = b.columns; key = b.key; indexes = x; checks = a.checks; foreign = a.foreign }) p.0.0.1
    ∙ ap (λ x. record { columns = b.columns; key = b.key; indexes = b.indexes; checks = x; foreign = a.foreign }) p.0.1
    ∙ ap (λ x. record { columns = b.columns; key = b.key; indexes = b.indexes; checks = b.checks; foreign = x }) p.1)
    (λ e. ((((ap (λ c. c.columns) e, ap (λ c. c.key) e), ap (λ c. c.indexes) e), ap (λ c. c.checks) e), ap (λ c. c.foreign) e))
    (Decides-and _ _ (Decides-and _ _ (Decides-and _ _ (Decides-and _ _ (pointwise_decides column_decides a.columns b.columns) (bytes_decides a.key b.key))
    (pointwise_decides index_decides a.indexes b.indexes)) (pointwise_decides check_decides a.checks b.checks)) (pointwise_decides foreign_decides a.foreign b.foreign))

-- ---- tables and databases

side_decides : (a b : Option Cells) → Decides (is_same_option same_cells a b) (a ≡ b)
side_decides a b = option_decides same_cells cells_told a b

conflict_decides : (a b : Conflict) → Decides (is_same_conflict a b) (a ≡ b)
conflict_decides a b =
    Decides-like _
    (λ p. ap (λ x. record { key = x; base = a.base; ours = a.ours; theirs = a.theirs }) p.0.0.0
    ∙ ap (λ x. record { key = b.key; base = x; ours = a.ours; theirs = a.theirs }) p.0.0.1
    ∙ ap (λ x. record { key = b.key; base = b.base; ours = x; theirs = a.theirs }) p.0.1
    ∙ ap (λ x. record { key = b.key; base = b.base; ours = b.ours; theirs = x }) p.1)
    (λ e. (((ap (λ c. c.key) e, ap (λ c. c.base) e), ap (λ c. c.ours) e), ap (λ c. c.theirs) e))
    (Decides-and _ _ (Decides-and _ _ (Decides-and _ _ (cells_told a.key b.key) (side_decides a.base b.base)) (side_decides a.ours b.ours)) (side_decides a.theirs b.theirs))

violation_decides : (a b : Violation) → Decides (is_same_violation a b) (a ≡ b)
violation_decides a b =
    Decides-like _
    (λ p. ap (λ x. record { kind = x; constraint = a.constraint; key = a.key; row = a.row }) p.0.0.0
    ∙ ap (λ x. record { kind = b.kind; constraint = x; key = a.key; row = a.row }) p.0.0.1
    ∙ ap (λ x. record { kind = b.kind; constraint = b.constraint; key = x; row = a.row }) p.0.1
    ∙ ap (λ x. record { kind = b.kind; constraint = b.constraint; key = b.key; row = x }) p.1)
    (λ e. (((ap (λ c. c.kind) e, ap (λ c. c.constraint) e), ap (λ c. c.key) e), ap (λ c. c.row) e))
    (Decides-and _ _ (Decides-and _ _ (Decides-and _ _ (Decides-eqb a.kind b.kind) (bytes_decides a.constraint b.constraint)) (cells_told a.key b.key)) (cells_told a.row b.row))

table_decides : (a b : PlainTable) → Decides (is_same_table a b) (a ≡ b)
table_decides a b =
    Decides-like _
    (λ p. ap (λ x. record { schema = x; rows = a.rows; conflicts = a.conflicts; violations = a.violations }) p.0.0.0
    ∙ ap (λ x. record { schema = b.schema; rows = x; conflicts = a.conflicts; violations = a.violations }) p.0.0.1
    ∙ ap (λ x. record { schema = b.schema; rows = b.rows; conflicts = x; violations = a.violations }) p.0.1
    ∙ ap (λ x. record { schema = b.schema; rows = b.rows; conflicts = b.conflicts; violations = x }) p.1)
    (λ e. (((ap (λ c. c.schema) e, ap (λ c. c.rows) e), ap (λ c. c.conflicts) e), ap (λ c. c.violations) e))
    (Decides-and _ _ (Decides-and _ _ (Decides-and _ _ (schema_decides a.schema b.schema) (pointwise_decides cells_told a.rows b.rows)) (pointwise_decides conflict_decides a.conflicts b.conflicts))
    (pointwise_decides violation_decides a.violations b.violations))

named_decides : (a b : NamedTable) → Decides (is_same_named a b) (a ≡ b)
named_decides a b =
    Decides-like _ (λ p. ap (λ x. record { name = x; table = a.table }) p.0 ∙ ap (λ x. record { name = b.name; table = x }) p.1)
    (λ e. (ap (λ c. c.name) e, ap (λ c. c.table) e))
    (Decides-and _ _ (bytes_decides a.name b.name) (table_decides a.table b.table))

database_decides : (a b : PlainDatabase) → Decides (is_same_database a b) (a ≡ b)
unfolding is_same_database
database_decides a b = pointwise_decides named_decides a b

pub sameness_is_equality : SamenessIsEquality
sameness_is_equality = record {
  columns = column_decides;
  indexes = index_decides;
  checks = check_decides;
  foreign = foreign_decides;
  schemas = schema_decides;
  tables = table_decides;
  databases = database_decides;
}
