-- Schemas as bytes.
use Rattle.std.specs.Prelude.{ℕ, ◌+◌, ◌*◌, ◌/◌, ◌%◌, Bool, is_some, List, [], ◌∷◌, ◌++◌, length, Option, None, Some}
use Rattle.std.specs.List.{flat_map}
use Rattle.tuple_codec.specs.Fields.{short}
use Rattle.tuple_codec.specs.KeyBytes.{bit}
use Rattle.tuple_codec.specs.RowBytes.{length_prefixed, row_cell}
use Rattle.tuple_codec.specs.declared.values.SqlType.{SqlType}
use Rattle.tuple_codec.specs.declared.values.SqlType.TheVariants as kind
use Rattle.tuple_codec.specs.declared.values.Value.{Value}
use Rattle.schema_model.specs.declared.schemas.Column.{Column}
use Rattle.schema_model.specs.declared.schemas.IndexDef.{IndexDef}
use Rattle.schema_model.specs.declared.schemas.CheckDef.{CheckDef}
use Rattle.schema_model.specs.declared.schemas.ForeignKey.{ForeignKey}
use Rattle.schema_model.specs.declared.schemas.Schema.{Schema}

-- a count in one byte, and the items one after another
abbrev pub listed : {A : Type 0} → (A → List ℕ) → List A → List ℕ
listed bytes items = length items ∷ flat_map bytes items

-- two bytes, the higher one first
abbrev pub two_bytes : ℕ → List ℕ
two_bytes n = n / 256 ∷ n % 256 ∷ []

abbrev pub type_bytes : SqlType → List ℕ
type_bytes kind.BigInt = 1 ∷ []
type_bytes kind.Int = 2 ∷ []
type_bytes kind.Bool = 3 ∷ []
type_bytes (kind.Varchar most) = 4 ∷ two_bytes most
type_bytes (kind.Varbinary most) = 5 ∷ two_bytes most
type_bytes (kind.Decimal digits scale) = 6 ∷ digits ∷ scale ∷ []

-- 1 for not null, and 2 for a default
abbrev pub flags : Bool → Bool → ℕ
flags not_null has_default = bit not_null + 2 * bit has_default

-- a default, where there is one, as a cell of a row
abbrev pub default_bytes : Option Value → List ℕ
default_bytes None = []
default_bytes (Some value) = row_cell value

abbrev pub column_bytes : Column → List ℕ
column_bytes column = short column.name ++ (type_bytes column.kind ++ flags column.not_null (is_some column.default) ∷ default_bytes column.default)

abbrev pub index_bytes : IndexDef → List ℕ
index_bytes index = short index.name ++ bit index.unique ∷ short index.columns

abbrev pub check_bytes : CheckDef → List ℕ
check_bytes check = short check.name ++ length_prefixed check.text

-- the parent's columns are as many as the columns, so their number isn't told again
abbrev pub foreign_bytes : ForeignKey → List ℕ
foreign_bytes foreign = short foreign.name ++ (short foreign.columns ++ (short foreign.parent ++ flat_map short foreign.parent_columns))

abbrev pub schema_bytes : Schema → List ℕ
schema_bytes schema =
    listed column_bytes schema.columns ++ (short schema.key ++ (listed index_bytes schema.indexes ++ (listed check_bytes schema.checks ++ listed foreign_bytes schema.foreign)))
