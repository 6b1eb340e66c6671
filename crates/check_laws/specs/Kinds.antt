-- Which values a kind has.
use Rattle.std.specs.Prelude.{◌≡◌, ℕ, Bool, true, false, ◌&&◌, ◌==◌, ◌^◌, nat_lt, unsigned_abs, List, Some, map, slice_get, slice_index_or}
use Rattle.std.specs.List.{list_all}
use Rattle.tuple_codec.specs.Limits.{is_type}
use Rattle.tuple_codec.specs.Rows.{Cells, fits_all, fits_bits}
use Rattle.tuple_codec.specs.Texts.{is_utf8}
use Rattle.tuple_codec.specs.declared.values.SqlType.{SqlType}
use Rattle.tuple_codec.specs.declared.values.Value.TheVariants as cell
use Rattle.sql_values.specs.declared.kinds.Kind.{Kind}
use Rattle.sql_values.specs.declared.kinds.Kind.TheVariants as kind
use Rattle.sql_values.specs.Kinds.{kind_of}
use Rattle.sql_values.specs.Worths.{Worth, Letters, Octets, Scaled, Truth, Unknown, Whole, worth_of}
use Rattle.expr_eval.specs.declared.scopes.ScopeColumn.{ScopeColumn}

-- NULL has each kind; whole numbers have 64 bits, decimals 18 digits and the kind's scale, texts are UTF-8
abbrev pub has_kind : Kind → Worth → Bool
has_kind kind Unknown = true
has_kind kind.Int (Whole n) = fits_bits 63 n
has_kind kind.Bool (Truth b) = true
has_kind kind.Text (Letters text) = is_utf8 text
has_kind kind.Bytes (Octets bytes) = true
has_kind (kind.Decimal scale) (Scaled n places) = scale == places && nat_lt (unsigned_abs n) (10 ^ 18)
has_kind kind worth = false

-- each cell has its column's kind; a cell that isn't there is NULL
abbrev pub HaveColumnKinds : List ScopeColumn → Cells → Type 0
HaveColumnKinds scope row =
    (place : ℕ) (column : ScopeColumn) (k : Kind) → slice_get scope place ≡ Some column → kind_of column.kind ≡ Some k → has_kind k (worth_of k (slice_index_or row place cell.Null)) ≡ true

abbrev pub types_of : List ScopeColumn → List SqlType
types_of scope = map (λ (column : ScopeColumn). column.kind) scope

-- the columns have types, and a cell that fits stands under each
abbrev pub FitsColumns : List ScopeColumn → Cells → Type 0
FitsColumns scope row = (list_all is_type (types_of scope) ≡ true) × (fits_all (types_of scope) row ≡ true)
