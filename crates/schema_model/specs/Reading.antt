-- Reading from left to right: what stands at the front of bytes, with the bytes after it.
use Rattle.std.specs.Prelude.{ℕ, zero, suc, ◌+◌, ◌*◌, ◌==◌, Bool, true, false, ◌&&◌, if◌then◌else◌, List, [], ◌∷◌, ◌++◌, length, Option, None, Some}
use Rattle.std.specs.Option.{option_map, option_and_then}
use Rattle.tuple_codec.specs.Rows.{Cells}
use Rattle.tuple_codec.specs.Limits.{is_type}
use Rattle.tuple_codec.specs.Fields.{bytes_at, short_at}
use Rattle.tuple_codec.specs.Fronts.{cells_front, length_prefixed_at, whole}
use Rattle.tuple_codec.specs.declared.addresses.Address.{Address}
use Rattle.tuple_codec.specs.declared.forms.Form.TheVariants as form
use Rattle.tuple_codec.specs.declared.values.SqlType.{SqlType}
use Rattle.tuple_codec.specs.declared.values.SqlType.TheVariants as kind
use Rattle.tuple_codec.specs.declared.values.Value.{Value}
use Rattle.schema_model.specs.Schemas.{is_schema}
use Rattle.schema_model.specs.declared.schemas.Column.{Column}
use Rattle.schema_model.specs.declared.schemas.IndexDef.{IndexDef}
use Rattle.schema_model.specs.declared.schemas.CheckDef.{CheckDef}
use Rattle.schema_model.specs.declared.schemas.ForeignKey.{ForeignKey}
use Rattle.schema_model.specs.declared.schemas.Schema.{Schema}

infixl 10 ◌>>=◌
abbrev pub ◌>>=◌ : {A B : Type 0} → Option A → (A → Option B) → Option B
(Some x) >>= f = f x
None >>= f = None

abbrev pub as_address : List ℕ × List ℕ → Address × List ℕ
as_address x = (record { 0 = x.0 }, x.1)

-- an address
abbrev pub address_at : List ℕ → Option (Address × List ℕ)
address_at bytes = option_map as_address (bytes_at 20 bytes)

-- a number in two bytes
abbrev pub two_at : List ℕ → Option (ℕ × List ℕ)
two_at (high ∷ low ∷ rest) = Some (high * 256 + low, rest)
two_at bytes = None

abbrev pub bool_of : ℕ → Option Bool
bool_of byte = if byte == 0 then Some false else (if byte == 1 then Some true else None)

-- whether not null, and whether with a default
abbrev pub flags_of : ℕ → Option (Bool × Bool)
flags_of byte =
    if byte == 0 then Some (false, false)
    else (if byte == 1 then Some (true, false)
    else (if byte == 2 then Some (false, true)
    else (if byte == 3 then Some (true, true) else None)))

-- one byte that means something
abbrev pub byte_at : {A : Type 0} → (ℕ → Option A) → List ℕ → Option (A × List ℕ)
byte_at meaning [] = None
byte_at meaning (byte ∷ rest) = option_map (λ x. (x, rest)) (meaning byte)

abbrev pub most_at : (ℕ → SqlType) → List ℕ → Option (SqlType × List ℕ)
most_at make bytes = option_map (λ x. (make x.0, x.1)) (two_at bytes)

abbrev pub decimal_at : List ℕ → Option (SqlType × List ℕ)
decimal_at (digits ∷ scale ∷ rest) = Some (kind.Decimal digits scale, rest)
decimal_at bytes = None

-- the type of a code, whose numbers come after it
abbrev pub coded_at : ℕ → List ℕ → Option (SqlType × List ℕ)
coded_at code rest =
    if code == 1 then Some (kind.BigInt, rest)
    else (if code == 2 then Some (kind.Int, rest)
    else (if code == 3 then Some (kind.Bool, rest)
    else (if code == 4 then most_at (λ most. kind.Varchar most) rest
    else (if code == 5 then most_at (λ most. kind.Varbinary most) rest
    else (if code == 6 then decimal_at rest else None)))))

-- the same, if a column may have it
abbrev pub allowed : SqlType × List ℕ → Option (SqlType × List ℕ)
allowed x = if is_type x.0 then Some x else None

abbrev pub type_at : List ℕ → Option (SqlType × List ℕ)
type_at [] = None
type_at (code ∷ rest) = coded_at code rest >>= allowed

-- how many bytes the cell has that begins with these, by its flag and its type
abbrev pub text_size : List ℕ → Option ℕ
text_size bytes = option_map (λ x. 3 + x.0) (two_at bytes)

abbrev pub payload_size : SqlType → List ℕ → Option ℕ
payload_size kind.BigInt bytes = Some 9
payload_size kind.Int bytes = Some 9
payload_size kind.Bool bytes = Some 2
payload_size (kind.Varchar most) bytes = text_size bytes
payload_size (kind.Varbinary most) bytes = text_size bytes
payload_size (kind.Decimal digits scale) bytes = Some 9

abbrev pub cell_size : SqlType → List ℕ → Option ℕ
cell_size type [] = None
cell_size type (flag ∷ rest) = if flag == 0 then Some 1 else payload_size type rest

abbrev pub only : Cells → Option Value
only (value ∷ []) = Some value
only row = None

-- the value that has these bytes as a row's only cell
unfoldable pub value_of : SqlType → List ℕ → Option Value
value_of type cell = option_and_then only (whole (cells_front form.Row (type ∷ []) cell))

unfoldable pub value_at : SqlType → List ℕ → Option (Value × List ℕ)
value_at type bytes = do
  size ← cell_size type bytes
  cell ← bytes_at size bytes
  value ← value_of type cell.0
  Some (value, cell.1)

abbrev pub default_at : Bool → SqlType → List ℕ → Option (Option Value × List ℕ)
default_at false type bytes = Some (None, bytes)
default_at true type bytes = option_map (λ x. (Some x.0, x.1)) (value_at type bytes)

unfoldable pub column_at : List ℕ → Option (Column × List ℕ)
column_at bytes = do
  name ← short_at bytes
  type ← type_at name.1
  flags ← byte_at flags_of type.1
  default ← default_at flags.0.1 type.0 flags.1
  Some (record { name = name.0; kind = type.0; not_null = flags.0.0; default = default.0 }, default.1)

unfoldable pub index_at : List ℕ → Option (IndexDef × List ℕ)
index_at bytes = do
  name ← short_at bytes
  unique ← byte_at bool_of name.1
  columns ← short_at unique.1
  Some (record { name = name.0; unique = unique.0; columns = columns.0 }, columns.1)

unfoldable pub check_at : List ℕ → Option (CheckDef × List ℕ)
check_at bytes = do
  name ← short_at bytes
  text ← length_prefixed_at name.1
  Some (record { name = name.0; text = text.0 }, text.1)

-- so many items, one after another
unfoldable pub items_at : {A : Type 0} → (List ℕ → Option (A × List ℕ)) → ℕ → List ℕ → Option (List A × List ℕ)
items_at front zero bytes = Some ([], bytes)
items_at front (suc count) bytes = front bytes >>= λ x. option_map (λ xs. (x.0 ∷ xs.0, xs.1)) (items_at front count x.1)

-- items to which others are put in front
abbrev pub after_items : {A : Type 0} → List A → Option (List A × List ℕ) → Option (List A × List ℕ)
after_items items = option_map (λ x. (items ++ x.0, x.1))

-- a count in one byte, and that many items
abbrev pub list_at : {A : Type 0} → (List ℕ → Option (A × List ℕ)) → List ℕ → Option (List A × List ℕ)
list_at front [] = None
list_at front (count ∷ rest) = items_at front count rest

unfoldable pub foreign_at : List ℕ → Option (ForeignKey × List ℕ)
foreign_at bytes = do
  name ← short_at bytes
  columns ← short_at name.1
  parent ← short_at columns.1
  others ← items_at short_at (length columns.0) parent.1
  Some (record { name = name.0; columns = columns.0; parent = parent.0; parent_columns = others.0 }, others.1)

unfoldable pub schema_at : List ℕ → Option (Schema × List ℕ)
schema_at bytes = do
  columns ← list_at column_at bytes
  key ← short_at columns.1
  indexes ← list_at index_at key.1
  checks ← list_at check_at indexes.1
  foreign ← list_at foreign_at checks.1
  Some (record { columns = columns.0; key = key.0; indexes = indexes.0; checks = checks.0; foreign = foreign.0 }, foreign.1)

-- nothing may follow, and the rules are kept
abbrev pub if_schema : Schema × List ℕ → Option Schema
if_schema x = if length x.1 == 0 && is_schema x.0 then Some x.0 else None

abbrev pub schema_of : List ℕ → Option Schema
schema_of bytes = schema_at bytes >>= if_schema
