-- How a cell is read from the front of bytes: what it is, and the bytes after it.
use Rattle.std.specs.Prelude.{◌≡◌, ℕ, zero, suc, ◌+◌, ◌*◌, ◌^◌, ◌%◌, ◌==◌, ℤ, Bool, true, false, if◌then◌else◌, List, [], ◌∷◌, ◌++◌, length, take, drop, nat_lt, Option, None, Some, Result, Ok, Err}
use Rattle.std.specs.Option.{option_map, option_and_then}
use Rattle.std.specs.Int.{w64, from_be_bytes, cast_signed}
use Rattle.tuple_codec.specs.Rows.{Cells, fits}
use Rattle.tuple_codec.specs.declared.values.SqlType.{SqlType}
use Rattle.tuple_codec.specs.declared.values.SqlType.TheVariants as kind
use Rattle.tuple_codec.specs.declared.values.Value.{Value}
use Rattle.tuple_codec.specs.declared.values.Value.TheVariants as cell
use Rattle.tuple_codec.specs.declared.forms.Form.{Form}
use Rattle.tuple_codec.specs.declared.forms.Form.TheVariants as form
use Rattle.tuple_codec.specs.declared.unread.Unread.{Unread}
use Rattle.tuple_codec.specs.declared.unread.Unread.TheVariants as unread

-- what code found, seen by view, is what reading gives, unless memory ran out
abbrev pub Gives : {X Y : Type 0} → (X → Y) → Result X Unread → Option Y → Type 0
Gives view (Ok x) front = front ≡ Some (view x)
Gives view (Err unread.Memory) front = Unit {0}
Gives view (Err unread.Malformed) front = front ≡ None

-- the number of eight bytes, in each form
abbrev pub number_of : Form → ℕ → ℤ
number_of form.Key n = cast_signed w64 ((n + 2 ^ 63) % 2 ^ 64)
number_of form.Row n = cast_signed w64 n

abbrev pub number_front : Form → List ℕ → Option (ℤ × List ℕ)
number_front form bytes = if nat_lt (length bytes) 8 then None else Some (number_of form (from_be_bytes w64 (take 8 bytes)), drop 8 bytes)

abbrev pub bool_front : List ℕ → Option (Bool × List ℕ)
bool_front [] = None
bool_front (zero ∷ rest) = Some (false, rest)
bool_front (suc zero ∷ rest) = Some (true, rest)
bool_front (suc (suc n) ∷ rest) = None

-- a text to which bytes are put in front
abbrev pub with_front : List ℕ → Option (List ℕ × List ℕ) → Option (List ℕ × List ℕ)
with_front text = option_map (λ p. (text ++ p.0, p.1))

-- a text with its zero bytes escaped; the first argument says that a zero byte came last
abbrev pub unescaped : Bool → List ℕ → Option (List ℕ × List ℕ)
unescaped after [] = None
unescaped false (byte ∷ rest) = if byte == 0 then unescaped true rest else with_front (byte ∷ []) (unescaped false rest)
unescaped true (byte ∷ rest) = if byte == 0 then Some ([], rest) else (if byte == 255 then with_front (0 ∷ []) (unescaped false rest) else None)

-- a text after its length
abbrev pub length_prefixed_at : List ℕ → Option (List ℕ × List ℕ)
length_prefixed_at [] = None
length_prefixed_at (high ∷ []) = None
length_prefixed_at (high ∷ low ∷ rest) = if nat_lt (length rest) (high * 256 + low) then None else Some (take (high * 256 + low) rest, drop (high * 256 + low) rest)

abbrev pub text_front : Form → List ℕ → Option (List ℕ × List ℕ)
text_front form.Key bytes = unescaped false bytes
text_front form.Row bytes = length_prefixed_at bytes

abbrev pub made : {X : Type 0} → (X → Value) → Option (X × List ℕ) → Option (Value × List ℕ)
made make = option_map (λ p. (make p.0, p.1))

-- a value that isn't NULL
abbrev pub value_front : Form → SqlType → List ℕ → Option (Value × List ℕ)
value_front form kind.BigInt bytes = made (λ n. cell.Int n) (number_front form bytes)
value_front form kind.Int bytes = made (λ n. cell.Int n) (number_front form bytes)
value_front form kind.Bool bytes = made (λ b. cell.Bool b) (bool_front bytes)
value_front form (kind.Varchar most) bytes = made (λ text. cell.Text text) (text_front form bytes)
value_front form (kind.Varbinary most) bytes = made (λ text. cell.Bytes text) (text_front form bytes)
value_front form (kind.Decimal digits scale) bytes = made (λ n. cell.Decimal n) (number_front form bytes)

-- the same, if it fits its type
abbrev pub fitting : SqlType → Option (Value × List ℕ) → Option (Value × List ℕ)
fitting type = option_and_then (λ p. if fits type p.0 then Some p else None)

abbrev pub cell_front : Form → SqlType → List ℕ → Option (Value × List ℕ)
cell_front form type [] = None
cell_front form type (zero ∷ rest) = Some (cell.Null, rest)
cell_front form type (suc zero ∷ rest) = fitting type (value_front form type rest)
cell_front form type (suc (suc n) ∷ rest) = None

-- a cell for each type, and the bytes after them
abbrev pub cells_front : Form → List SqlType → List ℕ → Option (Cells × List ℕ)
cells_front form [] bytes = Some ([], bytes)
cells_front form (type ∷ types) bytes = option_and_then (λ p. option_map (λ q. (p.0 ∷ q.0, q.1)) (cells_front form types p.1)) (cell_front form type bytes)

-- cells to which others are put in front
abbrev pub after_cells : Cells → Option (Cells × List ℕ) → Option (Cells × List ℕ)
after_cells row = option_map (λ p. (row ++ p.0, p.1))

-- nothing may follow the cells
abbrev pub whole : Option (Cells × List ℕ) → Option Cells
whole = option_and_then (λ p. if length p.1 == 0 then Some p.0 else None)
