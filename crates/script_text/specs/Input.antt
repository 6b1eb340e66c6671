-- The script that bytes hold, or the first line that breaks a rule with the least rule broken there.
use Rattle.std.specs.Prelude.{ℕ, Bool, true, false, ◌==◌, ◌&&◌, ◌||◌, ◌+◌, ◌-◌, List, [], ◌∷◌, ◌++◌, length, take, drop, take_while, nat_le, nat_lt, not, codes, position, unwrap_or, is_none, slice_index, Option, Some, None, Result, Ok, Err, if◌then◌else◌}
use Rattle.std.specs.Str.{bytes_eq}
use Rattle.std.specs.Str.Parse.{digits_value}
use Rattle.std.specs.Option.{option_and_then, option_map, option_map_or}
use Rattle.std.specs.List.{slice_split, list_all, starts_with}
use Rattle.std.specs.Prelude.{nat_eq}
use Rattle.tuple_codec.specs.Texts.{is_utf8}
use Rattle.script_text.specs.declared.faults.BadScript.{BadScript}
use Rattle.script_text.specs.Numerals.{is_numeral}
use Rattle.script_text.specs.declared.scripts.OrderItem.{OrderItem}
use Rattle.script_text.specs.declared.scripts.Script.{Script}

-- the limits of a script
abbrev pub most_bytes : ℕ
most_bytes = 16777216

abbrev pub most_statement_bytes : ℕ
most_statement_bytes = 65536

abbrev pub most_name_bytes : ℕ
most_name_bytes = 32

abbrev pub most_sessions : ℕ
most_sessions = 64

abbrev pub most_statements : ℕ
most_statements = 20000

-- the next step, where the one before met no fault
abbrev pub and_then : {X Y : Type 0} → (X → Result Y BadScript) → Result X BadScript → Result Y BadScript
and_then next (Ok x) = next x
and_then next (Err bad) = Err bad

-- a space or a tab
abbrev pub is_blank : ℕ → Bool
is_blank byte = byte == 32 || byte == 9

-- an ASCII letter, a digit or `_`
abbrev pub is_name_byte : ℕ → Bool
is_name_byte byte = nat_le 48 byte && nat_le byte 57 || nat_le 65 byte && nat_le byte 90 || nat_le 97 byte && nat_le byte 122 || byte == 95

-- without the blanks in front, and without those behind
abbrev pub without_leading : List ℕ → List ℕ
without_leading [] = []
without_leading (byte ∷ bytes) = if is_blank byte then without_leading bytes else byte ∷ bytes

abbrev pub without_trailing : List ℕ → List ℕ
without_trailing [] = []
without_trailing (byte ∷ bytes) = if list_all is_blank (byte ∷ bytes) then [] else byte ∷ without_trailing bytes

abbrev pub trimmed : List ℕ → List ℕ
trimmed bytes = without_trailing (without_leading bytes)

-- whether the last byte is this one, and what stands before it
abbrev pub ends_with : ℕ → List ℕ → Bool
ends_with byte bytes = nat_lt 0 (length bytes) && slice_index bytes (length bytes - 1) == byte

abbrev pub without_last : List ℕ → List ℕ
without_last bytes = take (length bytes - 1) bytes

-- a line before its line feed, less one carriage return behind it
abbrev pub without_return : List ℕ → List ℕ
without_return line = if ends_with 13 line then without_last line else line

-- the lines: each piece before a line feed; and what follows the last one, where there is any
abbrev pub lines_from : List (List ℕ) → List (List ℕ)
lines_from [] = []
lines_from ([] ∷ []) = []
lines_from ((byte ∷ bytes) ∷ []) = (byte ∷ bytes) ∷ []
lines_from (piece ∷ next ∷ pieces) = without_return piece ∷ lines_from (next ∷ pieces)

abbrev pub lines_of : List ℕ → List (List ℕ)
lines_of bytes = lines_from (slice_split (λ byte. byte == 10) bytes)

-- a line that says nothing: blanks alone, or a comment
abbrev pub is_skipped : List ℕ → Bool
is_skipped line = list_all is_blank line || starts_with nat_eq line (codes "#") || starts_with nat_eq line (codes "--")

-- what a line `@name statement;` says
pub record SpokenLine : Type 0 where
  pub name : List ℕ
  pub statement : List ℕ

abbrev pub if_any : List ℕ → Option (List ℕ)
if_any [] = None
if_any (byte ∷ bytes) = Some (byte ∷ bytes)

-- what stands before the semicolon that ends these bytes, blanks behind it aside, if there is any of it
abbrev pub statement_in : List ℕ → Option (List ℕ)
statement_in bytes = let body = without_trailing bytes in if ends_with 59 body then if_any (trimmed (without_last body)) else None

abbrev pub is_name : List ℕ → Bool
is_name name = nat_lt 0 (length name) && nat_le (length name) most_name_bytes

-- a name, one or more spaces, and a statement with its semicolon
abbrev pub parts_after : List ℕ → List ℕ → Option SpokenLine
parts_after name rest = if is_name name && starts_with nat_eq rest (codes " ") then option_map (λ statement. record { name = name; statement = statement }) (statement_in rest) else None

abbrev pub parts_of : List ℕ → Option SpokenLine
parts_of [] = None
parts_of (byte ∷ bytes) = let name = take_while is_name_byte bytes in if byte == 64 then parts_after name (drop (length name) bytes) else None

-- the place of a session's name, and the place that a new one gets
abbrev pub place_of : List (List ℕ) → List ℕ → Option ℕ
place_of names name = position (λ other. bytes_eq other name) names

abbrev pub with_name : List (List ℕ) → List ℕ → List (List ℕ)
with_name names name = if is_none (place_of names name) then names ++ name ∷ [] else names

abbrev pub with_statement : Script → SpokenLine → Script
with_statement read parts = record {
  names = with_name read.names parts.name;
  lines = read.lines ++ (record { session = unwrap_or (place_of read.names parts.name) (length read.names); statement = parts.statement }) ∷ [];
  order = read.order;
}

abbrev pub bad : {X : Type 0} → ℕ → ℕ → Result X BadScript
bad line rule = Err (record { line = line; rule = rule })

-- whether one more name passes the limit on sessions
abbrev pub is_one_too_many : List (List ℕ) → List ℕ → Bool
is_one_too_many names name = is_none (place_of names name) && nat_le most_sessions (length names)

abbrev pub add_statement : ℕ → Script → SpokenLine → Result Script BadScript
add_statement number read parts =
    if nat_lt most_statement_bytes (length parts.statement) then bad number 4 else (
    if is_one_too_many read.names parts.name then bad number 5 else (
    if nat_le most_statements (length read.lines) then bad number 6 else
    Ok (with_statement read parts)))

-- the least rule that the line breaks, or what the script says with it
abbrev pub add_line : ℕ → Script → List ℕ → Result Script BadScript
add_line number read line =
    if not (is_utf8 line) then bad number 2 else (
    if is_skipped line then Ok read else
    option_map_or (add_statement number read) (parts_of line) (bad number 3))

abbrev pub script_from : ℕ → Script → List (List ℕ) → Result Script BadScript
script_from number read [] = Ok read
script_from number read (line ∷ lines) = and_then (λ more. script_from (number + 1) more lines) (add_line number read line)

abbrev pub no_script : Script
no_script = record { names = []; lines = []; order = None }

-- ---- a given order

-- the number of an item's statement: one to five digits
abbrev pub statement_number : List ℕ → Option ℕ
statement_number digits = if is_numeral digits && nat_le (length digits) 5 then Some (digits_value 10 digits) else None

-- a name, `/` and a number
abbrev pub item_after : List ℕ → List ℕ → Option OrderItem
item_after name rest =
    if is_name name && starts_with nat_eq rest (codes "/") then option_map (λ number. record { name = name; statement = number }) (statement_number (drop 1 rest)) else None

abbrev pub item_in : List ℕ → Option OrderItem
item_in piece = let name = take_while is_name_byte piece in item_after name (drop (length name) piece)

abbrev pub items_in : List (List ℕ) → Option (List OrderItem)
items_in [] = Some []
items_in (piece ∷ pieces) = option_and_then (λ item. option_map (λ items. item ∷ items) (items_in pieces)) (item_in piece)

-- the word, and an item behind each space
abbrev pub items_behind : List (List ℕ) → Option (List OrderItem)
items_behind [] = None
items_behind (word ∷ pieces) = if bytes_eq word (codes "order") then items_in pieces else None

-- the items of an order line, if the line is one
abbrev pub items_of : List ℕ → Option (List OrderItem)
items_of line = items_behind (slice_split (λ byte. byte == 32) line)

-- no statement yet, and an order
abbrev pub ordered_by : List OrderItem → Script
ordered_by items = record no_script { order = Some items }

-- the first line that isn't skipped is an order line, and the statements follow
abbrev pub ordered_from : ℕ → List (List ℕ) → Result Script BadScript
ordered_from number [] = bad number 7
ordered_from number (line ∷ lines) =
    if not (is_utf8 line) then bad number 2 else (
    if is_skipped line then ordered_from (number + 1) lines else
    option_map_or (λ items. script_from (number + 1) (ordered_by items) lines) (items_of line) (bad number 7))

-- ---- the script of an input, with an order or without one
abbrev pub script_in : Bool → List (List ℕ) → Result Script BadScript
script_in true lines = ordered_from 1 lines
script_in false lines = script_from 1 no_script lines

abbrev pub script : List ℕ → Bool → Result Script BadScript
script bytes with_order = if nat_lt most_bytes (length bytes) then bad 0 1 else script_in with_order (lines_of bytes)
