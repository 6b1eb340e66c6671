-- The definitions of `tuple_codec`, computed.
use Rattle.std.proofs.Common.{◌≡◌, ℕ, [], ◌∷◌, Option, Some, None, true, false, refl}
use Rattle.std.specs.Prelude.{pos, negsuc}
use Rattle.std.specs.declared.cmp.Ordering.TheVariants.{Less, Equal, Greater}
use Rattle.tuple_codec.specs.Edits.{edited, changed, added, removed, replaced, value_at}
use Rattle.tuple_codec.specs.KeyBytes.{key_bytes}
use Rattle.tuple_codec.specs.Nodes.{Item, leaf_item}
use Rattle.tuple_codec.specs.RowBytes.{row_bytes}
use Rattle.tuple_codec.specs.RowRule.{row3}
use Rattle.tuple_codec.specs.Rows.{Cells, fits, key_of, value_cmp}
use Rattle.tuple_codec.specs.declared.edits.Edit.{Edit}
use Rattle.tuple_codec.specs.declared.values.SqlType.TheVariants as kind
use Rattle.tuple_codec.specs.declared.values.Value.TheVariants as cell

-- ---- values, keys and rows

abbrev number : ℕ → Cells
number n = cell.Int (pos n) ∷ []

least_that_fits : fits kind.Int (cell.Int (negsuc 2147483647)) ≡ true
least_that_fits = refl

greatest_that_fits : fits kind.Int (cell.Int (pos 2147483647)) ≡ true
greatest_that_fits = refl

one_too_great : fits kind.Int (cell.Int (pos 2147483648)) ≡ false
one_too_great = refl

least_of_all_fits : fits kind.BigInt (cell.Int (negsuc 9223372036854775807)) ≡ true
least_of_all_fits = refl

digits_enough : fits (kind.Decimal 3 1) (cell.Decimal (negsuc 998)) ≡ true
digits_enough = refl

digits_beyond : fits (kind.Decimal 3 1) (cell.Decimal (pos 1000)) ≡ false
digits_beyond = refl

number_of_no_bool : fits kind.Bool (cell.Int (pos 1)) ≡ false
number_of_no_bool = refl

null_of_any : fits kind.Bool cell.Null ≡ true
null_of_any = refl

null_before_numbers : value_cmp cell.Null (cell.Int (negsuc 0)) ≡ Less
null_before_numbers = refl

numbers_by_size : value_cmp (cell.Int (negsuc 0)) (cell.Int (negsuc 1)) ≡ Greater
numbers_by_size = refl

false_before_true : value_cmp (cell.Bool false) (cell.Bool true) ≡ Less
false_before_true = refl

text_as_itself : value_cmp (cell.Text (97 ∷ [])) (cell.Text (97 ∷ [])) ≡ Equal
text_as_itself = refl

key_in_its_order : key_of (1 ∷ 0 ∷ []) (cell.Bool true ∷ cell.Null ∷ []) ≡ cell.Null ∷ cell.Bool true ∷ []
key_in_its_order = refl

key_of_minus_one : key_bytes (cell.Int (negsuc 0) ∷ []) ≡ 1 ∷ 127 ∷ 255 ∷ 255 ∷ 255 ∷ 255 ∷ 255 ∷ 255 ∷ 255 ∷ []
key_of_minus_one = refl

zero_byte_escaped : key_bytes (cell.Text (97 ∷ 0 ∷ 98 ∷ []) ∷ cell.Null ∷ []) ≡ 1 ∷ 97 ∷ 0 ∷ 255 ∷ 98 ∷ 0 ∷ 0 ∷ 0 ∷ []
zero_byte_escaped = refl

row_of_minus_one : row_bytes (cell.Decimal (negsuc 0) ∷ cell.Bool false ∷ []) ≡ 1 ∷ 255 ∷ 255 ∷ 255 ∷ 255 ∷ 255 ∷ 255 ∷ 255 ∷ 255 ∷ 1 ∷ 0 ∷ []
row_of_minus_one = refl

-- ---- rows that two sides changed

abbrev row : ℕ → ℕ → Option Cells
row x y = Some (cell.Int (pos x) ∷ cell.Int (pos y) ∷ [])

each_changed_a_cell : row3 (row 1 1) (row 2 1) (row 1 2) ≡ Some (row 2 2)
unfolding row3
each_changed_a_cell = refl

both_changed_one_cell : row3 (row 1 1) (row 2 1) (row 3 1) ≡ None
unfolding row3
both_changed_one_cell = refl

both_changed_alike : row3 (row 1 1) (row 2 1) (row 2 1) ≡ Some (row 2 1)
unfolding row3
both_changed_alike = refl

both_changed_a_cell_alike : row3 (row 1 1) (row 2 1) (row 2 3) ≡ Some (row 2 3)
unfolding row3
both_changed_a_cell_alike = refl

both_removed : row3 (row 1 1) None None ≡ Some None
unfolding row3
both_removed = refl

removed_and_kept : row3 (row 1 1) None (row 1 1) ≡ Some None
unfolding row3
removed_and_kept = refl

kept_and_removed : row3 (row 1 1) (row 1 1) None ≡ Some None
unfolding row3
kept_and_removed = refl

removed_and_changed : row3 (row 1 1) None (row 1 2) ≡ None
unfolding row3
removed_and_changed = refl

both_added_alike : row3 None (row 1 1) (row 1 1) ≡ Some (row 1 1)
unfolding row3
both_added_alike = refl

both_added : row3 None (row 1 1) (row 1 2) ≡ None
unfolding row3
both_added = refl

added_by_one : row3 None None (row 1 1) ≡ Some (row 1 1)
unfolding row3
added_by_one = refl

null_is_a_value : row3 (row 1 1) (Some (cell.Null ∷ cell.Int (pos 1) ∷ [])) (row 1 2) ≡ Some (Some (cell.Null ∷ cell.Int (pos 2) ∷ []))
unfolding row3
null_is_a_value = refl

-- ---- lists of rows

abbrev item : ℕ → ℕ → Item
item key value = leaf_item (key ∷ []) (value ∷ [])

abbrev put : ℕ → ℕ → Edit
put key value = record { key = key ∷ []; value = Some (value ∷ []) }

abbrev remove : ℕ → Edit
remove key = record { key = key ∷ []; value = None }

edits_meet_rows : edited (item 1 5 ∷ item 3 5 ∷ item 4 5 ∷ []) (remove 1 ∷ put 2 6 ∷ put 3 7 ∷ remove 9 ∷ []) ≡ item 2 6 ∷ item 3 7 ∷ item 4 5 ∷ []
edits_meet_rows = refl

changes_of_rows : changed (item 1 5 ∷ item 3 5 ∷ item 4 5 ∷ []) (item 2 6 ∷ item 3 7 ∷ item 4 5 ∷ []) ≡ removed (item 1 5) ∷ added (item 2 6) ∷ replaced (item 3 5) (item 3 7) ∷ []
changes_of_rows = refl

value_there : value_at (3 ∷ []) (item 1 5 ∷ item 3 6 ∷ []) ≡ Some (6 ∷ [])
value_there = refl

value_absent : value_at (2 ∷ []) (item 1 5 ∷ item 3 6 ∷ []) ≡ None
value_absent = refl
