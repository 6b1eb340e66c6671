-- The definitions, computed.
use Rattle.std.proofs.Common.{◌≡◌, pos, [], ◌∷◌, None, Some, refl}
use Rattle.tuple_codec.specs.Nodes.{leaf_item}
use Rattle.tuple_codec.specs.Rows.{Cells, key_of}
use Rattle.tuple_codec.specs.declared.values.SqlType.TheVariants as kind
use Rattle.tuple_codec.specs.declared.values.Value.TheVariants as cell
use Rattle.schema_model.specs.PlainTables.{key_types, row_item, unkeyed_from}
use Rattle.schema_model.specs.PlainTables.{body_types}
use Rattle.table_root.specs.Places.{joined_from, keyed_cell}
use Rattle.table_root.specs.Samples.{id_in_the_middle, sample_row}

item_of_a_word : row_item id_in_the_middle (sample_row (cell.Text (97 ∷ [])) (pos 1))
    ≡ leaf_item (1 ∷ 128 ∷ 0 ∷ 0 ∷ 0 ∷ 0 ∷ 0 ∷ 0 ∷ 1 ∷ []) (1 ∷ 0 ∷ 1 ∷ 97 ∷ 0 ∷ [])
item_of_a_word = refl

types_of_keys : key_types id_in_the_middle ≡ kind.BigInt ∷ []
types_of_keys = refl

types_of_others : body_types id_in_the_middle ≡ kind.Varchar 5 ∷ kind.BigInt ∷ []
types_of_others = refl

-- four columns, of which the last and the second are the key
four : Cells
four = cell.Int (pos 10) ∷ cell.Int (pos 11) ∷ cell.Int (pos 12) ∷ cell.Int (pos 13) ∷ []

key_in_its_order : key_of (3 ∷ 1 ∷ []) four ≡ cell.Int (pos 13) ∷ cell.Int (pos 11) ∷ []
unfolding four
key_in_its_order = refl

others_in_order : unkeyed_from (3 ∷ 1 ∷ []) 0 four ≡ cell.Int (pos 10) ∷ cell.Int (pos 12) ∷ []
unfolding four
others_in_order = refl

in_the_key : keyed_cell (3 ∷ 1 ∷ []) (cell.Int (pos 13) ∷ cell.Int (pos 11) ∷ []) 1 ≡ Some (cell.Int (pos 11))
in_the_key = refl

not_in_the_key : keyed_cell (3 ∷ 1 ∷ []) (cell.Int (pos 13) ∷ cell.Int (pos 11) ∷ []) 2 ≡ None
not_in_the_key = refl

together_again : joined_from (3 ∷ 1 ∷ []) (cell.Int (pos 13) ∷ cell.Int (pos 11) ∷ []) 0 4 (cell.Int (pos 10) ∷ cell.Int (pos 12) ∷ []) ≡ four
unfolding four
together_again = refl
