-- The definitions, computed.
use Rattle.std.proofs.Common.{◌≡◌, ℕ, true, false, List, [], ◌∷◌, Some, None, refl}
use Rattle.std.specs.Prelude.{Ok, Err, codes, pos}
use Rattle.tuple_codec.specs.declared.values.SqlType.{SqlType}
use Rattle.tuple_codec.specs.declared.values.SqlType.TheVariants as kind
use Rattle.tuple_codec.specs.declared.values.Value.TheVariants as cell
use Rattle.schema_model.specs.declared.schemas.Column.{Column}
use Rattle.schema_model.specs.declared.schemas.Schema.{Schema}
use Rattle.schema_merge.specs.Merging.{schema3}
use Rattle.schema_merge.specs.Names.{names_in}
use Rattle.schema_merge.specs.Parts.{moved_place}
use Rattle.schema_merge.specs.Projecting.{projected}

-- ---- the names in a CHECK

plain_name : names_in (codes "(n < 10)") ≡ codes "n" ∷ []
unfolding names_in
plain_name = refl

qualified_name : names_in (codes "((t.n + 1.50) IN (x_1, 2))") ≡ codes "n" ∷ codes "x_1" ∷ []
unfolding names_in
qualified_name = refl

not_in_strings : names_in (codes "((a <> 'b \\' c') AND (NOT (d = X'6a')))") ≡ codes "a" ∷ codes "d" ∷ []
unfolding names_in
not_in_strings = refl

-- ---- schemas

abbrev at_key : List ℕ → SqlType → Column
at_key name type = record { name = name; kind = type; not_null = true; default = None }

abbrev free : List ℕ → SqlType → Column
free name type = record { name = name; kind = type; not_null = false; default = None }

abbrev of : List Column → Schema
of columns = record { columns = columns; key = 0 ∷ []; indexes = []; checks = []; foreign = [] }

abbrev id : Column
id = at_key (codes "id") kind.BigInt

abbrev x : Column
x = free (codes "x") kind.BigInt

abbrev y : Column
y = free (codes "y") kind.Int

itself : schema3 (Some (of (id ∷ x ∷ []))) (of (id ∷ x ∷ [])) (of (id ∷ x ∷ [])) ≡ Ok (of (id ∷ x ∷ []))
unfolding schema3 moved_place
itself = refl

two_types_without_base : schema3 None (of (id ∷ [])) (of (at_key (codes "id") kind.Int ∷ [])) ≡ Err (codes "id")
unfolding schema3 moved_place
two_types_without_base = refl

each_adds_a_column : schema3 (Some (of (id ∷ []))) (of (id ∷ x ∷ [])) (of (id ∷ y ∷ [])) ≡ Ok (of (id ∷ x ∷ y ∷ []))
unfolding schema3 moved_place
each_adds_a_column = refl

ours_drops_a_column : schema3 (Some (of (id ∷ x ∷ y ∷ []))) (of (id ∷ y ∷ [])) (of (id ∷ x ∷ y ∷ [])) ≡ Ok (of (id ∷ y ∷ []))
unfolding schema3 moved_place
ours_drops_a_column = refl

both_add_it_otherwise : schema3 (Some (of (id ∷ []))) (of (id ∷ x ∷ [])) (of (id ∷ free (codes "x") kind.Int ∷ [])) ≡ Err (codes "x")
unfolding schema3 moved_place
both_add_it_otherwise = refl

theirs_widens : schema3 (Some (of (id ∷ free (codes "v") (kind.Varchar 5) ∷ []))) (of (id ∷ free (codes "v") (kind.Varchar 5) ∷ [])) (of (id ∷ free (codes "v") (kind.Varchar 9) ∷ []))
    ≡ Ok (of (id ∷ free (codes "v") (kind.Varchar 9) ∷ []))
unfolding schema3 moved_place
theirs_widens = refl

theirs_narrows : schema3 (Some (of (id ∷ free (codes "v") (kind.Varchar 9) ∷ []))) (of (id ∷ free (codes "v") (kind.Varchar 9) ∷ [])) (of (id ∷ free (codes "v") (kind.Varchar 5) ∷ []))
    ≡ Err (codes "v")
unfolding schema3 moved_place
theirs_narrows = refl

-- a dropped column stays dropped, and one that the other side changed meanwhile is in conflict
dropped_and_changed : schema3 (Some (of (id ∷ x ∷ []))) (of (id ∷ [])) (of (id ∷ free (codes "x") kind.Int ∷ [])) ≡ Err (codes "x")
unfolding schema3 moved_place
dropped_and_changed = refl

abbrev keyed : List Column → List ℕ → Schema
keyed columns key = record (of columns) { key = key }

keys_by_names : schema3 None (keyed (id ∷ x ∷ []) (0 ∷ [])) (keyed (x ∷ id ∷ []) (1 ∷ [])) ≡ Ok (keyed (id ∷ x ∷ []) (0 ∷ []))
unfolding schema3 moved_place
keys_by_names = refl

two_keys : schema3 (Some (keyed (id ∷ x ∷ []) (0 ∷ []))) (keyed (id ∷ x ∷ []) (0 ∷ [])) (keyed (id ∷ x ∷ []) (1 ∷ [])) ≡ Err (codes "primary key")
unfolding schema3 moved_place
two_keys = refl

-- ---- indexes, checks and foreign keys

abbrev with_index : List Column → List ℕ → Schema
with_index columns places = record (of columns) { indexes = record { name = codes "i"; unique = true; columns = places } ∷ [] }

-- its column stands elsewhere in the merged schema
index_moves : schema3 (Some (of (id ∷ y ∷ []))) (of (id ∷ x ∷ y ∷ [])) (with_index (id ∷ y ∷ []) (1 ∷ [])) ≡ Ok (with_index (id ∷ x ∷ y ∷ []) (2 ∷ []))
unfolding schema3 moved_place
index_moves = refl

index_of_a_dropped_column : schema3 (Some (of (id ∷ y ∷ []))) (of (id ∷ [])) (with_index (id ∷ y ∷ []) (1 ∷ [])) ≡ Err (codes "i")
unfolding schema3 moved_place
index_of_a_dropped_column = refl

index_of_a_changed_column : schema3 (Some (of (id ∷ y ∷ []))) (of (id ∷ free (codes "y") kind.BigInt ∷ [])) (with_index (id ∷ y ∷ []) (1 ∷ [])) ≡ Err (codes "i")
unfolding schema3 moved_place
index_of_a_changed_column = refl

abbrev with_check : List Column → List ℕ → Schema
with_check columns text = record (of columns) { checks = record { name = codes "c"; text = text } ∷ [] }

check_kept : schema3 (Some (of (id ∷ y ∷ []))) (of (id ∷ x ∷ y ∷ [])) (with_check (id ∷ y ∷ []) (codes "(y > 0)")) ≡ Ok (with_check (id ∷ x ∷ y ∷ []) (codes "(y > 0)"))
unfolding schema3 moved_place names_in
check_kept = refl

check_of_a_dropped_column : schema3 (Some (of (id ∷ y ∷ []))) (of (id ∷ [])) (with_check (id ∷ y ∷ []) (codes "(y > 0)")) ≡ Err (codes "c")
unfolding schema3 moved_place names_in
check_of_a_dropped_column = refl

two_checks_of_a_name : schema3 None (with_check (id ∷ y ∷ []) (codes "(y > 0)")) (with_check (id ∷ y ∷ []) (codes "(y > 1)")) ≡ Err (codes "c")
unfolding schema3 moved_place
two_checks_of_a_name = refl

abbrev with_foreign : List Column → List ℕ → List ℕ → Schema
with_foreign columns places parent = record (of columns) { foreign = record { name = codes "f"; columns = places; parent = parent; parent_columns = codes "id" ∷ [] } ∷ [] }

foreign_key_moves : schema3 (Some (of (id ∷ y ∷ []))) (of (id ∷ x ∷ y ∷ [])) (with_foreign (id ∷ y ∷ []) (1 ∷ []) (codes "p")) ≡ Ok (with_foreign (id ∷ x ∷ y ∷ []) (2 ∷ []) (codes "p"))
unfolding schema3 moved_place
foreign_key_moves = refl

two_parents : schema3 None (with_foreign (id ∷ y ∷ []) (1 ∷ []) (codes "p")) (with_foreign (id ∷ y ∷ []) (1 ∷ []) (codes "q")) ≡ Err (codes "f")
unfolding schema3 moved_place
two_parents = refl

-- a column in conflict comes before the key, and the key before the rest
columns_first : schema3 None (with_check (id ∷ []) (codes "(id > 0)")) (with_check (at_key (codes "id") kind.Int ∷ []) (codes "(id > 1)")) ≡ Err (codes "id")
unfolding schema3 moved_place
columns_first = refl

-- ---- rows

abbrev defaulted : Column
defaulted = record { name = codes "y"; kind = kind.BigInt; not_null = false; default = Some (cell.Int (pos 7)) }

row_gets_a_default : projected (of (id ∷ x ∷ [])) (of (id ∷ defaulted ∷ y ∷ x ∷ [])) (cell.Int (pos 1) ∷ cell.Int (pos 2) ∷ [])
    ≡ cell.Int (pos 1) ∷ cell.Int (pos 7) ∷ cell.Null ∷ cell.Int (pos 2) ∷ []
row_gets_a_default = refl

row_stays : projected (of (id ∷ x ∷ [])) (of (id ∷ x ∷ [])) (cell.Int (pos 1) ∷ cell.Null ∷ []) ≡ cell.Int (pos 1) ∷ cell.Null ∷ []
row_stays = refl
