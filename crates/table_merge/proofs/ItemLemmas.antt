-- The lists of a merged table that keeps the limits are rows of trees.
use Rattle.std.proofs.Common.{◌≡◌, ◌≤◌, ◌++◌, true, Bool, List, [], ◌∷◌, length, map, Option, Some, None, refl, length-append, arith}
use Rattle.std.specs.List.{list_all, AllByRecursion}
use Rattle.std.proofs.lemmas.Bool.{and_parts, and_from, leb-true}
use Rattle.tuple_codec.specs.KeyBytes.{key_bytes}
use Rattle.tuple_codec.specs.Nodes.{Item}
use Rattle.tuple_codec.specs.Rows.{Cells, fits_all}
use Rattle.tuple_codec.specs.Trees.{IsRow}
use Rattle.schema_model.specs.Limits.{is_conflict_within_limits, is_short_key, is_short_row, is_short_side}
use Rattle.schema_model.specs.PlainTables.{Conflict, body_bytes, conflict_item, is_conflict, is_row, key_types, primary_key, row_item, side_bytes}
use Rattle.schema_model.specs.Schemas.{is_schema}
use Rattle.schema_model.specs.declared.schemas.Schema.{Schema}
use Rattle.schema_model.proofs.FitLemmas.{key_types_fit, primary_key_fits}
use Rattle.schema_merge.specs.TableMerge.{Three, table_of}
use Rattle.table_merge.specs.Merging.{is_short_merged}
use Rattle.table_merge.specs.Steps.{AreTreeRows}
use Rattle.table_merge.proofs.MergeLemmas.{AreThree, conflicts_fit, conflicts_rise, rows_fit, rows_rise}
use Rattle.table_merge.proofs.RiseLemmas.{items_rise}

each_row : {A : Type 0} (test : A → Bool) (item : A → Item) → ((x : A) → test x ≡ true → IsRow (item x)) → (xs : List A) → list_all test xs ≡ true → AllByRecursion IsRow (map item xs)
each_row test item h [] p = tt
each_row test item h (x ∷ xs) p = let one = and_parts (test x) (list_all test xs) p in (h x one.0, each_row test item h xs one.1)

-- ---- rows

short_row : (s : Schema) (row : Cells) → is_short_merged s row ≡ true → IsRow (row_item s row)
short_row s row h =
    let one = and_parts (is_short_key (primary_key s row)) (is_short_row s row) h in
    let key = leb-true (length (key_bytes (primary_key s row))) 1024 one.0 in
    let body = leb-true (length (body_bytes s row)) 8192 one.1 in
    record { key = omega (arith, key); size = omega (arith, key, body); one = refl }

pub keys_of_rows : (s : Schema) (rows : List Cells) → is_schema s ≡ true → list_all (is_row s) rows ≡ true → list_all (λ row. fits_all (key_types s) (primary_key s row)) rows ≡ true
keys_of_rows s [] is h = refl
keys_of_rows s (row ∷ rows) is h =
    let one = and_parts (is_row s row) (list_all (is_row s) rows) h in
    and_from _ _ (primary_key_fits s row is one.0) (keys_of_rows s rows is one.1)

pub row_items_stand : (s : Schema) (three : Three) → is_schema s ≡ true → AreThree s three → list_all (is_short_merged s) (table_of s three).rows ≡ true
    → AreTreeRows (map (row_item s) (table_of s three).rows)
row_items_stand s three is are short =
    let rows = (table_of s three).rows in
    record {
      each = each_row (is_short_merged s) (row_item s) (short_row s) rows short;
      rise = items_rise (key_types s) (primary_key s) (row_item s) (key_types_fit s is) (λ row. refl) None rows tt (keys_of_rows s rows is (rows_fit s three are)) (rows_rise s three are);
    }

-- ---- conflicts

short_side : (s : Schema) (side : Option Cells) → is_short_side s side ≡ true → length (side_bytes s side) ≤ 8195
short_side s None h = omega arith
short_side s (Some row) h = let body = leb-true (length (body_bytes s row)) 8192 h in omega (arith, body)

short_conflict : (s : Schema) (conflict : Conflict) → is_conflict_within_limits s conflict ≡ true → IsRow (conflict_item s conflict)
short_conflict s conflict h =
    let a = and_parts _ (is_short_side s conflict.theirs) h in
    let b = and_parts _ (is_short_side s conflict.ours) a.0 in
    let c = and_parts (is_short_key conflict.key) (is_short_side s conflict.base) b.0 in
    let key = leb-true (length (key_bytes conflict.key)) 1024 c.0 in
    let base = short_side s conflict.base c.1 in
    let ours = short_side s conflict.ours b.1 in
    let theirs = short_side s conflict.theirs a.1 in
    let behind = length-append (side_bytes s conflict.ours) (side_bytes s conflict.theirs) in
    let all = length-append (side_bytes s conflict.base) (side_bytes s conflict.ours ++ side_bytes s conflict.theirs) in
    record { key = omega (arith, key); size = omega (arith, key, base, ours, theirs, behind, all); one = refl }

pub keys_of_conflicts : (s : Schema) (conflicts : List Conflict) → list_all (is_conflict s) conflicts ≡ true → list_all (λ (c : Conflict). fits_all (key_types s) c.key) conflicts ≡ true
keys_of_conflicts s [] h = refl
keys_of_conflicts s (c ∷ conflicts) h =
    let one = and_parts (is_conflict s c) (list_all (is_conflict s) conflicts) h in
    let a = and_parts _ _ one.0 in
    let b = and_parts _ _ a.0 in
    let d = and_parts (fits_all (key_types s) c.key) _ b.0 in
    and_from _ _ d.0 (keys_of_conflicts s conflicts one.1)

pub conflict_items_stand : (s : Schema) (three : Three) → is_schema s ≡ true → AreThree s three → list_all (is_conflict_within_limits s) (table_of s three).conflicts ≡ true
    → AreTreeRows (map (conflict_item s) (table_of s three).conflicts)
conflict_items_stand s three is are short =
    let conflicts = (table_of s three).conflicts in
    record {
      each = each_row (is_conflict_within_limits s) (conflict_item s) (short_conflict s) conflicts short;
      rise = items_rise (key_types s) (λ (c : Conflict). c.key) (conflict_item s) (key_types_fit s is) (λ c. refl) None conflicts tt (keys_of_conflicts s conflicts (conflicts_fit s three is are))
          (conflicts_rise s three are);
    }
