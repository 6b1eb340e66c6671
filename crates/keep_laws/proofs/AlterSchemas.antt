-- A schema after a change that fits it is a schema.
use Rattle.std.proofs.Common.{◌≡◌, ◌<◌, ◌≤◌, refl, sym, ap, ◌∙◌, subst, ℕ, zero, suc, ◌+◌, Bool, true, false, not, ◌&&◌, eqb, ltb, List, [], ◌∷◌, ◌++◌, map, length, set, Some, arith, bytes_eq}
use Rattle.std.specs.List.{list_all, list_any, remove, slice_get}
use Rattle.std.proofs.lemmas.Bool.{and_parts, not-true, not_from_false, or_parts}
use Rattle.std.proofs.lemmas.List.{length-append, length-map, length-set}
use Rattle.tuple_codec.proofs.Lists.{all_append}
use Rattle.schema_model.specs.Limits.{is_within_limits}
use Rattle.schema_model.specs.PlainTables.{is_keyed}
use Rattle.schema_model.specs.Schemas.{are_distinct, are_few, are_foreign, are_indexes, are_positions, is_column, is_foreign, is_index, is_name, is_not_null, is_schema}
use Rattle.schema_model.specs.declared.schemas.Column.{Column}
use Rattle.schema_model.specs.declared.schemas.ForeignKey.{ForeignKey}
use Rattle.schema_model.specs.declared.schemas.IndexDef.{IndexDef}
use Rattle.schema_model.specs.declared.schemas.Schema.{Schema}
use Rattle.schema_model.proofs.FitLemmas.{places_within as places_below}
use Rattle.plain_schemas.specs.Altered.{foreign_without, index_without, moved_up, schema_after, with_columns}
use Rattle.plain_schemas.specs.declared.changing.ColumnChange.{ColumnChange}
use Rattle.plain_schemas.specs.declared.changing.ColumnChange.TheVariants as change
use Rattle.plain_writes.proofs.RowOrderLemmas.{both_so, neither_so}
use Rattle.keep_laws.proofs.ColumnLemmas.{distinct_named}
use Rattle.keep_laws.proofs.ListLemmas.{removed_all, removed_apart, set_all}
use Rattle.keep_laws.proofs.PositionLemmas.{found_added, found_removed, found_set, positions_more, positions_moved, remove_length}
use Rattle.keep_laws.proofs.SchemaParts.{few_so, HasParts, limits_so, parts_so, schema_from}

-- ---- a column that no key, index or foreign key names, and changes that fit

pub record IsFree (schema : Schema) (place : ℕ) : Type 0 where
  pub key : is_keyed schema.key place ≡ false
  pub indexes : list_any (λ (index : IndexDef). is_keyed index.columns place) schema.indexes ≡ false
  pub foreign : list_any (λ (foreign : ForeignKey). is_keyed foreign.columns place) schema.foreign ≡ false

abbrev pub Fits : ColumnChange → Schema → Type 0
Fits (change.Add column) schema = (is_column column ≡ true) × (list_any (λ (other : Column). bytes_eq other.name column.name) schema.columns ≡ false)
Fits (change.Remove place) schema = (place < length schema.columns) × IsFree schema place
Fits (change.Redefine place kind column) schema = (is_column column ≡ true) × IsFree schema place × ((old : Column) × (slice_get schema.columns place ≡ Some old) × (old.name ≡ column.name))

-- ---- columns

added_none : (wanted : List ℕ) (columns : List Column) (column : Column) → list_any (λ (b : Column). bytes_eq wanted b.name) columns ≡ false → bytes_eq wanted column.name ≡ false
    → list_any (λ (b : Column). bytes_eq wanted b.name) (columns ++ column ∷ []) ≡ false
added_none wanted [] column h p = neither_so p refl
added_none wanted (other ∷ columns) column h p =
    let parts = or_parts (bytes_eq wanted other.name) (list_any (λ (b : Column). bytes_eq wanted b.name) columns) h in
    neither_so parts.0 (added_none wanted columns column parts.1 p)

added_apart : (columns : List Column) (column : Column) → list_any (λ (other : Column). bytes_eq other.name column.name) columns ≡ false
    → are_distinct (λ (a b : Column). bytes_eq a.name b.name) columns ≡ true → are_distinct (λ (a b : Column). bytes_eq a.name b.name) (columns ++ column ∷ []) ≡ true
added_apart [] column new h = refl
added_apart (first ∷ columns) column new h =
    let parts = and_parts (not (list_any (λ (b : Column). bytes_eq first.name b.name) columns)) (are_distinct (λ (a b : Column). bytes_eq a.name b.name) columns) h in
    let other = or_parts (bytes_eq first.name column.name) (list_any (λ (other : Column). bytes_eq other.name column.name) columns) new in
    both_so (not_from_false _ (added_none first.name columns column (not-true _ parts.0) other.0)) (added_apart columns column other.1 parts.1)

set_names : (columns : List Column) (place : ℕ) (column old : Column) → slice_get columns place ≡ Some old → old.name ≡ column.name
    → map (λ (c : Column). c.name) (set columns place column) ≡ map (λ (c : Column). c.name) columns
set_names [] place column old at same = cc
set_names (first ∷ columns) zero column old at same = let is : first ≡ old = cc in ap (λ name. name ∷ map (λ (c : Column). c.name) columns) (sym (ap (λ (c : Column). c.name) is ∙ same))
set_names (first ∷ columns) (suc place) column old at same = ap (λ names. first.name ∷ names) (set_names columns place column old at same)

set_apart : (columns : List Column) (place : ℕ) (column old : Column) → slice_get columns place ≡ Some old → old.name ≡ column.name
    → are_distinct (λ (a b : Column). bytes_eq a.name b.name) columns ≡ true → are_distinct (λ (a b : Column). bytes_eq a.name b.name) (set columns place column) ≡ true
set_apart columns place column old at same h =
    distinct_named (λ (c : Column). c.name) (set columns place column) ∙ ap (are_distinct bytes_eq) (set_names columns place column old at same) ∙ sym (distinct_named (λ (c : Column). c.name) columns) ∙ h

-- ---- indexes and foreign keys

indexes_more : (m n : ℕ) (indexes : List IndexDef) → m ≤ n → list_all (is_index m) indexes ≡ true → list_all (is_index n) indexes ≡ true
indexes_more m n [] few h = refl
indexes_more m n (index ∷ indexes) few h =
    let parts = and_parts (is_index m index) (list_all (is_index m) indexes) h in
    let first = and_parts (is_name index.name) (are_positions m index.columns) parts.0 in
    both_so (both_so first.0 (positions_more m n index.columns few first.1)) (indexes_more m n indexes few parts.1)

indexes_moved : (n gone : ℕ) (indexes : List IndexDef) → gone < suc n → list_any (λ (index : IndexDef). is_keyed index.columns gone) indexes ≡ false → list_all (is_index (suc n)) indexes ≡ true
    → list_all (is_index n) (map (index_without gone) indexes) ≡ true
indexes_moved n gone [] there free h = refl
indexes_moved n gone (index ∷ indexes) there free h =
    let parts = and_parts (is_index (suc n) index) (list_all (is_index (suc n)) indexes) h in
    let first = and_parts (is_name index.name) (are_positions (suc n) index.columns) parts.0 in
    let unnamed = or_parts (is_keyed index.columns gone) (list_any (λ (index : IndexDef). is_keyed index.columns gone) indexes) free in
    both_so (both_so first.0 (positions_moved n gone index.columns there unnamed.0 first.1)) (indexes_moved n gone indexes there unnamed.1 parts.1)

index_names : (gone : ℕ) (indexes : List IndexDef) → map (λ (index : IndexDef). index.name) (map (index_without gone) indexes) ≡ map (λ (index : IndexDef). index.name) indexes
index_names gone [] = refl
index_names gone (index ∷ indexes) = ap (λ names. index.name ∷ names) (index_names gone indexes)

abbrev same_index_name : IndexDef → IndexDef → Bool
same_index_name a b = bytes_eq a.name b.name

are_indexes_more : (m n : ℕ) (indexes : List IndexDef) → m ≤ n → are_indexes m indexes ≡ true → are_indexes n indexes ≡ true
are_indexes_more m n indexes few h =
    let front = and_parts (are_few indexes && list_all (is_index m) indexes) (are_distinct same_index_name indexes) h in
    let first = and_parts (are_few indexes) (list_all (is_index m) indexes) front.0 in
    both_so (both_so first.0 (indexes_more m n indexes few first.1)) front.1

are_indexes_moved : (n gone : ℕ) (indexes : List IndexDef) → gone < suc n → list_any (λ (index : IndexDef). is_keyed index.columns gone) indexes ≡ false → are_indexes (suc n) indexes ≡ true
    → are_indexes n (map (index_without gone) indexes) ≡ true
are_indexes_moved n gone indexes there free h =
    let front = and_parts (are_few indexes && list_all (is_index (suc n)) indexes) (are_distinct same_index_name indexes) h in
    let first = and_parts (are_few indexes) (list_all (is_index (suc n)) indexes) front.0 in
    both_so (both_so (ap (λ m. ltb m 256) (length-map indexes (index_without gone)) ∙ first.0) (indexes_moved n gone indexes there free first.1))
    (distinct_named (λ (index : IndexDef). index.name) (map (index_without gone) indexes) ∙ ap (are_distinct bytes_eq) (index_names gone indexes) ∙ sym (distinct_named (λ (index : IndexDef). index.name) indexes) ∙ front.1)

-- a foreign key with its columns at other positions
foreign_at : (m n : ℕ) (foreign : ForeignKey) (columns : List ℕ) → length columns ≡ length foreign.columns → (are_positions m foreign.columns ≡ true → are_positions n columns ≡ true)
    → is_foreign m foreign ≡ true → is_foreign n (record { name = foreign.name; columns = columns; parent = foreign.parent; parent_columns = foreign.parent_columns }) ≡ true
foreign_at m n foreign columns same places h =
    let p5 = and_parts (is_name foreign.name && are_positions m foreign.columns && is_name foreign.parent && list_all is_name foreign.parent_columns) (eqb (length foreign.columns) (length foreign.parent_columns)) h in
    let p4 = and_parts (is_name foreign.name && are_positions m foreign.columns && is_name foreign.parent) (list_all is_name foreign.parent_columns) p5.0 in
    let p3 = and_parts (is_name foreign.name && are_positions m foreign.columns) (is_name foreign.parent) p4.0 in
    let p2 = and_parts (is_name foreign.name) (are_positions m foreign.columns) p3.0 in
    both_so (both_so (both_so (both_so p2.0 (places p2.1)) p3.1) p4.1) (ap (λ k. eqb k (length foreign.parent_columns)) same ∙ p5.1)

foreign_more : (m n : ℕ) (foreign : List ForeignKey) → m ≤ n → list_all (is_foreign m) foreign ≡ true → list_all (is_foreign n) foreign ≡ true
foreign_more m n [] few h = refl
foreign_more m n (one ∷ foreign) few h =
    let parts = and_parts (is_foreign m one) (list_all (is_foreign m) foreign) h in
    both_so (foreign_at m n one one.columns refl (positions_more m n one.columns few) parts.0) (foreign_more m n foreign few parts.1)

foreign_moved : (n gone : ℕ) (foreign : List ForeignKey) → gone < suc n → list_any (λ (one : ForeignKey). is_keyed one.columns gone) foreign ≡ false → list_all (is_foreign (suc n)) foreign ≡ true
    → list_all (is_foreign n) (map (foreign_without gone) foreign) ≡ true
foreign_moved n gone [] there free h = refl
foreign_moved n gone (one ∷ foreign) there free h =
    let parts = and_parts (is_foreign (suc n) one) (list_all (is_foreign (suc n)) foreign) h in
    let unnamed = or_parts (is_keyed one.columns gone) (list_any (λ (one : ForeignKey). is_keyed one.columns gone) foreign) free in
    both_so (foreign_at (suc n) n one (map (moved_up gone) one.columns) (length-map one.columns (moved_up gone)) (positions_moved n gone one.columns there unnamed.0) parts.0)
    (foreign_moved n gone foreign there unnamed.1 parts.1)

foreign_names : (gone : ℕ) (foreign : List ForeignKey) → map (λ (one : ForeignKey). one.name) (map (foreign_without gone) foreign) ≡ map (λ (one : ForeignKey). one.name) foreign
foreign_names gone [] = refl
foreign_names gone (one ∷ foreign) = ap (λ names. one.name ∷ names) (foreign_names gone foreign)

abbrev same_foreign_name : ForeignKey → ForeignKey → Bool
same_foreign_name a b = bytes_eq a.name b.name

are_foreign_more : (m n : ℕ) (foreign : List ForeignKey) → m ≤ n → are_foreign m foreign ≡ true → are_foreign n foreign ≡ true
are_foreign_more m n foreign few h =
    let front = and_parts (are_few foreign && list_all (is_foreign m) foreign) (are_distinct same_foreign_name foreign) h in
    let first = and_parts (are_few foreign) (list_all (is_foreign m) foreign) front.0 in
    both_so (both_so first.0 (foreign_more m n foreign few first.1)) front.1

are_foreign_moved : (n gone : ℕ) (foreign : List ForeignKey) → gone < suc n → list_any (λ (one : ForeignKey). is_keyed one.columns gone) foreign ≡ false → are_foreign (suc n) foreign ≡ true
    → are_foreign n (map (foreign_without gone) foreign) ≡ true
are_foreign_moved n gone foreign there free h =
    let front = and_parts (are_few foreign && list_all (is_foreign (suc n)) foreign) (are_distinct same_foreign_name foreign) h in
    let first = and_parts (are_few foreign) (list_all (is_foreign (suc n)) foreign) front.0 in
    both_so (both_so (ap (λ m. ltb m 256) (length-map foreign (foreign_without gone)) ∙ first.0) (foreign_moved n gone foreign there free first.1))
    (distinct_named (λ (one : ForeignKey). one.name) (map (foreign_without gone) foreign) ∙ ap (are_distinct bytes_eq) (foreign_names gone foreign) ∙ sym (distinct_named (λ (one : ForeignKey). one.name) foreign) ∙ front.1)

-- ---- the whole

longer : (columns : List Column) (column : Column) → length columns ≤ length (columns ++ column ∷ [])
longer columns column = let sum : length (columns ++ column ∷ []) ≡ length columns + 1 = length-append columns (column ∷ []) in omega (arith, sum)

added_schema : (schema : Schema) (column : Column) → Fits (change.Add column) schema → is_within_limits (schema_after (change.Add column) schema) ≡ true → HasParts schema → is_schema (schema_after (change.Add column) schema) ≡ true
added_schema schema column fits within parts =
    let limits = limits_so (schema_after (change.Add column) schema) within in
    let columns = schema.columns ++ column ∷ [] in
    let more = longer schema.columns column in
    schema_from (schema_after (change.Add column) schema) (record {
      few = few_so columns limits.columns;
      columns = all_append is_column schema.columns (column ∷ []) parts.columns (both_so fits.0 refl);
      apart = added_apart schema.columns column fits.1 parts.apart;
      key = positions_more (length schema.columns) (length columns) schema.key more parts.key;
      filled = found_added is_not_null schema.columns column schema.key (places_below (length schema.columns) schema.key parts.key) parts.filled;
      indexes = are_indexes_more (length schema.columns) (length columns) schema.indexes more parts.indexes;
      checks = parts.checks;
      foreign = are_foreign_more (length schema.columns) (length columns) schema.foreign more parts.foreign;
    })

removed_schema : (schema : Schema) (gone : ℕ) → Fits (change.Remove gone) schema → is_within_limits (schema_after (change.Remove gone) schema) ≡ true → HasParts schema → is_schema (schema_after (change.Remove gone) schema) ≡ true
removed_schema schema gone fits within parts =
    let limits = limits_so (schema_after (change.Remove gone) schema) within in
    let columns = remove schema.columns gone in
    let one_less : length schema.columns ≡ suc (length columns) = sym (remove_length schema.columns gone fits.0) in
    let there : gone < suc (length columns) = subst (λ n. gone < n) one_less fits.0 in
    let free = fits.1 in
    schema_from (schema_after (change.Remove gone) schema) (record {
      few = few_so columns limits.columns;
      columns = removed_all is_column schema.columns gone parts.columns;
      apart = removed_apart (λ (a b : Column). bytes_eq a.name b.name) schema.columns gone parts.apart;
      key = positions_moved (length columns) gone schema.key there free.key (subst (λ n. are_positions n schema.key ≡ true) one_less parts.key);
      filled = found_removed is_not_null schema.columns gone schema.key free.key parts.filled;
      indexes = are_indexes_moved (length columns) gone schema.indexes there free.indexes (subst (λ n. are_indexes n schema.indexes ≡ true) one_less parts.indexes);
      checks = parts.checks;
      foreign = are_foreign_moved (length columns) gone schema.foreign there free.foreign (subst (λ n. are_foreign n schema.foreign ≡ true) one_less parts.foreign);
    })

redefined_schema : (schema : Schema) (place : ℕ) (column old : Column) → is_column column ≡ true → IsFree schema place → slice_get schema.columns place ≡ Some old → old.name ≡ column.name
    → is_within_limits (with_columns schema (set schema.columns place column)) ≡ true → HasParts schema → is_schema (with_columns schema (set schema.columns place column)) ≡ true
redefined_schema schema place column old one free at same within parts =
    let limits = limits_so (with_columns schema (set schema.columns place column)) within in
    let columns = set schema.columns place column in
    let as_many : length schema.columns ≡ length columns = sym (length-set schema.columns place column) in
    schema_from (with_columns schema columns) (record {
      few = few_so columns limits.columns;
      columns = set_all is_column schema.columns place column one parts.columns;
      apart = set_apart schema.columns place column old at same parts.apart;
      key = subst (λ n. are_positions n schema.key ≡ true) as_many parts.key;
      filled = found_set is_not_null schema.columns column place schema.key free.key parts.filled;
      indexes = subst (λ n. are_indexes n schema.indexes ≡ true) as_many parts.indexes;
      checks = parts.checks;
      foreign = subst (λ n. are_foreign n schema.foreign ≡ true) as_many parts.foreign;
    })

pub changed_schema : (schema : Schema) (done : ColumnChange) → Fits done schema → is_within_limits (schema_after done schema) ≡ true → is_schema schema ≡ true → is_schema (schema_after done schema) ≡ true
changed_schema schema (change.Add column) fits within is = added_schema schema column fits within (parts_so schema is)
changed_schema schema (change.Remove gone) fits within is = removed_schema schema gone fits within (parts_so schema is)
changed_schema schema (change.Redefine place kind column) fits within is =
    let old = fits.2 in redefined_schema schema place column old.0 fits.0 fits.1 old.1 old.2 within (parts_so schema is)
