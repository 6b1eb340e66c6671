-- Without a unique index, a CHECK and a foreign key nothing is refused: what is left is NULL in NOT NULL columns.
use Rattle.std.proofs.Common.{◌≡◌, refl, sym, ap, ◌∙◌, ℕ, ◌==◌, Bool, true, false, cond, not, ◌||◌, true≢false, List, [], ◌∷◌, ◌++◌, map, filter, length, Some, None}
use Rattle.std.specs.List.{enumerate_from, flat_map, list_all, list_any}
use Rattle.std.proofs.Math.Dec.{eqb-suc-zero}
use Rattle.std.proofs.lemmas.Bool.{eqb-true}
use Rattle.std.proofs.lemmas.List.Folds.{list_all-append, list_all-map}
use Rattle.tuple_codec.specs.Rows.{Cells}
use Rattle.schema_model.specs.declared.schemas.Column.{Column}
use Rattle.schema_model.specs.declared.schemas.IndexDef.{IndexDef}
use Rattle.schema_model.specs.declared.schemas.Schema.{Schema}
use Rattle.schema_model.specs.Schemas.{is_empty}
use Rattle.schema_model.specs.PlainTables.{NamedTable, PlainDatabase, Violation, violation_cmp}
use Rattle.plain_writes.specs.Violations.{Checks, Found, breaks_not_null, broken, breaks_unique, first_of, first_violation, found_in, had_row, number_of, numbers_of, of_check, of_column, of_foreign, of_index, same_violation, violation, violations, violations_in}
use Rattle.plain_writes.proofs.RowOrderLemmas.{both_so, in_order_all, left_not, left_so, right_not, right_so}
use Rattle.violation_lists.specs.Scanning.{has_constraints, is_constrained}

abbrev is_null : Violation → Bool
is_null found = found.kind == 4

abbrev is_found_null : Found → Bool
is_found_null found = found.violation.kind == 4

pub all_flat : {A B : Type 0} (p : B → Bool) (f : A → List B) → ((x : A) → list_all p (f x) ≡ true) → (xs : List A) → list_all p (flat_map f xs) ≡ true
all_flat p f all [] = refl
all_flat p f all (x ∷ xs) = list_all-append p (f x) (flat_map f xs) ∙ both_so (all x) (all_flat p f all xs)

-- ---- a table's violations

none_there : {A : Type 0} (xs : List A) → not (is_empty xs) ≡ false → xs ≡ []
none_there [] e = refl
none_there (x ∷ xs) e = absurd (true≢false (ap not (sym (eqb-suc-zero (length xs))) ∙ e))

none_unique : (schema : Schema) (rows : List Cells) (indexes : List IndexDef) → list_any (λ index. index.unique) indexes ≡ false → flat_map (of_index schema rows) indexes ≡ []
none_unique schema rows [] e = refl
none_unique schema rows (index ∷ indexes) e =
    ap (λ b. cond b (broken schema rows 2 index.name (breaks_unique schema rows index.columns)) [] ++ flat_map (of_index schema rows) indexes) (left_not index.unique (list_any (λ (one : IndexDef). one.unique) indexes) e)
    ∙ none_unique schema rows indexes (right_not index.unique (list_any (λ (one : IndexDef). one.unique) indexes) e)

rows_null : (schema : Schema) (name : List ℕ) (rows : List Cells) → list_all is_null (map (violation schema 4 name) rows) ≡ true
rows_null schema name [] = refl
rows_null schema name (row ∷ rows) = rows_null schema name rows

column_null : (schema : Schema) (rows : List Cells) (x : ℕ × Column) → list_all is_null (of_column schema rows x) ≡ true
column_null schema rows x = elim x.1.not_null as (λ b. list_all is_null (cond b (broken schema rows 4 x.1.name (breaks_not_null x.0)) []) ≡ true) [
  | true ↦ rows_null schema x.1.name (filter (breaks_not_null x.0) rows)
  | false ↦ refl
]

module _ (checks : Checks) (database : PlainDatabase) where
  -- what stands before the columns' violations is nothing
  abbrev unordered : List ℕ → Schema → List Cells → List Violation
  unordered name schema rows =
      flat_map (of_foreign database schema rows) schema.foreign
      ++ flat_map (of_index schema rows) schema.indexes
      ++ flat_map (of_check checks name schema rows) schema.checks
      ++ flat_map (of_column schema rows) (enumerate_from 0 schema.columns)

  pub columns_left : (name : List ℕ) (schema : Schema) (rows : List Cells) → is_constrained schema ≡ false
      → unordered name schema rows ≡ flat_map (of_column schema rows) (enumerate_from 0 schema.columns)
  columns_left name schema rows free =
      let unique = left_not (list_any (λ (index : IndexDef). index.unique) schema.indexes) (not (is_empty schema.checks) || not (is_empty schema.foreign)) free in
      let others = right_not (list_any (λ (index : IndexDef). index.unique) schema.indexes) (not (is_empty schema.checks) || not (is_empty schema.foreign)) free in
      let checked = none_there schema.checks (left_not (not (is_empty schema.checks)) (not (is_empty schema.foreign)) others) in
      let foreign = none_there schema.foreign (right_not (not (is_empty schema.checks)) (not (is_empty schema.foreign)) others) in
      let indexed = none_unique schema rows schema.indexes unique in
      λ i. flat_map (of_foreign database schema rows) (foreign i) ++ indexed i ++ flat_map (of_check checks name schema rows) (checked i) ++ flat_map (of_column schema rows) (enumerate_from 0 schema.columns)

  table_null : (name : List ℕ) (schema : Schema) (rows : List Cells) → is_constrained schema ≡ false → list_all is_null (violations_in checks database name schema rows) ≡ true
  table_null name schema rows free =
      in_order_all violation_cmp is_null (unordered name schema rows)
      (ap (list_all is_null) (columns_left name schema rows free) ∙ all_flat is_null (of_column schema rows) (column_null schema rows) (enumerate_from 0 schema.columns))

  named_null : (named : NamedTable) → is_constrained named.table.schema ≡ false → list_all is_found_null (found_in checks database named) ≡ true
  named_null named free =
      list_all-map is_found_null (λ (one : Violation). record { table = named.name; violation = one }) (violations_in checks database named.name named.table.schema named.table.rows)
      ∙ table_null named.name named.table.schema named.table.rows free

  tables_null : (tables : List NamedTable) → has_constraints tables ≡ false → list_all is_found_null (flat_map (found_in checks database) tables) ≡ true
  tables_null [] free = refl
  tables_null (named ∷ tables) free =
      list_all-append is_found_null (found_in checks database named) (flat_map (found_in checks database) tables)
      ∙ both_so (named_null named (left_not (is_constrained named.table.schema) (has_constraints tables) free)) (tables_null tables (right_not (is_constrained named.table.schema) (has_constraints tables) free))

-- ---- their numbers

null_number : (old : PlainDatabase) (found : Found) → is_found_null found ≡ true → number_of old found ≡ 1048
null_number old found e =
    ap (λ kind. cond (kind == 2) 1062 (cond (kind == 3) 3819 (cond (kind == 4) 1048 (cond (had_row old found) 1451 1452)))) (eqb-true found.violation.kind 4 e)

abbrev is_1048 : ℕ → Bool
is_1048 number = number == 1048

null_numbers : (old : PlainDatabase) (p : Found → Bool) (found : List Found) → list_all is_found_null found ≡ true → list_all is_1048 (map (number_of old) (filter p found)) ≡ true
null_numbers old p [] all = refl
null_numbers old p (one ∷ found) all =
    elim (p one) as (λ b. list_all is_1048 (map (number_of old) (cond b (one ∷ filter p found) (filter p found))) ≡ true) [
      | true ↦ both_so (ap is_1048 (null_number old one (left_so (is_found_null one) (list_all is_found_null found) all))) (null_numbers old p found (right_so (is_found_null one) (list_all is_found_null found) all))
      | false ↦ null_numbers old p found (right_so (is_found_null one) (list_all is_found_null found) all)
    ]

not_among : (number : ℕ) → (1048 == number) ≡ false → (numbers : List ℕ) → list_all is_1048 numbers ≡ true → list_any (λ other. other == number) numbers ≡ false
not_among number other [] all = refl
not_among number other (one ∷ numbers) all =
    λ i. (ap (λ n. n == number) (eqb-true one 1048 (left_so (is_1048 one) (list_all is_1048 numbers) all)) ∙ other) i || not_among number other numbers (right_so (is_1048 one) (list_all is_1048 numbers) all) i

none_first : (numbers : List ℕ) → list_all is_1048 numbers ≡ true → first_of numbers ≡ None
none_first numbers all =
    λ i. cond (not_among 1062 refl numbers all i) (Some 1062) (cond (not_among 3819 refl numbers all i) (Some 3819) (cond (not_among 1452 refl numbers all i) (Some 1452) (cond (not_among 1451 refl numbers all i) (Some 1451) None)))

pub free_of_refusals : (checks : Checks) (old new : PlainDatabase) → has_constraints new ≡ false → first_violation checks old new ≡ None
free_of_refusals checks old new free =
    none_first (numbers_of old (violations checks old) (violations checks new))
    (null_numbers old (λ one. not (list_any (same_violation one) (violations checks old))) (violations checks new) (tables_null checks new new free))
