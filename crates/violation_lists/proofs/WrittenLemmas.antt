-- Rows that violate are rows of the tables of their names; and what is written of them, one by one.
use Rattle.std.proofs.Common.{◌≡◌, ◌<◌, ◌+◌, refl, sym, ap, ◌∙◌, arith, ℕ, zero, suc, length, drop, get_or, append_assoc, Bool, true, false, cond, List, [], ◌∷◌, ◌++◌, map, filter}
use Rattle.std.specs.List.{AllByRecursion, enumerate_from, flat_map, list_all}
use Rattle.std.specs.Option.{option_map_or}
use Rattle.std.proofs.lemmas.List.Folds.{list_all-append, list_all-map}
use Rattle.tuple_codec.proofs.Lists.{next_at}
use Rattle.tuple_codec.specs.Rows.{Cells}
use Rattle.schema_model.specs.declared.schemas.CheckDef.{CheckDef}
use Rattle.schema_model.specs.declared.schemas.Column.{Column}
use Rattle.schema_model.specs.declared.schemas.ForeignKey.{ForeignKey}
use Rattle.schema_model.specs.declared.schemas.IndexDef.{IndexDef}
use Rattle.schema_model.specs.declared.schemas.Schema.{Schema}
use Rattle.schema_model.specs.PlainTables.{IsDatabase, IsTable, NamedTable, PlainDatabase, Violation, is_row, primary_key, violation_cmp}
use Rattle.schema_model.specs.Schemas.{is_schema}
use Rattle.plain_writes.specs.Seen.{found_seen}
use Rattle.plain_writes.specs.declared.listing.Found as listing
use Rattle.plain_writes.specs.Violations.{Checks, Found, breaks_check, breaks_foreign, breaks_not_null, breaks_unique, broken, found_in, of_check, of_column, of_foreign, of_index, parent_keys, violation, violations, violations_in}
use Rattle.plain_writes.proofs.RowOrderLemmas.{both_so, in_order_all, left_so, right_so}
use Rattle.violation_lists.specs.Scanning.{bare}
use Rattle.violation_lists.specs.Written.{fits, fits_in, written, written_in}
use Rattle.violation_lists.proofs.FreeLemmas.{all_flat}
use Rattle.violation_lists.proofs.NameLemmas.{Finds, each_found}
use Rattle.violation_lists.proofs.RefusalLemmas.{by_table, cells_itself, violations_bare}

-- ---- a table's violations

module _ (schema : Schema) (is : is_schema schema ≡ true) where
  broken_fits : (kind : ℕ) (name : List ℕ) (breaks : Cells → Bool) (rows : List Cells) → list_all (is_row schema) rows ≡ true → list_all (fits schema) (broken schema rows kind name breaks) ≡ true
  broken_fits kind name breaks [] all = refl
  broken_fits kind name breaks (row ∷ rows) all =
      elim (breaks row) as (λ b. list_all (fits schema) (map (violation schema kind name) (cond b (row ∷ filter breaks rows) (filter breaks rows))) ≡ true) [
        | true ↦ both_so (both_so is (both_so (left_so (is_row schema row) (list_all (is_row schema) rows) all) (cells_itself (primary_key schema row))))
            (broken_fits kind name breaks rows (right_so (is_row schema row) (list_all (is_row schema) rows) all))
        | false ↦ broken_fits kind name breaks rows (right_so (is_row schema row) (list_all (is_row schema) rows) all)
      ]

  module _ (rows : List Cells) (all : list_all (is_row schema) rows ≡ true) where
    index_fits : (index : IndexDef) → list_all (fits schema) (of_index schema rows index) ≡ true
    index_fits index = elim index.unique as (λ b. list_all (fits schema) (cond b (broken schema rows 2 index.name (breaks_unique schema rows index.columns)) []) ≡ true) [
      | true ↦ broken_fits 2 index.name (breaks_unique schema rows index.columns) rows all
      | false ↦ refl
    ]

    column_fits : (x : ℕ × Column) → list_all (fits schema) (of_column schema rows x) ≡ true
    column_fits x = elim x.1.not_null as (λ b. list_all (fits schema) (cond b (broken schema rows 4 x.1.name (breaks_not_null x.0)) []) ≡ true) [
      | true ↦ broken_fits 4 x.1.name (breaks_not_null x.0) rows all
      | false ↦ refl
    ]

    table_fits : (checks : Checks) (database : PlainDatabase) (name : List ℕ) → list_all (fits schema) (violations_in checks database name schema rows) ≡ true
    table_fits checks database name =
        let foreign = flat_map (of_foreign database schema rows) schema.foreign in
        let indexed = flat_map (of_index schema rows) schema.indexes in
        let checked = flat_map (of_check checks name schema rows) schema.checks in
        let columns = flat_map (of_column schema rows) (enumerate_from 0 schema.columns) in
        in_order_all violation_cmp (fits schema) (foreign ++ indexed ++ checked ++ columns)
        (list_all-append (fits schema) (foreign ++ indexed ++ checked) columns
        ∙ both_so (list_all-append (fits schema) (foreign ++ indexed) checked
        ∙ both_so (list_all-append (fits schema) foreign indexed
        ∙ both_so (all_flat (fits schema) (of_foreign database schema rows) (λ (one : ForeignKey). broken_fits 1 one.name (breaks_foreign (parent_keys database schema one) one.columns) rows all) schema.foreign)
        (all_flat (fits schema) (of_index schema rows) index_fits schema.indexes))
        (all_flat (fits schema) (of_check checks name schema rows) (λ (one : CheckDef). broken_fits 3 one.name (breaks_check (checks name schema one.text)) rows all) schema.checks))
        (all_flat (fits schema) (of_column schema rows) column_fits (enumerate_from 0 schema.columns)))

-- ---- a database's violations

module _ (checks : Checks) (database : PlainDatabase) where
  named_fits : (named : NamedTable) → Finds database named → IsTable named.table → list_all (fits_in database) (found_in checks database named) ≡ true
  named_fits named finds is =
      let listed = violations_in checks database named.name named.table.schema named.table.rows in
      list_all-map (fits_in database) (λ (one : Violation). record { table = named.name; violation = one }) listed
      ∙ ap (λ found. list_all (λ (one : Violation). option_map_or (λ table. fits table.schema one) found true) listed) finds
      ∙ table_fits named.table.schema is.schema named.table.rows is.rows checks database named.name

  tables_fit : (tables : List NamedTable) → AllByRecursion (Finds database) tables → AllByRecursion (λ named. IsTable named.table) tables → list_all (fits_in database) (flat_map (found_in checks database) tables) ≡ true
  tables_fit [] finds are = refl
  tables_fit (named ∷ tables) finds are =
      list_all-append (fits_in database) (found_in checks database named) (flat_map (found_in checks database) tables)
      ∙ both_so (named_fits named finds.0 are.0) (tables_fit tables finds.1 are.1)

  pub violations_fit : IsDatabase database → list_all (fits_in (bare database)) (violations checks (bare database)) ≡ true
  violations_fit is =
      (λ i. list_all (λ found. by_table (λ table. fits table.schema found.violation) true (λ table. refl) database found.table i) (violations_bare checks database i))
      ∙ tables_fit database (each_found database is.rise) is.tables

  pub written_bare : flat_map (written_in (bare database)) (violations checks (bare database)) ≡ flat_map (written_in database) (violations checks database)
  written_bare = λ i. flat_map (λ found. by_table (λ table. written table.schema found ∷ []) [] (λ table. refl) database found.table i) (violations_bare checks database i)

-- ---- one by one

pub next_fits : (p : Found → Bool) (xs : List listing.Found) (i : ℕ) (x : listing.Found) → i < length xs → x ≡ get_or xs i x → list_all p (map found_seen xs) ≡ true → p (found_seen x) ≡ true
next_fits p [] i x within is all = absurd (omega arith)
next_fits p (y ∷ xs) zero x within is all = ap (λ (z : listing.Found). p (found_seen z)) is ∙ left_so (p (found_seen y)) (list_all p (map found_seen xs)) all
next_fits p (y ∷ xs) (suc i) x within is all =
    let less : i < length xs = omega arith in
    next_fits p xs i x less is (right_so (p (found_seen y)) (list_all p (map found_seen xs)) all)

pub next_written : {V : Type 0} (f : Found → List V) (total done new : List V) (xs : List listing.Found) (i : ℕ) (x : listing.Found) → i < length xs → x ≡ get_or xs i x
    → total ≡ done ++ flat_map f (map found_seen (drop i xs)) → new ≡ done ++ f (found_seen x) → total ≡ new ++ flat_map f (map found_seen (drop (i + 1) xs))
next_written f total done new xs i x within is so_far joined =
    so_far
    ∙ ap (λ (l : List listing.Found). done ++ flat_map f (map found_seen l)) (next_at xs i x within is)
    ∙ sym (append_assoc done (f (found_seen x)) (flat_map f (map found_seen (drop (i + 1) xs))))
    ∙ ap (λ l. l ++ flat_map f (map found_seen (drop (i + 1) xs))) (sym joined)
