-- What a violation of a database comes of: a row of a table, and what it breaks.
use Rattle.std.proofs.Common.{◌≡◌, refl, sym, ap, ◌∙◌, subst, ◌⊎◌, inl, inr, ℕ, Bool, true, false, cond, ◌||◌, List, [], ◌∷◌, ◌++◌, filter, map}
use Rattle.std.specs.List.{enumerate_from, flat_map, list_any}
use Rattle.std.proofs.lemmas.Bool.{or_cases, or_left}
use Rattle.tuple_codec.proofs.Truths.{or_late as or_right}
use Rattle.tuple_codec.specs.Rows.{Cells}
use Rattle.schema_model.specs.declared.schemas.CheckDef.{CheckDef}
use Rattle.schema_model.specs.declared.schemas.Column.{Column}
use Rattle.schema_model.specs.declared.schemas.ForeignKey.{ForeignKey}
use Rattle.schema_model.specs.declared.schemas.IndexDef.{IndexDef}
use Rattle.schema_model.specs.declared.schemas.Schema.{Schema}
use Rattle.schema_model.specs.PlainTables.{NamedTable, PlainDatabase, Violation, violation_cmp}
use Rattle.plain_writes.specs.Violations.{Checks, Found, breaks_check, breaks_not_null, breaks_unique, broken, found_in, of_check, of_column, of_foreign, of_index, violation, violations, violations_in}
use Rattle.plain_writes.proofs.RowOrderLemmas.{clash, two}
use Rattle.constraint_scan.specs.Changed.{is_orphan_by}
use Rattle.constraint_scan.proofs.MemberLemmas.{Stands, any_flat, any_in_order, any_joined, any_mapped, at_filter, at_some, filter_at, some_at}

-- a row of the table that breaks a constraint of this kind and name
abbrev pub found : NamedTable → ℕ → List ℕ → Cells → Found
found named kind name row = record { table = named.name; violation = violation named.table.schema kind name row }

-- some violation of the table passes a test
pub data Cause (checks : Checks) (database : PlainDatabase) (p : Found → Bool) (named : NamedTable) : Type 0 where
  ByForeign : (row : Cells) (one : ForeignKey) → Stands row named.table.rows → Stands one named.table.schema.foreign → is_orphan_by database named.table.schema row one ≡ true
      → p (found named 1 one.name row) ≡ true → Cause checks database p named
  ByIndex : (row : Cells) (one : IndexDef) → Stands row named.table.rows → Stands one named.table.schema.indexes → one.unique ≡ true
      → breaks_unique named.table.schema named.table.rows one.columns row ≡ true → p (found named 2 one.name row) ≡ true → Cause checks database p named
  ByCheck : (row : Cells) (one : CheckDef) → Stands row named.table.rows → Stands one named.table.schema.checks
      → breaks_check (checks named.name named.table.schema one.text) row ≡ true → p (found named 3 one.name row) ≡ true → Cause checks database p named
  ByColumn : (row : Cells) (name : List ℕ) → Stands row named.table.rows → p (found named 4 name row) ≡ true → Cause checks database p named

module _ (q : Violation → Bool) (schema : Schema) (rows : List Cells) (kind : ℕ) (name : List ℕ) (breaks : Cells → Bool) where
  broken_cause : list_any q (broken schema rows kind name breaks) ≡ true → (row : Cells) × Stands row rows × (breaks row ≡ true) × (q (violation schema kind name row) ≡ true)
  broken_cause e =
      let some = some_at (λ row. q (violation schema kind name row)) (filter breaks rows) (sym (any_mapped (violation schema kind name) q (filter breaks rows)) ∙ e) in
      let there = filter_at breaks rows some.0 some.1 in
      (some.0, there.0, there.1, some.2)

  cause_broken : (row : Cells) → Stands row rows → breaks row ≡ true → q (violation schema kind name row) ≡ true → list_any q (broken schema rows kind name breaks) ≡ true
  cause_broken row s b e =
      any_mapped (violation schema kind name) q (filter breaks rows)
      ∙ at_some (λ one. q (violation schema kind name one)) (filter breaks rows) row (at_filter breaks rows row s b) e

module _ (checks : Checks) (database : PlainDatabase) (p : Found → Bool) where
  module _ (named : NamedTable) where
    abbrev q : Violation → Bool
    q one = p (record { table = named.name; violation = one })

    abbrev schema : Schema
    schema = named.table.schema

    abbrev rows : List Cells
    rows = named.table.rows

    abbrev fs : List Violation
    fs = flat_map (of_foreign database schema rows) schema.foreign

    abbrev us : List Violation
    us = flat_map (of_index schema rows) schema.indexes

    abbrev cs : List Violation
    cs = flat_map (of_check checks named.name schema rows) schema.checks

    abbrev ns : List Violation
    ns = flat_map (of_column schema rows) (enumerate_from 0 schema.columns)

    in_table : list_any p (found_in checks database named) ≡ (((list_any q fs || list_any q us) || list_any q cs) || list_any q ns)
    in_table =
        any_mapped (λ (one : Violation). record { table = named.name; violation = one }) p (violations_in checks database named.name schema rows)
        ∙ any_in_order q violation_cmp (fs ++ us ++ cs ++ ns)
        ∙ any_joined q (fs ++ us ++ cs) ns
        ∙ ap (λ b. b || list_any q ns) (any_joined q (fs ++ us) cs ∙ ap (λ b. b || list_any q cs) (any_joined q fs us))

    by_foreign : list_any q fs ≡ true → Cause checks database p named
    by_foreign e =
        let some = some_at (λ one. list_any q (of_foreign database schema rows one)) schema.foreign (sym (any_flat q (of_foreign database schema rows) schema.foreign) ∙ e) in
        let one = some.0 in
        let row = broken_cause q schema rows 1 one.name (λ row. is_orphan_by database schema row one) some.2 in
        ByForeign row.0 one row.1 some.1 row.2 row.3

    by_index : list_any q us ≡ true → Cause checks database p named
    by_index e =
        let some = some_at (λ one. list_any q (of_index schema rows one)) schema.indexes (sym (any_flat q (of_index schema rows) schema.indexes) ∙ e) in
        let one = some.0 in
        two one.unique
        (λ unique. let row = broken_cause q schema rows 2 one.name (breaks_unique schema rows one.columns)
        (sym (ap (λ b. list_any q (cond b (broken schema rows 2 one.name (breaks_unique schema rows one.columns)) [])) unique) ∙ some.2) in
        ByIndex row.0 one row.1 some.1 unique row.2 row.3)
        (λ other. clash (sym (ap (λ b. list_any q (cond b (broken schema rows 2 one.name (breaks_unique schema rows one.columns)) [])) other) ∙ some.2) refl)

    by_check : list_any q cs ≡ true → Cause checks database p named
    by_check e =
        let some = some_at (λ one. list_any q (of_check checks named.name schema rows one)) schema.checks (sym (any_flat q (of_check checks named.name schema rows) schema.checks) ∙ e) in
        let one = some.0 in
        let row = broken_cause q schema rows 3 one.name (breaks_check (checks named.name schema one.text)) some.2 in
        ByCheck row.0 one row.1 some.1 row.2 row.3

    by_column : list_any q ns ≡ true → Cause checks database p named
    by_column e =
        let some = some_at (λ x. list_any q (of_column schema rows x)) (enumerate_from 0 schema.columns) (sym (any_flat q (of_column schema rows) (enumerate_from 0 schema.columns)) ∙ e) in
        let x = some.0 in
        two x.1.not_null
        (λ strict. let row = broken_cause q schema rows 4 x.1.name (breaks_not_null x.0)
        (sym (ap (λ b. list_any q (cond b (broken schema rows 4 x.1.name (breaks_not_null x.0)) [])) strict) ∙ some.2) in
        ByColumn row.0 x.1.name row.1 row.3)
        (λ other. clash (sym (ap (λ b. list_any q (cond b (broken schema rows 4 x.1.name (breaks_not_null x.0)) [])) other) ∙ some.2) refl)

    one_cause : list_any p (found_in checks database named) ≡ true → Cause checks database p named
    one_cause e = elim (or_cases ((list_any q fs || list_any q us) || list_any q cs) (list_any q ns) (sym in_table ∙ e)) [
      | inl h ↦ elim (or_cases (list_any q fs || list_any q us) (list_any q cs) h) [
        | inl k ↦ elim (or_cases (list_any q fs) (list_any q us) k) [
          | inl m ↦ by_foreign m
          | inr m ↦ by_index m
        ]
        | inr k ↦ by_check k
      ]
      | inr h ↦ by_column h
    ]

    foreign_there : (row : Cells) (one : ForeignKey) → Stands row rows → Stands one schema.foreign → is_orphan_by database schema row one ≡ true → p (found named 1 one.name row) ≡ true
        → list_any p (found_in checks database named) ≡ true
    foreign_there row one s t b e =
        let there = any_flat q (of_foreign database schema rows) schema.foreign
        ∙ at_some (λ other. list_any q (of_foreign database schema rows other)) schema.foreign one t (cause_broken q schema rows 1 one.name (λ other. is_orphan_by database schema other one) row s b e) in
        in_table
        ∙ or_left ((list_any q fs || list_any q us) || list_any q cs) (list_any q ns) (or_left (list_any q fs || list_any q us) (list_any q cs) (or_left (list_any q fs) (list_any q us) there))

    index_there : (row : Cells) (one : IndexDef) → Stands row rows → Stands one schema.indexes → one.unique ≡ true → breaks_unique schema rows one.columns row ≡ true
        → p (found named 2 one.name row) ≡ true → list_any p (found_in checks database named) ≡ true
    index_there row one s t u b e =
        let its = ap (λ unique. list_any q (cond unique (broken schema rows 2 one.name (breaks_unique schema rows one.columns)) [])) u
        ∙ cause_broken q schema rows 2 one.name (breaks_unique schema rows one.columns) row s b e in
        let there = any_flat q (of_index schema rows) schema.indexes ∙ at_some (λ other. list_any q (of_index schema rows other)) schema.indexes one t its in
        in_table
        ∙ or_left ((list_any q fs || list_any q us) || list_any q cs) (list_any q ns) (or_left (list_any q fs || list_any q us) (list_any q cs) (or_right (list_any q fs) there))

    check_there : (row : Cells) (one : CheckDef) → Stands row rows → Stands one schema.checks → breaks_check (checks named.name schema one.text) row ≡ true
        → p (found named 3 one.name row) ≡ true → list_any p (found_in checks database named) ≡ true
    check_there row one s t b e =
        let there = any_flat q (of_check checks named.name schema rows) schema.checks
        ∙ at_some (λ other. list_any q (of_check checks named.name schema rows other)) schema.checks one t
        (cause_broken q schema rows 3 one.name (breaks_check (checks named.name schema one.text)) row s b e) in
        in_table ∙ or_left ((list_any q fs || list_any q us) || list_any q cs) (list_any q ns) (or_right (list_any q fs || list_any q us) there)

  -- each violation has a cause
  pub cause_of : list_any p (violations checks database) ≡ true → (named : NamedTable) × Stands named database × Cause checks database p named
  cause_of e =
      let some = some_at (λ named. list_any p (found_in checks database named)) database (sym (any_flat p (found_in checks database) database) ∙ e) in
      (some.0, some.1, one_cause some.0 some.2)

  found_there : (named : NamedTable) → Stands named database → list_any p (found_in checks database named) ≡ true → list_any p (violations checks database) ≡ true
  found_there named s e = any_flat p (found_in checks database) database ∙ at_some (λ one. list_any p (found_in checks database one)) database named s e

  -- and each cause a violation
  pub of_orphan : (named : NamedTable) → Stands named database → (row : Cells) (one : ForeignKey) → Stands row named.table.rows → Stands one named.table.schema.foreign
      → is_orphan_by database named.table.schema row one ≡ true → p (found named 1 one.name row) ≡ true → list_any p (violations checks database) ≡ true
  of_orphan named there row one s t b e = found_there named there (foreign_there named row one s t b e)

  pub of_repeated : (named : NamedTable) → Stands named database → (row : Cells) (one : IndexDef) → Stands row named.table.rows → Stands one named.table.schema.indexes
      → one.unique ≡ true → breaks_unique named.table.schema named.table.rows one.columns row ≡ true → p (found named 2 one.name row) ≡ true → list_any p (violations checks database) ≡ true
  of_repeated named there row one s t u b e = found_there named there (index_there named row one s t u b e)

  pub of_failed : (named : NamedTable) → Stands named database → (row : Cells) (one : CheckDef) → Stands row named.table.rows → Stands one named.table.schema.checks
      → breaks_check (checks named.name named.table.schema one.text) row ≡ true → p (found named 3 one.name row) ≡ true → list_any p (violations checks database) ≡ true
  of_failed named there row one s t b e = found_there named there (check_there named row one s t b e)

-- the row that a violation is of
pub row_of : (checks : Checks) (database : PlainDatabase) (p : Found → Bool) (named : NamedTable) → Cause checks database p named
    → (row : Cells) × Stands row named.table.rows × ((kind : ℕ) × (name : List ℕ) × (p (found named kind name row) ≡ true))
row_of checks database p named (ByForeign row one s t b e) = (row, s, (1, one.name, e))
row_of checks database p named (ByIndex row one s t u b e) = (row, s, (2, one.name, e))
row_of checks database p named (ByCheck row one s t b e) = (row, s, (3, one.name, e))
row_of checks database p named (ByColumn row name s e) = (row, s, (4, name, e))
