-- A table's violations, found anew, are violations of it within the limits, and rise.
use Rattle.std.proofs.Common.{◌≡◌, ◌<◌, refl, ap, ◌∙◌, ℕ, Bool, true, false, cond, ◌&&◌, nat_le, nat_lt, nat_cmp, ◌==◌, List, [], ◌∷◌, ◌++◌, filter, map, bytes_eq, arith}
use Rattle.std.specs.Cmp.{tied_itself}
use Rattle.std.specs.Cmp.Lexicographic.{bytes_decides}
use Rattle.std.specs.FinMap.{nat_cmp-IsAntisymmetric}
use Rattle.std.specs.List.{enumerate_from, flat_map, list_all}
use Rattle.std.specs.Ordering.{is_eq, ordering_then}
use Rattle.std.proofs.lemmas.Bool.{and_parts, eqb-true, ltb-true, or_parts, false_from_ne_true as not_so}
use Rattle.std.proofs.lemmas.Cmp.{nat_cmp_total, nat_list_cmp_total}
use Rattle.std.proofs.lemmas.List.Folds.{list_all-append}
use Rattle.tuple_codec.proofs.Orderings.{equal_is as equal_so, then_left as first_apart}
use Rattle.tuple_codec.specs.Rows.{Cells}
use Rattle.tuple_codec.proofs.Orders.{cells_told}
use Rattle.schema_model.specs.Limits.{has_short_names, is_row_within_limits, is_short_in, is_short_key, is_short_name, is_short_row, is_violation_within_limits, is_within_limits}
use Rattle.schema_model.specs.PlainTables.{PlainDatabase, Violation, is_row, is_violation, primary_key, rises, violation_cmp}
use Rattle.schema_model.specs.Schemas.{are_checks, are_columns, are_distinct, are_few, are_foreign, are_indexes, is_check, is_column, is_foreign, is_index, is_key, is_name, is_schema}
use Rattle.schema_model.specs.declared.schemas.CheckDef.{CheckDef}
use Rattle.schema_model.specs.declared.schemas.Column.{Column}
use Rattle.schema_model.specs.declared.schemas.ForeignKey.{ForeignKey}
use Rattle.schema_model.specs.declared.schemas.IndexDef.{IndexDef}
use Rattle.schema_model.specs.declared.schemas.Schema.{Schema}
use Rattle.schema_model.proofs.FitLemmas.{primary_key_fits}
use Rattle.schema_model.proofs.ViolationLemmas.{names_apart as labels_apart}
use Rattle.plain_sql.specs.Lists.{has, repeats}
use Rattle.plain_writes.specs.Violations.{Checks, breaks_not_null, breaks_unique, broken, of_check, of_column, of_foreign, of_index, violation, violations_in}
use Rattle.plain_writes.specs.Writes.{keyed_cmp}
use Rattle.keep_laws.proofs.ListLemmas.{all_combined}
use Rattle.plain_writes.proofs.RowOrderLemmas.{both_so, in_order_all, in_order_rises, neither_so, violation_total}
use Rattle.plain_writes.proofs.RowLemmas.{is_good}
use Rattle.keep_laws.proofs.OnceLemmas.{flat_all, numbered_all, numbered_distinct, once_append, once_flat}

-- ---- the order

kinds_apart : (m : ℕ) (v w : Violation) → nat_lt v.kind m ≡ true → (w.kind == m) ≡ true → is_eq (violation_cmp v w) ≡ false
kinds_apart m v w p q =
    first_apart (nat_cmp v.kind w.kind) _ (not_so _ (λ e.
    let same : v.kind ≡ w.kind = nat_cmp-IsAntisymmetric v.kind w.kind (equal_so _ e) in
    let less : v.kind < m = ltb-true v.kind m p in
    let at : w.kind ≡ m = eqb-true w.kind m q in
    omega (arith, same, less, at)))

-- ---- rows that break a constraint

module _ (schema : Schema) (rows : List Cells) (kind : ℕ) (name : List ℕ) (breaks : Cells → Bool) where
  broken_all : (p : Violation → Bool) (ok : Cells → Bool) → ((row : Cells) → ok row ≡ true → p (violation schema kind name row) ≡ true) → list_all ok rows ≡ true
      → list_all p (broken schema rows kind name breaks) ≡ true
  broken_all p ok each h = by rows h where
    by : (rows : List Cells) → list_all ok rows ≡ true → list_all p (broken schema rows kind name breaks) ≡ true
    by [] h = refl
    by (row ∷ rows) h =
        let parts = and_parts (ok row) (list_all ok rows) h in
        let here = each row parts.0 in
        let more = by rows parts.1 in
        elim (breaks row) as (λ b. list_all p (map (violation schema kind name) (cond b (row ∷ filter breaks rows) (filter breaks rows))) ≡ true) [
          | true ↦ both_so here more
          | false ↦ more
        ]

  same_cmp : (a b : Cells) → violation_cmp (violation schema kind name a) (violation schema kind name b) ≡ keyed_cmp schema a b
  same_cmp a b = λ i. ordering_then (tied_itself nat_cmp_total kind i) (ordering_then (tied_itself nat_list_cmp_total name i) (keyed_cmp schema a b))

  apart_broken : (x : Cells) (rows : List Cells) → has (keyed_cmp schema) rows x ≡ false
      → has violation_cmp (broken schema rows kind name breaks) (violation schema kind name x) ≡ false
  apart_broken x [] h = refl
  apart_broken x (row ∷ rows) h =
      let parts = or_parts (is_eq (keyed_cmp schema x row)) (has (keyed_cmp schema) rows x) h in
      let here = ap is_eq (same_cmp x row) ∙ parts.0 in
      let more = apart_broken x rows parts.1 in
      elim (breaks row) as (λ b. has violation_cmp (map (violation schema kind name) (cond b (row ∷ filter breaks rows) (filter breaks rows))) (violation schema kind name x) ≡ false) [
        | true ↦ neither_so here more
        | false ↦ more
      ]

  broken_once : (rows : List Cells) → repeats (keyed_cmp schema) rows ≡ false → repeats violation_cmp (broken schema rows kind name breaks) ≡ false
  broken_once [] h = refl
  broken_once (row ∷ rows) h =
      let parts = or_parts (has (keyed_cmp schema) rows row) (repeats (keyed_cmp schema) rows) h in
      let here = apart_broken row rows parts.0 in
      let more = broken_once rows parts.1 in
      elim (breaks row) as (λ b. repeats violation_cmp (map (violation schema kind name) (cond b (row ∷ filter breaks rows) (filter breaks rows))) ≡ false) [
        | true ↦ neither_so here more
        | false ↦ more
      ]

-- ---- a schema's names

abbrev is_named : List ℕ → Bool
is_named name = is_name name && is_short_name name

pub record NamesWell (schema : Schema) : Type 0 where
  pub foreign : list_all (λ (part : ForeignKey). is_named part.name) schema.foreign ≡ true
  pub indexes : list_all (λ (part : IndexDef). is_named part.name) schema.indexes ≡ true
  pub checks : list_all (λ (part : CheckDef). is_named part.name) schema.checks ≡ true
  pub columns : list_all (λ (part : Column). is_named part.name) schema.columns ≡ true
  pub foreign_apart : are_distinct (λ (a b : ForeignKey). bytes_eq a.name b.name) schema.foreign ≡ true
  pub indexes_apart : are_distinct (λ (a b : IndexDef). bytes_eq a.name b.name) schema.indexes ≡ true
  pub checks_apart : are_distinct (λ (a b : CheckDef). bytes_eq a.name b.name) schema.checks ≡ true
  pub columns_apart : are_distinct (λ (a b : Column). bytes_eq a.name b.name) schema.columns ≡ true

names_well : (schema : Schema) → is_schema schema ≡ true → is_within_limits schema ≡ true → NamesWell schema
names_well schema is within =
    let a = and_parts _ (are_foreign _ schema.foreign) is in
    let b = and_parts _ (are_checks schema.checks) a.0 in
    let c = and_parts _ (are_indexes _ schema.indexes) b.0 in
    let d = and_parts (are_columns schema.columns) (is_key schema.columns schema.key) c.0 in
    let foreign = and_parts _ (are_distinct (λ (a b : ForeignKey). bytes_eq a.name b.name) schema.foreign) a.1 in
    let checks = and_parts _ (are_distinct (λ (a b : CheckDef). bytes_eq a.name b.name) schema.checks) b.1 in
    let indexes = and_parts _ (are_distinct (λ (a b : IndexDef). bytes_eq a.name b.name) schema.indexes) c.1 in
    let columns = and_parts _ (are_distinct (λ (a b : Column). bytes_eq a.name b.name) schema.columns) d.0 in
    let foreign_are = and_parts (are_few schema.foreign) (list_all (is_foreign _) schema.foreign) foreign.0 in
    let checks_are = and_parts (are_few schema.checks) (list_all is_check schema.checks) checks.0 in
    let indexes_are = and_parts (are_few schema.indexes) (list_all (is_index _) schema.indexes) indexes.0 in
    let columns_are = and_parts (are_few schema.columns) (list_all is_column schema.columns) columns.0 in
    let e = and_parts _ (nat_le _ _) within in
    let f = and_parts _ (list_all has_short_names schema.foreign) e.0 in
    let g = and_parts _ (list_all (λ (check : CheckDef). is_short_name check.name) schema.checks) f.0 in
    let h = and_parts _ (list_all (λ (index : IndexDef). is_short_name index.name) schema.indexes) g.0 in
    let k = and_parts _ (list_all (λ (column : Column). is_short_name column.name) schema.columns) h.0 in
    record {
      foreign = all_combined (is_foreign _) has_short_names (λ (part : ForeignKey). is_named part.name) schema.foreign
          (λ x p q. both_so (and_parts (is_name x.name) _ (and_parts _ _ (and_parts _ _ (and_parts _ _ p).0).0).0).0 (and_parts (is_short_name x.name) _ (and_parts _ _ q).0).0)
          foreign_are.1 f.1;
      indexes = all_combined (is_index _) (λ (index : IndexDef). is_short_name index.name) (λ (part : IndexDef). is_named part.name) schema.indexes
          (λ x p q. both_so (and_parts (is_name x.name) _ p).0 q) indexes_are.1 h.1;
      checks = all_combined is_check (λ (check : CheckDef). is_short_name check.name) (λ (part : CheckDef). is_named part.name) schema.checks
          (λ x p q. both_so (and_parts (is_name x.name) _ (and_parts _ _ p).0).0 q) checks_are.1 g.1;
      columns = all_combined is_column (λ (column : Column). is_short_name column.name) (λ (part : Column). is_named part.name) schema.columns
          (λ x p q. both_so (and_parts (is_name x.name) _ (and_parts _ _ p).0).0 q) columns_are.1 k.1;
      foreign_apart = foreign.1;
      indexes_apart = indexes.1;
      checks_apart = checks.1;
      columns_apart = columns.1;
    }

-- ---- all of a table

-- a violation of the table, within the limits
abbrev pub is_well : Schema → Violation → Bool
is_well schema found = is_violation schema found && is_violation_within_limits schema found

module _ (schema : Schema) (is : is_schema schema ≡ true) where
  row_well : (kind : ℕ) (name : List ℕ) → (nat_le 1 kind && nat_le kind 4) ≡ true → is_named name ≡ true → (row : Cells) → is_good schema row ≡ true
      → is_well schema (violation schema kind name row) ≡ true
  row_well kind name known named row good =
      let names = and_parts (is_name name) (is_short_name name) named in
      let goods = and_parts (is_row schema row) (is_row_within_limits schema row) good in
      let limits = and_parts (is_short_key (primary_key schema row) && list_all (is_short_in row) schema.indexes) (is_short_row schema row) goods.1 in
      let short = and_parts (is_short_key (primary_key schema row)) (list_all (is_short_in row) schema.indexes) limits.0 in
      both_so (both_so (both_so (both_so known names.0) (primary_key_fits schema row is goods.0)) (both_so goods.0 ((cells_told (primary_key schema row) (primary_key schema row)).1 refl)))
      (both_so (both_so names.1 short.0) limits.1)

  module _ (rows : List Cells) (good : list_all (is_good schema) rows ≡ true) (once : repeats (keyed_cmp schema) rows ≡ false) (names : NamesWell schema)
      (checks : Checks) (database : PlainDatabase) (table : List ℕ) where
    -- what holds of each broken constraint's rows, by kind and name, holds of all
    module _ (p : Violation → Bool) (here : (kind : ℕ) (name : List ℕ) → (nat_le 1 kind && nat_le kind 4) ≡ true → is_named name ≡ true → (row : Cells) → is_good schema row ≡ true
        → p (violation schema kind name row) ≡ true) where
      broken_well : (kind : ℕ) (name : List ℕ) (breaks : Cells → Bool) → (nat_le 1 kind && nat_le kind 4) ≡ true → is_named name ≡ true
          → list_all p (broken schema rows kind name breaks) ≡ true
      broken_well kind name breaks known named = broken_all schema rows kind name breaks p (is_good schema) (here kind name known named) good

      pub all_well : list_all p (flat_map (of_foreign database schema rows) schema.foreign ++ flat_map (of_index schema rows) schema.indexes ++ flat_map (of_check checks table schema rows) schema.checks ++ flat_map (of_column schema rows) (enumerate_from 0 schema.columns)) ≡ true
      all_well =
          let foreign = flat_map (of_foreign database schema rows) schema.foreign in
          let indexed = flat_map (of_index schema rows) schema.indexes in
          let checked = flat_map (of_check checks table schema rows) schema.checks in
          let columns = flat_map (of_column schema rows) (enumerate_from 0 schema.columns) in
          list_all-append p (foreign ++ indexed ++ checked) columns
          ∙ both_so (list_all-append p (foreign ++ indexed) checked
          ∙ both_so (list_all-append p foreign indexed
          ∙ both_so (flat_all p (λ (part : ForeignKey). is_named part.name) (of_foreign database schema rows) (λ x named. broken_well 1 x.name _ refl named) schema.foreign names.foreign)
          (flat_all p (λ (part : IndexDef). is_named part.name) (of_index schema rows)
          (λ x named. let well = broken_well 2 x.name (breaks_unique schema rows x.columns) refl named in
          elim x.unique as (λ b. list_all p (cond b (broken schema rows 2 x.name (breaks_unique schema rows x.columns)) []) ≡ true) [ true ↦ well | false ↦ refl ]) schema.indexes names.indexes))
          (flat_all p (λ (part : CheckDef). is_named part.name) (of_check checks table schema rows) (λ x named. broken_well 3 x.name _ refl named) schema.checks names.checks))
          (flat_all p (λ (x : ℕ × Column). is_named x.1.name) (of_column schema rows)
          (λ x named. let well = broken_well 4 x.1.name (breaks_not_null x.0) refl named in
          elim x.1.not_null as (λ b. list_all p (cond b (broken schema rows 4 x.1.name (breaks_not_null x.0)) []) ≡ true) [ true ↦ well | false ↦ refl ])
          (enumerate_from 0 schema.columns) (numbered_all (λ (part : Column). is_named part.name) 0 schema.columns names.columns))

    found_well : list_all (is_well schema) (violations_in checks database table schema rows) ≡ true
    found_well =
        let foreign = flat_map (of_foreign database schema rows) schema.foreign in
        let indexed = flat_map (of_index schema rows) schema.indexes in
        let checked = flat_map (of_check checks table schema rows) schema.checks in
        let columns = flat_map (of_column schema rows) (enumerate_from 0 schema.columns) in
        in_order_all violation_cmp (is_well schema) (foreign ++ indexed ++ checked ++ columns) (all_well (is_well schema) row_well)

    -- ---- none twice

    true_all : (rows : List Cells) → list_all (λ (row : Cells). true) rows ≡ true
    true_all [] = refl
    true_all (row ∷ rows) = true_all rows

    labelled : (kind : ℕ) (name : List ℕ) (breaks : Cells → Bool) → list_all (λ (v : Violation). bytes_eq v.constraint name) (broken schema rows kind name breaks) ≡ true
    labelled kind name breaks =
        broken_all schema rows kind name breaks (λ (v : Violation). bytes_eq v.constraint name) (λ (row : Cells). true) (λ row t. (bytes_decides name name).1 refl) (true_all rows)

    each_once : (kind : ℕ) (name : List ℕ) (breaks : Cells → Bool) → repeats violation_cmp (broken schema rows kind name breaks) ≡ false
    each_once kind name breaks = broken_once schema rows kind name breaks rows once

    foreign_once : repeats violation_cmp (flat_map (of_foreign database schema rows) schema.foreign) ≡ false
    foreign_once = once_flat violation_cmp (λ (x : ForeignKey). x.name) (λ (v : Violation). v.constraint) (of_foreign database schema rows) labels_apart
        (λ x. labelled 1 x.name _) (λ x. each_once 1 x.name _) schema.foreign names.foreign_apart

    index_once : repeats violation_cmp (flat_map (of_index schema rows) schema.indexes) ≡ false
    index_once = once_flat violation_cmp (λ (x : IndexDef). x.name) (λ (v : Violation). v.constraint) (of_index schema rows) labels_apart
        (λ x. let well = labelled 2 x.name (breaks_unique schema rows x.columns) in
        elim x.unique as (λ b. list_all (λ (v : Violation). bytes_eq v.constraint x.name) (cond b (broken schema rows 2 x.name (breaks_unique schema rows x.columns)) []) ≡ true) [ true ↦ well | false ↦ refl ])
        (λ x. let well = each_once 2 x.name (breaks_unique schema rows x.columns) in
        elim x.unique as (λ b. repeats violation_cmp (cond b (broken schema rows 2 x.name (breaks_unique schema rows x.columns)) []) ≡ false) [ true ↦ well | false ↦ refl ])
        schema.indexes names.indexes_apart

    check_once : repeats violation_cmp (flat_map (of_check checks table schema rows) schema.checks) ≡ false
    check_once = once_flat violation_cmp (λ (x : CheckDef). x.name) (λ (v : Violation). v.constraint) (of_check checks table schema rows) labels_apart
        (λ x. labelled 3 x.name _) (λ x. each_once 3 x.name _) schema.checks names.checks_apart

    column_once : repeats violation_cmp (flat_map (of_column schema rows) (enumerate_from 0 schema.columns)) ≡ false
    column_once = once_flat violation_cmp (λ (x : ℕ × Column). x.1.name) (λ (v : Violation). v.constraint) (of_column schema rows) labels_apart
        (λ x. let well = labelled 4 x.1.name (breaks_not_null x.0) in
        elim x.1.not_null as (λ b. list_all (λ (v : Violation). bytes_eq v.constraint x.1.name) (cond b (broken schema rows 4 x.1.name (breaks_not_null x.0)) []) ≡ true) [ true ↦ well | false ↦ refl ])
        (λ x. let well = each_once 4 x.1.name (breaks_not_null x.0) in
        elim x.1.not_null as (λ b. repeats violation_cmp (cond b (broken schema rows 4 x.1.name (breaks_not_null x.0)) []) ≡ false) [ true ↦ well | false ↦ refl ])
        (enumerate_from 0 schema.columns) (numbered_distinct (λ (a b : Column). bytes_eq a.name b.name) 0 schema.columns names.columns_apart)

    -- ---- by kinds

    any_all : {A : Type 0} (p : Violation → Bool) (f : A → List Violation) → ((x : A) → list_all p (f x) ≡ true) → (xs : List A) → list_all p (flat_map f xs) ≡ true
    any_all p f each [] = refl
    any_all p f each (x ∷ xs) = list_all-append p (f x) (flat_map f xs) ∙ both_so (each x) (any_all p f each xs)

    by_kind : (p : ℕ → Bool) (kind : ℕ) (name : List ℕ) (breaks : Cells → Bool) → p kind ≡ true → list_all (λ (v : Violation). p v.kind) (broken schema rows kind name breaks) ≡ true
    by_kind p kind name breaks e = broken_all schema rows kind name breaks (λ (v : Violation). p v.kind) (λ (row : Cells). true) (λ row t. e) (true_all rows)

    foreign_kind : (p : ℕ → Bool) → p 1 ≡ true → list_all (λ (v : Violation). p v.kind) (flat_map (of_foreign database schema rows) schema.foreign) ≡ true
    foreign_kind p e = any_all (λ (v : Violation). p v.kind) (of_foreign database schema rows) (λ x. by_kind p 1 x.name _ e) schema.foreign

    index_kind : (p : ℕ → Bool) → p 2 ≡ true → list_all (λ (v : Violation). p v.kind) (flat_map (of_index schema rows) schema.indexes) ≡ true
    index_kind p e = any_all (λ (v : Violation). p v.kind) (of_index schema rows)
        (λ x. let well = by_kind p 2 x.name (breaks_unique schema rows x.columns) e in
        elim x.unique as (λ b. list_all (λ (v : Violation). p v.kind) (cond b (broken schema rows 2 x.name (breaks_unique schema rows x.columns)) []) ≡ true) [ true ↦ well | false ↦ refl ]) schema.indexes

    check_kind : (p : ℕ → Bool) → p 3 ≡ true → list_all (λ (v : Violation). p v.kind) (flat_map (of_check checks table schema rows) schema.checks) ≡ true
    check_kind p e = any_all (λ (v : Violation). p v.kind) (of_check checks table schema rows) (λ x. by_kind p 3 x.name _ e) schema.checks

    column_kind : (p : ℕ → Bool) → p 4 ≡ true → list_all (λ (v : Violation). p v.kind) (flat_map (of_column schema rows) (enumerate_from 0 schema.columns)) ≡ true
    column_kind p e = any_all (λ (v : Violation). p v.kind) (of_column schema rows)
        (λ x. let well = by_kind p 4 x.1.name (breaks_not_null x.0) e in
        elim x.1.not_null as (λ b. list_all (λ (v : Violation). p v.kind) (cond b (broken schema rows 4 x.1.name (breaks_not_null x.0)) []) ≡ true) [ true ↦ well | false ↦ refl ]) (enumerate_from 0 schema.columns)

    abbrev is_below : ℕ → Violation → Bool
    is_below m v = nat_lt v.kind m

    abbrev is_of : ℕ → Violation → Bool
    is_of m v = v.kind == m

    found_rises : rises violation_cmp (violations_in checks database table schema rows) ≡ true
    found_rises =
        let foreign = flat_map (of_foreign database schema rows) schema.foreign in
        let indexed = flat_map (of_index schema rows) schema.indexes in
        let checked = flat_map (of_check checks table schema rows) schema.checks in
        let columns = flat_map (of_column schema rows) (enumerate_from 0 schema.columns) in
        in_order_rises violation_cmp violation_total (foreign ++ indexed ++ checked ++ columns)
        (once_append violation_cmp (is_below 4) (is_of 4) (kinds_apart 4) (foreign ++ indexed ++ checked) columns
        (list_all-append (is_below 4) (foreign ++ indexed) checked
        ∙ both_so (list_all-append (is_below 4) foreign indexed ∙ both_so (foreign_kind (λ k. nat_lt k 4) refl) (index_kind (λ k. nat_lt k 4) refl)) (check_kind (λ k. nat_lt k 4) refl))
        (column_kind (λ k. k == 4) refl)
        (once_append violation_cmp (is_below 3) (is_of 3) (kinds_apart 3) (foreign ++ indexed) checked
        (list_all-append (is_below 3) foreign indexed ∙ both_so (foreign_kind (λ k. nat_lt k 3) refl) (index_kind (λ k. nat_lt k 3) refl))
        (check_kind (λ k. k == 3) refl)
        (once_append violation_cmp (is_below 2) (is_of 2) (kinds_apart 2) foreign indexed (foreign_kind (λ k. nat_lt k 2) refl) (index_kind (λ k. k == 2) refl) foreign_once index_once)
        check_once)
        column_once)

pub violations_well : (checks : Checks) (database : PlainDatabase) (table : List ℕ) (schema : Schema) (rows : List Cells) → is_schema schema ≡ true → is_within_limits schema ≡ true
    → list_all (is_good schema) rows ≡ true → repeats (keyed_cmp schema) rows ≡ false
    → (list_all (is_well schema) (violations_in checks database table schema rows) ≡ true) × (rises violation_cmp (violations_in checks database table schema rows) ≡ true)
violations_well checks database table schema rows is within good once =
    let names = names_well schema is within in
    (found_well schema is rows good once names checks database table, found_rises schema is rows good once names checks database table)
