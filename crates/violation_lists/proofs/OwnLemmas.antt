-- A database's own violations may be recorded in it, and then each table has all of its own.
use Rattle.std.proofs.Common.{◌≡◌, refl, sym, ap, ◌∙◌, ℕ, ◌+◌, Bool, true, false, cond, ◌&&◌, true≢false, nat_cmp, nat_le, is_lt, length, List, [], ◌∷◌, ◌++◌, filter, map, bytes_eq, append-nil}
use Rattle.std.specs.Cmp.Lexicographic.{bytes_decides, slice_cmp}
use Rattle.std.specs.List.{AllByRecursion, enumerate_from, flat_map, list_all}
use Rattle.std.specs.Option.{option_map_or}
use Rattle.std.specs.Ordering.{ordering_then}
use Rattle.std.specs.declared.cmp.Ordering.{Ordering}
use Rattle.std.specs.declared.cmp.Ordering.TheVariants.{Less, Equal, Greater}
use Rattle.std.proofs.lemmas.Bool.{and_from, and_parts}
use Rattle.std.proofs.lemmas.Cmp.{nat_list_cmp_total, tied_itself}
use Rattle.std.proofs.lemmas.List.Folds.{list_all-append, list_all-map}
use Rattle.tuple_codec.proofs.Lists.{all_both as both_where}
use Rattle.tuple_codec.specs.Rows.{Cells}
use Rattle.schema_model.specs.Limits.{has_short_names, is_named_within_limits, is_row_within_limits, is_short_in, is_short_key, is_short_name, is_short_row, is_table_within_limits, is_violation_within_limits, is_within_limits, most_rows, most_tables}
use Rattle.schema_model.specs.PlainTables.{IsTable, NamedTable, PlainDatabase, PlainTable, Violation, is_row, primary_key, rises, violation_cmp}
use Rattle.schema_model.specs.Schemas.{are_checks, are_columns, are_few, are_foreign, are_indexes, is_check, is_column, is_foreign, is_index, is_key, is_name, is_schema}
use Rattle.schema_model.specs.declared.schemas.CheckDef.{CheckDef}
use Rattle.schema_model.specs.declared.schemas.Column.{Column}
use Rattle.schema_model.specs.declared.schemas.ForeignKey.{ForeignKey}
use Rattle.schema_model.specs.declared.schemas.IndexDef.{IndexDef}
use Rattle.schema_model.specs.declared.schemas.Schema.{Schema}
use Rattle.schema_model.proofs.FitLemmas.{primary_key_fits}
use Rattle.plain_writes.specs.CheckTexts.{checks}
use Rattle.plain_writes.specs.Violations.{Checks, Found, breaks_check, breaks_foreign, breaks_not_null, breaks_unique, broken, found_in, of_check, of_column, of_foreign, of_index, parent_keys, violation, violations, violations_in}
use Rattle.plain_writes.proofs.RowOrderLemmas.{in_order_all, two}
use Rattle.violation_lists.specs.Recorded.{AllAreRecorded, with_all}
use Rattle.violation_lists.specs.Recording.{found_cmp, is_of, may_stand, may_stand_in, recorded_as, violations_of, with_list}
use Rattle.violation_lists.proofs.NameLemmas.{Finds, Lies, Rise, each_found, others_after, others_apart, rest_rises}
use Rattle.violation_lists.proofs.OnceLemmas.{table_rises}
use Rattle.violation_lists.proofs.RefusalLemmas.{cells_itself}

-- ---- a table may have each of its own

all_where : {A B : Type 0} (q : A → Bool) (p : B → Bool) (f : A → List B) → ((x : A) → q x ≡ true → list_all p (f x) ≡ true) → (xs : List A) → list_all q xs ≡ true → list_all p (flat_map f xs) ≡ true
all_where q p f each [] all = refl
all_where q p f each (x ∷ xs) all =
    let parts = and_parts (q x) (list_all q xs) all in
    list_all-append p (f x) (flat_map f xs) ∙ and_from _ _ (each x parts.0) (all_where q p f each xs parts.1)

numbered_all : (p : Column → Bool) (n : ℕ) (columns : List Column) → list_all p columns ≡ true → list_all (λ (x : ℕ × Column). p x.1) (enumerate_from n columns) ≡ true
numbered_all p n [] all = refl
numbered_all p n (column ∷ columns) all = let parts = and_parts (p column) (list_all p columns) all in and_from _ _ parts.0 (numbered_all p (n + 1) columns parts.1)

abbrev is_short : List ℕ → Bool
is_short name = is_name name && is_short_name name

abbrev is_small : Schema → Cells → Bool
is_small schema row = is_row schema row && is_row_within_limits schema row

module _ (schema : Schema) (is : is_schema schema ≡ true) where
  one_may : (kind : ℕ) → nat_le 1 kind ≡ true → nat_le kind 4 ≡ true → (name : List ℕ) → is_short name ≡ true → (row : Cells) → is_small schema row ≡ true → may_stand schema (violation schema kind name row) ≡ true
  one_may kind least most name short row small =
      let names = and_parts (is_name name) (is_short_name name) short in
      let parts = and_parts (is_row schema row) (is_row_within_limits schema row) small in
      let sizes = and_parts (is_short_key (primary_key schema row) && list_all (is_short_in row) schema.indexes) (is_short_row schema row) parts.1 in
      let key = and_parts (is_short_key (primary_key schema row)) (list_all (is_short_in row) schema.indexes) sizes.0 in
      and_from _ _
      (and_from _ _ (and_from _ _ (and_from _ _ (and_from _ _ least most) names.0) (primary_key_fits schema row is parts.0)) (and_from _ _ parts.0 (cells_itself (primary_key schema row))))
      (and_from _ _ (and_from _ _ names.1 key.0) sizes.1)

  broken_may : (kind : ℕ) → nat_le 1 kind ≡ true → nat_le kind 4 ≡ true → (name : List ℕ) → is_short name ≡ true → (breaks : Cells → Bool) (rows : List Cells) → list_all (is_small schema) rows ≡ true
      → list_all (may_stand schema) (broken schema rows kind name breaks) ≡ true
  broken_may kind least most name short breaks [] all = refl
  broken_may kind least most name short breaks (row ∷ rows) all =
      let parts = and_parts (is_small schema row) (list_all (is_small schema) rows) all in
      by_test (breaks row) (one_may kind least most name short row parts.0) (broken_may kind least most name short breaks rows parts.1)
    where
      by_test : (b : Bool) → may_stand schema (violation schema kind name row) ≡ true → list_all (may_stand schema) (map (violation schema kind name) (filter breaks rows)) ≡ true
          → list_all (may_stand schema) (map (violation schema kind name) (cond b (row ∷ filter breaks rows) (filter breaks rows))) ≡ true
      by_test true one more = and_from _ _ one more
      by_test false one more = more

  module _ (rows : List Cells) (all : list_all (is_small schema) rows ≡ true) (judges : Checks) (database : PlainDatabase) (name : List ℕ) where
    foreign_may : (one : ForeignKey) → is_short one.name ≡ true → list_all (may_stand schema) (of_foreign database schema rows one) ≡ true
    foreign_may one short = broken_may 1 refl refl one.name short (breaks_foreign (parent_keys database schema one) one.columns) rows all

    index_may : (one : IndexDef) → is_short one.name ≡ true → list_all (may_stand schema) (of_index schema rows one) ≡ true
    index_may one short = by_test one.unique
      where
        by_test : (b : Bool) → list_all (may_stand schema) (cond b (broken schema rows 2 one.name (breaks_unique schema rows one.columns)) []) ≡ true
        by_test true = broken_may 2 refl refl one.name short (breaks_unique schema rows one.columns) rows all
        by_test false = refl

    check_may : (one : CheckDef) → is_short one.name ≡ true → list_all (may_stand schema) (of_check judges name schema rows one) ≡ true
    check_may one short = broken_may 3 refl refl one.name short (breaks_check (judges name schema one.text)) rows all

    column_may : (x : ℕ × Column) → is_short x.1.name ≡ true → list_all (may_stand schema) (of_column schema rows x) ≡ true
    column_may x short = by_test x.1.not_null
      where
        by_test : (b : Bool) → list_all (may_stand schema) (cond b (broken schema rows 4 x.1.name (breaks_not_null x.0)) []) ≡ true
        by_test true = broken_may 4 refl refl x.1.name short (breaks_not_null x.0) rows all
        by_test false = refl

    table_may : is_within_limits schema ≡ true → list_all (may_stand schema) (violations_in judges database name schema rows) ≡ true
    table_may within =
        let foreign_parts = and_parts _ (are_foreign (length schema.columns) schema.foreign) is in
        let check_parts = and_parts _ (are_checks schema.checks) foreign_parts.0 in
        let index_parts = and_parts _ (are_indexes (length schema.columns) schema.indexes) check_parts.0 in
        let column_parts = and_parts (are_columns schema.columns) (is_key schema.columns schema.key) index_parts.0 in
        let limits = and_parts _ (list_all has_short_names schema.foreign) (and_parts _ _ within).0 in
        let limit_checks = and_parts _ (list_all (λ (check : CheckDef). is_short_name check.name) schema.checks) limits.0 in
        let limit_indexes = and_parts _ (list_all (λ (index : IndexDef). is_short_name index.name) schema.indexes) limit_checks.0 in
        let limit_columns = and_parts _ (list_all (λ (column : Column). is_short_name column.name) schema.columns) limit_indexes.0 in
        let fs = flat_map (of_foreign database schema rows) schema.foreign in
        let us = flat_map (of_index schema rows) schema.indexes in
        let cs = flat_map (of_check judges name schema rows) schema.checks in
        let ns = flat_map (of_column schema rows) (enumerate_from 0 schema.columns) in
        let f_may = all_where (λ (one : ForeignKey). is_foreign (length schema.columns) one && has_short_names one) (may_stand schema) (of_foreign database schema rows)
        (λ one t. let both = and_parts (is_foreign (length schema.columns) one) (has_short_names one) t in
        foreign_may one (and_from _ _ (and_parts (is_name one.name) _ (and_parts _ _ (and_parts _ _ (and_parts _ _ both.0).0).0).0).0 (and_parts (is_short_name one.name) _ (and_parts _ _ both.1).0).0))
        schema.foreign (both_where (is_foreign (length schema.columns)) has_short_names schema.foreign (and_parts (are_few schema.foreign) _ (and_parts _ _ foreign_parts.1).0).1 limits.1) in
        let u_may = all_where (λ (one : IndexDef). is_index (length schema.columns) one && is_short_name one.name) (may_stand schema) (of_index schema rows)
        (λ one t. let both = and_parts (is_index (length schema.columns) one) (is_short_name one.name) t in index_may one (and_from _ _ (and_parts (is_name one.name) _ both.0).0 both.1))
        schema.indexes (both_where (is_index (length schema.columns)) (λ (one : IndexDef). is_short_name one.name) schema.indexes (and_parts (are_few schema.indexes) _ (and_parts _ _ index_parts.1).0).1 limit_indexes.1) in
        let c_may = all_where (λ (one : CheckDef). is_check one && is_short_name one.name) (may_stand schema) (of_check judges name schema rows)
        (λ one t. let both = and_parts (is_check one) (is_short_name one.name) t in check_may one (and_from _ _ (and_parts (is_name one.name) _ (and_parts _ _ both.0).0).0 both.1))
        schema.checks (both_where is_check (λ (one : CheckDef). is_short_name one.name) schema.checks (and_parts (are_few schema.checks) _ (and_parts _ _ check_parts.1).0).1 limit_checks.1) in
        let n_may = all_where (λ (x : ℕ × Column). is_column x.1 && is_short_name x.1.name) (may_stand schema) (of_column schema rows)
        (λ x t. let both = and_parts (is_column x.1) (is_short_name x.1.name) t in column_may x (and_from _ _ (and_parts (is_name x.1.name) _ (and_parts _ _ both.0).0).0 both.1))
        (enumerate_from 0 schema.columns) (numbered_all (λ (column : Column). is_column column && is_short_name column.name) 0 schema.columns
        (both_where is_column (λ (column : Column). is_short_name column.name) schema.columns (and_parts (are_few schema.columns) _ (and_parts _ _ column_parts.0).0).1 limit_columns.1)) in
        in_order_all violation_cmp (may_stand schema) (fs ++ us ++ cs ++ ns)
        (list_all-append (may_stand schema) (fs ++ us ++ cs) ns
        ∙ and_from _ _ (list_all-append (may_stand schema) (fs ++ us) cs ∙ and_from _ _ (list_all-append (may_stand schema) fs us ∙ and_from _ _ f_may u_may) c_may) n_may)

-- ---- the tables of a database

module _ (database : PlainDatabase) where
  abbrev own : NamedTable → List Violation
  own named = violations_in checks database named.name named.table.schema named.table.rows

  named_may : (named : NamedTable) → Finds database named → IsTable named.table → is_named_within_limits named ≡ true → list_all (may_stand_in database) (found_in checks database named) ≡ true
  named_may named finds is within =
      let table = (and_parts (is_short_name named.name) (is_table_within_limits named.table) within).1 in
      let open_parts = and_parts _ (list_all (is_violation_within_limits named.table.schema) named.table.violations) table in
      let conflict_parts = and_parts _ _ open_parts.0 in
      let row_parts = and_parts (is_within_limits named.table.schema && nat_le (length named.table.rows) most_rows) (list_all (is_row_within_limits named.table.schema) named.table.rows) conflict_parts.0 in
      let limits = (and_parts (is_within_limits named.table.schema) (nat_le (length named.table.rows) most_rows) row_parts.0).0 in
      list_all-map (may_stand_in database) (λ (one : Violation). record { table = named.name; violation = one }) (own named)
      ∙ ap (λ o. list_all (λ (one : Violation). option_map_or (λ (t : PlainTable). may_stand t.schema one) o false) (own named)) finds
      ∙ table_may named.table.schema is.schema named.table.rows (both_where (is_row named.table.schema) (is_row_within_limits named.table.schema) named.table.rows is.rows row_parts.1) checks database named.name limits

  tables_may : (tables : PlainDatabase) → AllByRecursion (Finds database) tables → AllByRecursion (λ named. IsTable named.table) tables → list_all is_named_within_limits tables ≡ true
      → list_all (may_stand_in database) (flat_map (found_in checks database) tables) ≡ true
  tables_may [] finds are within = refl
  tables_may (named ∷ tables) finds are within =
      let parts = and_parts (is_named_within_limits named) (list_all is_named_within_limits tables) within in
      list_all-append (may_stand_in database) (found_in checks database named) (flat_map (found_in checks database) tables)
      ∙ and_from _ _ (named_may named finds.0 are.0 parts.0) (tables_may tables finds.1 are.1 parts.1)

  -- ---- in order

  found_rises : (name : List ℕ) (list : List Violation) → rises violation_cmp list ≡ true → rises found_cmp (map (λ (one : Violation). record { table = name; violation = one }) list) ≡ true
  found_rises name [] r = refl
  found_rises name (one ∷ []) r = refl
  found_rises name (one ∷ next ∷ list) r =
      let parts = and_parts (is_lt (violation_cmp one next)) (rises violation_cmp (next ∷ list)) r in
      and_from _ _ (ap (λ o. is_lt (ordering_then o (violation_cmp one next))) (tied_itself nat_list_cmp_total name) ∙ parts.0) (found_rises name (next ∷ list) parts.1)

  rises_joined : (xs ys : List Found) → rises found_cmp xs ≡ true → rises found_cmp ys ≡ true → AllByRecursion (λ x. list_all (λ (y : Found). is_lt (found_cmp x y)) ys ≡ true) xs → rises found_cmp (xs ++ ys) ≡ true
  rises_joined [] ys r s below = s
  rises_joined (x ∷ []) [] r s below = refl
  rises_joined (x ∷ []) (y ∷ ys) r s below = and_from _ _ (and_parts (is_lt (found_cmp x y)) (list_all (λ (z : Found). is_lt (found_cmp x z)) ys) below.0).0 s
  rises_joined (x ∷ next ∷ xs) ys r s below =
      let parts = and_parts (is_lt (found_cmp x next)) (rises found_cmp (next ∷ xs)) r in
      and_from _ _ parts.0 (rises_joined (next ∷ xs) ys parts.1 s below.1)

  abbrev is_behind : List ℕ → Found → Bool
  is_behind name one = is_lt (slice_cmp nat_cmp name one.table)

  behind_all : (name : List ℕ) (tables : PlainDatabase) → list_all (λ (named : NamedTable). is_lt (slice_cmp nat_cmp name named.name)) tables ≡ true → list_all (is_behind name) (flat_map (found_in checks database) tables) ≡ true
  behind_all name tables all =
      all_where (λ (named : NamedTable). is_lt (slice_cmp nat_cmp name named.name)) (is_behind name) (found_in checks database)
      (λ named t. list_all-map (is_behind name) (λ (one : Violation). record { table = named.name; violation = one }) (own named) ∙ always (is_lt (slice_cmp nat_cmp name named.name)) t (own named)) tables all
    where
      always : (b : Bool) → b ≡ true → (list : List Violation) → list_all (λ (one : Violation). b) list ≡ true
      always b t [] = refl
      always b t (one ∷ list) = and_from _ _ t (always b t list)

  less_then : (o p : Ordering) → is_lt o ≡ true → is_lt (ordering_then o p) ≡ true
  less_then Less p e = refl
  less_then Equal p e = absurd (true≢false (sym e))
  less_then Greater p e = absurd (true≢false (sym e))

  below_all : (name : List ℕ) (ys : List Found) → list_all (is_behind name) ys ≡ true → (list : List Violation)
      → AllByRecursion (λ x. list_all (λ (y : Found). is_lt (found_cmp x y)) ys ≡ true) (map (λ (one : Violation). record { table = name; violation = one }) list)
  below_all name ys all [] = tt
  below_all name ys all (one ∷ list) = (each ys all, below_all name ys all list)
    where
      each : (zs : List Found) → list_all (is_behind name) zs ≡ true → list_all (λ (y : Found). is_lt (found_cmp (record { table = name; violation = one }) y)) zs ≡ true
      each [] h = refl
      each (z ∷ zs) h =
          let parts = and_parts (is_behind name z) (list_all (is_behind name) zs) h in
          and_from _ _ (less_then (slice_cmp nat_cmp name z.table) (violation_cmp one z.violation) parts.0) (each zs parts.1)

  tables_rise : (tables : PlainDatabase) → Rise tables → AllByRecursion (λ named. IsTable named.table) tables → rises found_cmp (flat_map (found_in checks database) tables) ≡ true
  tables_rise [] r are = refl
  tables_rise (named ∷ tables) r are =
      let is = are.0 in
      let rest = flat_map (found_in checks database) tables in
      rises_joined (found_in checks database named) rest
      (found_rises named.name (own named) (table_rises named.table.schema is.schema named.table.rows is.keys checks database named.name))
      (tables_rise tables (rest_rises named tables r) are.1)
      (below_all named.name rest (behind_all named.name tables (others_after named tables r)) (own named))

  -- ---- each table's own

  of_more : (name : List ℕ) (xs ys : List Found) → violations_of name (xs ++ ys) ≡ violations_of name xs ++ violations_of name ys
  of_more name [] ys = refl
  of_more name (x ∷ xs) ys = by_test (is_of name x) (of_more name xs ys)
    where
      by_test : (b : Bool) → violations_of name (xs ++ ys) ≡ violations_of name xs ++ violations_of name ys
          → map (λ (one : Found). one.violation) (cond b (x ∷ filter (is_of name) (xs ++ ys)) (filter (is_of name) (xs ++ ys)))
          ≡ map (λ (one : Found). one.violation) (cond b (x ∷ filter (is_of name) xs) (filter (is_of name) xs)) ++ violations_of name ys
      by_test true e = ap (λ l. x.violation ∷ l) e
      by_test false e = e

  own_by : (name other : List ℕ) (b : Bool) → bytes_eq other name ≡ b → (list : List Violation) → violations_of name (map (λ (one : Violation). record { table = other; violation = one }) list) ≡ cond b list []
  own_by name other true t [] = refl
  own_by name other false t [] = refl
  own_by name other true t (one ∷ list) =
      ap (λ c. map (λ (x : Found). x.violation) (cond c ((record { table = other; violation = one }) ∷ filter (is_of name) (map (λ (v : Violation). record { table = other; violation = v }) list)) (filter (is_of name) (map (λ (v : Violation). record { table = other; violation = v }) list)))) t
      ∙ ap (λ l. one ∷ l) (own_by name other true t list)
  own_by name other false t (one ∷ list) =
      ap (λ c. map (λ (x : Found). x.violation) (cond c ((record { table = other; violation = one }) ∷ filter (is_of name) (map (λ (v : Violation). record { table = other; violation = v }) list)) (filter (is_of name) (map (λ (v : Violation). record { table = other; violation = v }) list)))) t
      ∙ own_by name other false t list

  other_way : (a b : List ℕ) → bytes_eq a b ≡ false → bytes_eq b a ≡ false
  other_way a b e = two (bytes_eq b a) (λ t. absurd (true≢false (sym ((bytes_decides a b).1 (sym ((bytes_decides b a).0 t))) ∙ e))) (λ t. t)

  none_of : (name : List ℕ) (tables : PlainDatabase) → AllByRecursion (λ (y : NamedTable). bytes_eq y.name name ≡ false) tables → violations_of name (flat_map (found_in checks database) tables) ≡ []
  none_of name [] apart = refl
  none_of name (named ∷ tables) apart =
      of_more name (found_in checks database named) (flat_map (found_in checks database) tables)
      ∙ ap (λ l. l ++ violations_of name (flat_map (found_in checks database) tables)) (own_by name named.name false apart.0 (own named))
      ∙ none_of name tables apart.1

  turned : (x : NamedTable) (tables : PlainDatabase) → AllByRecursion (Lies x) tables → AllByRecursion (λ (y : NamedTable). bytes_eq y.name x.name ≡ false) tables
  turned x [] lies = tt
  turned x (y ∷ tables) lies = (other_way x.name y.name lies.0, turned x tables lies.1)

  abbrev HasOwn : List Found → NamedTable → Type 0
  HasOwn found named = violations_of named.name found ≡ own named

  past_first : (x : NamedTable) (found : List Found) (tables : PlainDatabase) → AllByRecursion (Lies x) tables → AllByRecursion (HasOwn found) tables → AllByRecursion (HasOwn (found_in checks database x ++ found)) tables
  past_first x found [] lies owns = tt
  past_first x found (y ∷ tables) lies owns = (
    of_more y.name (found_in checks database x) found ∙ ap (λ l. l ++ violations_of y.name found) (own_by y.name x.name false lies.0 (own x)) ∙ owns.0,
    past_first x found tables lies.1 owns.1,
  )

  each_own : (tables : PlainDatabase) → Rise tables → AllByRecursion (HasOwn (flat_map (found_in checks database) tables)) tables
  each_own [] r = tt
  each_own (x ∷ tables) r =
      let lies = others_apart x tables r in
      let rest = flat_map (found_in checks database) tables in (
        of_more x.name (found_in checks database x) rest
            ∙ ap (λ l. l ++ violations_of x.name rest) (own_by x.name x.name true ((bytes_decides x.name x.name).1 refl) (own x))
            ∙ ap (λ l. own x ++ l) (none_of x.name tables (turned x tables lies))
            ∙ append-nil (own x),
        past_first x rest tables lies (each_own tables (rest_rises x tables r)),
      )

  recorded_own : (found : List Found) (tables : PlainDatabase) → AllByRecursion (HasOwn found) tables → recorded_as found tables ≡ map (with_all database) tables
  recorded_own found [] owns = refl
  recorded_own found (named ∷ tables) owns = λ i. record { name = named.name; table = with_list named.table (owns.0 i) } ∷ recorded_own found tables owns.1 i

pub all_recorded : AllAreRecorded
all_recorded = record {
  recordable = λ address chunks k database kept.
      let is_database = let stands = kept.stands in stands.is_database in
      record {
        written = refl;
        stand = tables_may database database (each_found database is_database.rise) is_database.tables
            (and_parts (nat_le (length database) most_tables) (list_all is_named_within_limits database) kept.within).1;
        rise = tables_rise database database is_database.rise is_database.tables;
      };
  recorded = λ database is. recorded_own database (violations checks database) database (each_own database database is.rise);
}
