-- The violations of a database are told by the rows that may break a constraint and by those that foreign keys look for.
use Rattle.std.proofs.Common.{◌≡◌, refl, sym, ap, ◌∙◌, subst, ℕ, Bool, true, false, cond, not, ◌&&◌, ◌||◌, true≢false, List, [], ◌∷◌, ◌++◌, map, filter, bytes_eq, Some}
use Rattle.std.specs.Cmp.Lexicographic.{bytes_decides}
use Rattle.std.specs.List.{AllByRecursion, enumerate_from, find, flat_map, list_all, list_any}
use Rattle.std.specs.Option.{option_map, option_map_or}
use Rattle.std.proofs.lemmas.Bool.{and_parts, eqb-true}
use Rattle.tuple_codec.proofs.Truths.{or_late as or_true, not_false as sole_so, not_true}
use Rattle.tuple_codec.specs.Rows.{Cells, cell_at, key_of, same_cells}
use Rattle.tuple_codec.specs.declared.values.Value.{Value}
use Rattle.tuple_codec.specs.declared.values.Value.TheVariants as cell
use Rattle.schema_model.specs.PlainTables.{IsDatabase, NamedTable, PlainDatabase, PlainTable, Violation, violation_cmp}
use Rattle.schema_model.specs.declared.schemas.Column.{Column}
use Rattle.schema_model.specs.declared.schemas.ForeignKey.{ForeignKey}
use Rattle.schema_model.specs.declared.schemas.Schema.{Schema}
use Rattle.plain_sql.specs.Answers.{is_null}
use Rattle.plain_sql.specs.Lists.{in_order}
use Rattle.plain_writes.specs.Violations.{Checks, Found, breaks_foreign, breaks_not_null, broken, found_in, is_called, keys_of_parent, of_check, of_column, of_foreign, of_index, parent_keys, table_in, violation, violations, violations_in}
use Rattle.plain_writes.proofs.RowOrderLemmas.{left_not, right_not}
use Rattle.violation_lists.specs.Scanning.{bare, is_constrained, skeleton}
use Rattle.violation_lists.specs.Thinned.{are_quiet, has_null_key, is_guarded, is_judged, is_parent, is_quiet, is_sole, looks_for, thin_named, thin_rows, thinned}
use Rattle.violation_lists.specs.Written.{fits, fits_in, written, written_in}
use Rattle.violation_lists.proofs.FreeLemmas.{columns_left}
use Rattle.violation_lists.proofs.RefusalLemmas.{by_table, violations_bare}
use Rattle.violation_lists.proofs.WrittenLemmas.{violations_fit}

-- ---- NULL in a primary key of one column

null_is : (a : Value) → same_cells (cell.Null ∷ []) (a ∷ []) ≡ is_null a
null_is cell.Null = refl
null_is (cell.Int n) = refl
null_is (cell.Bool b) = refl
null_is (cell.Text text) = refl
null_is (cell.Bytes bytes) = refl
null_is (cell.Decimal n) = refl

-- rows picked twice by tests that agree
picked_again : (p q : Cells → Bool) → ((row : Cells) → q row ≡ p row) → (rows : List Cells) → filter p (filter q rows) ≡ filter p rows
picked_again p q same [] = refl
picked_again p q same (row ∷ rows) = by (picked_again p q same rows) (q row) (same row) where
  by : filter p (filter q rows) ≡ filter p rows → (b : Bool) → b ≡ p row → filter p (cond b (row ∷ filter q rows) (filter q rows)) ≡ filter p (row ∷ rows)
  by more true e = λ i. cond (p row) (row ∷ more i) (more i)
  by more false e = more ∙ ap (λ b. cond b (row ∷ filter p rows) (filter p rows)) e

nulls_tell : (schema : Schema) (place : ℕ) → schema.key ≡ place ∷ [] → (rows : List Cells) → filter (breaks_not_null place) (filter (has_null_key schema) rows) ≡ filter (breaks_not_null place) rows
nulls_tell schema place sole =
    picked_again (breaks_not_null place) (has_null_key schema) (λ row. ap (λ (key : List ℕ). same_cells (cell.Null ∷ []) (key_of key row)) sole ∙ null_is (cell_at row place))

sole_is : (key : List ℕ) (place : ℕ) → is_sole key place ≡ true → key ≡ place ∷ []
sole_is [] place sole = absurd (true≢false (sym sole))
sole_is (only ∷ []) place sole = ap (λ (n : ℕ). n ∷ []) (eqb-true only place sole)
sole_is (first ∷ second ∷ key) place sole = absurd (true≢false (sym sole))

-- the rows of key NULL
abbrev nulls : Schema → List Cells → List Cells
nulls schema rows = filter (has_null_key schema) rows

column_thin : (schema : Schema) (rows : List Cells) (x : ℕ × Column) → is_guarded schema.key x ≡ false → of_column schema (nulls schema rows) x ≡ of_column schema rows x
column_thin schema rows x = by x.1.not_null where
  by : (b : Bool) → (b && not (is_sole schema.key x.0)) ≡ false
      → cond b (broken schema (nulls schema rows) 4 x.1.name (breaks_not_null x.0)) [] ≡ cond b (broken schema rows 4 x.1.name (breaks_not_null x.0)) []
  by false free = refl
  by true free =
      ap (λ (l : List Cells). map (violation schema 4 x.1.name) l) (nulls_tell schema x.0 (sole_is schema.key x.0 (sole_so (is_sole schema.key x.0) free)) rows)

columns_thin : (schema : Schema) (rows : List Cells) (xs : List (ℕ × Column)) → list_any (is_guarded schema.key) xs ≡ false
    → flat_map (of_column schema (nulls schema rows)) xs ≡ flat_map (of_column schema rows) xs
columns_thin schema rows [] free = refl
columns_thin schema rows (x ∷ xs) free =
    let one = column_thin schema rows x (left_not (is_guarded schema.key x) (list_any (is_guarded schema.key) xs) free) in
    let more = columns_thin schema rows xs (right_not (is_guarded schema.key x) (list_any (is_guarded schema.key) xs) free) in
    λ i. one i ++ more i

none_picked : (p : Cells → Bool) (rows : List Cells) → list_any p rows ≡ false → filter p rows ≡ []
none_picked p [] none = refl
none_picked p (row ∷ rows) none =
    ap (λ b. cond b (row ∷ filter p rows) (filter p rows)) (left_not (p row) (list_any p rows) none) ∙ none_picked p rows (right_not (p row) (list_any p rows) none)

columns_none : (schema : Schema) (xs : List (ℕ × Column)) → flat_map (of_column schema []) xs ≡ []
columns_none schema [] = refl
columns_none schema (x ∷ xs) = by x.1.not_null ∙ columns_none schema xs where
  by : (b : Bool) → cond b (broken schema [] 4 x.1.name (breaks_not_null x.0)) [] ++ flat_map (of_column schema []) xs ≡ flat_map (of_column schema []) xs
  by true = refl
  by false = refl

-- ---- foreign keys look for all rows

true_or : {a : Bool} (b : Bool) → a ≡ true → (a || b) ≡ true
true_or b e = ap (λ a. a || b) e

all_map : {A : Type 0} (P Q : A → Type 0) → ((x : A) → P x → Q x) → (xs : List A) → AllByRecursion P xs → AllByRecursion Q xs
all_map P Q f [] all = tt
all_map P Q f (x ∷ xs) all = (f x all.0, all_map P Q f xs all.1)

abbrev named_in : List ForeignKey → ForeignKey → Bool
named_in list foreign = list_any (λ (other : ForeignKey). bytes_eq other.parent foreign.parent) list

own_looks : (list : List ForeignKey) → AllByRecursion (λ foreign. named_in list foreign ≡ true) list
own_looks [] = tt
own_looks (foreign ∷ list) = (
  true_or (named_in list foreign) ((bytes_decides foreign.parent foreign.parent).1 refl),
  all_map (λ one. named_in list one ≡ true) (λ one. named_in (foreign ∷ list) one ≡ true) (λ one there. or_true (bytes_eq foreign.parent one.parent) there) list (own_looks list),
)

-- each of a table's foreign keys makes a table of the database a parent
abbrev Looks : PlainDatabase → NamedTable → Type 0
Looks database named = AllByRecursion (λ foreign. is_parent database foreign.parent ≡ true) named.table.schema.foreign

each_looks : (database : PlainDatabase) → AllByRecursion (Looks database) database
each_looks [] = tt
each_looks (named ∷ database) = (
  all_map (λ foreign. named_in named.table.schema.foreign foreign ≡ true) (λ foreign. is_parent (named ∷ database) foreign.parent ≡ true)
      (λ foreign there. true_or (is_parent database foreign.parent) there) named.table.schema.foreign (own_looks named.table.schema.foreign),
  all_map (Looks database) (Looks (named ∷ database))
      (λ other. all_map (λ foreign. is_parent database foreign.parent ≡ true) (λ foreign. is_parent (named ∷ database) foreign.parent ≡ true)
      (λ foreign there. or_true (looks_for foreign.parent named.table.schema) there) other.table.schema.foreign) database (each_looks database),
)

module _ (database : PlainDatabase) where
  abbrev thin : NamedTable → NamedTable
  thin named = thin_named database named

  parent_whole : (named : NamedTable) (name : List ℕ) → is_parent database name ≡ true → bytes_eq named.name name ≡ true → thin_rows database named ≡ named.table.rows
  parent_whole named name there same =
      let own = subst (λ (n : List ℕ). is_parent database n ≡ true) (sym ((bytes_decides named.name name).0 same)) there in
      ap (λ b. cond b named.table.rows (nulls named.table.schema named.table.rows)) (or_true (is_judged named.table.schema) own)

  keys_whole : (schema : Schema) (foreign : ForeignKey) → is_parent database foreign.parent ≡ true → (tables : List NamedTable) → parent_keys (map thin tables) schema foreign ≡ parent_keys tables schema foreign
  keys_whole schema foreign there [] = refl
  keys_whole schema foreign there (named ∷ tables) =
      elim (is_called foreign.parent named) as (λ b. is_called foreign.parent named ≡ b
      → option_map_or (keys_of_parent schema foreign) (option_map (λ (one : NamedTable). one.table) (cond b (Some (thin named)) (find (is_called foreign.parent) (map thin tables)))) []
      ≡ option_map_or (keys_of_parent schema foreign) (option_map (λ (one : NamedTable). one.table) (cond b (Some named) (find (is_called foreign.parent) tables))) []) [
        | true ↦ λ same. ap (λ (rows : List Cells). keys_of_parent schema foreign (record { schema = named.table.schema; rows = rows; conflicts = []; violations = [] })) (parent_whole named foreign.parent there same)
        | false ↦ λ other. keys_whole schema foreign there tables
      ] refl

  foreign_whole : (schema : Schema) (rows : List Cells) (list : List ForeignKey) → AllByRecursion (λ foreign. is_parent database foreign.parent ≡ true) list
      → flat_map (of_foreign (thinned database) schema rows) list ≡ flat_map (of_foreign database schema rows) list
  foreign_whole schema rows [] there = refl
  foreign_whole schema rows (foreign ∷ list) there =
      let one = ap (λ (keys : List Cells). broken schema rows 1 foreign.name (breaks_foreign keys foreign.columns)) (keys_whole schema foreign there.0 database) in
      let more = foreign_whole schema rows list there.1 in
      λ i. one i ++ more i

  -- ---- a table's violations

  module _ (checks : Checks) where
    listed_whole : (name : List ℕ) (schema : Schema) (rows : List Cells) → AllByRecursion (λ foreign. is_parent database foreign.parent ≡ true) schema.foreign
        → violations_in checks (thinned database) name schema rows ≡ violations_in checks database name schema rows
    listed_whole name schema rows there =
        ap (λ (l : List Violation). in_order violation_cmp (l ++ flat_map (of_index schema rows) schema.indexes ++ flat_map (of_check checks name schema rows) schema.checks
        ++ flat_map (of_column schema rows) (enumerate_from 0 schema.columns))) (foreign_whole schema rows schema.foreign there)

    -- what columns forbid is all that is left
    columns_tell : (others : PlainDatabase) (name : List ℕ) (schema : Schema) (rows : List Cells) → is_judged schema ≡ false
        → violations_in checks others name schema rows ≡ in_order violation_cmp (flat_map (of_column schema (nulls schema rows)) (enumerate_from 0 schema.columns))
    columns_tell others name schema rows free =
        let unbound = left_not (is_constrained schema) (list_any (is_guarded schema.key) (enumerate_from 0 schema.columns)) free in
        let columns = right_not (is_constrained schema) (list_any (is_guarded schema.key) (enumerate_from 0 schema.columns)) free in
        ap (λ (l : List Violation). in_order violation_cmp l) (columns_left checks others name schema rows unbound ∙ sym (columns_thin schema rows (enumerate_from 0 schema.columns) columns))

    listed_nulls : (name : List ℕ) (schema : Schema) (rows : List Cells) → is_judged schema ≡ false
        → violations_in checks (thinned database) name schema (nulls schema rows) ≡ violations_in checks database name schema rows
    listed_nulls name schema rows free =
        let unbound = left_not (is_constrained schema) (list_any (is_guarded schema.key) (enumerate_from 0 schema.columns)) free in
        ap (λ (l : List Violation). in_order violation_cmp l) (columns_left checks (thinned database) name schema (nulls schema rows) unbound)
        ∙ sym (columns_tell database name schema rows free)

    listed_thin : (named : NamedTable) → Looks database named
        → violations_in checks (thinned database) named.name named.table.schema (thin_rows database named) ≡ violations_in checks database named.name named.table.schema named.table.rows
    listed_thin named looks = by (is_judged named.table.schema || is_parent database named.name) refl where
      by : (b : Bool) → (is_judged named.table.schema || is_parent database named.name) ≡ b
          → violations_in checks (thinned database) named.name named.table.schema (cond b named.table.rows (nulls named.table.schema named.table.rows))
          ≡ violations_in checks database named.name named.table.schema named.table.rows
      by true e = listed_whole named.name named.table.schema named.table.rows looks
      by false e = listed_nulls named.name named.table.schema named.table.rows (left_not (is_judged named.table.schema) (is_parent database named.name) e)

    tables_thin : (tables : List NamedTable) → AllByRecursion (Looks database) tables → flat_map (found_in checks (thinned database)) (map thin tables) ≡ flat_map (found_in checks database) tables
    tables_thin [] look = refl
    tables_thin (named ∷ tables) look =
        let one : found_in checks (thinned database) (thin named) ≡ found_in checks database named =
        ap (map (λ violation. record { table = named.name; violation = violation })) (listed_thin named look.0) in
        let more = tables_thin tables look.1 in
        λ i. one i ++ more i

    pub violations_thin : violations checks (thinned database) ≡ violations checks database
    violations_thin = tables_thin database (each_looks database)

    -- ---- quiet tables have none

    quiet_none : (named : NamedTable) → is_quiet named.table ≡ true → found_in checks database named ≡ []
    quiet_none named quiet =
        let schema = named.table.schema in
        let parts = and_parts (not (is_judged schema)) (not (list_any (has_null_key schema) named.table.rows)) quiet in
        ap (map (λ violation. record { table = named.name; violation = violation }))
        (columns_tell database named.name schema named.table.rows (not_true (is_judged schema) parts.0)
        ∙ ap (λ (rows : List Cells). in_order violation_cmp (flat_map (of_column schema rows) (enumerate_from 0 schema.columns)))
        (none_picked (has_null_key schema) named.table.rows (not_true (list_any (has_null_key schema) named.table.rows) parts.1))
        ∙ ap (λ (l : List Violation). in_order violation_cmp l) (columns_none schema (enumerate_from 0 schema.columns)))

    tables_none : (tables : List NamedTable) → are_quiet tables ≡ true → flat_map (found_in checks database) tables ≡ []
    tables_none [] quiet = refl
    tables_none (named ∷ tables) quiet =
        let parts = and_parts (is_quiet named.table) (are_quiet tables) quiet in
        λ i. quiet_none named parts.0 i ++ tables_none tables parts.1 i

  -- ---- schemas are told

  pub schema_told : {A : Type 0} (f : Schema → A) (none : A) (name : List ℕ) (tables : List NamedTable)
      → option_map_or (λ (table : PlainTable). f table.schema) (table_in (map thin tables) name) none ≡ option_map_or (λ (table : PlainTable). f table.schema) (table_in tables name) none
  schema_told f none name [] = refl
  schema_told f none name (named ∷ tables) =
      elim (is_called name named) as (λ b.
      option_map_or (λ (table : PlainTable). f table.schema) (option_map (λ (one : NamedTable). one.table) (cond b (Some (thin named)) (find (is_called name) (map thin tables)))) none
      ≡ option_map_or (λ (table : PlainTable). f table.schema) (option_map (λ (one : NamedTable). one.table) (cond b (Some named) (find (is_called name) tables))) none) [
        | true ↦ refl
        | false ↦ schema_told f none name tables
      ]

pub written_thin : (checks : Checks) (database : PlainDatabase)
    → flat_map (written_in (thinned database)) (violations checks (thinned database)) ≡ flat_map (written_in database) (violations checks database)
written_thin checks database =
    (λ i. flat_map (λ (found : Found). schema_told database (λ (schema : Schema). written schema found ∷ []) [] found.table database i) (violations_thin database checks i))

fits_bare : (checks : Checks) (database : PlainDatabase) → list_all (fits_in (bare database)) (violations checks (bare database)) ≡ list_all (fits_in database) (violations checks database)
fits_bare checks database =
    λ i. list_all (λ (found : Found). by_table (λ (table : PlainTable). fits table.schema found.violation) true (λ table. refl) database found.table i) (violations_bare checks database i)

fits_thin : (checks : Checks) (database : PlainDatabase) → list_all (fits_in (thinned database)) (violations checks (thinned database)) ≡ list_all (fits_in database) (violations checks database)
fits_thin checks database =
    λ i. list_all (λ (found : Found). schema_told database (λ (schema : Schema). fits schema found.violation) true found.table database i) (violations_thin database checks i)

pub thin_fits : (checks : Checks) (database : PlainDatabase) → IsDatabase database → list_all (fits_in (thinned database)) (violations checks (thinned database)) ≡ true
thin_fits checks database is = fits_thin checks database ∙ sym (fits_bare checks database) ∙ violations_fit checks database is

pub quiet_written : (checks : Checks) (database : PlainDatabase) → are_quiet database ≡ true → flat_map (written_in database) (violations checks database) ≡ []
quiet_written checks database quiet = ap (flat_map (written_in database)) (tables_none database checks database quiet)

-- ---- schemas alone tell what is read

parents_told : (name : List ℕ) (database : PlainDatabase) → is_parent (skeleton database) name ≡ is_parent database name
parents_told name [] = refl
parents_told name (named ∷ database) = ap (λ b. looks_for name named.table.schema || b) (parents_told name database)

-- a table with all of its rows where this holds
abbrev with_rows : NamedTable → Bool → NamedTable
with_rows named whole = record { name = named.name; table = record { schema = named.table.schema; rows = cond whole named.table.rows (nulls named.table.schema named.table.rows); conflicts = []; violations = [] } }

named_told : (database : PlainDatabase) (named : NamedTable) → thin_named (skeleton database) named ≡ thin_named database named
named_told database named = ap (λ b. with_rows named (is_judged named.table.schema || b)) (parents_told named.name database)

pub thinned_told : (database schemas : PlainDatabase) → schemas ≡ skeleton database → map (thin_named schemas) database ≡ thinned database
thinned_told database schemas are =
    ap (λ (s : PlainDatabase). map (thin_named s) database) are ∙ (λ i. map (λ (named : NamedTable). named_told database named i) database)
