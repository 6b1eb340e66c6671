-- Databases within the limits by their tables, changed table by table.
use Rattle.std.proofs.Common.{◌≡◌, refl, ap, ◌∙◌, true, false, nat_le, nat_cmp, is_lt, List, [], ◌∷◌, length, map}
use Rattle.std.specs.Cmp.Lexicographic.{slice_cmp}
use Rattle.std.specs.List.{list_all, AllByRecursion}
use Rattle.std.specs.declared.cmp.Ordering.{Ordering}
use Rattle.std.proofs.lemmas.Bool.{and_parts}
use Rattle.std.proofs.lemmas.List.{length-map}
use Rattle.schema_model.specs.Limits.{is_named_within_limits, is_row_within_limits, is_short_name, is_table_within_limits, is_violation_within_limits, most_rows, most_tables}
use Rattle.schema_model.specs.PlainTables.{IsTable, NamedTable, PlainDatabase, PlainTable, is_violation, rises}
use Rattle.schema_model.specs.Schemas.{is_name}
use Rattle.plain_sql.specs.Lists.{repeats}
use Rattle.plain_writes.specs.Violations.{violations_in}
use Rattle.plain_writes.specs.Writes.{keyed_cmp}
use Rattle.plain_writes.proofs.SortLemmas.{risen_once}
use Rattle.plain_writes.specs.CheckTexts.{checks}
use Rattle.plain_sessions.specs.CommitRule.{recorded, with_violations}
use Rattle.plain_writes.specs.WriteLaws.{IsKept}
use Rattle.plain_writes.proofs.RowOrderLemmas.{both_so}
use Rattle.plain_writes.proofs.RowLemmas.{all_left, all_right}
use Rattle.plain_writes.proofs.DatabaseLemmas.{IsKeptTable, keyed_total, limits_so, rows_good}
use Rattle.keep_laws.proofs.RecordingLemmas.{violations_well}

-- ---- by its tables

abbrev pub by_name : NamedTable → NamedTable → Ordering
by_name a b = slice_cmp nat_cmp a.name b.name

pub record IsKeptNamed (named : NamedTable) : Type 0 where
  pub is_name : is_name named.name ≡ true
  pub short : is_short_name named.name ≡ true
  pub table : IsKeptTable named.table

-- tables within the limits by rising names, however many
pub record AreKept (database : PlainDatabase) : Type 0 where
  pub tables : AllByRecursion IsKeptNamed database
  pub rise : rises by_name database ≡ true

pub have_so : {A : Type 0} (P Q : A → Type 0) (xs : List A) → ((x : A) → P x → Q x) → AllByRecursion P xs → AllByRecursion Q xs
have_so P Q [] f h = tt
have_so P Q (x ∷ xs) f h = (f x h.0, have_so P Q xs f h.1)

tables_of : (database : PlainDatabase) → AllByRecursion (λ named. IsTable named.table) database → list_all (λ named. is_name named.name) database ≡ true
    → list_all is_named_within_limits database ≡ true → AllByRecursion IsKeptNamed database
tables_of [] tables names within = tt
tables_of (named ∷ database) tables names within =
    let name = and_parts (is_name named.name) (list_all (λ (named : NamedTable). is_name named.name) database) names in
    let limits = and_parts (is_named_within_limits named) (list_all is_named_within_limits database) within in
    let here = and_parts (is_short_name named.name) (is_table_within_limits named.table) limits.0 in
    (record { is_name = name.0; short = here.0; table = record { is_table = tables.0; within = here.1 } }, tables_of database tables.1 name.1 limits.1)

pub are_kept : (database : PlainDatabase) → IsKept database → AreKept database
are_kept database kept = record {
  tables = tables_of database kept.is_database.tables kept.is_database.names (and_parts (nat_le (length database) most_tables) (list_all is_named_within_limits database) kept.within).1;
  rise = kept.is_database.rise;
}

pub few_tables : (database : PlainDatabase) → IsKept database → nat_le (length database) most_tables ≡ true
few_tables database kept = (and_parts (nat_le (length database) most_tables) (list_all is_named_within_limits database) kept.within).0

names_are : (database : PlainDatabase) → AllByRecursion IsKeptNamed database → list_all (λ named. is_name named.name) database ≡ true
names_are [] h = refl
names_are (named ∷ database) h = let here = h.0 in both_so here.is_name (names_are database h.1)

pub within_are : (database : PlainDatabase) → AllByRecursion IsKeptNamed database → list_all is_named_within_limits database ≡ true
within_are [] h = refl
within_are (named ∷ database) h = let here = h.0 in let table = here.table in both_so (both_so here.short table.within) (within_are database h.1)

pub is_kept : (database : PlainDatabase) → AreKept database → nat_le (length database) most_tables ≡ true → IsKept database
is_kept database are few = record {
  is_database = record {
    tables = have_so IsKeptNamed (λ named. IsTable named.table) database (λ named h. let table = h.table in table.is_table) are.tables;
    names = names_are database are.tables;
    rise = are.rise;
  };
  within = both_so few (within_are database are.tables);
}

-- ---- each table changed

module _ (f : NamedTable → NamedTable) (same : (named : NamedTable) → (f named).name ≡ named.name) where
  mapped_rise : (database : PlainDatabase) → rises by_name database ≡ true → rises by_name (map f database) ≡ true
  mapped_rise [] h = refl
  mapped_rise (named ∷ []) h = refl
  mapped_rise (named ∷ next ∷ database) h =
      let parts = and_parts (is_lt (by_name named next)) (rises by_name (next ∷ database)) h in
      both_so ((λ i. is_lt (slice_cmp nat_cmp (same named i) (same next i))) ∙ parts.0) (mapped_rise (next ∷ database) parts.1)

  mapped_tables : (database : PlainDatabase) → AllByRecursion IsKeptNamed database → AllByRecursion (λ named. IsKeptTable (f named).table) database → AllByRecursion IsKeptNamed (map f database)
  mapped_tables [] h g = tt
  mapped_tables (named ∷ database) h g =
      let here = h.0 in
      (record { is_name = ap is_name (same named) ∙ here.is_name; short = ap is_short_name (same named) ∙ here.short; table = g.0 }, mapped_tables database h.1 g.1)

  pub mapped_kept : (database : PlainDatabase) → IsKept database → AllByRecursion (λ named. IsKeptTable (f named).table) database → IsKept (map f database)
  mapped_kept database kept tables =
      let are = are_kept database kept in
      is_kept (map f database) (record { tables = mapped_tables database are.tables tables; rise = mapped_rise database are.rise })
      (ap (λ n. nat_le n most_tables) (length-map database f) ∙ few_tables database kept)

-- ---- violations recorded

pub rows_once : (table : PlainTable) → IsTable table → repeats (keyed_cmp table.schema) table.rows ≡ false
rows_once table is = risen_once (keyed_cmp table.schema) (keyed_total table.schema) table.rows is.keys

pub few_rows : (table : PlainTable) → is_table_within_limits table ≡ true → nat_le (length table.rows) most_rows ≡ true
few_rows table h =
    (and_parts _ (nat_le (length table.rows) most_rows) (and_parts _ (list_all (is_row_within_limits table.schema) table.rows) (and_parts _ _ (and_parts _ _ h).0).0).0).1

recorded_table : (database : PlainDatabase) (named : NamedTable) → IsKeptTable named.table → IsKeptTable (with_violations database named).table
recorded_table database named kept =
    let table = named.table in
    let is = kept.is_table in
    let limits = limits_so table kept.within in
    let found = violations_well checks database named.name table.schema table.rows is.schema limits.0 (rows_good table kept) (rows_once table is) in
    let list = violations_in checks database named.name table.schema table.rows in
    record {
      is_table = record {
        schema = is.schema;
        rows = is.rows;
        keys = is.keys;
        conflicts = is.conflicts;
        conflict_keys = is.conflict_keys;
        violations = all_left (is_violation table.schema) (is_violation_within_limits table.schema) list found.0;
        violation_keys = found.1;
      };
      within = both_so (both_so (both_so (both_so limits.0 (few_rows table kept.within)) limits.1) limits.2) (all_right (is_violation table.schema) (is_violation_within_limits table.schema) list found.0);
    }

pub recorded_kept : (database : PlainDatabase) → IsKept database → IsKept (recorded database)
unfolding recorded
recorded_kept database kept =
    let are = are_kept database kept in
    mapped_kept (with_violations database) (λ named. refl) database kept
    (have_so IsKeptNamed (λ named. IsKeptTable (with_violations database named).table) database (λ named h. recorded_table database named h.table) are.tables)
