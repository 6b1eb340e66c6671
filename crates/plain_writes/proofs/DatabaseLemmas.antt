-- A database with other rows in one table.
use Rattle.std.proofs.Common.{◌≡◌, refl, sym, ap, ◌∙◌, subst, ℕ, suc, Bool, true, false, cond, ◌&&◌, nat_le, nat_lt, nat_cmp, is_lt, List, [], ◌∷◌, length, Option, Some, None, Ok}
use Rattle.std.specs.Cmp.{IsTotalOrder}
use Rattle.std.specs.Cmp.Lexicographic.{bytes_decides, slice_cmp}
use Rattle.std.specs.List.{list_all, AllByRecursion, find}
use Rattle.std.specs.Option.{option_map}
use Rattle.std.proofs.lemmas.Bool.{ltb-false, le-leb}
use Rattle.std.proofs.lemmas.Cmp.{on_total}
use Rattle.tuple_codec.proofs.Lists.{all_both}
use Rattle.tuple_codec.specs.Rows.{Cells}
use Rattle.tuple_codec.proofs.Orders.{key_cmp_total}
use Rattle.schema_model.specs.declared.schemas.Schema.{Schema}
use Rattle.schema_model.specs.Limits.{is_conflict_within_limits, is_named_within_limits, is_row_within_limits, is_short_name, is_table_within_limits, is_violation_within_limits, is_within_limits, most_rows, most_tables}
use Rattle.schema_model.specs.PlainTables.{IsTable, NamedTable, PlainDatabase, PlainTable, is_row, primary_key, rises}
use Rattle.schema_model.specs.Schemas.{is_name}
use Rattle.plain_sql.specs.Lists.{in_order, repeats}
use Rattle.plain_writes.specs.Violations.{Checks, first_violation, is_called, table_in}
use Rattle.plain_writes.specs.Writes.{Effect, by_key, effect_if, filled, keyed_cmp, replaced, replaced_in, result_of, with_rows}
use Rattle.plain_writes.specs.WriteLaws.{IsKept}
use Rattle.plain_writes.proofs.RowOrderLemmas.{both_so, in_order_all, in_order_rises, left_so, right_so, two}
use Rattle.plain_writes.proofs.OutcomeLemmas.{ok_same, then_so, unless_so}
use Rattle.plain_writes.proofs.RowLemmas.{all_left, all_right, is_good}

-- a table within the limits
pub record IsKeptTable (table : PlainTable) : Type 0 where
  pub is_table : IsTable table
  pub within : is_table_within_limits table ≡ true

-- ---- the table found

found_in : (name : List ℕ) (database : PlainDatabase) (table : PlainTable) → AllByRecursion (λ named. IsTable named.table) database → list_all is_named_within_limits database ≡ true
    → option_map (λ (named : NamedTable). named.table) (find (is_called name) database) ≡ Some table → IsKeptTable table
found_in name [] table tables within e = cc
found_in name (named ∷ database) table tables within e = two (is_called name named)
    (λ t. let same : Some named.table ≡ Some table = sym (ap (λ b. option_map (λ (named : NamedTable). named.table) (cond b (Some named) (find (is_called name) database))) t) ∙ e in
    let is : named.table ≡ table = cc in
    subst IsKeptTable is (record { is_table = tables.0; within = right_so (is_short_name named.name) (is_table_within_limits named.table) (left_so (is_named_within_limits named) (list_all is_named_within_limits database) within) }))
    (λ t. found_in name database table tables.1 (right_so (is_named_within_limits named) (list_all is_named_within_limits database) within)
    (sym (ap (λ b. option_map (λ (named : NamedTable). named.table) (cond b (Some named) (find (is_called name) database))) t) ∙ e))

pub found_kept : (name : List ℕ) (database : PlainDatabase) (table : PlainTable) → IsKept database → table_in database name ≡ Some table → IsKeptTable table
found_kept name database table kept e =
    found_in name database table kept.is_database.tables (right_so (nat_le (length database) most_tables) (list_all is_named_within_limits database) kept.within) e

-- ---- the table replaced

pub name_same : (name : List ℕ) (table : PlainTable) (named : NamedTable) → (replaced_in name table named).name ≡ named.name
name_same name table named = two (is_called name named)
    (λ t. ap (λ b. (cond b (record { name = name; table = table }) named).name) t ∙ sym ((bytes_decides named.name name).0 t))
    (λ t. ap (λ b. (cond b (record { name = name; table = table }) named).name) t)

pub names_by : (p : List ℕ → Bool) (name : List ℕ) (table : PlainTable) (database : PlainDatabase) → list_all (λ (named : NamedTable). p named.name) database ≡ true
    → list_all (λ (named : NamedTable). p named.name) (replaced name table database) ≡ true
names_by p name table [] h = refl
names_by p name table (named ∷ database) h =
    both_so (ap p (name_same name table named) ∙ left_so (p named.name) (list_all (λ (named : NamedTable). p named.name) database) h)
    (names_by p name table database (right_so (p named.name) (list_all (λ (named : NamedTable). p named.name) database) h))

pub names_rise : (name : List ℕ) (table : PlainTable) (database : PlainDatabase) → rises (λ (a b : NamedTable). slice_cmp nat_cmp a.name b.name) database ≡ true
    → rises (λ (a b : NamedTable). slice_cmp nat_cmp a.name b.name) (replaced name table database) ≡ true
names_rise name table [] h = refl
names_rise name table (named ∷ []) h = refl
names_rise name table (named ∷ next ∷ database) h =
    both_so ((λ i. is_lt (slice_cmp nat_cmp (name_same name table named i) (name_same name table next i)))
    ∙ left_so (is_lt (slice_cmp nat_cmp named.name next.name)) (rises (λ (a b : NamedTable). slice_cmp nat_cmp a.name b.name) (next ∷ database)) h)
    (names_rise name table (next ∷ database) (right_so (is_lt (slice_cmp nat_cmp named.name next.name)) (rises (λ (a b : NamedTable). slice_cmp nat_cmp a.name b.name) (next ∷ database)) h))

pub tables_are : (P : PlainTable → Type 0) (name : List ℕ) (table : PlainTable) (database : PlainDatabase) → P table → AllByRecursion (λ (named : NamedTable). P named.table) database
    → AllByRecursion (λ (named : NamedTable). P named.table) (replaced name table database)
tables_are P name table [] it others = tt
tables_are P name table (named ∷ database) it others = (
  two (is_called name named)
      (λ t. subst P (sym (ap (λ b. (cond b (record { name = name; table = table }) named).table) t)) it)
      (λ t. subst P (sym (ap (λ b. (cond b (record { name = name; table = table }) named).table) t)) others.0),
  tables_are P name table database it others.1,
)

within_are : (name : List ℕ) (table : PlainTable) (database : PlainDatabase) → is_table_within_limits table ≡ true → list_all is_named_within_limits database ≡ true
    → list_all is_named_within_limits (replaced name table database) ≡ true
within_are name table [] it others = refl
within_are name table (named ∷ database) it others =
    both_so (both_so (ap is_short_name (name_same name table named) ∙ left_so (is_short_name named.name) (is_table_within_limits named.table) first)
    (two (is_called name named)
    (λ t. ap (λ b. is_table_within_limits (cond b (record { name = name; table = table }) named).table) t ∙ it)
    (λ t. ap (λ b. is_table_within_limits (cond b (record { name = name; table = table }) named).table) t ∙ right_so (is_short_name named.name) (is_table_within_limits named.table) first)))
    (within_are name table database it (right_so (is_named_within_limits named) (list_all is_named_within_limits database) others))
  where
    first : is_named_within_limits named ≡ true
    first = left_so (is_named_within_limits named) (list_all is_named_within_limits database) others

pub length_same : (name : List ℕ) (table : PlainTable) (database : PlainDatabase) → length (replaced name table database) ≡ length database
length_same name table [] = refl
length_same name table (named ∷ database) = ap suc (length_same name table database)

pub replaced_kept : (name : List ℕ) (table : PlainTable) (database : PlainDatabase) → IsKeptTable table → IsKept database → IsKept (replaced name table database)
replaced_kept name table database it kept = record {
  is_database = record {
    tables = tables_are IsTable name table database it.is_table kept.is_database.tables;
    names = names_by is_name name table database kept.is_database.names;
    rise = names_rise name table database kept.is_database.rise;
  };
  within = both_so (ap (λ n. nat_le n most_tables) (length_same name table database) ∙ left_so (nat_le (length database) most_tables) (list_all is_named_within_limits database) kept.within)
      (within_are name table database it.within (right_so (nat_le (length database) most_tables) (list_all is_named_within_limits database) kept.within));
}

-- ---- a statement's result

pub limits_so : (table : PlainTable) → is_table_within_limits table ≡ true
    → (is_within_limits table.schema ≡ true) × (list_all (is_row_within_limits table.schema) table.rows ≡ true) × (list_all (is_conflict_within_limits table.schema) table.conflicts ≡ true)
    × (list_all (is_violation_within_limits table.schema) table.violations ≡ true)
limits_so table h =
    let violations = list_all (is_violation_within_limits table.schema) table.violations in
    let conflicts = list_all (is_conflict_within_limits table.schema) table.conflicts in
    let rows = list_all (is_row_within_limits table.schema) table.rows in
    let few = nat_le (length table.rows) most_rows in
    let all_four = left_so (is_within_limits table.schema && few && rows && conflicts) violations h in
    let three = left_so (is_within_limits table.schema && few && rows) conflicts all_four in
    let two_ = left_so (is_within_limits table.schema && few) rows three in (
      left_so (is_within_limits table.schema) few two_,
      right_so (is_within_limits table.schema && few) rows three,
      right_so (is_within_limits table.schema && few && rows) conflicts all_four,
      right_so (is_within_limits table.schema && few && rows && conflicts) violations h,
    )

-- the rows of a table within the limits are good
pub rows_good : (table : PlainTable) → IsKeptTable table → list_all (is_good table.schema) table.rows ≡ true
rows_good table kept = let it = kept.is_table in all_both (is_row table.schema) (is_row_within_limits table.schema) table.rows it.rows (limits_so table kept.within).1

effect_so : (number : Option ℕ) (large : Bool) (given effect : Effect) → effect_if number large given ≡ Ok effect → (large ≡ false) × (given ≡ effect)
effect_so (Some number) large given effect e = cc
effect_so None large given effect e = let parts = unless_so large 9010 (Ok given) effect e in (parts.0, ok_same (Ok given) given effect refl parts.1)

pub few_so : (rows : List Cells) → nat_lt most_rows (length rows) ≡ false → nat_le (length rows) most_rows ≡ true
few_so rows h = le-leb (length rows) most_rows (ltb-false most_rows (length rows) h)

pub keyed_total : (schema : Schema) → IsTotalOrder (keyed_cmp schema)
keyed_total schema = on_total (primary_key schema) key_cmp_total

-- rows in key order, each key once
pub by_key_so : (schema : Schema) (rows sorted : List Cells) → by_key schema rows ≡ Ok sorted → list_all (is_good schema) rows ≡ true
    → (list_all (is_good schema) sorted ≡ true) × (rises (keyed_cmp schema) sorted ≡ true)
by_key_so schema rows sorted e good =
    let parts = unless_so (repeats (keyed_cmp schema) rows) 1062 (Ok (in_order (keyed_cmp schema) rows)) sorted e in
    let same : in_order (keyed_cmp schema) rows ≡ sorted = ok_same (Ok (in_order (keyed_cmp schema) rows)) (in_order (keyed_cmp schema) rows) sorted refl parts.1 in (
      subst (λ l. list_all (is_good schema) l ≡ true) same (in_order_all (keyed_cmp schema) (is_good schema) rows good),
      subst (λ l. rises (keyed_cmp schema) l ≡ true) same (in_order_rises (keyed_cmp schema) (keyed_total schema) rows parts.0),
    )

with_kept : (table : PlainTable) (rows : List Cells) → IsKeptTable table → list_all (is_good table.schema) rows ≡ true → rises (keyed_cmp table.schema) rows ≡ true
    → nat_le (length rows) most_rows ≡ true → IsKeptTable (with_rows table rows)
with_kept table rows kept good rise few =
    let it = kept.is_table in
    let limits = limits_so table kept.within in
    record {
      is_table = record {
        schema = it.schema;
        rows = all_left (is_row table.schema) (is_row_within_limits table.schema) rows good;
        keys = rise;
        conflicts = it.conflicts;
        conflict_keys = it.conflict_keys;
        violations = it.violations;
        violation_keys = it.violation_keys;
      };
      within = both_so (both_so (both_so (both_so limits.0 few) (all_right (is_row table.schema) (is_row_within_limits table.schema) rows good)) limits.2) limits.3;
    }

filled_so : (checks : Checks) (old : PlainDatabase) (name : List ℕ) (table : PlainTable) (count : ℕ) (rows : List Cells) (effect : Effect) → filled checks old name table count rows ≡ Ok effect
    → (nat_lt most_rows (length rows) ≡ false) × (record { database = replaced name (with_rows table rows) old; count = Some count } ≡ effect)
filled_so checks old name table count rows effect e =
    effect_so (first_violation checks old (replaced name (with_rows table rows) old)) (nat_lt most_rows (length rows)) (record { database = replaced name (with_rows table rows) old; count = Some count }) effect e

pub result_kept : (checks : Checks) (old : PlainDatabase) (name : List ℕ) (table : PlainTable) (rows : List Cells) (count : ℕ) (effect : Effect) → IsKept old → IsKeptTable table
    → list_all (is_good table.schema) rows ≡ true → result_of checks old name table rows count ≡ Ok effect → IsKept effect.database
result_kept checks old name table rows count effect kept it good e =
    let ordered = then_so (by_key table.schema rows) (filled checks old name table count) effect e in
    let sorted = by_key_so table.schema rows ordered.0 ordered.1 good in
    let judging = filled_so checks old name table count ordered.0 effect ordered.2 in
    subst (λ (made : Effect). IsKept made.database) judging.1
    (replaced_kept name (with_rows table ordered.0) old (with_kept table ordered.0 it sorted.0 sorted.1 (few_so ordered.0 judging.0)) kept)
