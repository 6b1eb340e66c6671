-- Conflicts resolved: theirs' rows at the conflicts' keys are rows of the table, each key once.
use Rattle.std.proofs.Common.{◌≡◌, refl, sym, ap, ◌∙◌, subst, ℕ, Bool, true, false, cond, not, ◌&&◌, true≢false, nat_le, nat_lt, List, [], ◌∷◌, ◌++◌, filter, length, Option, None, Some, Ok}
use Rattle.std.specs.List.{AllByRecursion, flat_map, list_all, list_any}
use Rattle.std.specs.Option.{option_to_list}
use Rattle.std.specs.Ordering.{is_eq}
use Rattle.std.specs.declared.cmp.Ordering.{Ordering}
use Rattle.std.proofs.lemmas.Bool.{and_parts, not-true, or_left, or_parts, or_right, false_from_ne_true as not_so}
use Rattle.std.proofs.lemmas.Cmp.{on_total}
use Rattle.tuple_codec.proofs.Lists.{all_append}
use Rattle.tuple_codec.proofs.Truths.{not_false}
use Rattle.tuple_codec.specs.Rows.{Cells, key_cmp, same_cells}
use Rattle.tuple_codec.proofs.Orders.{cells_told, key_cmp_total}
use Rattle.schema_model.specs.Limits.{is_conflict_within_limits, is_row_within_limits, is_short_key, is_short_row, is_short_side, most_rows}
use Rattle.schema_model.specs.PlainTables.{Conflict, NamedTable, PlainDatabase, PlainTable, is_conflict, is_row, is_side_at, primary_key, rises}
use Rattle.schema_model.specs.declared.schemas.Schema.{Schema}
use Rattle.sql_procedures.specs.declared.requests.Resolution.{Resolution}
use Rattle.sql_procedures.specs.declared.requests.Side.{Side}
use Rattle.sql_procedures.specs.declared.requests.Side.TheVariants as side
use Rattle.expr_eval.specs.Binding.{Outcome}
use Rattle.plain_sql.specs.Lists.{each, has, repeats, unless}
use Rattle.plain_writes.specs.CheckTexts.{checks}
use Rattle.plain_writes.specs.Violations.{first_violation}
use Rattle.plain_writes.specs.Writes.{keyed_cmp}
use Rattle.plain_writes.proofs.SortLemmas.{risen_once}
use Rattle.plain_sessions.specs.Merging.{breaks_index, breaks_null, database_after, has_too_many_rows, is_conflicted, is_meant, is_theirs, may_settle, names_meant, resolve, rows_after, settled_table, table_after, takes_bad_row, takes_theirs, their_rows, unless_violated}
use Rattle.keep_laws.proofs.ListLemmas.{filter_all, filter_keep}
use Rattle.plain_writes.specs.WriteLaws.{IsKept}
use Rattle.plain_writes.proofs.DatabaseLemmas.{IsKeptTable, keyed_total, limits_so, rows_good, few_so}
use Rattle.plain_writes.proofs.RowOrderLemmas.{both_so, in_order_all, in_order_rises, neither_so, two}
use Rattle.plain_writes.proofs.OutcomeLemmas.{then_so, unless_so}
use Rattle.plain_writes.proofs.RowLemmas.{all_left, all_right, is_good}
use Rattle.keep_laws.proofs.KeptLemmas.{IsKeptNamed, are_kept, few_rows, mapped_kept, rows_once}
use Rattle.keep_laws.proofs.OnceLemmas.{all_so, once_append}
use Rattle.keep_laws.proofs.TestLemmas.{ok_has}

-- ---- filtered

filter_none : {A : Type 0} (keep p : A → Bool) (xs : List A) → list_any p xs ≡ false → list_any p (filter keep xs) ≡ false
filter_none keep p [] h = refl
filter_none keep p (x ∷ xs) h =
    let parts = or_parts (p x) (list_any p xs) h in
    let rest = filter_none keep p xs parts.1 in
    elim (keep x) as (λ b. list_any p (cond b (x ∷ filter keep xs) (filter keep xs)) ≡ false) [
      | true ↦ neither_so parts.0 rest
      | false ↦ rest
    ]

filter_once : {A : Type 0} (compare : A → A → Ordering) (keep : A → Bool) (xs : List A) → repeats compare xs ≡ false → repeats compare (filter keep xs) ≡ false
filter_once compare keep [] h = refl
filter_once compare keep (x ∷ xs) h =
    let parts = or_parts (has compare xs x) (repeats compare xs) h in
    let here = filter_none keep (λ y. is_eq (compare x y)) xs parts.0 in
    let rest = filter_once compare keep xs parts.1 in
    elim (keep x) as (λ b. repeats compare (cond b (x ∷ filter keep xs) (filter keep xs)) ≡ false) [
      | true ↦ neither_so here rest
      | false ↦ rest
    ]

-- ---- theirs' rows

abbrev theirs_of : List Conflict → List Cells
theirs_of conflicts = flat_map (λ (conflict : Conflict). option_to_list conflict.theirs) conflicts

abbrev by_key : Conflict → Conflict → Ordering
by_key a b = key_cmp a.key b.key

abbrev conflicted_in : Schema → List Conflict → Cells → Bool
conflicted_in schema conflicts row = list_any (λ (conflict : Conflict). same_cells conflict.key (primary_key schema row)) conflicts

module _ (schema : Schema) where
  -- a side's row has the conflict's key
  at_key : (key row : Cells) → is_side_at schema key (Some row) ≡ true → primary_key schema row ≡ key
  at_key key row h = (cells_told (primary_key schema row) key).0 (and_parts (is_row schema row) (is_eq (key_cmp (primary_key schema row) key)) h).1

  side_of : (conflict : Conflict) → is_conflict schema conflict ≡ true → is_side_at schema conflict.key conflict.theirs ≡ true
  side_of conflict h = (and_parts _ (is_side_at schema conflict.key conflict.theirs) h).1

  row_good : (key row : Cells) → is_side_at schema key (Some row) ≡ true → is_short_key key ≡ true → is_short_row schema row ≡ true → breaks_index schema row ≡ false → is_good schema row ≡ true
  row_good key row at short small index =
      let parts = and_parts (is_row schema row) (is_eq (key_cmp (primary_key schema row) key)) at in
      both_so parts.0 (both_so (both_so (ap is_short_key (at_key key row at) ∙ short) (not_false _ index)) small)

  theirs_good : (conflicts : List Conflict) → list_all (is_conflict schema) conflicts ≡ true → list_all (is_conflict_within_limits schema) conflicts ≡ true
      → list_any (breaks_index schema) (theirs_of conflicts) ≡ false → list_all (is_good schema) (theirs_of conflicts) ≡ true
  theirs_good [] h g b = refl
  theirs_good (conflict ∷ conflicts) h g b =
      let here = and_parts (is_conflict schema conflict) (list_all (is_conflict schema) conflicts) h in
      let small = and_parts (is_conflict_within_limits schema conflict) (list_all (is_conflict_within_limits schema) conflicts) g in
      let sides = and_parts _ (is_short_side schema conflict.theirs) small.0 in
      let short = and_parts (is_short_key conflict.key) _ (and_parts _ _ sides.0).0 in
      by conflict.theirs (side_of conflict here.0) short.0 sides.1 b (λ more. theirs_good conflicts here.1 small.1 more) where
        by : (o : Option Cells) → is_side_at schema conflict.key o ≡ true → is_short_key conflict.key ≡ true → is_short_side schema o ≡ true
            → list_any (breaks_index schema) (option_to_list o ++ theirs_of conflicts) ≡ false
            → (list_any (breaks_index schema) (theirs_of conflicts) ≡ false → list_all (is_good schema) (theirs_of conflicts) ≡ true)
            → list_all (is_good schema) (option_to_list o ++ theirs_of conflicts) ≡ true
        by None at short small b more = more b
        by (Some row) at short small b more =
            let parts = or_parts (breaks_index schema row) (list_any (breaks_index schema) (theirs_of conflicts)) b in
            both_so (row_good conflict.key row at short small parts.0) (more parts.1)

  theirs_in : (conflicts : List Conflict) → list_all (is_conflict schema) conflicts ≡ true → list_all (conflicted_in schema conflicts) (theirs_of conflicts) ≡ true
  theirs_in [] h = refl
  theirs_in (conflict ∷ conflicts) h =
      let here = and_parts (is_conflict schema conflict) (list_all (is_conflict schema) conflicts) h in
      by conflict.theirs (side_of conflict here.0)
      (all_so (conflicted_in schema conflicts) (conflicted_in schema (conflict ∷ conflicts)) (theirs_of conflicts) (λ row e. or_right (same_cells conflict.key (primary_key schema row)) _ e) (theirs_in conflicts here.1)) where
        by : (o : Option Cells) → is_side_at schema conflict.key o ≡ true → list_all (conflicted_in schema (conflict ∷ conflicts)) (theirs_of conflicts) ≡ true
            → list_all (conflicted_in schema (conflict ∷ conflicts)) (option_to_list o ++ theirs_of conflicts) ≡ true
        by None at more = more
        by (Some row) at more = both_so (or_left _ _ ((cells_told conflict.key (primary_key schema row)).1 (sym (at_key conflict.key row at)))) more

  none_theirs : (row : Cells) (conflicts : List Conflict) → list_all (is_conflict schema) conflicts ≡ true
      → list_any (λ (other : Conflict). is_eq (key_cmp (primary_key schema row) other.key)) conflicts ≡ false → has (keyed_cmp schema) (theirs_of conflicts) row ≡ false
  none_theirs row [] h g = refl
  none_theirs row (conflict ∷ conflicts) h g =
      let here = and_parts (is_conflict schema conflict) (list_all (is_conflict schema) conflicts) h in
      let apart = or_parts (is_eq (key_cmp (primary_key schema row) conflict.key)) (list_any (λ (other : Conflict). is_eq (key_cmp (primary_key schema row) other.key)) conflicts) g in
      by conflict.theirs (side_of conflict here.0) apart.0 (none_theirs row conflicts here.1 apart.1) where
        by : (o : Option Cells) → is_side_at schema conflict.key o ≡ true → is_eq (key_cmp (primary_key schema row) conflict.key) ≡ false → has (keyed_cmp schema) (theirs_of conflicts) row ≡ false
            → has (keyed_cmp schema) (option_to_list o ++ theirs_of conflicts) row ≡ false
        by None at apart more = more
        by (Some other) at apart more = neither_so (ap (λ (k : Cells). is_eq (key_cmp (primary_key schema row) k)) (at_key conflict.key other at) ∙ apart) more

  theirs_once : (conflicts : List Conflict) → list_all (is_conflict schema) conflicts ≡ true → repeats by_key conflicts ≡ false → repeats (keyed_cmp schema) (theirs_of conflicts) ≡ false
  theirs_once [] h g = refl
  theirs_once (conflict ∷ conflicts) h g =
      let here = and_parts (is_conflict schema conflict) (list_all (is_conflict schema) conflicts) h in
      let once = or_parts (has by_key conflicts conflict) (repeats by_key conflicts) g in
      by conflict.theirs (side_of conflict here.0) here.1 once.0 (theirs_once conflicts here.1 once.1) where
        by : (o : Option Cells) → is_side_at schema conflict.key o ≡ true → list_all (is_conflict schema) conflicts ≡ true → has by_key conflicts conflict ≡ false
            → repeats (keyed_cmp schema) (theirs_of conflicts) ≡ false → repeats (keyed_cmp schema) (option_to_list o ++ theirs_of conflicts) ≡ false
        by None at h g more = more
        by (Some row) at h g more =
            neither_so (none_theirs row conflicts h (ap (λ (k : Cells). list_any (λ (other : Conflict). is_eq (key_cmp k other.key)) conflicts) (at_key conflict.key row at) ∙ g)) more

-- ---- a table without conflicts

without_conflicts : (table : PlainTable) (rows : List Cells) → IsKeptTable table → list_all (is_good table.schema) rows ≡ true
    → rises (keyed_cmp table.schema) rows ≡ true → nat_le (length rows) most_rows ≡ true → IsKeptTable (record table { rows = rows; conflicts = [] })
without_conflicts table rows kept good rise few =
    let is = kept.is_table in
    let limits = limits_so table kept.within in
    record {
      is_table = record {
        schema = is.schema;
        rows = all_left (is_row table.schema) (is_row_within_limits table.schema) rows good;
        keys = rise;
        conflicts = refl;
        conflict_keys = refl;
        violations = is.violations;
        violation_keys = is.violation_keys;
      };
      within = both_so (both_so (both_so (both_so limits.0 few) (all_right (is_row table.schema) (is_row_within_limits table.schema) rows good)) refl) limits.3;
    }

module _ (table : PlainTable) (kept : IsKeptTable table) where
  kept_apart : (x y : Cells) → not (is_conflicted table x) ≡ true → is_conflicted table y ≡ true → is_eq (keyed_cmp table.schema x y) ≡ false
  kept_apart x y p q = not_so _ (λ e.
      let same : primary_key table.schema x ≡ primary_key table.schema y = (cells_told (primary_key table.schema x) (primary_key table.schema y)).0 e in
      let alike : is_conflicted table x ≡ is_conflicted table y = ap (λ (k : Cells). list_any (λ (conflict : Conflict). same_cells conflict.key k) table.conflicts) same in
      true≢false (sym q ∙ sym alike ∙ not-true _ p))

  abbrev staying : List Cells
  staying = filter (λ (row : Cells). not (is_conflicted table row)) table.rows

  -- the rows that stay, and theirs: each within the limits, and no key twice
  pub both_good : list_any (breaks_index table.schema) (their_rows table) ≡ false → list_all (is_good table.schema) (staying ++ their_rows table) ≡ true
  both_good short =
      let is = kept.is_table in
      let limits = limits_so table kept.within in
      all_append (is_good table.schema) staying (their_rows table) (filter_all (λ (row : Cells). not (is_conflicted table row)) (is_good table.schema) table.rows (rows_good table kept))
      (theirs_good table.schema table.conflicts is.conflicts limits.2 short)

  pub both_once : repeats (keyed_cmp table.schema) (staying ++ their_rows table) ≡ false
  both_once =
      let is = kept.is_table in
      let keep = λ (row : Cells). not (is_conflicted table row) in
      once_append (keyed_cmp table.schema) keep (is_conflicted table) kept_apart staying (their_rows table) (filter_keep keep table.rows) (theirs_in table.schema table.conflicts is.conflicts)
      (filter_once (keyed_cmp table.schema) keep table.rows (rows_once table is))
      (theirs_once table.schema table.conflicts is.conflicts (risen_once by_key (on_total (λ (conflict : Conflict). conflict.key) key_cmp_total) table.conflicts is.conflict_keys))

  theirs_kept : list_any (breaks_index table.schema) (their_rows table) ≡ false → nat_le (length (rows_after side.Theirs table)) most_rows ≡ true
      → IsKeptTable (record table { rows = rows_after side.Theirs table; conflicts = [] })
  theirs_kept short few =
      without_conflicts table (rows_after side.Theirs table) kept
      (in_order_all (keyed_cmp table.schema) (is_good table.schema) (staying ++ their_rows table) (both_good short))
      (in_order_rises (keyed_cmp table.schema) (keyed_total table.schema) (staying ++ their_rows table) both_once)
      few

  side_kept : (way : Side) (meant : Bool) → meant ≡ true → ((is_theirs way && meant) && list_any (breaks_index table.schema) (their_rows table)) ≡ false
      → nat_le (length (rows_after way table)) most_rows ≡ true → IsKeptTable (record table { rows = rows_after way table; conflicts = [] })
  side_kept side.Ours meant m short few = let is = kept.is_table in without_conflicts table table.rows kept (rows_good table kept) is.keys (few_rows table kept.within)
  side_kept side.Theirs meant m short few = theirs_kept (sym (ap (λ b. b && list_any (breaks_index table.schema) (their_rows table)) m) ∙ short) few

-- ---- a database

same_name : (request : Resolution) (named : NamedTable) → (table_after request named).name ≡ named.name
same_name request named = elim (is_meant request.tables named.name) as (λ b. (cond b (settled_table request named) named).name ≡ named.name) [
  | true ↦ refl
  | false ↦ refl
]

after_kept : (request : Resolution) (named : NamedTable) → IsKeptTable named.table
    → (takes_theirs request named && list_any (breaks_index named.table.schema) (their_rows named.table)) ≡ false
    → nat_lt most_rows (length (table_after request named).table.rows) ≡ false → IsKeptTable (table_after request named).table
after_kept request named kept short few = two (is_meant request.tables named.name)
    (λ m. let whole : table_after request named ≡ settled_table request named = ap (λ b. cond b (settled_table request named) named) m in
    subst (λ (one : NamedTable). IsKeptTable one.table) (sym whole)
    (side_kept named.table kept request.side (is_meant request.tables named.name) m short
    (few_so (rows_after request.side named.table) (sym (ap (λ (one : NamedTable). nat_lt most_rows (length one.table.rows)) whole) ∙ few))))
    (λ m. subst (λ (one : NamedTable). IsKeptTable one.table) (sym (ap (λ b. cond b (settled_table request named) named) m)) kept)

all_after : (request : Resolution) (database : PlainDatabase) → AllByRecursion IsKeptNamed database → takes_bad_row breaks_index request database ≡ false
    → has_too_many_rows (database_after request database) ≡ false → AllByRecursion (λ named. IsKeptTable (table_after request named).table) database
all_after request [] tables short few = tt
all_after request (named ∷ database) tables short few =
    let one = or_parts (takes_theirs request named && list_any (breaks_index named.table.schema) (their_rows named.table)) (takes_bad_row breaks_index request database) short in
    let size = or_parts (nat_lt most_rows (length (table_after request named).table.rows)) (has_too_many_rows (database_after request database)) few in
    let here = tables.0 in
    (after_kept request named here.table one.0 size.0, all_after request database tables.1 one.1 size.1)

violated_so : (o : Option ℕ) (database after : PlainDatabase) → unless_violated o database ≡ Ok after → (has_too_many_rows database ≡ false) × (◌≡◌ {A = Outcome PlainDatabase} (Ok database) (Ok after))
violated_so (Some number) database after e = cc
violated_so None database after e = unless_so (has_too_many_rows database) 9010 (Ok database) after e

pub resolved_kept : (request : Resolution) (database after : PlainDatabase) → IsKept database → resolve request database ≡ Ok after → IsKept after
resolved_kept request database after kept e =
    let made = database_after request database in
    let judged = unless_violated (first_violation checks database made) made in
    let names = then_so (each (may_settle database) (names_meant request.tables)) (λ names.
    unless (takes_bad_row breaks_null request database) 1048 (unless (takes_bad_row breaks_index request database) 9010 judged)) after e in
    let nulls = unless_so (takes_bad_row breaks_null request database) 1048 (unless (takes_bad_row breaks_index request database) 9010 judged) after names.2 in
    let short = unless_so (takes_bad_row breaks_index request database) 9010 judged after nulls.1 in
    let few = violated_so (first_violation checks database made) made after short.1 in
    let are = are_kept database kept in
    ok_has IsKept made after (mapped_kept (table_after request) (same_name request) database kept (all_after request database are.tables short.0 few.0)) few.1
