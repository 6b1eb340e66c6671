-- What DELETE of conflicts and of recorded violations leaves.
use Rattle.std.proofs.Common.{◌≡◌, ◌∙◌, refl, sym, ap, subst, ℕ, Bool, true, false, cond, is_lt, is_some, List, [], ◌∷◌, ◌++◌, Option, None, Some, Ok}
use Rattle.std.specs.Cmp.{IsTotalOrder}
use Rattle.std.specs.List.{list_all}
use Rattle.std.specs.declared.cmp.Ordering.{Ordering}
use Rattle.std.proofs.lemmas.Bool.{and_parts}
use Rattle.std.proofs.lemmas.Cmp.{on_total}
use Rattle.tuple_codec.proofs.Lists.{all_append}
use Rattle.tuple_codec.proofs.Orderings.{less_is as less_so}
use Rattle.tuple_codec.proofs.Options.{some_is as some_so}
use Rattle.tuple_codec.specs.Rows.{Cells, key_cmp}
use Rattle.tuple_codec.proofs.Orders.{key_cmp_total}
use Rattle.schema_model.specs.Limits.{is_conflict_within_limits, is_violation_within_limits}
use Rattle.schema_model.specs.PlainTables.{Conflict, PlainTable, Violation, is_conflict, is_violation, rises, violation_cmp}
use Rattle.sql_ast.specs.declared.statements.Delete.{Delete}
use Rattle.sql_rules.specs.Writes.{is_below}
use Rattle.expr_eval.specs.Binding.{Outcome, and_then}
use Rattle.plain_sql.specs.Answers.{Meaning, passes}
use Rattle.plain_sql.specs.Lists.{all_of, or_refuse}
use Rattle.plain_writes.specs.Violations.{table_in}
use Rattle.plain_sessions.specs.Branching.{put_table}
use Rattle.plain_sessions.specs.Merging.{Worked}
use Rattle.plain_sessions.specs.Records.{BranchState}
use Rattle.plain_sessions.specs.SystemTables.{behind, conflict_columns, conflict_row, conflicts_front, delete_by, delete_conflicts, delete_entries, delete_violations, entries_left, entry_if, entry_left, tests_on, violation_columns, violation_row, violations_front, with_table, keeping_conflicts, without_violations}
use Rattle.plain_writes.proofs.DatabaseLemmas.{IsKeptTable, limits_so}
use Rattle.plain_writes.proofs.RowOrderLemmas.{both_so, two, violation_total}
use Rattle.plain_writes.proofs.OutcomeLemmas.{found_so, then_so}
use Rattle.keep_laws.specs.StateLaws.{IsKeptState, IsKeptWork}
use Rattle.keep_laws.proofs.KeptLemmas.{IsKeptNamed, are_kept, few_rows, few_tables, is_kept}
use Rattle.keep_laws.proofs.PutLemmas.{IsFoundWell, found_well, put_few, put_kept}
use Rattle.keep_laws.proofs.TestLemmas.{ok_has}

-- ---- what no test chooses

module _ {A : Type 0} (tests : List Meaning) (row : A → Cells) where
  left_all : (p : A → Bool) (entries left : List A) → list_all p entries ≡ true → entries_left tests row entries ≡ Ok left → list_all p left ≡ true
  left_all p [] left h e = ok_has (λ (l : List A). list_all p l ≡ true) [] left refl e
  left_all p (x ∷ xs) left h e =
      let first = then_so (entry_left tests row x) (λ ys. and_then (all_of (entry_left tests row) xs) (λ more. Ok (ys ++ more))) left e in
      let rest = then_so (all_of (entry_left tests row) xs) (λ more. Ok (first.0 ++ more)) left first.2 in
      let chosen = then_so (passes tests (row x)) (λ chosen. Ok (entry_if x chosen)) first.0 first.1 in
      let parts = and_parts (p x) (list_all p xs) h in
      let here : list_all p (entry_if x chosen.0) ≡ true = elim chosen.0 as (λ b. list_all p (cond b [] (x ∷ [])) ≡ true) [ true ↦ refl | false ↦ both_so parts.0 refl ] in
      ok_has (λ (l : List A). list_all p l ≡ true) (first.0 ++ rest.0) left
      (all_append p first.0 rest.0 (ok_has (λ (l : List A). list_all p l ≡ true) (entry_if x chosen.0) first.0 here chosen.2) (left_all p xs rest.0 parts.1 rest.1)) rest.2

  module _ (compare : A → A → Ordering) (total : IsTotalOrder compare) where
    abbrev is_past : Option A → A → Bool
    is_past None x = true
    is_past (Some low) x = is_lt (compare low x)

    abbrev Rise : Option A → List A → Type 0
    Rise low [] = Unit {0}
    Rise low (x ∷ xs) = (is_past low x ≡ true) × Rise (Some x) xs

    past_through : (low : Option A) (x y : A) → is_past low x ≡ true → is_past (Some x) y ≡ true → is_past low y ≡ true
    past_through None x y p q = refl
    past_through (Some low) x y p q = ap is_lt (total.trans low x y (less_so _ p) (less_so _ q))

    lower : (low : Option A) (x : A) (xs : List A) → is_past low x ≡ true → Rise (Some x) xs → Rise low xs
    lower low x [] p r = tt
    lower low x (y ∷ xs) p r = (past_through low x y p r.0, r.1)

    rise_on : (x : A) (xs : List A) → rises compare (x ∷ xs) ≡ true → Rise (Some x) xs
    rise_on x [] h = tt
    rise_on x (y ∷ xs) h = let parts = and_parts (is_lt (compare x y)) (rises compare (y ∷ xs)) h in (parts.0, rise_on y xs parts.1)

    rise_of : (xs : List A) → rises compare xs ≡ true → Rise None xs
    rise_of [] h = tt
    rise_of (x ∷ xs) h = (refl, rise_on x xs h)

    rises_of : (low : Option A) (xs : List A) → Rise low xs → rises compare xs ≡ true
    rises_of low [] r = refl
    rises_of low (x ∷ []) r = refl
    rises_of low (x ∷ y ∷ xs) r = both_so r.1.0 (rises_of (Some x) (y ∷ xs) r.1)

    if_rise : (low : Option A) (x : A) (chosen : Bool) (more : List A) → is_past low x ≡ true → Rise (Some x) more → Rise low more → Rise low (entry_if x chosen ++ more)
    if_rise low x true more p above stays = stays
    if_rise low x false more p above stays = (p, above)

    left_from : (low : Option A) (entries left : List A) → Rise low entries → entries_left tests row entries ≡ Ok left → Rise low left
    left_from low [] left r e = ok_has (λ (l : List A). Rise low l) [] left tt e
    left_from low (x ∷ xs) left r e =
        let first = then_so (entry_left tests row x) (λ ys. and_then (all_of (entry_left tests row) xs) (λ more. Ok (ys ++ more))) left e in
        let rest = then_so (all_of (entry_left tests row) xs) (λ more. Ok (first.0 ++ more)) left first.2 in
        let chosen = then_so (passes tests (row x)) (λ chosen. Ok (entry_if x chosen)) first.0 first.1 in
        let above = left_from (Some x) xs rest.0 r.1 rest.1 in
        let here = if_rise low x chosen.0 rest.0 r.0 above (lower low x rest.0 r.0 above) in
        ok_has (λ (l : List A). Rise low l) (first.0 ++ rest.0) left (ok_has (λ (l : List A). Rise low (l ++ rest.0)) (entry_if x chosen.0) first.0 here chosen.2) rest.2

    left_rises : (entries left : List A) → rises compare entries ≡ true → entries_left tests row entries ≡ Ok left → rises compare left ≡ true
    left_rises entries left h e = rises_of None left (left_from None entries left (rise_of entries h) e)

-- ---- a table put back

table_kept : (own : BranchState) (name : List ℕ) (table new : PlainTable) → IsKeptState own → table_in own.working name ≡ Some table → IsKeptTable new → IsKeptState (with_table own name new)
table_kept own name table new o e kept =
    let are = are_kept own.working o.working in
    let found : IsKeptNamed (record { name = name; table = table }) = subst (IsFoundWell name) e (found_well name own.working are.tables) in
    record {
      working = is_kept (put_table name (Some new) own.working)
          (put_kept name (Some new) own.working (record { is_name = found.is_name; short = found.short; table = kept }) are)
          (put_few name new own.working (ap is_some e) (few_tables own.working o.working));
      staged = o.staged;
    }

found_kept : (own : BranchState) (name : List ℕ) (table : PlainTable) → IsKeptState own → table_in own.working name ≡ Some table → IsKeptTable table
found_kept own name table o e =
    let are = are_kept own.working o.working in
    let found : IsKeptNamed (record { name = name; table = table }) = subst (IsFoundWell name) e (found_well name own.working are.tables) in
    found.table

-- ---- the two lists

conflicts_kept : (own : BranchState) (delete : Delete) (name : List ℕ) (table : PlainTable) (w : Worked) → IsKeptState own → table_in own.working name ≡ Some table
    → delete_conflicts own delete name table ≡ Ok w → IsKeptWork w
conflicts_kept own delete name table w o found e =
    let tests = then_so (tests_on (conflict_columns table.schema) delete) (λ tests.
    and_then (entries_left tests (conflict_row table.schema) table.conflicts) (λ left. Ok (keeping_conflicts own name table left))) w e in
    let left = then_so (entries_left tests.0 (conflict_row table.schema) table.conflicts) (λ left. Ok (keeping_conflicts own name table left)) w tests.2 in
    let kept = found_kept own name table o found in
    let is = kept.is_table in
    let limits = limits_so table kept.within in
    let all = λ (p : Conflict → Bool) (h : list_all p table.conflicts ≡ true). left_all tests.0 (conflict_row table.schema) p table.conflicts left.0 h left.1 in
    ok_has IsKeptWork (keeping_conflicts own name table left.0) w
    (table_kept own name table (record table { conflicts = left.0 }) o found (record {
      is_table = record {
        schema = is.schema;
        rows = is.rows;
        keys = is.keys;
        conflicts = all (is_conflict table.schema) is.conflicts;
        conflict_keys = left_rises tests.0 (conflict_row table.schema) (λ (a b : Conflict). key_cmp a.key b.key) (on_total (λ (conflict : Conflict). conflict.key) key_cmp_total) table.conflicts left.0
            is.conflict_keys left.1;
        violations = is.violations;
        violation_keys = is.violation_keys;
      };
      within = both_so (both_so (both_so (both_so limits.0 (few_rows table kept.within)) limits.1) (all (is_conflict_within_limits table.schema) limits.2)) limits.3;
    })) left.2

violations_kept : (own : BranchState) (delete : Delete) (name : List ℕ) (table : PlainTable) (w : Worked) → IsKeptState own → table_in own.working name ≡ Some table
    → delete_violations own delete name table ≡ Ok w → IsKeptWork w
violations_kept own delete name table w o found e =
    let tests = then_so (tests_on (violation_columns table.schema) delete) (λ tests.
    and_then (entries_left tests violation_row table.violations) (λ left. Ok (without_violations own name table left))) w e in
    let left = then_so (entries_left tests.0 violation_row table.violations) (λ left. Ok (without_violations own name table left)) w tests.2 in
    let kept = found_kept own name table o found in
    let is = kept.is_table in
    let limits = limits_so table kept.within in
    let all = λ (p : Violation → Bool) (h : list_all p table.violations ≡ true). left_all tests.0 violation_row p table.violations left.0 h left.1 in
    ok_has IsKeptWork (without_violations own name table left.0) w
    (table_kept own name table (record table { violations = left.0 }) o found (record {
      is_table = record {
        schema = is.schema;
        rows = is.rows;
        keys = is.keys;
        conflicts = is.conflicts;
        conflict_keys = is.conflict_keys;
        violations = all (is_violation table.schema) is.violations;
        violation_keys = left_rises tests.0 violation_row violation_cmp violation_total table.violations left.0 is.violation_keys left.1;
      };
      within = both_so (both_so (both_so (both_so limits.0 (few_rows table kept.within)) limits.1) limits.2) (all (is_violation_within_limits table.schema) limits.3);
    })) left.2

by_kept : (delete_from : List ℕ → PlainTable → Outcome Worked) (own : BranchState) (name : List ℕ) (w : Worked)
    → ((table : PlainTable) → table_in own.working name ≡ Some table → delete_from name table ≡ Ok w → IsKeptWork w) → delete_by delete_from own name ≡ Ok w → IsKeptWork w
by_kept delete_from own name w keeps e =
    let found = then_so (or_refuse 1146 (table_in own.working name)) (delete_from name) w e in
    keeps found.0 (found_so 1146 (table_in own.working name) found.0 found.1) found.2

-- where the table is a list of entries
pub entries_kept : (own : BranchState) (delete : Delete) (entries : Outcome Worked) (w : Worked) → IsKeptState own → delete_entries own delete ≡ Some entries → entries ≡ Ok w → IsKeptWork w
entries_kept own delete entries w o at e =
    let conflicts = delete_by (delete_conflicts own delete) own (behind conflicts_front delete.table) in
    let violations = delete_by (delete_violations own delete) own (behind violations_front delete.table) in
    let other = cond (is_below violations_front delete.table) (Some violations) None in
    two (is_below conflicts_front delete.table)
    (λ t. let same : conflicts ≡ entries = some_so conflicts entries (sym (ap (λ b. cond b (Some conflicts) other) t) ∙ at) in
    by_kept (delete_conflicts own delete) own (behind conflicts_front delete.table) w
    (λ table found h. conflicts_kept own delete (behind conflicts_front delete.table) table w o found h) (subst (λ (r : Outcome Worked). r ≡ Ok w) (sym same) e))
    (λ t. let rest : other ≡ Some entries = sym (ap (λ b. cond b (Some conflicts) other) t) ∙ at in
    two (is_below violations_front delete.table)
    (λ u. let same : violations ≡ entries = some_so violations entries (sym (ap (λ b. cond b (Some violations) None) u) ∙ rest) in
    by_kept (delete_violations own delete) own (behind violations_front delete.table) w
    (λ table found h. violations_kept own delete (behind violations_front delete.table) table w o found h) (subst (λ (r : Outcome Worked). r ≡ Ok w) (sym same) e))
    (λ u. let none : ◌≡◌ {A = Option (Outcome Worked)} None (Some entries) = sym (ap (λ b. cond b (Some violations) None) u) ∙ rest in cc))
