-- A table without those entries, put back where it stood among its database's tables.
use Rattle.std.proofs.Common.{◌≡◌, ◌+◌, ◌-◌, refl, sym, ap, ◌∙◌, subst, arith, ℕ, Bool, true, false, cond, not, ◌||◌, is_lt, List, [], ◌∷◌, ◌++◌, Option, None, Some, Ok, Err, inl, inr, filter, fold, length, bytes_eq, if◌then◌else◌, append_assoc, append-nil, unwrap_or, take, drop}
use Rattle.std.specs.Cmp.Lexicographic.{bytes_decides}
use Rattle.std.specs.List.{AllByRecursion, find, list_all, list_any}
use Rattle.std.specs.Option.{option_map}
use Rattle.std.proofs.lemmas.Bool.{and_from, and_parts}
use Rattle.std.proofs.lemmas.List.{length-drop, take_all}
use Rattle.tuple_codec.proofs.Orderings.{less_is}
use Rattle.chunk_store.specs.Chunks.{Chunks}
use Rattle.conflict_tables.specs.Conflicts as conflicts
use Rattle.table_root.specs.Kept.{IsKeptAt}
use Rattle.tuple_codec.proofs.KeyOrders.{apart, greater}
use Rattle.expr_eval.specs.Binding.{Outcome, and_then}
use Rattle.plain_sessions.specs.Branching.{put_table, table_cmp}
use Rattle.plain_sessions.specs.Merging.{Worked, Answers}
use Rattle.plain_sessions.specs.Records.{BranchState}
use Rattle.plain_sessions.specs.Replies.{counted}
use Rattle.plain_sessions.specs.Statements.{changed, counted_or_done, or_of_rows, write_worked}
use Rattle.plain_sessions.specs.SystemTables as plain
use Rattle.plain_sessions.specs.SystemTables.{behind, conflict_columns, conflict_row, conflicts_front, delete_by, delete_conflicts, delete_violations, entries_left, tests_on, violation_columns, violation_row, violations_front}
use Rattle.plain_sql.specs.Answers.{Meaning}
use Rattle.plain_sql.specs.Lists.{or_refuse, placed}
use Rattle.plain_writes.specs.Violations.{is_called, table_in}
use Rattle.plain_writes.specs.Writes.{Effect, replaced}
use Rattle.schema_model.specs.PlainTables.{Conflict, NamedTable, PlainDatabase, PlainTable, Violation, conflict_item, rises, violation_item}
use Rattle.schema_model.specs.WrittenForms.{table_address}
use Rattle.sql_ast.specs.declared.statements.Delete.{Delete}
use Rattle.sql_ast.specs.declared.statements.Write.{Write}
use Rattle.sql_ast.specs.declared.statements.Write.TheVariants as write
use Rattle.sql_rules.specs.Writes.{is_below}
use Rattle.system_tables.specs.Entries.{conflict_entry, entries_of, violation_entry}
use Rattle.system_tables.specs.declared.entries.Listed.{Listed}
use Rattle.system_tables.specs.declared.entries.Listed.TheVariants as listed
use Rattle.table_root.specs.Standing.{IsTableAt}
use Rattle.tuple_codec.specs.Edits.{order}
use Rattle.plain_writes.proofs.RowOrderLemmas.{placed_past, placed_stop, two}
use Rattle.plain_writes.proofs.OutcomeLemmas.{ok_same, then_so}
use Rattle.session_txn.specs.Deleting.{chosen_keys, delete_effect, effect_on, emptied, keys_chosen, list_named, stays, turn_effect, without_violations}
use Rattle.session_txn.specs.Writing.{written_reply}
use Rattle.session_txn.proofs.CountLemmas.{reply_told}
use Rattle.prolly_tree.proofs.StandingOrder.{lt_trans}
use Rattle.plain_schemas.specs.Effects.{without_table}
use Rattle.session_txn.proofs.DeleteLemmas.{AreApart, are_apart, key_of, Chosen, choice}

-- ---- a table put back where it stood

called_so : (name : List ℕ) (ys : PlainDatabase) (table : PlainTable) → table_in ys name ≡ Some table → list_any (is_called name) ys ≡ true
called_so name [] table e = absurd (cc)
called_so name (y ∷ ys) table e = two (bytes_eq y.name name)
    (λ t. ap (λ (b : Bool). b || list_any (is_called name) ys) t)
    (λ t. ap (λ (b : Bool). b || list_any (is_called name) ys) t
    ∙ called_so name ys table (sym (ap (λ (b : Bool). option_map (λ (n : NamedTable). n.table) (cond b (Some y) (find (is_called name) ys))) t) ∙ e))

-- names rise behind this one
Up : List ℕ → PlainDatabase → Type 0
Up k [] = Unit {0}
Up k (y ∷ ys) = (is_lt (order k y.name) ≡ true) × Up y.name ys

up_behind : (y : NamedTable) (ys : PlainDatabase) → rises table_cmp (y ∷ ys) ≡ true → Up y.name ys
unfolding Up
up_behind y [] h = tt
up_behind y (z ∷ ys) h = let parts = and_parts (is_lt (table_cmp y z)) (rises table_cmp (z ∷ ys)) h in (parts.0, up_behind z ys parts.1)

up_lower : (k l : List ℕ) (ys : PlainDatabase) → is_lt (order k l) ≡ true → Up l ys → Up k ys
unfolding Up
up_lower k l [] p u = tt
up_lower k l (y ∷ ys) p u = (lt_trans k l y.name p u.0, u.1)

-- each of these comes before a name
abbrev Below : List ℕ → PlainDatabase → Type 0
Below k ys = list_all (λ (y : NamedTable). is_lt (order y.name k)) ys ≡ true

below_up : (k l : List ℕ) (ys : PlainDatabase) → is_lt (order k l) ≡ true → Below k ys → Below l ys
below_up k l [] p b = refl
below_up k l (y ∷ ys) p b =
    let parts = and_parts (is_lt (order y.name k)) (list_all (λ (z : NamedTable). is_lt (order z.name k)) ys) b in
    and_from (is_lt (order y.name l)) (list_all (λ (z : NamedTable). is_lt (order z.name l)) ys) (lt_trans y.name k l parts.0 p) (below_up k l ys p parts.1)

below_more : (k : List ℕ) (ys : PlainDatabase) (y : NamedTable) → Below k ys → is_lt (order y.name k) ≡ true → Below k (ys ++ y ∷ [])
below_more k [] y b p = and_from (is_lt (order y.name k)) true p refl
below_more k (z ∷ ys) y b p =
    let parts = and_parts (is_lt (order z.name k)) (list_all (λ (z : NamedTable). is_lt (order z.name k)) ys) b in
    and_from (is_lt (order z.name k)) (list_all (λ (z : NamedTable). is_lt (order z.name k)) (ys ++ y ∷ [])) parts.0 (below_more k ys y parts.1 p)

not_before : (y z : NamedTable) → is_lt (order z.name y.name) ≡ true → is_lt (table_cmp y z) ≡ false
not_before y z p = ap is_lt (greater z.name y.name (less_is (order z.name y.name) p))

-- it goes behind all that come before it
past : (front rest : PlainDatabase) (y : NamedTable) → Below y.name front → placed table_cmp (front ++ rest) y ≡ front ++ placed table_cmp rest y
past [] rest y b = refl
past (z ∷ front) rest y b =
    let parts = and_parts (is_lt (order z.name y.name)) (list_all (λ (x : NamedTable). is_lt (order x.name y.name)) front) b in
    placed_past table_cmp y z (front ++ rest) (not_before y z parts.0) ∙ ap (λ (l : PlainDatabase). z ∷ l) (past front rest y parts.1)

past_end : (front : PlainDatabase) (y : NamedTable) → Below y.name front → placed table_cmp front y ≡ front ++ y ∷ []
past_end [] y b = refl
past_end (z ∷ front) y b =
    let parts = and_parts (is_lt (order z.name y.name)) (list_all (λ (x : NamedTable). is_lt (order x.name y.name)) front) b in
    placed_past table_cmp y z front (not_before y z parts.0) ∙ ap (λ (l : PlainDatabase). z ∷ l) (past_end front y parts.1)

-- those that rise behind all of these are put behind them
appended : (front ys : PlainDatabase) (k : List ℕ) → ((l : List ℕ) → is_lt (order k l) ≡ true → Below l front) → Up k ys → fold (placed table_cmp) front ys ≡ front ++ ys
unfolding Up
appended front [] k before u = sym (append-nil front)
appended front (y ∷ ys) k before u =
    ap (λ (l : PlainDatabase). fold (placed table_cmp) l ys) (past_end front y (before y.name u.0))
    ∙ appended (front ++ y ∷ []) ys y.name (λ l p. below_more l front y (below_up y.name l front p (before y.name u.0)) p) u.1
    ∙ append_assoc front (y ∷ []) ys

-- those with other names stay
others_stay : (name : List ℕ) (ys : PlainDatabase) → Up name ys → without_table name ys ≡ ys
unfolding Up
others_stay name [] u = refl
others_stay name (y ∷ ys) u =
    ap (λ (b : Bool). cond (not b) (y ∷ without_table name ys) (without_table name ys)) (apart name y.name (less_is (order name y.name) u.0))
    ∙ ap (λ (l : PlainDatabase). y ∷ l) (others_stay name ys (up_lower name y.name ys u.0 u.1))

others_same : (name : List ℕ) (table : PlainTable) (ys : PlainDatabase) → Up name ys → replaced name table ys ≡ ys
unfolding Up
others_same name table [] u = refl
others_same name table (y ∷ ys) u =
    (λ i. cond (apart name y.name (less_is (order name y.name) u.0) i) (record { name = name; table = table }) y ∷ others_same name table ys (up_lower name y.name ys u.0 u.1) i)

before_called : (k name : List ℕ) (ys : PlainDatabase) → Up k ys → list_any (is_called name) ys ≡ true → is_lt (order k name) ≡ true
unfolding Up
before_called k name [] u h = absurd (cc)
before_called k name (y ∷ ys) u h = two (bytes_eq y.name name)
    (λ t. subst (λ (l : List ℕ). is_lt (order k l) ≡ true) ((bytes_decides y.name name).0 t) u.0)
    (λ t. lt_trans k y.name name u.0 (before_called y.name name ys u.1 (sym (ap (λ (b : Bool). b || list_any (is_called name) ys) t) ∙ h)))

module _ (name : List ℕ) (table : PlainTable) where
  abbrev new : NamedTable
  new = record { name = name; table = table }

  put_hit : (front ys : PlainDatabase) (y : NamedTable) → Below name front → bytes_eq y.name name ≡ true → Up y.name ys
      → fold (placed table_cmp) (front ++ new ∷ []) (without_table name (y ∷ ys)) ≡ front ++ replaced name table (y ∷ ys)
  put_hit front ys y below t up =
      let u : Up name ys = subst (λ (k : List ℕ). Up k ys) ((bytes_decides y.name name).0 t) up in
      ap (fold (placed table_cmp) (front ++ new ∷ [])) (ap (λ (b : Bool). cond (not b) (y ∷ without_table name ys) (without_table name ys)) t ∙ others_stay name ys u)
      ∙ appended (front ++ new ∷ []) ys name (λ l p. below_more l front new (below_up name l front p below) p) u
      ∙ append_assoc front (new ∷ []) ys
      ∙ (λ i. front ++ cond (sym t i) new y ∷ sym (others_same name table ys u) i)

  put_miss : (front ys : PlainDatabase) (y : NamedTable) → Below y.name front → is_lt (order y.name name) ≡ true → bytes_eq y.name name ≡ false
      → fold (placed table_cmp) ((front ++ y ∷ []) ++ new ∷ []) (without_table name ys) ≡ (front ++ y ∷ []) ++ replaced name table ys
      → fold (placed table_cmp) (front ++ new ∷ []) (without_table name (y ∷ ys)) ≡ front ++ replaced name table (y ∷ ys)
  put_miss front ys y yb p t more =
      ap (fold (placed table_cmp) (front ++ new ∷ [])) (ap (λ (b : Bool). cond (not b) (y ∷ without_table name ys) (without_table name ys)) t)
      ∙ ap (λ (l : PlainDatabase). fold (placed table_cmp) l (without_table name ys))
      (past front (new ∷ []) y yb ∙ ap (λ (l : PlainDatabase). front ++ l) (placed_stop table_cmp y new [] p) ∙ sym (append_assoc front (y ∷ []) (new ∷ [])))
      ∙ more
      ∙ append_assoc front (y ∷ []) (replaced name table ys)
      ∙ (λ i. front ++ cond (sym t i) new y ∷ replaced name table ys)

  put_from : (front ys : PlainDatabase) (y : NamedTable) → Below name front → Below y.name front → Up y.name ys → list_any (is_called name) (y ∷ ys) ≡ true
      → fold (placed table_cmp) (front ++ new ∷ []) (without_table name (y ∷ ys)) ≡ front ++ replaced name table (y ∷ ys)
  unfolding Up
  put_from front [] y below yb up h = two (bytes_eq y.name name) (λ t. put_hit front [] y below t up)
      (λ t. let none : false ≡ true = sym (ap (λ (b : Bool). b || false) t) ∙ h in absurd (cc))
  put_from front (z ∷ zs) y below yb up h = two (bytes_eq y.name name) (λ t. put_hit front (z ∷ zs) y below t up)
      (λ t.
      let later = sym (ap (λ (b : Bool). b || list_any (is_called name) (z ∷ zs)) t) ∙ h in
      let p = before_called y.name name (z ∷ zs) up later in
      put_miss front (z ∷ zs) y yb p t
      (put_from (front ++ y ∷ []) zs z (below_more name front y below p) (below_more z.name front y (below_up y.name z.name front up.0 yb) up.0) up.1 later))

  pub put_is : (database : PlainDatabase) (old : PlainTable) → rises table_cmp database ≡ true → table_in database name ≡ Some old → put_table name (Some table) database ≡ replaced name table database
  put_is [] old rise found = absurd (cc)
  put_is (y ∷ ys) old rise found = put_from [] ys y refl refl (up_behind y ys rise) (called_so name (y ∷ ys) old found)

-- ---- what DELETE comes to

-- the names of a database rise, and a table's entries have keys of their own
pub record IsWell (database : PlainDatabase) : Type 0 where
  pub rise : rises table_cmp database ≡ true
  pub conflicts_apart : (name : List ℕ) (table : PlainTable) → table_in database name ≡ Some table → AreApart (key_of (conflict_entry table.schema)) table.conflicts
  pub violations_apart : (name : List ℕ) (table : PlainTable) → table_in database name ≡ Some table → AreApart (key_of (violation_entry table.schema)) table.violations

fewer : (n k l : ℕ) → n ≡ k + l → n - l ≡ k
fewer n k l e = omega (arith, e)

module _ (own : BranchState) (delete : Delete) (name : List ℕ) (table : PlainTable) (put : (new : PlainTable) → put_table name (Some new) own.working ≡ replaced name new own.working) where
  abbrev of_conflicts : List Conflict → Worked
  of_conflicts left = plain.keeping_conflicts own name table left

  conflicts_by : (tests : List Meaning) → Chosen (conflict_entry table.schema) tests table.conflicts
      → and_then (entries_left tests (conflict_row table.schema) table.conflicts) (λ left. Ok (of_conflicts left))
      ≡ changed own (and_then (chosen_keys tests (entries_of listed.Conflicts table)) (λ keys. Ok (emptied listed.Conflicts own.working name table keys)))
  conflicts_by tests (inl f) =
      ap (λ (o : Outcome (List Conflict)). and_then o (λ left. Ok (of_conflicts left))) f.2
      ∙ sym (ap (λ (o : Outcome (List (List ℕ))). changed own (and_then o (λ keys. Ok (emptied listed.Conflicts own.working name table keys)))) f.1)
  conflicts_by tests (inr c) =
      ap (λ (o : Outcome (List Conflict)). and_then o (λ left. Ok (of_conflicts left))) c.1.1
      ∙ (λ i. Ok (Answers (counted (fewer (length table.conflicts) (length c.0) (length (filter (conflicts.stays c.0) table.conflicts)) c.1.2 i)) (record own { working = put (conflicts.without_conflicts c.0 table) i })))
      ∙ sym (ap (λ (o : Outcome (List (List ℕ))). changed own (and_then o (λ keys. Ok (emptied listed.Conflicts own.working name table keys)))) c.1.0)

  conflicts_deleted : AreApart (key_of (conflict_entry table.schema)) table.conflicts → delete_conflicts own delete name table ≡ changed own (effect_on listed.Conflicts own.working delete name table)
  conflicts_deleted separate = by_tests (tests_on (conflict_columns table.schema) delete)
    where
      by_tests : (o : Outcome (List Meaning)) → and_then o (λ tests. and_then (entries_left tests (conflict_row table.schema) table.conflicts) (λ left. Ok (of_conflicts left)))
          ≡ changed own (and_then (and_then o (λ tests. chosen_keys tests (entries_of listed.Conflicts table))) (λ keys. Ok (emptied listed.Conflicts own.working name table keys)))
      by_tests (Err number) = refl
      by_tests (Ok tests) = conflicts_by tests (choice (conflict_entry table.schema) tests table.conflicts separate)

  abbrev of_violations : List Violation → Worked
  of_violations left = plain.without_violations own name table left

  violations_by : (tests : List Meaning) → Chosen (violation_entry table.schema) tests table.violations
      → and_then (entries_left tests violation_row table.violations) (λ left. Ok (of_violations left))
      ≡ changed own (and_then (chosen_keys tests (entries_of listed.Violations table)) (λ keys. Ok (emptied listed.Violations own.working name table keys)))
  violations_by tests (inl f) =
      ap (λ (o : Outcome (List Violation)). and_then o (λ left. Ok (of_violations left))) f.2
      ∙ sym (ap (λ (o : Outcome (List (List ℕ))). changed own (and_then o (λ keys. Ok (emptied listed.Violations own.working name table keys)))) f.1)
  violations_by tests (inr c) =
      ap (λ (o : Outcome (List Violation)). and_then o (λ left. Ok (of_violations left))) c.1.1
      ∙ (λ i. Ok (Answers (counted (fewer (length table.violations) (length c.0) (length (filter (stays c.0) table.violations)) c.1.2 i)) (record own { working = put (without_violations c.0 table) i })))
      ∙ sym (ap (λ (o : Outcome (List (List ℕ))). changed own (and_then o (λ keys. Ok (emptied listed.Violations own.working name table keys)))) c.1.0)

  violations_deleted : AreApart (key_of (violation_entry table.schema)) table.violations → delete_violations own delete name table ≡ changed own (effect_on listed.Violations own.working delete name table)
  violations_deleted separate = by_tests (tests_on (violation_columns table.schema) delete)
    where
      by_tests : (o : Outcome (List Meaning)) → and_then o (λ tests. and_then (entries_left tests violation_row table.violations) (λ left. Ok (of_violations left)))
          ≡ changed own (and_then (and_then o (λ tests. chosen_keys tests (entries_of listed.Violations table))) (λ keys. Ok (emptied listed.Violations own.working name table keys)))
      by_tests (Err number) = refl
      by_tests (Ok tests) = violations_by tests (choice (violation_entry table.schema) tests table.violations separate)

module _ (own : BranchState) (delete : Delete) (well : IsWell own.working) where
  conflicts_so : (name : List ℕ) (o : Option PlainTable) → table_in own.working name ≡ o
      → and_then (or_refuse 1146 o) (delete_conflicts own delete name) ≡ changed own (and_then (or_refuse 1146 o) (effect_on listed.Conflicts own.working delete name))
  conflicts_so name None e = refl
  conflicts_so name (Some table) e = conflicts_deleted own delete name table (λ new. put_is name new own.working table well.rise e) (well.conflicts_apart name table e)

  violations_so : (name : List ℕ) (o : Option PlainTable) → table_in own.working name ≡ o
      → and_then (or_refuse 1146 o) (delete_violations own delete name) ≡ changed own (and_then (or_refuse 1146 o) (effect_on listed.Violations own.working delete name))
  violations_so name None e = refl
  violations_so name (Some table) e = violations_deleted own delete name table (λ new. put_is name new own.working table well.rise e) (well.violations_apart name table e)

  deleted_so : or_of_rows own delete (plain.delete_entries own delete) ≡ changed own (turn_effect own.working (write.Delete delete))
  deleted_so = by_name (is_below conflicts_front delete.table) (is_below violations_front delete.table)
    where
      by_name : (c v : Bool) → or_of_rows own delete (if c then Some (delete_by (delete_conflicts own delete) own (behind conflicts_front delete.table)) else (
          if v then Some (delete_by (delete_violations own delete) own (behind violations_front delete.table)) else None))
          ≡ changed own (delete_effect own.working delete (if c then Some (listed.Conflicts, behind conflicts_front delete.table) else (
          if v then Some (listed.Violations, behind violations_front delete.table) else None)))
      by_name true v = conflicts_so (behind conflicts_front delete.table) (table_in own.working (behind conflicts_front delete.table)) refl
      by_name false true = violations_so (behind violations_front delete.table) (table_in own.working (behind violations_front delete.table)) refl
      by_name false false = refl

pub write_turned : (own : BranchState) (w : Write) → IsWell own.working → write_worked own w ≡ changed own (turn_effect own.working w)
write_turned own (write.Create create) well = refl
write_turned own (write.Drop drop) well = refl
write_turned own (write.Insert insert) well = refl
write_turned own (write.Update update) well = refl
write_turned own (write.Alter alter) well = refl
write_turned own (write.Delete delete) well = deleted_so own delete well

-- ---- a database that is kept

stands_in : (address : List ℕ → List ℕ) (chunks : Chunks) (name : List ℕ) (table : PlainTable) (database : PlainDatabase)
    → AllByRecursion (λ (named : NamedTable). IsTableAt address chunks (table_address address named.table) named.table) database → table_in database name ≡ Some table
    → IsTableAt address chunks (table_address address table) table
stands_in address chunks name table [] stand e = absurd (cc)
stands_in address chunks name table (named ∷ database) stand e = two (bytes_eq named.name name)
    (λ t.
    let same : Some named.table ≡ Some table = sym (ap (λ (b : Bool). option_map (λ (n : NamedTable). n.table) (cond b (Some named) (find (is_called name) database))) t) ∙ e in
    let is : named.table ≡ table = cc in
    subst (λ (one : PlainTable). IsTableAt address chunks (table_address address one) one) is stand.0)
    (λ t. stands_in address chunks name table database stand.1 (sym (ap (λ (b : Bool). option_map (λ (n : NamedTable). n.table) (cond b (Some named) (find (is_called name) database))) t) ∙ e))

pub well_kept : (address : List ℕ → List ℕ) (chunks : Chunks) (k : List ℕ) (database : PlainDatabase) → IsKeptAt address chunks k database → IsWell database
well_kept address chunks k database kept =
    let at = kept.stands in
    let is = at.is_database in
    record {
      rise = is.rise;
      conflicts_apart = λ name table e.
          let there = stands_in address chunks name table database at.tables e in
          let trees = there.trees in
          let tree = trees.conflicts in
          let rows = tree.are_rows in
          are_apart (key_of (conflict_entry table.schema)) (conflict_item table.schema) (λ x. refl) None table.conflicts rows.rise;
      violations_apart = λ name table e.
          let there = stands_in address chunks name table database at.tables e in
          let trees = there.trees in
          let tree = trees.violations in
          let rows = tree.are_rows in
          are_apart (key_of (violation_entry table.schema)) (violation_item table.schema) (λ x. refl) None table.violations rows.rise;
    }

-- ---- the reply

reply_deleted : (database : PlainDatabase) (delete : Delete) (list : Option (Listed × List ℕ)) (made : Effect) → delete_effect database delete list ≡ Ok made
    → counted_or_done made.count ≡ written_reply (write.Delete delete) (unwrap_or made.count 0)
reply_deleted database delete None made is = reply_told database (write.Delete delete) made is
reply_deleted database delete (Some list) made is =
    let found = then_so (or_refuse 1146 (table_in database list.1)) (effect_on list.0 database delete list.1) made is in
    let keys = then_so (keys_chosen list.0 delete found.0) (λ keys. Ok (emptied list.0 database list.1 found.0 keys)) made found.2 in
    let same : emptied list.0 database list.1 found.0 keys.0 ≡ made = ok_same (Ok (emptied list.0 database list.1 found.0 keys.0)) (emptied list.0 database list.1 found.0 keys.0) made refl keys.2 in
    subst (λ (effect : Effect). counted_or_done effect.count ≡ written_reply (write.Delete delete) (unwrap_or effect.count 0)) same refl

pub reply_turned : (database : PlainDatabase) (w : Write) (made : Effect) → turn_effect database w ≡ Ok made → counted_or_done made.count ≡ written_reply w (unwrap_or made.count 0)
reply_turned database (write.Create create) made is = reply_told database (write.Create create) made is
reply_turned database (write.Drop drop) made is = reply_told database (write.Drop drop) made is
reply_turned database (write.Insert insert) made is = reply_told database (write.Insert insert) made is
reply_turned database (write.Update update) made is = reply_told database (write.Update update) made is
reply_turned database (write.Alter alter) made is = reply_told database (write.Alter alter) made is
reply_turned database (write.Delete delete) made is = reply_deleted database delete (list_named delete.table) made is

-- ---- the list that a name is

pub violations_named : (name : List ℕ) → is_below conflicts_front name ≡ false → is_below violations_front name ≡ true
    → ◌≡◌ {A = Option (Listed × List ℕ)} (Some (listed.Violations, take (length name - 27) (drop 27 name))) (list_named name)
violations_named name c v =
    let whole = length-drop 27 name in
    ap (λ (rest : List ℕ). let named : Option (Listed × List ℕ) = Some (listed.Violations, rest) in named) (take_all (length name - 27) (drop 27 name) (omega (arith, whole)))
    ∙ sym (λ i. cond (c i) (Some (listed.Conflicts, behind conflicts_front name)) (cond (v i) (Some (listed.Violations, behind violations_front name)) None))
