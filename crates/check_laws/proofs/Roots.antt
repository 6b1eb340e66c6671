-- Merged databases, and what the commit rule leaves.
use Rattle.std.proofs.Common.{◌≡◌, refl, sym, ap, subst, ℕ, Bool, true, false, cond, not, ◌&&◌, ◌||◌, List, [], ◌∷◌, map, Option, None, Some, Result, Ok, Err, bytes_eq}
use Rattle.std.specs.Prelude.{IfOk}
use Rattle.std.specs.Cmp.Lexicographic.{bytes_decides}
use Rattle.std.specs.List.{AllByRecursion}
use Rattle.std.specs.Option.{option_map}
use Rattle.tuple_codec.specs.RowRule.{same_option, three_way}
use Rattle.schema_model.specs.Limits.{is_database_within_limits}
use Rattle.schema_model.specs.PlainTables.{NamedTable, PlainDatabase, PlainTable}
use Rattle.schema_model.specs.Sameness.{SamenessIsEquality, is_same_table}
use Rattle.schema_model.specs.declared.schemas.Schema.{Schema}
use Rattle.schema_merge.specs.Merging as schemas
use Rattle.schema_merge.specs.Merging.{schema3}
use Rattle.expr_eval.specs.Binding.{Outcome, and_then}
use Rattle.plain_sql.specs.Lists.{unless}
use Rattle.schema_merge.specs.RootMerge.{MergedDatabase, MergedTable, SchemaConflict, by_rows, either_table, merged, or_by_rows, over_names, root3, step, table_in, unmerged, with_table}
use Rattle.schema_merge.specs.TableMerge.{table3, table_of, three_on}
use Rattle.plain_sessions.specs.CommitRule as rule
use Rattle.plain_sessions.specs.CommitRule.{both_merged, candidate, decide, is_in_conflict, is_in_violation, is_unsettled, judged, recorded, with_violations, without_conflicts}
use Rattle.plain_sessions.specs.Records.{BranchState, is_same_state}
use Rattle.plain_sessions.specs.Sessions.{Variables}
use Rattle.table_merge.specs.Laws.{AreSchemas}
use Rattle.plain_writes.specs.WriteLaws.{IsKept}
use Rattle.plain_writes.proofs.DatabaseLemmas.{IsKeptTable, limits_so}
use Rattle.plain_writes.proofs.RowOrderLemmas.{two}
use Rattle.keep_laws.proofs.KeptLemmas.{IsKeptNamed, are_kept}
use Rattle.keep_laws.proofs.RootLemmas.{IsKeptPerhaps}
use Rattle.keep_laws.proofs.TestLemmas.{ok_has, some_ok}
use Rattle.keep_laws.specs.StateLaws.{IsKeptState}
use Rattle.check_laws.specs.Meant.{AreMeant, IsMeantState, IsMeantTable}
use Rattle.check_laws.proofs.Merging.{merged_meant}
use Rattle.check_laws.proofs.Outcomes.{then_ok, unless_ok}

abbrev IsMeantPerhaps : List ℕ → Option PlainTable → Type 0
IsMeantPerhaps name None = Unit {0}
IsMeantPerhaps name (Some table) = IsMeantTable name table.schema

-- ---- the table of a name

found_kept : (name : List ℕ) (database : PlainDatabase) → AllByRecursion IsKeptNamed database → IsKeptPerhaps (table_in name database)
found_kept name [] h = tt
found_kept name (named ∷ database) h =
    let here = h.0 in
    let more = found_kept name database h.1 in
    elim (bytes_eq named.name name) as (λ b. IsKeptPerhaps (cond b (Some named.table) (table_in name database))) [
      | true ↦ here.table
      | false ↦ more
    ]

found_meant : (name : List ℕ) (database : PlainDatabase) → AreMeant database → IsMeantPerhaps name (table_in name database)
found_meant name [] h = tt
found_meant name (named ∷ database) h = two (bytes_eq named.name name)
    (λ t. subst (IsMeantPerhaps name) (sym (ap (λ b. cond b (Some named.table) (table_in name database)) t)) (subst (λ n. IsMeantTable n named.table.schema) ((bytes_decides named.name name).0 t) h.0))
    (λ t. subst (IsMeantPerhaps name) (sym (ap (λ b. cond b (Some named.table) (table_in name database)) t)) (found_meant name database h.1))

-- ---- one table

are_schemas : (base : Option PlainTable) (ours theirs : PlainTable) → IsKeptPerhaps base → IsKeptTable ours → IsKeptTable theirs → AreSchemas (option_map (λ (table : PlainTable). table.schema) base) ours.schema theirs.schema
are_schemas None ours theirs b o t =
    let own = o.is_table in let other = t.is_table in
    record { base_is = tt; ours_is = own.schema; theirs_is = other.schema; ours_within = (limits_so ours o.within).0; theirs_within = (limits_so theirs t.within).0 }
are_schemas (Some base) ours theirs b o t =
    let own = o.is_table in let other = t.is_table in let old = b.is_table in
    record { base_is = old.schema; ours_is = own.schema; theirs_is = other.schema; ours_within = (limits_so ours o.within).0; theirs_within = (limits_so theirs t.within).0 }

schema_by : (r : Result Schema (List ℕ)) (go : Schema → PlainTable) → ((s : Schema) → (go s).schema ≡ s) → (table : PlainTable) → schemas.and_then r (λ s. Ok (go s)) ≡ Ok table → r ≡ Ok table.schema
schema_by (Ok s) go is table e = ok_has (λ (t : PlainTable). ◌≡◌ {A = Result Schema (List ℕ)} (Ok s) (Ok t.schema)) (go s) table (ap (λ (x : Schema). Ok x) (sym (is s))) e
schema_by (Err part) go is table e = cc

table_schema : (base : Option PlainTable) (ours theirs table : PlainTable) → table3 base ours theirs ≡ Ok table → schema3 (option_map (λ (t : PlainTable). t.schema) base) ours.schema theirs.schema ≡ Ok table.schema
unfolding table3
table_schema base ours theirs table e =
    schema_by (schema3 (option_map (λ (t : PlainTable). t.schema) base) ours.schema theirs.schema) (λ schema. table_of schema (three_on schema base ours theirs)) (λ s. refl) table e

module _ (told : SamenessIsEquality) (name : List ℕ) where
  rows_meant : (base : Option PlainTable) (ours theirs : PlainTable) → IsKeptPerhaps base → IsKeptTable ours → IsKeptTable theirs → IsMeantTable name ours.schema → IsMeantTable name theirs.schema
      → (r : Result PlainTable (List ℕ)) → table3 base ours theirs ≡ r → (one : MergedTable) → merged r ≡ Ok one → IsMeantPerhaps name one.table
  rows_meant base ours theirs b o t p q (Ok table) at one e =
      ok_has (λ (m : MergedTable). IsMeantPerhaps name m.table) (record { table = Some table; conflicts = _ }) one
      (merged_meant told name (option_map (λ (t : PlainTable). t.schema) base) ours.schema theirs.schema table.schema (are_schemas base ours theirs b o t) p q (table_schema base ours theirs table at)) e
  rows_meant base ours theirs b o t p q (Err part) at one e = cc

  by_rows_meant : (base ours theirs : Option PlainTable) → IsKeptPerhaps base → IsKeptPerhaps ours → IsKeptPerhaps theirs → IsMeantPerhaps name ours → IsMeantPerhaps name theirs → (one : MergedTable)
      → by_rows base ours theirs ≡ Ok one → IsMeantPerhaps name one.table
  by_rows_meant base (Some ours) (Some theirs) b o t p q one e = rows_meant base ours theirs b o t p q (table3 base ours theirs) refl one e
  by_rows_meant base None (Some theirs) b o t p q one e = cc
  by_rows_meant base (Some ours) None b o t p q one e = cc
  by_rows_meant base None None b o t p q one e = cc

  or_by_rows_meant : (base ours theirs : Option PlainTable) → IsKeptPerhaps base → IsKeptPerhaps ours → IsKeptPerhaps theirs → IsMeantPerhaps name ours → IsMeantPerhaps name theirs → (whole : Option (Option PlainTable))
      → ((table : Option PlainTable) → whole ≡ Some table → IsMeantPerhaps name table) → (one : MergedTable) → or_by_rows whole base ours theirs ≡ Ok one → IsMeantPerhaps name one.table
  or_by_rows_meant base ours theirs b o t p q (Some table) w one e = ok_has (λ (m : MergedTable). IsMeantPerhaps name m.table) (unmerged table) one (w table refl) e
  or_by_rows_meant base ours theirs b o t p q None w one e = by_rows_meant base ours theirs b o t p q one e

  chosen_has : {A : Type 0} (P : A → Type 0) (same : A → A → Bool) (base ours theirs : A) → P ours → P theirs → (one : A) → three_way same base ours theirs ≡ Some one → P one
  chosen_has P same base ours theirs o t one = by (same theirs base) (same ours base) (same ours theirs) where
    by : (x y z : Bool) → cond x (Some ours) (cond y (Some theirs) (cond z (Some ours) None)) ≡ Some one → P one
    by true y z e = some_ok P ours one o e
    by false true z e = some_ok P theirs one t e
    by false false true e = some_ok P ours one o e
    by false false false e = cc

  either_meant : (base ours theirs : Option PlainTable) → IsKeptPerhaps base → IsKeptPerhaps ours → IsKeptPerhaps theirs → IsMeantPerhaps name ours → IsMeantPerhaps name theirs → (one : MergedTable)
      → either_table base ours theirs ≡ Ok one → IsMeantPerhaps name one.table
  either_meant base ours theirs b o t p q one e =
      or_by_rows_meant base ours theirs b o t p q (three_way (same_option is_same_table) base ours theirs) (chosen_has (IsMeantPerhaps name) (same_option is_same_table) base ours theirs p q) one e

-- ---- all tables

put_meant : (name : List ℕ) (table : Option PlainTable) (database : PlainDatabase) → IsMeantPerhaps name table → AreMeant database → AreMeant (with_table name table database)
put_meant name None database t are = are
put_meant name (Some table) database t are = (t, are)

module _ (told : SamenessIsEquality) (base ours theirs : PlainDatabase) (b : AllByRecursion IsKeptNamed base) (o : AllByRecursion IsKeptNamed ours) (t : AllByRecursion IsKeptNamed theirs)
    (own : AreMeant ours) (other : AreMeant theirs) where
  over_names_meant : (names : List (List ℕ)) → (whole : MergedDatabase) → over_names base ours theirs names ≡ Ok whole → AreMeant whole.database
  over_names_meant [] whole e = ok_has (λ (m : MergedDatabase). AreMeant m.database) (record { database = []; conflicts = 0 }) whole tt e
  over_names_meant (name ∷ names) whole e =
      by (either_table (table_in name base) (table_in name ours) (table_in name theirs)) refl (over_names base ours theirs names) refl (λ others rest. over_names_meant names others rest) e where
        by : (one : Result MergedTable (List ℕ)) → either_table (table_in name base) (table_in name ours) (table_in name theirs) ≡ one
            → (others : Result MergedDatabase SchemaConflict) → over_names base ours theirs names ≡ others
            → ((others : MergedDatabase) → over_names base ours theirs names ≡ Ok others → AreMeant others.database) → step name one others ≡ Ok whole → AreMeant whole.database
        by (Ok one) at (Ok others) rest more e =
            ok_has (λ (m : MergedDatabase). AreMeant m.database) (record { database = with_table name one.table others.database; conflicts = _ }) whole
            (put_meant name one.table others.database
            (either_meant told name (table_in name base) (table_in name ours) (table_in name theirs) (found_kept name base b) (found_kept name ours o) (found_kept name theirs t)
            (found_meant name ours own) (found_meant name theirs other) one at)
            (more others rest)) e
        by (Ok one) at (Err conflict) rest more e = cc
        by (Err part) at others rest more e = cc

pub root_meant : SamenessIsEquality → (base ours theirs : PlainDatabase) (whole : MergedDatabase) → IsKept base → IsKept ours → IsKept theirs → AreMeant ours → AreMeant theirs → root3 base ours theirs ≡ Ok whole
    → AreMeant whole.database
unfolding root3
root_meant told base ours theirs whole b o t own other e =
    let one = are_kept base b in
    let two_ = are_kept ours o in
    let three = are_kept theirs t in
    over_names_meant told base ours theirs one.tables two_.tables three.tables own other _ whole e

-- ---- the commit rule

tables_recorded : (all database : PlainDatabase) → AreMeant database → AllByRecursion (λ (named : NamedTable). IsMeantTable named.name named.table.schema) (map (with_violations all) database)
tables_recorded all [] h = tt
tables_recorded all (named ∷ database) h = (h.0, tables_recorded all database h.1)

pub recorded_meant : (database : PlainDatabase) → AreMeant database → AreMeant (recorded database)
unfolding recorded
recorded_meant database h = tables_recorded database database h

clean_meant : SamenessIsEquality → (base ours theirs : PlainDatabase) → IsKept base → IsKept ours → IsKept theirs → AreMeant ours → AreMeant theirs → IfOk (without_conflicts (root3 base ours theirs)) AreMeant
clean_meant told base ours theirs b o t own other = by (root3 base ours theirs) refl
  where
    by : (r : Result MergedDatabase SchemaConflict) → root3 base ours theirs ≡ r → IfOk (without_conflicts r) AreMeant
    by (Ok m) e = unless_ok AreMeant _ 1213 (Ok m.database) (λ none. root_meant told base ours theirs m b o t own other e)
    by (Err conflict) e = tt

merge_meant : SamenessIsEquality → (start present own : BranchState) → IsKeptState start → IsKeptState present → IsKeptState own → IsMeantState present → IsMeantState own → IfOk (rule.merged start present own) IsMeantState
merge_meant told start present own s p o here mine =
    let by_staged : PlainDatabase → PlainDatabase → Outcome BranchState = λ working staged. both_merged present working staged in
    let by_working : PlainDatabase → Outcome BranchState = λ working. and_then (without_conflicts (root3 start.staged present.staged own.staged)) (by_staged working) in
    unless_ok IsMeantState (is_unsettled present || is_unsettled start || is_unsettled own) 1213 (and_then (without_conflicts (root3 start.working present.working own.working)) by_working) (λ settled.
    then_ok IsMeantState (without_conflicts (root3 start.working present.working own.working)) by_working (λ working w.
    then_ok IsMeantState (without_conflicts (root3 start.staged present.staged own.staged)) (by_staged working) (λ staged g.
    unless_ok IsMeantState (not (is_database_within_limits working && is_database_within_limits staged)) 9010 (Ok (record { head = present.head; working = recorded working; staged = staged; merging = None })) (λ small.
    record {
      working = recorded_meant working (of_ok (without_conflicts (root3 start.working present.working own.working)) working w (clean_meant told start.working present.working own.working s.working p.working o.working here.working mine.working));
      staged = of_ok (without_conflicts (root3 start.staged present.staged own.staged)) staged g (clean_meant told start.staged present.staged own.staged s.staged p.staged o.staged here.staged mine.staged);
    }))))
  where
    of_ok : (r : Outcome PlainDatabase) (database : PlainDatabase) → r ≡ Ok database → IfOk r AreMeant → AreMeant database
    of_ok r database e h = subst (λ (r : Outcome PlainDatabase). IfOk r AreMeant) e h

candidate_meant : SamenessIsEquality → (start present own : BranchState) → IsKeptState start → IsKeptState present → IsKeptState own → IsMeantState present → IsMeantState own → IfOk (candidate start present own) IsMeantState
candidate_meant told start present own s p o here mine =
    let more = merge_meant told start present own s p o here mine in
    elim (is_same_state present start) as (λ b. IfOk (cond b (Ok own) (rule.merged start present own)) IsMeantState) [
      | true ↦ mine
      | false ↦ more
    ]

pub decided_meant : SamenessIsEquality → (start present own : BranchState) (variables : Variables) → IsKeptState start → IsKeptState present → IsKeptState own → IsMeantState present → IsMeantState own
    → IfOk (decide start present own variables) IsMeantState
unfolding decide
decided_meant told start present own variables s p o here mine =
    then_ok IsMeantState (candidate start present own) (judged variables) (λ state e.
    let second : Outcome BranchState = unless (is_in_violation state && not variables.force) 9003 (Ok state) in
    unless_ok IsMeantState (is_in_conflict state && not variables.allow && not variables.force) 9002 second (λ first.
    unless_ok IsMeantState (is_in_violation state && not variables.force) 9003 (Ok state) (λ clean.
    subst (λ (r : Outcome BranchState). IfOk r IsMeantState) e (candidate_meant told start present own s p o here mine))))
