-- What the commit rule leaves.
use Rattle.std.proofs.Common.{◌≡◌, refl, sym, ap, ◌∙◌, subst, true, cond, not, ◌&&◌, ◌||◌, Result, Ok, Err, None}
use Rattle.std.proofs.lemmas.Bool.{and_parts}
use Rattle.tuple_codec.proofs.Truths.{not_false}
use Rattle.schema_model.specs.Limits.{is_database_within_limits}
use Rattle.schema_model.specs.PlainTables.{IsDatabase, PlainDatabase}
use Rattle.expr_eval.specs.Binding.{Outcome, and_then}
use Rattle.plain_sql.specs.Lists.{unless}
use Rattle.schema_merge.specs.RootMerge.{MergedDatabase, SchemaConflict, root3}
use Rattle.table_merge.specs.Laws.{MergesAreTables}
use Rattle.plain_sessions.specs.CommitRule as rule
use Rattle.plain_sessions.specs.CommitRule.{both_merged, candidate, decide, is_in_conflict, is_in_violation, is_unsettled, judged, recorded, without_conflicts}
use Rattle.plain_sessions.specs.Records.{BranchState, is_same_state}
use Rattle.plain_sessions.specs.Sessions.{Variables}
use Rattle.plain_writes.specs.WriteLaws.{IsKept}
use Rattle.plain_writes.proofs.RowOrderLemmas.{two}
use Rattle.plain_writes.proofs.OutcomeLemmas.{then_so, unless_so}
use Rattle.keep_laws.specs.StateLaws.{DecisionsKeep, IsKeptState}
use Rattle.keep_laws.proofs.KeptLemmas.{recorded_kept}
use Rattle.keep_laws.proofs.RootLemmas.{root_is}
use Rattle.keep_laws.proofs.TestLemmas.{if_ok, ok_has}

clean_merged : (r : Result MergedDatabase SchemaConflict) (database : PlainDatabase) → without_conflicts r ≡ Ok database → (m : MergedDatabase) × (r ≡ Ok m) × (m.database ≡ database)
clean_merged (Ok m) database e =
    let parts = unless_so _ 1213 (Ok m.database) database e in
    (m, refl, ok_has (λ (d : PlainDatabase). m.database ≡ d) m.database database refl parts.1)
clean_merged (Err conflict) database e = cc

module _ (law : MergesAreTables) where
  root_clean : (base ours theirs database : PlainDatabase) → IsKept base → IsKept ours → IsKept theirs → without_conflicts (root3 base ours theirs) ≡ Ok database
      → is_database_within_limits database ≡ true → IsKept database
  root_clean base ours theirs database b o t e within =
      let m = clean_merged (root3 base ours theirs) database e in
      let is = root_is law base ours theirs m.0 b o t m.1 in
      record { is_database = subst IsDatabase m.2 is; within = within }

  merged_kept : (start present own state : BranchState) → IsKeptState start → IsKeptState present → IsKeptState own → rule.merged start present own ≡ Ok state → IsKeptState state
  merged_kept start present own state s p o e =
      let settled = unless_so (is_unsettled present || is_unsettled start || is_unsettled own) 1213 (
      and_then (without_conflicts (root3 start.working present.working own.working)) (λ working.
      and_then (without_conflicts (root3 start.staged present.staged own.staged)) (λ staged.
      both_merged present working staged))) state e in
      let working = then_so (without_conflicts (root3 start.working present.working own.working)) (λ working.
      and_then (without_conflicts (root3 start.staged present.staged own.staged)) (λ staged. both_merged present working staged)) state settled.1 in
      let staged = then_so (without_conflicts (root3 start.staged present.staged own.staged)) (λ staged. both_merged present working.0 staged) state working.2 in
      let made : BranchState = record { head = present.head; working = recorded working.0; staged = staged.0; merging = None } in
      let small = unless_so (not (is_database_within_limits working.0 && is_database_within_limits staged.0)) 9010 (Ok made) state staged.2 in
      let limits = and_parts (is_database_within_limits working.0) (is_database_within_limits staged.0) (not_false _ small.0) in
      ok_has IsKeptState made state
      (record {
        working = recorded_kept working.0 (root_clean start.working present.working own.working working.0 s.working p.working o.working working.1 limits.0);
        staged = root_clean start.staged present.staged own.staged staged.0 s.staged p.staged o.staged staged.1 limits.1;
      }) small.1

  candidate_kept : (start present own state : BranchState) → IsKeptState start → IsKeptState present → IsKeptState own → candidate start present own ≡ Ok state → IsKeptState state
  candidate_kept start present own state s p o e = two (is_same_state present start)
      (λ t. ok_has IsKeptState own state o (sym (ap (λ b. cond b (Ok own) (rule.merged start present own)) t) ∙ e))
      (λ t. merged_kept start present own state s p o (sym (ap (λ b. cond b (Ok own) (rule.merged start present own)) t) ∙ e))

  pub decided_kept : (start present own state : BranchState) (variables : Variables) → IsKeptState start → IsKeptState present → IsKeptState own
      → decide start present own variables ≡ Ok state → IsKeptState state
  unfolding decide
  decided_kept start present own state variables s p o e =
      let chosen = then_so (candidate start present own) (judged variables) state e in
      let whole : Outcome BranchState = Ok chosen.0 in
      let violated = unless (is_in_violation chosen.0 && not variables.force) 9003 whole in
      let first = unless_so (is_in_conflict chosen.0 && not variables.allow && not variables.force) 9002 violated state chosen.2 in
      let second = unless_so (is_in_violation chosen.0 && not variables.force) 9003 whole state first.1 in
      ok_has IsKeptState chosen.0 state (candidate_kept start present own chosen.0 s p o chosen.1) second.1

pub decisions_keep : MergesAreTables → DecisionsKeep
decisions_keep law = record {
  recording = recorded_kept;
  roots = λ base ours theirs merged b o t e. root_is law base ours theirs merged b o t e;
  decisions = λ start present own variables s p o. if_ok IsKeptState (decide start present own variables) (λ state e. decided_kept law start present own state variables s p o e);
}
