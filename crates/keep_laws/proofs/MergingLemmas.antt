-- What a merge between branches comes to.
use Rattle.std.proofs.Common.{◌≡◌, ◌∙◌, refl, sym, ap, ℕ, true, false, cond, not, ◌&&◌, is_some, List, [], Option, None, Some, Result, Ok, Err, codes}
use Rattle.std.specs.Option.{option_map_or}
use Rattle.tuple_codec.proofs.Truths.{not_false}
use Rattle.schema_model.specs.Limits.{is_database_within_limits}
use Rattle.schema_model.specs.PlainCommits.{Commits, base, is_ancestor}
use Rattle.sql_procedures.specs.declared.requests.MergeOf.{MergeOf}
use Rattle.sql_procedures.specs.declared.requests.MergeRequest.{MergeRequest}
use Rattle.sql_procedures.specs.declared.requests.MergeRequest.TheVariants as merging
use Rattle.expr_eval.specs.Binding.{Outcome, and_then}
use Rattle.plain_sql.specs.Lists.{or_refuse, unless}
use Rattle.schema_merge.specs.RootMerge.{MergedDatabase, SchemaConflict, root3}
use Rattle.table_merge.specs.Laws.{MergesAreTables}
use Rattle.plain_sessions.specs.Branching.{resolved}
use Rattle.plain_sessions.specs.Merging.{Answers, Closes, Forwarding, Joining, Worked, base_root, has_changes, if_within_limits, in_progress, is_clean, merge, merge_made, merge_message, merge_reply, merge_with, merged_with, or_schema_conflict}
use Rattle.plain_sessions.specs.Records.{clean_at, root_of}
use Rattle.plain_sessions.specs.Sessions.{Session, Transaction, own_root}
use Rattle.plain_writes.specs.WriteLaws.{IsKept}
use Rattle.plain_writes.proofs.RowOrderLemmas.{two}
use Rattle.plain_writes.proofs.OutcomeLemmas.{then_so, unless_so}
use Rattle.keep_laws.specs.StateLaws.{AreKeptCommits, IsKeptState, IsKeptTransaction, IsKeptWork}
use Rattle.keep_laws.proofs.KeptLemmas.{recorded_kept}
use Rattle.keep_laws.proofs.RootLemmas.{root_is}
use Rattle.keep_laws.proofs.WorkLemmas.{clean_kept, empty_kept, root_kept}
use Rattle.keep_laws.proofs.TestLemmas.{ok_has}

base_kept : (commits : Commits) (k : Option (List ℕ)) → AreKeptCommits commits → IsKept (option_map_or (root_of commits) k [])
base_kept commits None kept = empty_kept
base_kept commits (Some k) kept = root_kept commits k kept

schema_so : (r : Result MergedDatabase SchemaConflict) (m : MergedDatabase) → or_schema_conflict r ≡ Ok m → r ≡ Ok m
schema_so (Ok merged) m e = ok_has (λ (x : MergedDatabase). ◌≡◌ {A = Result MergedDatabase SchemaConflict} (Ok merged) (Ok x)) merged m refl e
schema_so (Err conflict) m e = cc

module _ (law : MergesAreTables) (session : Session) (t : Transaction) (kept : IsKeptTransaction t) where
  merged_kept : (other : List ℕ) (m : MergedDatabase) → merged_with t other ≡ Ok m → IsKept m.database
  merged_kept other m e =
      let made = then_so (or_schema_conflict (root3 (base_root t other) (own_root t) (root_of t.commits other))) if_within_limits m e in
      let whole : Outcome MergedDatabase = Ok made.0 in
      let small = unless_so (not (is_database_within_limits made.0.database)) 9010 whole m made.2 in
      let is = root_is law (base_root t other) (own_root t) (root_of t.commits other) made.0 (base_kept t.commits (base t.commits t.own.head other) kept.commits)
      (root_kept t.commits t.own.head kept.commits) (root_kept t.commits other kept.commits) (schema_so _ made.0 made.1) in
      ok_has (λ (x : MergedDatabase). IsKept x.database) made.0 m (record { is_database = is; within = not_false _ small.0 }) small.1

  made_kept : (request : MergeOf) (other : List ℕ) (m : MergedDatabase) → IsKept m.database → IsKeptWork (merge_made session t request other m)
  made_kept request other m h =
      let own = kept.own in
      let more : IsKeptState (in_progress t.own other m) = record { working = recorded_kept m.database h; staged = own.staged } in
      elim (is_clean m) as (λ b. IsKeptWork (cond b (Closes (Joining m.database other (merge_message session request))) (Answers (merge_reply [] 0 1 (codes "conflicts found")) (in_progress t.own other m)))) [
        | true ↦ h
        | false ↦ more
      ]

  with_kept : (request : MergeOf) (other : List ℕ) (w : Worked) → merge_with session t request other ≡ Ok w → IsKeptWork w
  with_kept request other w e =
      let level : Outcome Worked = Ok (Answers (merge_reply [] 0 0 (codes "up to date")) t.own) in
      let forward : Outcome Worked = Ok (Closes (Forwarding other)) in
      let joined : Outcome Worked = and_then (merged_with t other) (λ merged. Ok (merge_made session t request other merged)) in
      let ahead = is_ancestor t.commits other t.own.head && not request.no_ff in
      two (is_ancestor t.commits t.own.head other)
      (λ a. ok_has IsKeptWork (Answers (merge_reply [] 0 0 (codes "up to date")) t.own) w kept.own (sym (ap (λ b. cond b level (cond ahead forward joined)) a) ∙ e))
      (λ a. let rest : cond ahead forward joined ≡ Ok w = sym (ap (λ b. cond b level (cond ahead forward joined)) a) ∙ e in
      two ahead
      (λ f. ok_has IsKeptWork (Closes (Forwarding other)) w tt (sym (ap (λ b. cond b forward joined) f) ∙ rest))
      (λ f. let m = then_so (merged_with t other) (λ merged. Ok (merge_made session t request other merged)) w (sym (ap (λ b. cond b forward joined) f) ∙ rest) in
      ok_has IsKeptWork (merge_made session t request other m.0) w (made_kept request other m.0 (merged_kept other m.0 m.1)) m.2))

  pub merge_kept : (request : MergeRequest) (w : Worked) → merge session t request ≡ Ok w → IsKeptWork w
  merge_kept merging.Abort w e =
      let made : Worked = Answers (merge_reply [] 0 0 (codes "merge aborted")) (clean_at t.own.head (own_root t)) in
      let parts = unless_so (not (is_some t.own.merging)) 9012 (Ok made) w e in
      ok_has IsKeptWork made w (clean_kept t.own.head (own_root t) (root_kept t.commits t.own.head kept.commits)) parts.1
  merge_kept (merging.Merge request) w e =
      let other = then_so (or_refuse 9004 (resolved t.heads t.commits request.name)) (λ other. unless (has_changes t) 9006 (merge_with session t request other)) w e in
      let parts = unless_so (has_changes t) 9006 (merge_with session t request other.0) w other.2 in
      with_kept request other.0 w parts.1
