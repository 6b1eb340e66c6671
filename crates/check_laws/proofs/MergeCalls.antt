-- DOLT_MERGE, and the databases of commits.
use Rattle.std.proofs.Common.{◌≡◌, refl, subst, ℕ, true, false, cond, not, ◌&&◌, List, [], is_some, codes, Option, None, Some, Result, Ok, Err}
use Rattle.std.specs.Prelude.{IfOk}
use Rattle.std.specs.Option.{option_map_or}
use Rattle.schema_model.specs.Limits.{is_database_within_limits}
use Rattle.schema_model.specs.PlainCommits.{Commits, PlainCommit, base, is_ancestor}
use Rattle.schema_model.specs.Sameness.{SamenessIsEquality}
use Rattle.sql_procedures.specs.declared.requests.MergeOf.{MergeOf}
use Rattle.sql_procedures.specs.declared.requests.MergeRequest.{MergeRequest}
use Rattle.sql_procedures.specs.declared.requests.MergeRequest.TheVariants as merging
use Rattle.expr_eval.specs.Binding.{Outcome, and_then}
use Rattle.plain_sql.specs.Lists.{or_refuse, unless}
use Rattle.schema_merge.specs.RootMerge.{MergedDatabase, SchemaConflict, root3}
use Rattle.plain_sessions.specs.Branching.{resolved}
use Rattle.plain_sessions.specs.Merging.{Answers, Closes, Forwarding, Joining, Worked, base_root, has_changes, if_within_limits, in_progress, is_clean, merge, merge_made, merge_message, merge_reply, merge_with, merged_with, or_schema_conflict}
use Rattle.plain_sessions.specs.Records.{clean_at, database_in, root_of}
use Rattle.plain_sessions.specs.Sessions.{Session, Transaction, own_root}
use Rattle.plain_writes.specs.WriteLaws.{IsKept}
use Rattle.keep_laws.specs.StateLaws.{AreKeptCommits, IsKeptTransaction}
use Rattle.keep_laws.proofs.WorkLemmas.{empty_kept, root_kept}
use Rattle.check_laws.specs.Meant.{AreMeant, AreMeantCommits, IsMeantState, IsMeantTransaction, IsMeantWork}
use Rattle.check_laws.proofs.Outcomes.{then_ok, unless_ok}
use Rattle.check_laws.proofs.Roots.{recorded_meant, root_meant}

-- ---- commits

database_meant : (commit : Option PlainCommit) → ((one : PlainCommit) → commit ≡ Some one → AreMeant one.database) → AreMeant (database_in commit)
database_meant None h = tt
database_meant (Some one) h = h one refl

pub root_of_meant : (commits : Commits) (k : List ℕ) → AreMeantCommits commits → AreMeant (root_of commits k)
root_of_meant commits k meant = database_meant (commits k) (λ one e. meant k one e)

base_kept : (commits : Commits) (k : Option (List ℕ)) → AreKeptCommits commits → IsKept (option_map_or (root_of commits) k [])
base_kept commits None kept = empty_kept
base_kept commits (Some k) kept = root_kept commits k kept

-- ---- DOLT_MERGE

module _ (told : SamenessIsEquality) (session : Session) (t : Transaction) (kept : IsKeptTransaction t) (meant : IsMeantTransaction t) where
  joined_meant : (other : List ℕ) → IfOk (merged_with t other) (λ (m : MergedDatabase). AreMeant m.database)
  joined_meant other = by (root3 (base_root t other) (own_root t) (root_of t.commits other)) refl
    where
      by : (r : Result MergedDatabase SchemaConflict) → root3 (base_root t other) (own_root t) (root_of t.commits other) ≡ r
          → IfOk (and_then (or_schema_conflict r) if_within_limits) (λ (m : MergedDatabase). AreMeant m.database)
      by (Ok m) e = unless_ok (λ (m : MergedDatabase). AreMeant m.database) (not (is_database_within_limits m.database)) 9010 (Ok m) (λ small.
          root_meant told (base_root t other) (own_root t) (root_of t.commits other) m (base_kept t.commits (base t.commits t.own.head other) kept.commits) (root_kept t.commits t.own.head kept.commits)
          (root_kept t.commits other kept.commits) (root_of_meant t.commits t.own.head meant.commits) (root_of_meant t.commits other meant.commits) e)
      by (Err conflict) e = tt

  made_meant : (request : MergeOf) (other : List ℕ) (m : MergedDatabase) → AreMeant m.database → IsMeantWork (merge_made session t request other m)
  made_meant request other m h =
      let own = meant.own in
      let more : IsMeantState (in_progress t.own other m) = record { working = recorded_meant m.database h; staged = own.staged } in
      elim (is_clean m) as (λ b. IsMeantWork (cond b (Closes (Joining m.database other (merge_message session request))) (Answers (merge_reply [] 0 1 (codes "conflicts found")) (in_progress t.own other m)))) [
        | true ↦ h
        | false ↦ more
      ]

  with_meant : (request : MergeOf) (other : List ℕ) → IfOk (merge_with session t request other) IsMeantWork
  with_meant request other =
      let level : Outcome Worked = Ok (Answers (merge_reply [] 0 0 (codes "up to date")) t.own) in
      let forward : Outcome Worked = Ok (Closes (Forwarding other)) in
      let make : MergedDatabase → Outcome Worked = λ merged. Ok (merge_made session t request other merged) in
      let joined : Outcome Worked = and_then (merged_with t other) make in
      let ahead = is_ancestor t.commits other t.own.head && not request.no_ff in
      let one : IfOk joined IsMeantWork = then_ok IsMeantWork (merged_with t other) make (λ m e. made_meant request other m (subst (λ (r : Outcome MergedDatabase). IfOk r (λ (m : MergedDatabase). AreMeant m.database)) e (joined_meant other))) in
      let rest : IfOk (cond ahead forward joined) IsMeantWork = elim ahead as (λ b. IfOk (cond b forward joined) IsMeantWork) [ true ↦ tt | false ↦ one ] in
      let own = meant.own in
      elim (is_ancestor t.commits t.own.head other) as (λ b. IfOk (cond b level (cond ahead forward joined)) IsMeantWork) [ true ↦ own | false ↦ rest ]

  pub merge_meant : (request : MergeRequest) → IfOk (merge session t request) IsMeantWork
  merge_meant merging.Abort =
      let root = root_of_meant t.commits t.own.head meant.commits in
      unless_ok IsMeantWork (not (is_some t.own.merging)) 9012 (Ok (Answers (merge_reply [] 0 0 (codes "merge aborted")) (clean_at t.own.head (own_root t)))) (λ open_. record { working = root; staged = root })
  merge_meant (merging.Merge request) =
      let go : List ℕ → Outcome Worked = λ other. unless (has_changes t) 9006 (merge_with session t request other) in
      then_ok IsMeantWork (or_refuse 9004 (resolved t.heads t.commits request.name)) go (λ other e. unless_ok IsMeantWork (has_changes t) 9006 (merge_with session t request other) (λ clean. with_meant request other))
