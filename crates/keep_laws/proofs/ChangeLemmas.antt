-- What a decision makes of a branch, and the commit that it makes.
use Rattle.std.proofs.Common.{◌≡◌, refl, ℕ, ℤ, true, not, nat_le, List, [], ◌∷◌, length, Option, None, Some, Ok}
use Rattle.std.specs.Option.{option_to_list}
use Rattle.script_text.specs.declared.replies.Reply.{Reply}
use Rattle.schema_model.specs.Limits.{most_parents}
use Rattle.schema_model.specs.PlainCommits.{Commits}
use Rattle.schema_model.specs.PlainTables.{PlainDatabase}
use Rattle.expr_eval.specs.Binding.{Outcome}
use Rattle.table_merge.specs.Laws.{MergesAreTables}
use Rattle.plain_sessions.specs.CommitRule.{decide}
use Rattle.plain_sessions.specs.Merging.{Ending, Committing, Forwarding, Joining}
use Rattle.plain_sessions.specs.Moments.{Change, closed, commit_of, committed_as, forwarded, merged_as, ruled, unless_moved, without_commit}
use Rattle.plain_sessions.specs.Records.{BranchState, commit_on, is_same_state, root_of}
use Rattle.plain_sessions.specs.Sessions.{Session, Transaction}
use Rattle.plain_writes.specs.WriteLaws.{IsKept}
use Rattle.plain_writes.proofs.OutcomeLemmas.{then_so, unless_so}
use Rattle.keep_laws.specs.StateLaws.{AreKeptCommits, ChangesKeep, IsKeptChange, IsKeptCommit, IsKeptEnding, IsKeptState, IsKeptTransaction}
use Rattle.keep_laws.proofs.DecideLemmas.{decided_kept}
use Rattle.keep_laws.proofs.WorkLemmas.{clean_kept, root_kept}
use Rattle.keep_laws.proofs.TestLemmas.{if_ok, ok_has}

few_parents : (head : List ℕ) (other : Option (List ℕ)) → nat_le (length (head ∷ option_to_list other)) most_parents ≡ true
few_parents head None = refl
few_parents head (Some other) = refl

commit_kept : (commits : Commits) (epoch : ℤ) (name : List ℕ) (database : PlainDatabase) (parents : List (List ℕ)) (message : List ℕ) → IsKept database
    → nat_le (length parents) most_parents ≡ true → IsKeptCommit commits epoch (commit_on commits epoch name database parents message)
commit_kept commits epoch name database parents message kept few = record { database = kept; parents = few; height = refl; date = refl }

module _ (law : MergesAreTables) where
  ruled_kept : (commits : Commits) (epoch : ℤ) (session : Session) (t : Transaction) (present : BranchState) (reply : Reply) (change : Change) → IsKeptTransaction t → IsKeptState present
      → ruled session t present reply ≡ Ok change → IsKeptChange commits epoch change
  ruled_kept commits epoch session t present reply change kept p e =
      let state = then_so (decide t.start present t.own session.variables) (λ state. Ok (without_commit reply state)) change e in
      ok_has (IsKeptChange commits epoch) (without_commit reply state.0) change
      (record { becomes = decided_kept law t.start present t.own state.0 session.variables kept.start p kept.own state.1; made = tt }) state.2

  moved_kept : (commits : Commits) (epoch : ℤ) (t : Transaction) (present : BranchState) (made change : Change) → IsKeptChange commits epoch made → unless_moved t present made ≡ Ok change
      → IsKeptChange commits epoch change
  moved_kept commits epoch t present made change kept e =
      let whole : Outcome Change = Ok made in
      let parts = unless_so (not (is_same_state present t.start)) 1213 whole change e in
      ok_has (IsKeptChange commits epoch) made change kept parts.1

  closed_kept : (address : List ℕ → List ℕ) (epoch : ℤ) (commits : Commits) (session : Session) (t : Transaction) (present : BranchState) (ending : Ending) (change : Change)
      → AreKeptCommits commits → IsKeptTransaction t → IsKeptState present → IsKeptEnding ending → closed address epoch commits session t present ending ≡ Ok change
      → IsKeptChange commits epoch change
  closed_kept address epoch commits session t present (Committing own message) change are kept p o e =
      let state = then_so (decide t.start present own session.variables) (λ state. Ok (committed_as address (commit_of epoch commits session present message state) state)) change e in
      let settled = decided_kept law t.start present own state.0 session.variables kept.start p o state.1 in
      let commit = commit_of epoch commits session present message state.0 in
      ok_has (IsKeptChange commits epoch) (committed_as address commit state.0) change (record {
        becomes = record { working = settled.working; staged = settled.staged };
        made = commit_kept commits epoch session.name state.0.staged (present.head ∷ option_to_list state.0.merging) message settled.staged (few_parents present.head state.0.merging);
      }) state.2
  closed_kept address epoch commits session t present (Forwarding other) change are kept p o e =
      moved_kept commits epoch t present (forwarded commits other) change (record { becomes = clean_kept other (root_of commits other) (root_kept commits other are); made = tt }) e
  closed_kept address epoch commits session t present (Joining database other message) change are kept p o e =
      let commit = commit_on commits epoch session.name database (t.own.head ∷ other ∷ []) message in
      moved_kept commits epoch t present (merged_as address commit) change (record {
        becomes = record { working = o; staged = o };
        made = commit_kept commits epoch session.name database (t.own.head ∷ other ∷ []) message o refl;
      }) e

  pub changes_keep : ChangesKeep
  changes_keep = record {
    rules = λ commits epoch session t present reply kept p. if_ok (IsKeptChange commits epoch) (ruled session t present reply)
        (λ change e. ruled_kept commits epoch session t present reply change kept p e);
    closings = λ address epoch commits session t present ending are kept p o. if_ok (IsKeptChange commits epoch) (closed address epoch commits session t present ending)
        (λ change e. closed_kept address epoch commits session t present ending change are kept p o e);
  }
