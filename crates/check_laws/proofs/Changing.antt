-- What a decision makes of a branch, and the commit that it makes.
use Rattle.std.proofs.Common.{ℕ, ℤ, not, List, [], ◌∷◌, Ok}
use Rattle.std.specs.Prelude.{IfOk}
use Rattle.schema_model.specs.PlainCommits.{Commits}
use Rattle.schema_model.specs.Sameness.{SamenessIsEquality}
use Rattle.script_text.specs.declared.replies.Reply.{Reply}
use Rattle.plain_sessions.specs.CommitRule.{decide}
use Rattle.plain_sessions.specs.Merging.{Ending, Committing, Forwarding, Joining}
use Rattle.plain_sessions.specs.Moments.{Change, closed, commit_of, committed_as, forwarded, merged_as, ruled, unless_moved, without_commit}
use Rattle.plain_sessions.specs.Records.{BranchState, commit_on, is_same_state}
use Rattle.plain_sessions.specs.Sessions.{Session, Transaction}
use Rattle.keep_laws.specs.StateLaws.{IsKeptEnding, IsKeptState, IsKeptTransaction}
use Rattle.check_laws.specs.Meant.{AreMeantCommits, IsMeantChange, IsMeantEnding, IsMeantState, IsMeantTransaction}
use Rattle.check_laws.specs.Moments.{ChangesKeepChecks}
use Rattle.check_laws.proofs.MergeCalls.{root_of_meant}
use Rattle.check_laws.proofs.Outcomes.{follow, unless_ok}
use Rattle.check_laws.proofs.Roots.{decided_meant}

unmoved_meant : (t : Transaction) (present : BranchState) (made : Change) → IsMeantChange made → IfOk (unless_moved t present made) IsMeantChange
unmoved_meant t present made meant = unless_ok IsMeantChange (not (is_same_state present t.start)) 1213 (Ok made) (λ same. meant)

module _ (told : SamenessIsEquality) (session : Session) (t : Transaction) (present : BranchState) (kept : IsKeptTransaction t) (p : IsKeptState present) (meant : IsMeantTransaction t)
    (here : IsMeantState present) where
  ruled_meant : (reply : Reply) → IfOk (ruled session t present reply) IsMeantChange
  ruled_meant reply =
      follow IsMeantState IsMeantChange (decide t.start present t.own session.variables) (λ state. Ok (without_commit reply state))
      (decided_meant told t.start present t.own session.variables kept.start p kept.own here meant.own) (λ state m. record { becomes = m; made = tt })

  closed_meant : (address : List ℕ → List ℕ) (epoch : ℤ) (commits : Commits) (ending : Ending) → IsKeptEnding ending → AreMeantCommits commits → IsMeantEnding ending
      → IfOk (closed address epoch commits session t present ending) IsMeantChange
  closed_meant address epoch commits (Committing own message) o are m =
      follow IsMeantState IsMeantChange (decide t.start present own session.variables) (λ state. Ok (committed_as address (commit_of epoch commits session present message state) state))
      (decided_meant told t.start present own session.variables kept.start p o here m) (λ state s. record { becomes = record { working = s.working; staged = s.staged }; made = s.staged })
  closed_meant address epoch commits (Forwarding other) o are m =
      let root = root_of_meant commits other are in
      unmoved_meant t present (forwarded commits other) (record { becomes = record { working = root; staged = root }; made = tt })
  closed_meant address epoch commits (Joining database other message) o are m =
      unmoved_meant t present (merged_as address (commit_on commits epoch session.name database (t.own.head ∷ other ∷ []) message)) (record { becomes = record { working = m; staged = m }; made = m })

pub changes_keep : SamenessIsEquality → ChangesKeepChecks
changes_keep told = record {
  decisions = decided_meant told;
  rules = λ session t present reply kept p meant here. ruled_meant told session t present kept p meant here reply;
  closings = λ address epoch commits session t present ending kept p o are meant here m. closed_meant told session t present kept p meant here address epoch commits ending o are m;
}
