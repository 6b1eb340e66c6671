-- The plain session for which a session stands.
use Rattle.std.specs.Prelude.{◌≡◌, ℕ, Bool, true, false, List, None, Some, ◌&&◌, not, is_some}
use Rattle.chunk_store.specs.Drafts.{IsNamed}
use Rattle.plain_sessions.specs.Sessions as plain
use Rattle.plain_sessions.specs.Sessions.{Before, is_before_statement}
use Rattle.plain_sessions.specs.StateLimits.{is_committer}
use Rattle.session_state.specs.Commits.{HasNoCommit}
use Rattle.session_state.specs.Transactions.{StartStands}
use Rattle.session_state.specs.declared.sessions.Position.{Position}
use Rattle.session_state.specs.declared.sessions.Position.TheVariants as place
use Rattle.session_state.specs.declared.sessions.Session.{Session}

-- before a statement, or after its start and before its decision
abbrev pub IsAt : Position → ℕ → plain.Place → Type 0
IsAt (place.Before number) statement there = (number ≡ statement) × (there ≡ Before)
IsAt (place.Between number) statement there = (number ≡ statement) × (is_before_statement there ≡ false)

-- its parts are the plain session's; what the draft has of its own are no commits
pub record SessionStands {D : Type 0} (address : List ℕ → List ℕ) (session : Session D) (p : plain.Session) : Type 0 where
  pub name : session.name ≡ p.name
  pub number : session.number ≡ p.number
  pub branch : session.branch ≡ p.branch
  pub autocommit : session.autocommit ≡ p.variables.autocommit
  pub allow : session.allow ≡ p.variables.allow
  pub force : session.force ≡ p.variables.force
  pub position : IsAt session.position p.statement p.place
  pub transaction : StartStands address session.draft.chunks session.start session.own p.transaction
  pub named : IsNamed address session.draft.chunks
  pub plain_own : HasNoCommit session.draft.chunks.own
  pub committer : is_committer p.name ≡ true

-- some plain session is the one for which it stands, and it is in a transaction
abbrev pub IsInTransaction : {D : Type 0} → (List ℕ → List ℕ) → Session D → Type 0
IsInTransaction address session = (p : plain.Session) × (t : plain.Transaction) × SessionStands address session p × (p.transaction ≡ Some t)
