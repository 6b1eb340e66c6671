-- What a session answers by itself, and what it decides on.
use Rattle.std.specs.Prelude.{◌≡◌, ℕ, List, Some}
use Rattle.chunk_store.specs.Chunks.{Lists}
use Rattle.chunk_store.specs.Stores.{all_chunks}
use Rattle.script_text.specs.Output.{shortage}
use Rattle.script_text.specs.declared.replies.Reply.{Reply}
use Rattle.table_root.specs.declared.heads.Look.{Look}
use Rattle.plain_sessions.specs.Records.{BranchState, Shared, state_of}
use Rattle.plain_sessions.specs.Sessions as plain
use Rattle.plain_sessions.specs.Moments.{alone_by}
use Rattle.plain_sessions.specs.declared.commands.Command.{Command}
use Rattle.session_state.specs.Transactions.{IsLookOf}
use Rattle.session_state.specs.Standing.{SessionStands}
use Rattle.session_state.specs.declared.sessions.Session.{Session}

-- the session answers so by itself, with the want of memory or the collision that the reply tells
pub record AnswersAlone {D : Type 0} (address : List ℕ → List ℕ) (p : plain.Session) (asked : Command) (session : Session D) (reply : Reply) : Type 0 where
  pub after : plain.Session
  pub is : alone_by (shortage reply) p asked ≡ Some (after, reply)
  pub stands : SessionStands address session after

-- a session in a transaction decides on its branch as a look shows it: over a store that has all that the draft's store has
pub record Decides {D : Type 0} (address : List ℕ → List ℕ) (session : Session D) (look : Look) (p : plain.Session) (t : plain.Transaction) (shared : Shared) (present : BranchState) : Type 0 where
  pub session_stands : SessionStands address session p
  pub transaction : p.transaction ≡ Some t
  pub look_is : IsLookOf address look shared
  pub branch : look.branch ≡ p.branch
  pub present_is : state_of shared.branches p.branch ≡ Some present
  pub later : Lists session.draft.chunks.base (all_chunks look.store)
