-- Steps on the list of branches, served for a session.
use Rattle.std.specs.Prelude.{◌≡◌, ◌≢◌, ℕ, ℤ, List, [], ◌∷◌, ◌++◌, Some, codes, slice_get}
use Rattle.chunk_store.specs.Chunks.{Lists}
use Rattle.tuple_codec.specs.declared.answers.Answer.{Answer}
use Rattle.script_text.specs.Output.{shortage}
use Rattle.script_text.specs.declared.replies.Reply.{Reply}
use Rattle.script_text.specs.declared.replies.Reply.TheVariants.{Refused, Rows}
use Rattle.plain_sessions.specs.Moments.{past}
use Rattle.plain_sessions.specs.Records.{Shared}
use Rattle.plain_sessions.specs.Sessions as plain
use Rattle.plain_sessions.specs.declared.commands.Command.{Command}
use Rattle.run_laws.specs.Turns.{InOneTurn}
use Rattle.session_state.specs.Changes.{Parts, StateStands}
use Rattle.session_state.specs.Standing.{SessionStands}
use Rattle.session_state.specs.declared.sessions.Session.{Session}
use Rattle.shared_db.specs.declared.changes.BranchReply.{BranchReply}
use Rattle.shared_db.specs.declared.changes.BranchReply.TheVariants as ended
use Rattle.serving.specs.Serving.{turn_at}

abbrev pub switched_message : List ℕ → List ℕ
switched_message name = codes "Switched to branch '" ++ name ++ codes "'"

-- what a step that ended so is answered
abbrev pub step_reply : Answer → BranchReply → Reply
step_reply row ended.Done = Rows row
step_reply row ended.NoSuch = Refused 9004
step_reply row ended.Exists = Refused 9005
step_reply row ended.Full = Refused 9010
step_reply row ended.CheckedOut = Refused 9014

-- the plain session and the shared state after the answer, at one moment, to a statement that may have put the session on another branch; it hasn't gone on yet
pub record Went {D : Type 0} (address : List ℕ → List ℕ) (epoch : ℤ) (p : plain.Session) (asked : Command) (shared : Shared) (old new : Parts) (session : Session D) (reply : Reply) : Type 0 where
  pub said : plain.Session
  pub last : Shared
  pub is : InOneTurn address epoch (shortage reply) p asked (turn_at p shared last) (past p.statement (said, reply))
  pub session_stands : SessionStands address session said
  pub number : said.number ≡ p.number
  pub state_stands : StateStands address new last
  pub placed : slice_get last.places p.number ≡ Some said.branch
  pub others : (place : ℕ) → place ≢ p.number → slice_get last.places place ≡ slice_get shared.places place
  pub later : Lists session.draft.chunks.base new.chunks
  pub grown : Lists old.chunks new.chunks
  pub moments : new.moments ≡ old.moments ++ record { session = p.number; statement = p.statement } ∷ []
  pub numbers : new.numbers ≡ old.numbers
