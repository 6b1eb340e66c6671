-- What calls share: the session's own record in its draft, a refusal's number, and the reply with a row of `status`.
use Rattle.std.specs.Prelude.{ℕ, List, [], ◌∷◌, Option, None, Some, Ok, Err}
use Rattle.tuple_codec.specs.declared.records.BranchRecord.{BranchRecord}
use Rattle.chunk_store.specs.Chunks.{chunk_bytes}
use Rattle.chunk_store.specs.Drafts.{DraftParts, chunks_of}
use Rattle.expr_eval.specs.Binding.{Outcome}
use Rattle.schema_model.specs.PlainCommits.{Commits}
use Rattle.script_text.specs.declared.replies.Reply.{Reply}
use Rattle.plain_sessions.specs.Branching.{status}
use Rattle.plain_sessions.specs.Records.{BranchState}
use Rattle.plain_sessions.specs.Replies.{one_row}
use Rattle.session_state.specs.Commits.{CommitsAreThere}
use Rattle.session_state.specs.Records.{RecordStands}

-- a record stands in a draft for a state, and the store below has all commits
pub record OwnStands (address : List ℕ → List ℕ) (draft : DraftParts) (own : BranchRecord) (commits : Commits) (state : BranchState) : Type 0 where
  pub stands : RecordStands address (chunks_of draft) commits own state
  pub all_there : CommitsAreThere address (chunk_bytes draft.base) commits

-- the number of a refusal, if it is one
abbrev pub refusal_of : {A : Type 0} → Outcome A → Option ℕ
refusal_of (Ok x) = None
refusal_of (Err number) = Some number

abbrev pub status_reply : Reply
status_reply = one_row (status ∷ [])
