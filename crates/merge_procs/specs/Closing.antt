-- Whether a DOLT_MERGE has its decision, and a session that has only looked.
use Rattle.std.specs.Prelude.{◌≡◌, Bool, true, false, Ok, Err}
use Rattle.expr_eval.specs.Binding.{Outcome}
use Rattle.plain_sessions.specs.Merging.{Worked, Answers, Closes}
use Rattle.session_state.specs.declared.sessions.Session.{Session}

-- it is a fast-forward, or clean
abbrev pub is_closing : Outcome Worked → Bool
is_closing (Ok (Closes ending)) = true
is_closing (Ok (Answers reply own)) = false
is_closing (Err number) = false

-- the session is as it was, but for pages of its draft's pool
pub record IsAsBefore {D : Type 0} (old new : Session D) : Type 0 where
  pub same : new ≡ record old { draft = new.draft }
  pub chunks : new.draft.chunks ≡ old.draft.chunks
  pub segments : new.draft.segments ≡ old.draft.segments
