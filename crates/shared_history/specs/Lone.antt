-- The shared database with which one thread leads all sessions.
use Rattle.std.specs.Prelude.{◌≡◌, ℕ, ◌<◌, ◌^◌, List, true, None}
use Rattle.seat_gate.specs.History.{Entry, Spelling}
use Rattle.shared_history.specs.Fitting.{Fits}
use Rattle.shared_history.specs.Meeting.{Tells}
use Rattle.shared_history.specs.Noting.{told_by_notes}
use Rattle.shared_history.specs.declared.lone.LoneDb.{LoneDb}

-- no other session acts between the calls, and the moments made aren't told
abbrev pub tells_alone : {D : Type 0} → LoneDb D → Tells
tells_alone lone = told_by_notes lone.db.parts lone.held true None lone.notes

-- it fits some history, and serves the session of its beginning
pub record IsAlone {D : Type 0} (address : List ℕ → List ℕ) (first now : LoneDb D) : Type 0 where
  pub opened : Spelling
  pub log : List Entry
  pub fits : Fits address now.db opened log
  pub small : now.notes.statement < 2 ^ 32
  pub session : now.notes.session ≡ first.notes.session
