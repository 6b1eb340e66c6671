-- A session's pool of pages.
use Rattle.std.specs.Prelude.{ℕ}
use Rattle.session_state.specs.declared.sessions.Session.{Session}

-- the session with so many free pages; all else of it is the same
abbrev pub with_free : {D : Type 0} → ℕ → Session D → Session D
with_free free session = record session { draft = record session.draft { free = free } }
