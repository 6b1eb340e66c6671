-- How a decision ends.
use Rattle.std.specs.Prelude.{◌≡◌, ℕ, List}
use Rattle.script_text.specs.declared.replies.Reply.{Reply}
use Rattle.script_text.specs.declared.replies.Reply.TheVariants.{Collided, Refused}
use Rattle.plain_sessions.specs.Sessions as plain
use Rattle.plain_sessions.specs.Sessions.{over}
use Rattle.session_state.specs.Standing.{SessionStands}
use Rattle.session_state.specs.declared.sessions.Session.{Session}
use Rattle.shared_db.specs.declared.changes.DecisionPlan.{DecisionPlan}
use Rattle.shared_db.specs.declared.changes.Settled.{Settled}
use Rattle.shared_db.specs.declared.changes.Settled.TheVariants as settled

-- it isn't to be planned anew
abbrev pub IsFinal : Settled → Type 0
IsFinal (settled.Moved rec) = ⊥
IsFinal other = Unit {0}

-- the transaction is over where it was done; else the session is as it was
abbrev pub IsFinished : {D : Type 0} → (List ℕ → List ℕ) → Session D → Session D → DecisionPlan → Settled → Reply → Type 0
IsFinished address old new plan settled.Done reply =
    (reply ≡ plan.reply) × ((p : plain.Session) → SessionStands address old p → SessionStands address new (over p))
IsFinished address old new plan (settled.Moved rec) reply = ⊥
IsFinished address old new plan (settled.Collision clash) reply = (reply ≡ Collided clash) × (new ≡ old)
IsFinished address old new plan settled.Memory reply = (reply ≡ Refused 1) × (new ≡ old)
