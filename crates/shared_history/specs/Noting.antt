-- What a meeting notes, beside the value that is shared.
use Rattle.std.specs.Prelude.{ℕ, Bool, false, List, Option, None, Some, Result, Ok, Err}
use Rattle.std.specs.declared.alloc.AllocError.{AllocError}
use Rattle.tuple_codec.specs.declared.records.BranchRecord.{BranchRecord}
use Rattle.table_root.specs.declared.heads.Look.{Look}
use Rattle.session_state.specs.Changes.{Parts}
use Rattle.shared_db.specs.declared.changes.Settled.{Settled}
use Rattle.shared_db.specs.declared.changes.Settled.TheVariants as settled
use Rattle.run_laws.specs.Histories.{ToldTurn}
use Rattle.seat_gate.specs.History.{Spelling}
use Rattle.shared_history.specs.Meeting.{Tells, risen}
use Rattle.shared_history.specs.declared.notes.Notes.{Notes}

-- what is told by the notes, where these parts were seen last
abbrev pub told_by_notes : Parts → Bool → Bool → Option (List (ToldTurn Spelling)) → Notes → Tells
told_by_notes seen held lone made notes = record {
  session = notes.session;
  statement = notes.statement;
  seen = seen;
  held = held;
  lone = lone;
  looked = notes.looked;
  calls = notes.calls;
  lost = notes.lost;
  holds = notes.holds;
  made = made;
}

-- before any call
abbrev pub first_notes : ℕ → ℕ → Notes
first_notes session statement = record { session = session; statement = statement; looked = None; calls = 0; lost = 0; holds = 0 }

abbrev pub with_call : Notes → Notes
with_call notes = record notes { calls = risen notes.calls }

abbrev pub with_record : BranchRecord → Notes → Notes
with_record rec notes = record notes { looked = Some rec; calls = risen notes.calls }

abbrev pub with_loss : Notes → Notes
with_loss notes = record notes { calls = risen notes.calls; lost = risen notes.lost }

abbrev pub with_hold : Notes → Notes
with_hold notes = record notes { calls = risen notes.calls; holds = risen notes.holds }

-- behind a call that shows a branch
abbrev pub after_look : Result Look AllocError → Notes → Notes
after_look (Ok look) notes = with_record look.rec notes
after_look (Err e) notes = with_call notes

abbrev pub after_settled : Settled → Notes → Notes
after_settled settled.Done notes = with_call notes
after_settled (settled.Moved rec) notes = with_loss notes
after_settled (settled.Collision clash) notes = with_call notes
after_settled settled.Memory notes = with_call notes

-- behind a settle
abbrev pub after_settle : Result (Settled × Option Look) AllocError → Notes → Notes
after_settle (Ok both) notes = after_settled both.0 notes
after_settle (Err e) notes = with_call notes

abbrev pub held_after_settled : Settled → Bool → Bool
held_after_settled settled.Done held = false
held_after_settled (settled.Moved rec) held = held
held_after_settled (settled.Collision clash) held = false
held_after_settled settled.Memory held = false

-- what was held is still held where the record had moved, or memory was wanting for the look ahead
abbrev pub held_after : Result (Settled × Option Look) AllocError → Bool → Bool
held_after (Ok both) held = held_after_settled both.0 held
held_after (Err e) held = held
