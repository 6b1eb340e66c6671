-- How the database is left behind a call of a meeting at the gate.
use Rattle.std.specs.Prelude.{ℕ, Bool, true, false, Option, Result, Ok, Err}
use Rattle.std.specs.declared.alloc.AllocError.{AllocError}
use Rattle.table_root.specs.declared.heads.Look.{Look}
use Rattle.seat_gate.specs.History.{Spelling, View, entry, with_entry}
use Rattle.shared_db.specs.declared.changes.Settled.{Settled}
use Rattle.shared_db.specs.declared.changes.Settled.TheVariants as settled

-- what the seat knows, which knew this much while it held: marked there is an entry of its own more
abbrev pub view_after : Bool → View → ℕ → Spelling → View
view_after true view note left = with_entry (entry view.number note left) view
view_after false view note left = view

abbrev pub is_done : Settled → Bool
is_done settled.Done = true
is_done (settled.Moved rec) = false
is_done (settled.Collision clash) = false
is_done settled.Memory = false

-- whether the settle made its moment
abbrev pub is_made : Result (Settled × Option Look) AllocError → Bool
is_made (Ok both) = is_done both.0
is_made (Err e) = false
