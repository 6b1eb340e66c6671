-- The turns that a seat tells.
use Rattle.std.proofs.Common.{◌≡◌, refl, sym, ◌∙◌, ap, ℕ, List, [], ◌∷◌, ◌++◌, map}
use Rattle.std.proofs.lemmas.List.{map-append}
use Rattle.session_state.specs.Changes.{Parts}
use Rattle.seat_gate.specs.History.{Entry, HasMade, Spelling, StartsWith, View, entries_of, entry, having_seen, with_entry}
use Rattle.seat_gate.specs.Told.{left_last, told_by}
use Rattle.seat_gate.proofs.Telling.{left_append, told_on_entering, told_on_leaving}
use Rattle.shared_history.specs.Spelling.{spelling_of}
use Rattle.thread_run.specs.Turns.{told_turn, turns_of}

-- seeing more, in which are no entries of its own, tells of no more turns
pub turns_on_entering : (v : View) (seen : List Entry) → HasMade v → StartsWith seen v.seen → entries_of v.number seen ≡ v.made → turns_of (having_seen seen v) ≡ turns_of v
turns_on_entering v seen made starts own = ap (λ turns. map told_turn turns) (told_on_entering v.number v.opened seen v.seen starts (own ∙ sym made))

-- an entry of its own is one turn more
pub turns_on_leaving : (v : View) (note : ℕ) (left : Spelling)
    → turns_of (with_entry (entry v.number note left) v) ≡ turns_of v ++ record { statement = note; found = left_last v.opened v.seen; left = left } ∷ []
turns_on_leaving v note left =
    ap (λ turns. map told_turn turns) (told_on_leaving v.number v.opened v.seen (entry v.number note left) refl)
    ∙ map-append told_turn (told_by v.number v.opened v.seen) (record { note = note; found = left_last v.opened v.seen; left = left } ∷ [])

-- what a marked turn leaves is what its seat saw last
pub left_behind : (view : View) (note : ℕ) (parts : Parts)
    → spelling_of parts ≡ left_last view.opened (with_entry (entry view.number note (spelling_of parts)) view).seen
left_behind view note parts = sym (left_append view.opened view.seen (entry view.number note (spelling_of parts) ∷ []))
