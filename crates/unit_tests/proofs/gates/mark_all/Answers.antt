use Rattle.std.proofs.Common.{ℕ, ◌++◌, ◌∷◌, [], map, ap, refl, sym, ◌∙◌, append_assoc, arith}
use Rattle.std.specs.List.{range_with_len}
use Rattle.std.proofs.lemmas.List.FromFn.{map-range_with_len_more}
use Rattle.seat_gate.specs.Words.{shown}
use Rattle.seat_gate.specs.Standing.{stand_view}
use Rattle.seat_gate.specs.declared.entry.Entry.{Entry}
use Rattle.seat_gate.proofs.WorkerLemmas.{keeps_on}
use Rattle.unit_tests.proofs.gates.mark_all.Goals as goal

pub loop-note-preserved : goal.loop-note-preserved
loop-note-preserved g c =
    let before = c.loop-note.invariant in
    let told = c.if-not-mark.ensures in
    let made = map shown (stand_view c.args.stand.now).made in
    let note = c.loop-note.note in
    let turn : ℕ → Entry = λ note. record { seat = c.args.number; note = note } in (
      told.ready,
      told.same ∙ before.1,
      keeps_on _ _ _ before.2 told.keeps,
      told.made refl
          ∙ (ap (λ l. l ++ turn note ∷ []) before.3
          ∙ (append_assoc made (map turn (range_with_len 0 note)) (turn note ∷ [])
          ∙ ap (λ l. made ++ l) (sym (map-range_with_len_more turn 0 note note (omega arith))))),
    )
