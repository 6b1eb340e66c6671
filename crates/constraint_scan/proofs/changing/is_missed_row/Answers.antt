use Rattle.std.proofs.Common.{◌∙◌, List, Some, ap, sym, ℕ}
use Rattle.plain_writes.specs.Violations.{places_of}
use Rattle.constraint_scan.proofs.MissLemmas.{missed_row}
use Rattle.constraint_scan.proofs.changing.is_missed_row.Goals as goal

pub returns-in-Some : goal.returns-in-Some
returns-in-Some g c = λ before after contents table are child same.
    let parent = c.args.parent.now in
    let places = c.as_slice-in-Some.result.now in
    missed_row c.is_missed_at.result after contents c.args.foreign.now table parent c.args.row.now places same
    (ap (places_of parent) (sym c.as_slice.ensures) ∙ sym c.in_ok-places.ensures ∙ c.in-Some.is ∙ ap (λ (l : List ℕ). Some l) (sym c.as_slice-in-Some.ensures))
    (c.is_missed_at.ensures before after contents are child)
