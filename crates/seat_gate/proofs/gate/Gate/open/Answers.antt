use Rattle.std.proofs.Common.{◌≡◌, ◌∷◌, ◌++◌, [], replicate, ap, sym, ◌∙◌, subst, List, Option, Some}
use Rattle.atomic_table.specs.Table.{opening}
use Rattle.seat_gate.specs.Places.{first_place}
use Rattle.seat_gate.specs.Rule.{Ordered}
use Rattle.seat_gate.proofs.Meetings.{opens}
use Rattle.seat_gate.proofs.gate.Gate.open.Goals as goal

pub new-requires : goal.new-requires
new-requires g c =
    let kept = g.T.Kept in
    let value = c.args.value in
    let opened = kept.spelled c.of-opening.result.value in
    let items : c.push_reserved.new.self.items ≡ Some value ∷ [] = c.push_reserved.ensures.items ∙ ap (λ l. l ++ Some value ∷ []) c.in_ok-slots.ensures.items in
    subst (λ (l : List (Option g.row.T.Denot)). Ordered kept.fits opened (opening (replicate 4 0) l (first_place opened))) (sym items)
    (opens kept.fits opened value (subst (λ v. kept.fits value (kept.spelled v) []) (sym c.of-opening.ensures) c.requires))
