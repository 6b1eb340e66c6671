use Rattle.std.proofs.Common.{◌≡◌, ◌+◌, length, sym, ap, ◌∙◌, subst, arith}
use Rattle.seat_gate.specs.History.{View}
use Rattle.seat_gate.specs.Words.{HasJoinedBelow, seat_view}
use Rattle.seat_gate.specs.Working.{views_of}
use Rattle.seat_gate.proofs.Gathering.{all_gathered}
use Rattle.seat_gate.proofs.gate.Gate.close_all.Goals as goal

pub close-requires-clause-counted : goal.close-requires-clause-counted
close-requires-clause-counted g c =
    let views = views_of c.args.workers.now in
    let many : (seat_view c.gather-last.result).given ≡ length views + 1 = ap (λ (v : View). v.given) c.gather-last.ensures.view ∙ (all_gathered (seat_view c.args.first) views c.requires.all).0 in
    omega (arith, many)

pub close-requires-clause-all : goal.close-requires-clause-all
close-requires-clause-all g c =
    let views = views_of c.args.workers.now in
    subst (λ (v : View). HasJoinedBelow v.given v) (sym c.gather-last.ensures.view) (all_gathered (seat_view c.args.first) views c.requires.all).1
