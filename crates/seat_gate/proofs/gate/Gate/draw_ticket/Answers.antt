use Rattle.std.proofs.Common.{arith}
use Rattle.seat_gate.proofs.Moves.{tries}
use Rattle.seat_gate.proofs.gate.Gate.draw_ticket.Goals as goal

pub compare_exchange-found-requires : goal.compare_exchange-found-requires
compare_exchange-found-requires g c =
    let here = c.args.self.now.sized.0 in
    let rests = c.requires.rests in
    (c.requires.here, omega arith, tries g.T.Kept.fits _ _ _ _ rests.0 rests.1 rests.2 _)
