use Rattle.std.proofs.Common.{arith}
use Rattle.seat_gate.proofs.Moves.{recalls}
use Rattle.seat_gate.proofs.gate.Gate.recall.Goals as goal

pub load-requires : goal.load-requires
load-requires g c =
    let here = c.args.self.now.sized.0 in
    (c.requires.here, omega arith, recalls g.T.Kept.fits _ _ _ _ c.requires.live)
