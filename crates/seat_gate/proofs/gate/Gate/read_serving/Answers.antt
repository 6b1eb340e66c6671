use Rattle.std.proofs.Common.{arith}
use Rattle.seat_gate.proofs.Moves.{looks}
use Rattle.seat_gate.proofs.gate.Gate.read_serving.Goals as goal

pub load-requires : goal.load-requires
load-requires g c =
    let here = c.args.self.now.sized.0 in
    let waits = c.requires.waits in
    (c.requires.here, omega arith, looks _ _ _ _ _ waits.0 waits.1)
