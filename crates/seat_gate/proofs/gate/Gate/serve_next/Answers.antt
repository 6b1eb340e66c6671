use Rattle.std.proofs.Common.{arith}
use Rattle.seat_gate.proofs.Moves.{rises}
use Rattle.seat_gate.proofs.gate.Gate.serve_next.Goals as goal

pub fetch_add-requires : goal.fetch_add-requires
fetch_add-requires g c =
    let here = c.args.self.now.sized.0 in
    let value = c.requires.fits in
    (c.requires.here, omega arith, rises _ _ _ _ _ c.args.self.now.sized.1 c.requires.serves value.0 value.1 value.2)
