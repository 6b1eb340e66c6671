use Rattle.std.proofs.Common.{arith}
use Rattle.std.specs.Prelude.{bit_or}
use Rattle.seat_gate.proofs.Moves.{lies}
use Rattle.seat_gate.proofs.gate.Gate.lie_down.Goals as goal

pub fetch_or-requires : goal.fetch_or-requires
fetch_or-requires g c =
    let here = c.args.self.now.sized.0 in
    (c.requires.here, omega arith, lies g.T.Kept.fits _ _ _ _ 3 (λ n. bit_or n 1) (omega arith))
