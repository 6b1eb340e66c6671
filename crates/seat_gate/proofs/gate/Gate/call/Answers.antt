use Rattle.std.proofs.Common.{◌+◌, ◌%◌, arith}
use Rattle.seat_gate.specs.Rule.{turn}
use Rattle.seat_gate.proofs.Moves.{lies}
use Rattle.seat_gate.proofs.gate.Gate.call.Goals as goal

pub fetch_add-requires : goal.fetch_add-requires
fetch_add-requires g c =
    let here = c.args.self.now.sized.0 in
    (c.requires.here, omega arith, lies g.T.Kept.fits _ _ _ _ 3 (λ n. (n + 1) % turn) (omega arith))
