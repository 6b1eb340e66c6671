use Rattle.std.proofs.Common.{ap, arith}
use Rattle.seat_gate.specs.History.{Entry}
use Rattle.seat_gate.proofs.Moves.{writes}
use Rattle.seat_gate.proofs.gate.Gate.count_entry.Goals as goal

pub fetch_add-requires : goal.fetch_add-requires
fetch_add-requires g c =
    let here = c.args.self.now.sized.0 in
    (c.requires.here, omega arith, writes _ _ _ _ _ g.N.Note.entry c.requires.serves (ap (λ (e : Entry). e.seat) c.requires.picked))
