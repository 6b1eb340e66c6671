use Rattle.std.proofs.Common.{◌+◌, ◌*◌, ◌/◌, ◌^◌, ap, sym, ◌∙◌, arith}
use Rattle.std.specs.Prelude.{nat_lt}
use Rattle.std.proofs.lemmas.Bool.{le-leb, lt-leb}
use Rattle.node_format.proofs.EndLemmas.{one, full, small, between}
use Rattle.node_format.proofs.boundary.ends_here.Goals as goal

pub returns-then-size-ge16384 : goal.returns-then-size-ge16384
returns-then-size-ge16384 g c =
    le-leb 16384 c.args.size (omega arith) ∙ sym (full g.D.Digester.address c.args.level c.args.size c.args.count c.args.key.now (omega arith) (omega arith))

pub returns-then-size-ge512 : goal.returns-then-size-ge512
returns-then-size-ge512 g c =
    let number = c.from.ensures ∙ c.draw.ensures in
    sym (between g.D.Digester.address c.args.level c.args.size c.args.count c.args.key.now c.from.result (omega arith) (omega arith) (omega arith) number
    ∙ ap (λ s. nat_lt c.from.result ((1 + s / 1024) * 2 ^ 24)) (sym c.from-then-size-ge512.ensures))

pub returns-else-size-ge512 : goal.returns-else-size-ge512
returns-else-size-ge512 g c =
    lt-leb 512 c.args.size (omega arith) ∙ sym (small g.D.Digester.address c.args.level c.args.size c.args.count c.args.key.now (omega arith) (omega arith))

pub returns-else-count-ge2 : goal.returns-else-count-ge2
returns-else-count-ge2 g c =
    lt-leb 2 c.args.count (omega arith) ∙ sym (one g.D.Digester.address c.args.level c.args.size c.args.count c.args.key.now (omega arith))
