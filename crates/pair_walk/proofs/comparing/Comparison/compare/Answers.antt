use Rattle.std.proofs.Common.{ap, sym, subst}
use Rattle.prolly_tree.specs.Heads.{level_of}
use Rattle.pair_walk.specs.Turns.{IsTurn}
use Rattle.pair_walk.proofs.Arms.{head_new_higher, head_old_higher}
use Rattle.pair_walk.proofs.comparing.Comparison.compare.Goals as goal

pub returns-in-Row-Below : goal.returns-in-Row-Below
returns-in-Row-Below g c =
    subst (IsTurn c.args.self.now) (sym c.open_new.ensures)
    (head_new_higher c.args.self.now c.in-Row-Below.level-1 c.args.old c.args.new c.requires.old c.requires.new (ap level_of c.in-Row-Below.is-0) (ap level_of c.in-Row-Below.is-1))

pub returns-in-Below-Row : goal.returns-in-Below-Row
returns-in-Below-Row g c =
    subst (IsTurn c.args.self.now) (sym c.open_old.ensures)
    (head_old_higher c.args.self.now c.in-Below-Row.level-0 c.args.old c.args.new c.requires.old c.requires.new (ap level_of c.in-Below-Row.is-0) (ap level_of c.in-Below-Row.is-1))
