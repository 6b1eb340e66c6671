use Rattle.std.proofs.Common.{ap, sym, subst}
use Rattle.prolly_tree.specs.Heads.{level_of}
use Rattle.pair_walk.specs.Turns.{IsTurn}
use Rattle.pair_walk.proofs.Arms.{head_new_last}
use Rattle.pair_walk.proofs.comparing.Comparison.go_on_new.Goals as goal

pub returns-in-Below : goal.returns-in-Below
returns-in-Below g c =
    subst (IsTurn c.args.self.now) (sym c.open_new.ensures)
    (head_new_last c.args.self.now c.in-Below.level c.args.head c.requires.old c.requires.new (ap level_of c.in-Below.is))
