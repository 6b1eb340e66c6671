use Rattle.std.proofs.Common.{sym, ◌∙◌, subst}
use Rattle.std.proofs.lemmas.Result.{on_ok_weaker}
use Rattle.tuple_codec.specs.Nodes.{leaf_item}
use Rattle.pair_walk.specs.Turns.{IsTurn}
use Rattle.pair_walk.proofs.Arms.{arm_added, arm_removed}
use Rattle.pair_walk.proofs.comparing.Comparison.compare_rows.Goals as goal

pub returns-in-Less : goal.returns-in-Less
returns-in-Less g c =
    on_ok_weaker c.add.result
    (λ e. subst (IsTurn c.args.self.now) (sym e)
    (arm_added c.args.self.now (leaf_item c.args.key.now c.args.value.now) (leaf_item c.args.other.now c.args.new.now) c.requires.old c.requires.new (sym c.cmp.ensures ∙ c.in-Less.is)))
    c.add.ensures

pub returns-in-Greater : goal.returns-in-Greater
returns-in-Greater g c =
    on_ok_weaker c.remove.result
    (λ e. subst (IsTurn c.args.self.now) (sym e)
    (arm_removed c.args.self.now (leaf_item c.args.key.now c.args.value.now) (leaf_item c.args.other.now c.args.new.now) c.requires.old c.requires.new (sym c.cmp.ensures ∙ c.in-Greater.is)))
    c.remove.ensures
