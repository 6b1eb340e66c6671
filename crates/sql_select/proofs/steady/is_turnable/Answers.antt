use Rattle.std.proofs.Common.{◌∙◌, sym}
use Rattle.sql_select.proofs.SteadyLemmas.{turned_calm}
use Rattle.sql_select.proofs.steady.is_turnable.Goals as goal

pub returns-in-Constant : goal.returns-in-Constant
returns-in-Constant c = λ there.
    turned_calm c.in-Constant.kind c.in-Constant.value c.args.operand.now c.of.result c.negate.result c.in-Constant.is c.of.ensures c.negate.ensures (sym c.is_some.ensures ∙ there)
