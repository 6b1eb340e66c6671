use Rattle.std.proofs.Common.{◌∙◌, sym}
use Rattle.sql_select.proofs.naming.value_among.Goals as goal

pub returns-in-Some : goal.returns-in-Some
returns-in-Some c = λ value e. (c.part-item.result, (c.loop-part.part-index, c.loop-part-test.true, sym c.part-item.is), c.in_ok-value.ensures value (c.in-Some.is ∙ e))
