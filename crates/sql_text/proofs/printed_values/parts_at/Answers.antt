use Rattle.std.proofs.Common.{arith}
use Rattle.sql_text.proofs.ScaleLemmas.{ten_positive}
use Rattle.sql_text.proofs.printed_values.parts_at.Goals as goal

pub nonzero_div-result : goal.nonzero_div-result
nonzero_div-result c = omega (arith, ten_positive c.from.result, c.in-Some.ensures)

pub nonzero_rem-result : goal.nonzero_rem-result
nonzero_rem-result c = omega (arith, ten_positive c.from.result, c.in-Some.ensures)
