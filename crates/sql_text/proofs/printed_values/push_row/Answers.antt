use Rattle.std.proofs.Common.{arith}
use Rattle.std.proofs.lemmas.Grind.{common_steps}
use Rattle.sql_text.proofs.CommaLemmas.{no_row, row_first}
use Rattle.sql_text.proofs.printed_values.push_row.Goals as goal

pub returns-in_ok-push_value-in-len1-up-len1-up : goal.returns-in_ok-push_value-in-len1-up-len1-up
returns-in_ok-push_value-in-len1-up-len1-up c = grind (arith, common_steps, row_first)

pub returns-in_default-2 : goal.returns-in_default-2
returns-in_default-2 c = grind (arith, common_steps, no_row)
