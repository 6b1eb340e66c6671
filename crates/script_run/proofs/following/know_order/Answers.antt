use Rattle.std.proofs.Common.{arith}
use Rattle.script_run.proofs.following.know_order.Goals as goal

pub returns : goal.returns
returns c = omega (arith, c.items_in.ensures.lists, c.items_in.type_inv.1)
