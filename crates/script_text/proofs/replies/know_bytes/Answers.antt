use Rattle.std.proofs.Common.{arith}
use Rattle.script_text.proofs.ByteLemmas.{are_bytes_from}
use Rattle.script_text.proofs.replies.know_bytes.Goals as goal

pub returns : goal.returns
returns c = are_bytes_from c.args.bytes.now (λ i. omega (arith, c.type_inv.bytes i))
