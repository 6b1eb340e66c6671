use Rattle.std.proofs.Common.{rules, append_assoc}
use Rattle.script_text.proofs.printing.push_branch.Goals as goal

pub returns : goal.returns
returns c = search (rules, append_assoc)
