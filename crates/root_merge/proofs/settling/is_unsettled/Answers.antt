use Rattle.std.proofs.Common.{◌∙◌, sym}
use Rattle.root_merge.proofs.SettlingLemmas.{left_open}
use Rattle.root_merge.proofs.settling.is_unsettled.Goals as goal

pub returns-clause-is : goal.returns-clause-is
returns-clause-is g c = λ state stands.
    left_open c.args.branch.now.merging state c.in_ok-left.left c.is_any.result stands.merging (sym c.is_some.ensures ∙ c.if-is_some.false) (c.in_ok-left.ensures.is state stands) c.is_any.ensures
