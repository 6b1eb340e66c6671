use Rattle.std.proofs.Common.{◌∙◌, ap, not}
use Rattle.merge_procs.proofs.StepLemmas.{aborts, has_head, if_so}
use Rattle.merge_procs.proofs.courses.aborted.Goals as goal

pub head_root-requires-after_bounds : goal.head_root-requires-after_bounds
head_root-requires-after_bounds g c κs within = has_head g.D.Digester.address c.args.session.now c.requires

pub returns : goal.returns
returns g c = λ p t stands there.
    if_so _ _ c.answered.result
    (λ made is. aborts g.D.Digester.address c.args.session.now p t c.in_ok-root.root made stands there (c.is_none.ensures ∙ ap not c.if-is_none.false) c.in_ok-root.ensures is)
    c.answered.ensures
