use Rattle.std.proofs.Common.{◌∙◌}
use Rattle.root_merge.specs.Settling.{either}
use Rattle.root_merge.proofs.settling.left_in_record.Goals as goal

pub returns-clause-is : goal.returns-clause-is
returns-clause-is g c = λ state stands.
    c.either.ensures ∙ (λ i. either (c.in_ok-working.ensures.is state.working stands.working i) (c.in_ok-staged.ensures.is state.staged stands.staged i))
