use Rattle.std.proofs.Common.{◌∙◌, sym}
use Rattle.serving.proofs.ComingLemmas.{needs_moment}
use Rattle.serving.proofs.coming.in_place_at_once.Goals as goal

-- src/coming.rt
pub returns-else-is_alone-clause-waits : goal.returns-else-is_alone-clause-waits
returns-else-is_alone-clause-waits g c = λ same p stands.
    (needs_moment p c.args.asked.now c.requires.in_place (sym (c.is_alone.ensures p stands) ∙ c.if-is_alone.false), stands)
