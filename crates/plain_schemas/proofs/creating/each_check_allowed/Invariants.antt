use Rattle.std.proofs.Common.{◌≡◌, drop}
use Rattle.plain_schemas.specs.Lists.{all_allowed}
use Rattle.plain_schemas.specs.Effects.{check_allowed}
use Rattle.plain_schemas.proofs.creating.each_check_allowed.Given as goal

abbrev pub invariant-loop-element : goal.invariant-loop-element
invariant-loop-element l =
    all_allowed (check_allowed l.scope) l.elements ≡ all_allowed (check_allowed l.scope) (drop l.element-index l.elements)
