use Rattle.std.proofs.Common.{◌≡◌, ◌∙◌, IfOk, ap, map, subst}
use Rattle.plain_writes.specs.Seen.{named_seen}
use Rattle.plain_writes.specs.Violations.{first_violation}
use Rattle.plain_writes.specs.CheckTexts.{checks}
use Rattle.constraint_scan.proofs.judging.judged.Goals as goal

pub returns : goal.returns
returns g c = λ before after old_at new_at.
    let old = ap (map named_seen) c.as_slice.ensures ∙ c.in_ok-before.ensures before old_at in
    let new = ap (map named_seen) c.as_slice-2.ensures ∙ c.in_ok-after.ensures after new_at in
    subst (λ number. IfOk c.first_violation.result (λ found. found ≡ number)) ((λ i. first_violation checks (old i) (new i)) ∙ c.law_of_refusals.ensures.told checks before after) c.first_violation.ensures
