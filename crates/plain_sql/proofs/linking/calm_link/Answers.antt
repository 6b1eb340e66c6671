use Rattle.plain_sql.specs.Links.{AreCalm, OneNeedsLink}
use Rattle.plain_sql.proofs.LinkLemmas.{some_weaker}
use Rattle.plain_sql.proofs.linking.calm_link.Goals as goal

pub returns : goal.returns
returns c =
    some_weaker c.first_link.result
    (λ link. OneNeedsLink c.args.width link c.args.first.now c.args.rest.now)
    (λ link. AreCalm c.args.first.now c.args.rest.now × OneNeedsLink c.args.width link c.args.first.now c.args.rest.now)
    (λ link parts. ((c.is_calm.ensures c.if-not-is_calm.false, c.are_calm.ensures c.if-not-are_calm.false), parts))
    c.first_link.ensures
