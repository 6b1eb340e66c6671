use Rattle.std.proofs.Common.{◌≡◌, []}
use Rattle.plain_sql.specs.Links.{AreCalm, OneNeedsLink, PassesOver}
use Rattle.plain_sql.proofs.LinkLemmas.{over_and, over_one, some_weaker}
use Rattle.plain_sql.proofs.linking.link_of_test.Goals as goal

pub returns-in-And : goal.returns-in-And
returns-in-And c =
    some_weaker c.calm_link.result
    (λ link. AreCalm c.get.result.now c.as_slice.result.now × OneNeedsLink c.args.width link c.get.result.now c.as_slice.result.now)
    (λ link. PassesOver c.args.width link c.args.test.now)
    (λ link is. over_and c.args.width link c.args.test.now c.in-And.first c.get.result.now c.in-And.rest c.as_slice.result.now c.in-And.is c.get.ensures c.as_slice.ensures is)
    c.calm_link.ensures

pub returns-in_default : goal.returns-in_default
returns-in_default c =
    some_weaker c.calm_link-in_default.result
    (λ link. AreCalm c.args.test.now.node [] × OneNeedsLink c.args.width link c.args.test.now.node [])
    (λ link. PassesOver c.args.width link c.args.test.now)
    (λ link is. over_one c.args.width link c.args.test.now is)
    c.calm_link-in_default.ensures
