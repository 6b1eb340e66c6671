use Rattle.std.proofs.Common.{map, subst}
use Rattle.std.specs.Option.{IfSome}
use Rattle.std.proofs.lemmas.Result.{IfOk-weaker}
use Rattle.plain_sql.specs.Links.{ServesLookup, Skips, Sorts}
use Rattle.plain_sql.specs.Plans.{meaning}
use Rattle.plain_sql.proofs.LinkLemmas.{some_weaker}
use Rattle.plain_sql.proofs.LookupLemmas.{serves_by}
use Rattle.plain_sql.proofs.lookups.lookup_of.Goals as goal

pub returns-in-Some : goal.returns-in-Some
returns-in-Some c =
    let tests = map meaning c.args.tests.now in
    let skips : Skips tests c.args.width c.in-Some.link = subst (λ o. IfSome o (λ link. Skips tests c.args.width link)) c.in-Some.is c.link_of.ensures in
    IfOk-weaker c.lookup_by.result (λ found. IfSome found (Sorts c.in-Some.link c.args.width c.args.rows.now)) (λ found. IfSome found (ServesLookup tests c.args.rows.now))
    (λ found. some_weaker found (Sorts c.in-Some.link c.args.width c.args.rows.now) (ServesLookup tests c.args.rows.now)
    (λ lookup sorts. serves_by tests c.args.rows.now c.in-Some.link c.args.width lookup skips sorts))
    c.lookup_by.ensures
