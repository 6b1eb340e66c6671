use Rattle.std.proofs.Common.{◌+◌, map, drop, subst}
use Rattle.std.specs.Option.{IfSome}
use Rattle.plain_sql.specs.Links.{PassesOver}
use Rattle.plain_sql.specs.Plans.{meaning}
use Rattle.plain_sql.proofs.LinkLemmas.{skips_behind, skips_by, skips_from}
use Rattle.plain_sql.proofs.linking.link_of.Goals as goal

pub loop-test-init : goal.loop-test-init
loop-test-init c = λ link skips. skips

pub returns-in-Some : goal.returns-in-Some
returns-in-Some c =
    let width = c.args.width in
    let tests = c.args.tests.now in
    let test = c.test-item.result in
    let over : PassesOver width c.in-Some.link test = subst (λ o. IfSome o (λ link. PassesOver width link test)) c.in-Some.is c.link_of_test.ensures in
    c.loop-test.invariant c.in-Some.link
    (skips_from width c.in-Some.link tests c.loop-test.test-index test c.loop-test-test.true c.test-item.is
    (skips_by width c.in-Some.link test (map meaning (drop (c.loop-test.test-index + 1) tests)) over))

pub loop-test-preserved : goal.loop-test-preserved
loop-test-preserved c = λ link skips.
    let width = c.args.width in
    let tests = c.args.tests.now in
    let test = c.test-item.result in
    c.loop-test.invariant link
    (skips_from width link tests c.loop-test.test-index test c.loop-test-test.true c.test-item.is
    (skips_behind width link test (map meaning (drop (c.loop-test.test-index + 1) tests)) (c.is_calm.ensures c.if-not-is_calm.false) skips))
