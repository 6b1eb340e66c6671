use Rattle.std.proofs.Common.{subst}
use Rattle.sql_select.specs.Parts.{AreTold}
use Rattle.sql_select.specs.declared.spans.End.TheVariants as end
use Rattle.sql_select.proofs.KeyLemmas.{ends_told, fixed_all, fixed_more}
use Rattle.sql_select.proofs.test_seeking.told_span.Goals as goal

pub loop-position-preserved : goal.loop-position-preserved
loop-position-preserved c =
    fixed_more c.args.schema.now c.args.first.now c.args.rest.now c.as_slice-position-items.result.now c.loop-position.position-index c.from-place.result c.loop-position.fixed c.push.new.self c.in-Some.value
    c.loop-position-test.true c.from-place.ensures c.in_ok-push-in-Some.ensures.ok (c.in_ok-value.ensures c.in-Some.value c.in-Some.is) c.loop-position.invariant

pub returns-in-None : goal.returns-in-None
returns-in-None c =
    subst (λ places. AreTold c.args.schema.now c.args.first.now c.args.rest.now places c.loop-position.fixed c.in_ok-low-in-None.low c.in_ok-high-in-None.high) c.as_slice-position-items.ensures
    (ends_told c.args.schema.now c.args.first.now c.args.rest.now c.as_slice-position-items.result.now c.loop-position.position-index c.from-place.result c.loop-position.fixed c.in_ok-low-in-None.low c.in_ok-high-in-None.high
    c.loop-position-test.true c.from-place.ensures c.in_ok-low-in-None.ensures c.in_ok-high-in-None.ensures c.loop-position.invariant)

pub returns : goal.returns
returns c =
    subst (λ places. AreTold c.args.schema.now c.args.first.now c.args.rest.now places c.loop-position.fixed end.Open end.Open) c.as_slice-position-items.ensures
    (fixed_all c.args.schema.now c.args.first.now c.args.rest.now c.as_slice-position-items.result.now c.loop-position.position-index c.loop-position.fixed c.loop-position-test.false c.loop-position.invariant)
