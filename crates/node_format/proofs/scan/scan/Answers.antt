use Rattle.std.proofs.Common.{refl, sym, arith}
use Rattle.std.specs.Option.{option_map}
use Rattle.node_format.specs.Views.{seen}
use Rattle.node_format.proofs.ScanLemmas.{begins, goes_on, has_more, is_whole, stops_here}
use Rattle.node_format.proofs.scan.scan.Goals as goal

pub loop-number-init : goal.loop-number-init
loop-number-init c = begins c.args.level c.args.count c.args.items.now c.stride_for-stride.result _ c.stride_for-stride.ensures.step c.stride_for-stride.ensures.room refl

pub returns-in-None-clause-err : goal.returns-in-None-clause-err
returns-in-None-clause-err c =
    stops_here c.args.level c.args.count c.args.items.now c.loop-number.number (option_map (λ key. key.now) c.loop-number.before) c.loop-number.rest.now c.stride_for-stride.result c.loop-number.places
    c.loop-number-test.true (sym c.in-None.ensures) c.loop-number.invariant

pub loop-number-preserved : goal.loop-number-preserved
loop-number-preserved c =
    goes_on c.args.level c.args.count c.args.items.now c.loop-number.number (option_map (λ key. key.now) c.loop-number.before) c.loop-number.rest.now c.stride_for-stride.result c.loop-number.places c.note.new.places
    (seen c.in-Some.item, c.in-Some.after.now) (λ i. omega (arith, c.type_inv.items i)) c.loop-number-test.true (sym c.in-Some.ensures) c.note.ensures c.loop-number.invariant

pub returns-then-is_empty-clause-ok : goal.returns-then-is_empty-clause-ok
returns-then-is_empty-clause-ok c =
    is_whole c.args.level c.args.count c.args.items.now c.loop-number.number (option_map (λ key. key.now) c.loop-number.before) c.loop-number.rest.now c.stride_for-stride.result c.loop-number.places
    c.loop-number-test.false c.loop-number.invariant (sym c.if-is_empty.ensures)

pub returns-else-is_empty-clause-err : goal.returns-else-is_empty-clause-err
returns-else-is_empty-clause-err c =
    has_more c.args.level c.args.count c.args.items.now c.loop-number.number (option_map (λ key. key.now) c.loop-number.before) c.loop-number.rest.now c.stride_for-stride.result c.loop-number.places
    c.loop-number-test.false c.loop-number.invariant (sym c.if-is_empty.ensures)
