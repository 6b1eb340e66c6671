use Rattle.std.proofs.Common.{◌≡◌, ◌+◌, ◌<◌, ap, sym, subst, ◌∙◌, drop, length, suc, arith}
use Rattle.tuple_codec.specs.Nodes.{Item, items_bytes, leaf_item}
use Rattle.prolly_tree.specs.Lists.{first_of, from_key, place_of}
use Rattle.prolly_tree.proofs.Descents.{from_end, from_place}
use Rattle.prolly_tree.proofs.PassingLemmas.{each_row, leaf_spelled, others_here, place_end, place_found, place_passed, row_is, row_read, size_here}
use Rattle.prolly_tree.proofs.passing.value_from.Goals as goal

pub loop-row-init : goal.loop-row-init
loop-row-init c = record { spelled = leaf_spelled c.args.leaf.now.level c.args.leaf.now.items _ c.requires c.items-rest.ensures.bytes; place = omega arith }

pub first_row-requires : goal.first_row-requires
first_row-requires c =
    let leaf = c.args.leaf.now in
    row_is leaf.items c.loop-row._row c.loop-row.rest.now (each_row leaf.level leaf.items c.requires c.items-rest.ensures.node.items) c.loop-row.invariant.spelled (omega arith)

pub returns-then-not-is_below : goal.returns-then-not-is_below
returns-then-not-is_below c =
    let leaf = c.args.leaf.now in
    let at = c.loop-row._row in
    let key = c.first_row.result.0.now in
    let value = c.first_row.result.1.now in
    let each = each_row leaf.level leaf.items c.requires c.items-rest.ensures.node.items in
    let here = row_read leaf.items at c.loop-row.rest.now key value each c.loop-row.invariant.spelled (omega arith) c.first_row.ensures in
    let place = place_found c.args.key.now leaf.items at (leaf_item key value) here.got (sym c.is_below.ensures ∙ c.if-not-is_below.true) c.loop-row.invariant.place in
    c.value_of.ensures ∙ sym (ap (first_of c.args.key.now) (from_place c.args.key.now leaf.items at (leaf_item key value) place here.got))

pub split_at-requires : goal.split_at-requires
split_at-requires c =
    let leaf = c.args.leaf.now in
    let at = c.loop-row._row in
    let key = c.first_row.result.0.now in
    let value = c.first_row.result.1.now in
    let each = each_row leaf.level leaf.items c.requires c.items-rest.ensures.node.items in
    let here = row_read leaf.items at c.loop-row.rest.now key value each c.loop-row.invariant.spelled (omega arith) c.first_row.ensures in
    omega (arith, size_here 0 (4 + length key + length value) leaf.items at c.loop-row.rest.now (leaf_item key value) here)

pub loop-row-preserved : goal.loop-row-preserved
loop-row-preserved c =
    let leaf = c.args.leaf.now in
    let at = c.loop-row._row in
    let key = c.first_row.result.0.now in
    let value = c.first_row.result.1.now in
    let each = each_row leaf.level leaf.items c.requires c.items-rest.ensures.node.items in
    let here = row_read leaf.items at c.loop-row.rest.now key value each c.loop-row.invariant.spelled (omega arith) c.first_row.ensures in
    record {
      spelled = c.split_at.ensures.back ∙ others_here 0 (4 + length key + length value) leaf.items at c.loop-row.rest.now (leaf_item key value) here;
      place = place_passed c.args.key.now leaf.items at (leaf_item key value) here.got (sym c.is_below.ensures ∙ c.if-not-is_below.false) c.loop-row.invariant.place;
    }

pub returns : goal.returns
returns c =
    let leaf = c.args.leaf.now in
    ap (first_of c.args.key.now) (sym (from_end c.args.key.now leaf.items (place_end c.args.key.now leaf.items c.loop-row._row (omega arith) c.loop-row.invariant.place)))

pub overflow_add-found-in-loop-row : goal.overflow_add-found-in-loop-row
overflow_add-found-in-loop-row c =
    let leaf = c.args.leaf.now in
    let at = c.loop-row._row in
    let key = c.first_row.result.0.now in
    let value = c.first_row.result.1.now in
    let each = each_row leaf.level leaf.items c.requires c.items-rest.ensures.node.items in
    let here = row_read leaf.items at c.loop-row.rest.now key value each c.loop-row.invariant.spelled (omega arith) c.first_row.ensures in
    omega (arith, here.is.0, here.is.1)
