use Rattle.std.proofs.Common.{◌≡◌, ◌+◌, ◌<◌, Some, ap, refl, sym, subst, ◌∙◌, drop, length, arith}
use Rattle.std.specs.Option.{option_map}
use Rattle.std.specs.List.{slice_get}
use Rattle.tuple_codec.specs.Nodes.{Item, items_bytes}
use Rattle.prolly_tree.proofs.Descents.{rows_step}
use Rattle.prolly_tree.proofs.PassingLemmas.{name_is, name_read, others_here, rows_at_end, size_here}
use Rattle.prolly_tree.proofs.passing.rows_named.Goals as goal

pub first_name-below-requires : goal.first_name-below-requires
first_name-below-requires c =
    let node = c.args.node.now in
    name_is node.level node.items c.loop-name._name c.loop-name.rest.now c.requires.inner c.items-rest.ensures.node.items c.loop-name.invariant.spelled (omega arith)

pub overflow_add-rows : goal.overflow_add-rows
overflow_add-rows c =
    let node = c.args.node.now in
    let at = c.loop-name._name in
    let name : Item = record { key = c.first_name-below.result.0.now; body = c.first_name-below.result.1.0; rows = c.first_name-below.result.2 } in
    let here = name_read node.level node.items at c.loop-name.rest.now name c.requires.inner c.items-rest.ensures.node.items c.loop-name.invariant.spelled (omega arith) c.first_name-below.ensures in
    let step = rows_step node.items at c.loop-name.rows name.rows (ap (option_map (λ (item : Item). item.rows)) here.got) c.loop-name.invariant.counted in
    omega (arith, step.1, c.requires.few)

pub split_at-requires : goal.split_at-requires
split_at-requires c =
    let node = c.args.node.now in
    let at = c.loop-name._name in
    let name : Item = record { key = c.first_name-below.result.0.now; body = c.first_name-below.result.1.0; rows = c.first_name-below.result.2 } in
    let here = name_read node.level node.items at c.loop-name.rest.now name c.requires.inner c.items-rest.ensures.node.items c.loop-name.invariant.spelled (omega arith) c.first_name-below.ensures in
    omega (arith, size_here node.level (30 + length name.key) node.items at c.loop-name.rest.now name here)

pub loop-name-preserved : goal.loop-name-preserved
loop-name-preserved c =
    let node = c.args.node.now in
    let at = c.loop-name._name in
    let name : Item = record { key = c.first_name-below.result.0.now; body = c.first_name-below.result.1.0; rows = c.first_name-below.result.2 } in
    let here = name_read node.level node.items at c.loop-name.rest.now name c.requires.inner c.items-rest.ensures.node.items c.loop-name.invariant.spelled (omega arith) c.first_name-below.ensures in
    record {
      spelled = c.split_at.ensures.back ∙ others_here node.level (30 + length name.key) node.items at c.loop-name.rest.now name here;
      counted = (rows_step node.items at c.loop-name.rows name.rows (ap (option_map (λ (item : Item). item.rows)) here.got) c.loop-name.invariant.counted).0;
    }

pub returns : goal.returns
returns c =
    let node = c.args.node.now in
    omega (arith, c.loop-name.invariant.counted, rows_at_end node.items c.loop-name._name (omega arith))
