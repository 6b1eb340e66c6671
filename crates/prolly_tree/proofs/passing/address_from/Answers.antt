use Rattle.std.proofs.Common.{◌≡◌, ◌+◌, ◌<◌, ap, refl, sym, subst, ◌∙◌, drop, length, Some, arith}
use Rattle.std.specs.List.{slice_get}
use Rattle.tuple_codec.specs.Nodes.{Item, items_bytes}
use Rattle.prolly_tree.specs.Lists.{place_of}
use Rattle.prolly_tree.proofs.PassingLemmas.{name_is, name_read, others_here, place_end, place_found, place_passed, size_here}
use Rattle.prolly_tree.proofs.passing.address_from.Goals as goal

pub first_name-requires : goal.first_name-requires
first_name-requires c =
    let node = c.args.node.now in
    name_is node.level node.items c.loop-name._name c.loop-name.rest.now c.requires c.items-rest.ensures.node.items c.loop-name.invariant.spelled (omega arith)

pub returns-then-not-is_below : goal.returns-then-not-is_below
returns-then-not-is_below c =
    let node = c.args.node.now in
    let at = c.loop-name._name in
    let name : Item = record { key = c.first_name.result.0.now; body = c.first_name.result.1.0; rows = c.first_name.result.2 } in
    let here = name_read node.level node.items at c.loop-name.rest.now name c.requires c.items-rest.ensures.node.items c.loop-name.invariant.spelled (omega arith) c.first_name.ensures in
    let place = place_found c.args.key.now node.items at name here.got (sym c.is_below.ensures ∙ c.if-not-is_below.true) c.loop-name.invariant.place in
    (name, subst (λ n. slice_get node.items n ≡ Some name) place here.got, refl)

pub split_at-requires : goal.split_at-requires
split_at-requires c =
    let node = c.args.node.now in
    let at = c.loop-name._name in
    let name : Item = record { key = c.first_name.result.0.now; body = c.first_name.result.1.0; rows = c.first_name.result.2 } in
    let here = name_read node.level node.items at c.loop-name.rest.now name c.requires c.items-rest.ensures.node.items c.loop-name.invariant.spelled (omega arith) c.first_name.ensures in
    omega (arith, size_here node.level (30 + length name.key) node.items at c.loop-name.rest.now name here)

pub loop-name-preserved : goal.loop-name-preserved
loop-name-preserved c =
    let node = c.args.node.now in
    let at = c.loop-name._name in
    let name : Item = record { key = c.first_name.result.0.now; body = c.first_name.result.1.0; rows = c.first_name.result.2 } in
    let here = name_read node.level node.items at c.loop-name.rest.now name c.requires c.items-rest.ensures.node.items c.loop-name.invariant.spelled (omega arith) c.first_name.ensures in
    record {
      spelled = c.split_at.ensures.back ∙ others_here node.level (30 + length name.key) node.items at c.loop-name.rest.now name here;
      place = place_passed c.args.key.now node.items at name here.got (sym c.is_below.ensures ∙ c.if-not-is_below.false) c.loop-name.invariant.place;
    }

pub returns : goal.returns
returns c =
    let node = c.args.node.now in
    place_end c.args.key.now node.items c.loop-name._name (omega arith) c.loop-name.invariant.place
