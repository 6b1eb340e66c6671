use Rattle.std.proofs.Common.{◌∙◌, Ok, Err, map, ap}
use Rattle.std.specs.Option.{option_copied}
use Rattle.node_format.specs.Views.{leaf_of}
use Rattle.schema_merge.specs.TableMerge.{conflict_if}
use Rattle.schema_merge.specs.KeyByKey.{kept}
use Rattle.tuple_codec.specs.RowRule.{row3}
use Rattle.table_merge.specs.Walking.{DecidesRow, sides_of, three_in}
use Rattle.table_merge.proofs.WalkLemmas.{at_key, base_fits, key_fits, merged_fits, ours_fits, theirs_fits, walk_begun, walk_stops, stops_with, walked_all, walked_on}
use Rattle.table_merge.proofs.walking.merge_lists.Goals as goal

pub loop-key-init : goal.loop-key-init
loop-key-init c =
    walk_begun c.args.schema.now c.args.base.now c.args.ours.now c.args.theirs.now c.requires.base c.requires.ours c.requires.theirs c.requires.schema _ _ _
    (c.deref-key-items.ensures.value ∙ c.in_ok-keys.ensures) (ap (map leaf_of) c.new-rows.ensures.items) (ap (map leaf_of) c.new-conflicts.ensures.items)

pub decide-requires-clause-key : goal.decide-requires-clause-key
decide-requires-clause-key c =
    key_fits c.args.schema.now (three_in c.args.base.now c.args.ours.now c.args.theirs.now) c.deref-key-items.result.now c.loop-key.key-index c.key-item.result _ _ c.loop-key-test.true c.key-item.is c.loop-key.invariant

pub decide-requires-clause-base : goal.decide-requires-clause-base
decide-requires-clause-base c =
    base_fits c.args.schema.now c.args.base.now c.args.ours.now c.args.theirs.now c.requires.base c.requires.ours c.requires.theirs c.key-item.result (option_copied c.find.result) c.find.ensures

pub decide-requires-clause-ours : goal.decide-requires-clause-ours
decide-requires-clause-ours c =
    ours_fits c.args.schema.now c.args.base.now c.args.ours.now c.args.theirs.now c.requires.base c.requires.ours c.requires.theirs c.key-item.result (option_copied c.find-in-loop-key.result) c.find-in-loop-key.ensures

pub decide-requires-clause-theirs : goal.decide-requires-clause-theirs
decide-requires-clause-theirs c =
    theirs_fits c.args.schema.now c.args.base.now c.args.ours.now c.args.theirs.now c.requires.base c.requires.ours c.requires.theirs c.key-item.result (option_copied c.find-in-loop-key-2.result) c.find-in-loop-key-2.ensures

pub decide-requires-clause-merged : goal.decide-requires-clause-merged
decide-requires-clause-merged c =
    merged_fits c.args.schema.now c.args.base.now c.args.ours.now c.args.theirs.now c.requires.base c.requires.ours c.requires.theirs c.key-item.result
    (option_copied c.find.result) (option_copied c.find-in-loop-key.result) (option_copied c.find-in-loop-key-2.result) c.find.ensures c.find-in-loop-key.ensures c.find-in-loop-key-2.ensures

pub loop-key-preserved : goal.loop-key-preserved
loop-key-preserved c =
    let s = c.args.schema.now in
    let b = c.args.base.now in
    let o = c.args.ours.now in
    let t = c.args.theirs.now in
    let key = c.key-item.result in
    let d = at_key s b o t c.requires.base c.requires.ours c.requires.theirs
    (λ x y z. DecidesRow (Ok c.in_ok-decided.decided) s (kept y (row3 x y z)) (conflict_if (sides_of key x y z) (row3 x y z))) key
    (option_copied c.find.result) (option_copied c.find-in-loop-key.result) (option_copied c.find-in-loop-key-2.result) c.find.ensures c.find-in-loop-key.ensures c.find-in-loop-key-2.ensures c.in_ok-decided.ensures in
    walked_on s (three_in b o t) c.deref-key-items.result.now c.loop-key.key-index key _ _ c.loop-key-test.true c.key-item.is c.loop-key.invariant _ _ _ _
    d.0 d.1 d.2 c.in_ok-push_perhaps.ensures c.in_ok-push_perhaps-2.ensures

pub returns-in_err-decided : goal.returns-in_err-decided
returns-in_err-decided c =
    let s = c.args.schema.now in
    let b = c.args.base.now in
    let o = c.args.ours.now in
    let t = c.args.theirs.now in
    let key = c.key-item.result in
    let d = at_key s b o t c.requires.base c.requires.ours c.requires.theirs
    (λ x y z. DecidesRow (Err c.in_err-decided.field-0.0) s (kept y (row3 x y z)) (conflict_if (sides_of key x y z) (row3 x y z))) key
    (option_copied c.find.result) (option_copied c.find-in-loop-key.result) (option_copied c.find-in-loop-key-2.result) c.find.ensures c.find-in-loop-key.ensures c.find-in-loop-key-2.ensures c.in_err-decided.ensures in
    stops_with s (three_in b o t) _ _ c.from_residual-in_err-decided.result c.in_err-decided.field-0.0 d
    (walk_stops s (three_in b o t) c.deref-key-items.result.now c.loop-key.key-index key _ _ c.loop-key-test.true c.key-item.is c.loop-key.invariant) c.from_residual-in_err-decided.ensures

pub returns : goal.returns
returns c = walked_all c.args.schema.now (three_in c.args.base.now c.args.ours.now c.args.theirs.now) c.deref-key-items.result.now c.loop-key.key-index _ _ c.loop-key-test.false c.loop-key.invariant

pub find-requires : goal.find-requires
find-requires c = let are = c.requires.base in are.rise

pub find-requires-in-loop-key : goal.find-requires-in-loop-key
find-requires-in-loop-key c = let are = c.requires.ours in are.rise

pub find-requires-in-loop-key-2 : goal.find-requires-in-loop-key-2
find-requires-in-loop-key-2 c = let are = c.requires.theirs in are.rise
