use Rattle.std.specs.Vec.Iter.{into_iter_items}
use Rattle.table_root.proofs.PlaceLemmas.{joined_step}
use Rattle.table_root.proofs.cells.joined.Goals as goal

pub loop-position-preserved : goal.loop-position-preserved
loop-position-preserved c =
    let step = joined_step c.args.key.now c.args.cells.now c.loop-position.position c.args.columns c.loop-position.row (into_iter_items c.loop-position.others) _ c.loop-position-test.true c.loop-position.invariant in
    let cell = c.in_ok-cell.ensures.cell in
    let others = c.in_ok-cell.ensures.others in
    let keyed = c.keyed_cell.ensures in
    let pushed = c.in_ok-push.ensures.ok in
    cc
