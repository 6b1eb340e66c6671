use Rattle.std.proofs.Common.{◌<◌, ◌≤◌, ◌∙◌, ap, arith, length, sym}
use Rattle.constraint_scan.specs.Changed.{is_missed_row}
use Rattle.constraint_scan.proofs.LoopLemmas.{none_at, past_at}
use Rattle.constraint_scan.proofs.changing.has_missed.Goals as goal

pub loop-row-preserved : goal.loop-row-preserved
loop-row-preserved g c = λ before after contents table are child same.
    let rows = c.args.rows.now in
    let inside : c.loop-row.row-index < length rows = omega arith in
    let missed = is_missed_row after contents c.args.foreign.now table in
    past_at rows c.loop-row.row-index c.row-item.result inside c.row-item.is missed (c.loop-row.invariant before after contents table are child same)
    (ap missed (sym c.as_slice.ensures) ∙ sym (c.in_ok-is_missed_row.ensures before after contents table are child same) ∙ c.if-branch.false)

pub returns : goal.returns
returns g c = λ before after contents table are child same.
    let rows = c.args.rows.now in
    let past : length rows ≤ c.loop-row.row-index = omega arith in
    none_at rows c.loop-row.row-index past (is_missed_row after contents c.args.foreign.now table) (c.loop-row.invariant before after contents table are child same)
