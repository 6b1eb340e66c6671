use Rattle.std.proofs.Common.{◌<◌, ℕ, List, length, get_or, sym, subst}
use Rattle.table_root.proofs.WritingLemmas.{cell_there, key_step}
use Rattle.table_root.proofs.items.written_key.Goals as goal

pub bounds-row-from : goal.bounds-row-from
bounds-row-from c =
    let row = c.args.row.now in
    let at = c.loop-position.position-index in
    let below = subst (λ (l : List ℕ). at < length l) c.as_slice-key.ensures c.loop-position-test.true in
    subst (λ (n : ℕ). n < length row) (sym c.from.ensures)
    (subst (λ (l : List ℕ). get_or l at 0 < length row) (sym c.as_slice-key.ensures) (cell_there c.args.schema.now row at c.requires.schema c.requires.row below))

pub loop-position-preserved : goal.loop-position-preserved
loop-position-preserved c =
    let row = c.args.row.now in
    let key = c.as_slice-key.result.now in
    let at = c.loop-position.position-index in
    let below = subst (λ (l : List ℕ). at < length l) c.as_slice-key.ensures c.loop-position-test.true in
    let there = subst (λ (l : List ℕ). get_or l at 0 < length row) (sym c.as_slice-key.ensures) (cell_there c.args.schema.now row at c.requires.schema c.requires.row below) in
    let step = key_step key row at c.index-row-from.result c.loop-position.bytes.items _ c.loop-position-test.true there c.loop-position.invariant in
    let cell = c.index-row-from.is in
    let pushed = c.in_ok-push_key_cell.ensures.ok in
    let from = c.from.ensures in
    cc
