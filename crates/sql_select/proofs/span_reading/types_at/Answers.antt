use Rattle.std.proofs.Common.{◌≡◌, List, length, ltb, true, sym, subst}
use Rattle.std.specs.List.{list_all}
use Rattle.schema_model.specs.declared.schemas.Column.{Column}
use Rattle.schema_model.proofs.FitLemmas.{kind_step, place_below}
use Rattle.sql_select.proofs.span_reading.types_at.Goals as goal

pub loop-position-preserved : goal.loop-position-preserved
loop-position-preserved c =
    let columns = c.as_slice-columns.result.now in
    let key = c.args.positions.now in
    let at = c.loop-position.position-index in
    let places = subst (λ (l : List Column). list_all (λ position. ltb position (length l)) key ≡ true) (sym c.as_slice-columns.ensures) c.requires in
    let there = place_below columns key at places c.loop-position-test.true in
    let step = kind_step columns key at c.index-columns-from.result c.loop-position.types.items _ c.loop-position-test.true there c.loop-position.invariant in
    let column = c.index-columns-from.is in
    let pushed = c.in_ok-push.ensures.items in
    let from = c.from.ensures in
    cc
