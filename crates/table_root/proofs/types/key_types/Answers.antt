use Rattle.std.proofs.Common.{◌≡◌, ℕ, List, length, ltb, true, sym, subst}
use Rattle.std.specs.List.{list_all}
use Rattle.schema_model.specs.declared.schemas.Column.{Column}
use Rattle.schema_model.proofs.FitLemmas.{form_of, kind_step, place_below}
use Rattle.table_root.proofs.types.key_types.Goals as goal

pub loop-position-preserved : goal.loop-position-preserved
loop-position-preserved c =
    let schema = c.args.schema.now in
    let columns = c.as_slice-columns.result.now in
    let key = c.as_slice-position-items.result.now in
    let at = c.loop-position.position-index in
    let places = subst (λ (l : List ℕ). list_all (λ position. ltb position (length columns)) l ≡ true) (sym c.as_slice-position-items.ensures)
    (subst (λ (l : List Column). list_all (λ position. ltb position (length l)) schema.key ≡ true) (sym c.as_slice-columns.ensures) (form_of schema c.requires).places) in
    let there = place_below columns key at places c.loop-position-test.true in
    let step = kind_step columns key at c.index-columns-from.result c.loop-position.types.items _ c.loop-position-test.true there c.loop-position.invariant in
    let column = c.index-columns-from.is in
    let pushed = c.in_ok-push.ensures.items in
    let from = c.from.ensures in
    cc
