use Rattle.std.proofs.Common.{◌≡◌, ℕ, List, Ok, sym, ap, ◌∙◌, subst}
use Rattle.tuple_codec.specs.Rows.{Cells}
use Rattle.schema_model.specs.declared.schemas.Schema.{Schema}
use Rattle.chunk_store.specs.Drafts.{chunks_of}
use Rattle.expr_eval.specs.Binding.{Outcome, and_then}
use Rattle.plain_writes.specs.CheckTexts.{checks}
use Rattle.plain_writes.specs.Writes.{Effect, filled, updated}
use Rattle.sql_write.specs.Changes.{change_of, change_seen}
use Rattle.sql_write.specs.Finding.{IsFound}
use Rattle.sql_write.specs.Making.{Makes}
use Rattle.sql_write.specs.Turning.{rows_turned_by}
use Rattle.sql_write.specs.Updating.{MayTurn}
use Rattle.sql_write.specs.declared.turning.Turned.{Turned}
use Rattle.sql_write.proofs.MakingLemmas.{refused_makes}
use Rattle.sql_write.proofs.PlaceLemmas.{schema_same}
use Rattle.sql_write.proofs.TurnLemmas.{filled_as, gives_err, may_update, update_refused, update_said, updated_is}
use Rattle.sql_write.proofs.updating.update_found.Goals as goal

pub put_turned-requires-after_bounds : goal.put_turned-requires-after_bounds
put_turned-requires-after_bounds g c κs within =
    let address = g.D.Digester.address in
    let chunks = chunks_of c.args.draft.now.chunks in
    let k = c.args.database.now.0 in
    let name = c.as_slice-name.result.now in
    let schema = c.args.found.table.schema in
    let before = c.requires.0 in
    let contents = c.requires.1 in
    let is = subst (λ (n : List ℕ). IsFound address chunks k n before contents c.args.found) (sym c.as_slice-name.ensures) c.requires.2 in
    let turning = change_seen c.in_ok-change.change in
    let old = c.in_ok-old.old in
    let turned = c.in_ok-turned.turned in
    let part = rows_turned_by schema old turning.sets turning.tests in
    let splits = update_said address chunks k name c.args.found old before contents is c.args.update.now turning c.in_ok-change.ensures.is (c.in_ok-old.ensures contents is.stands) in
    let rows = splits.rows in
    let e : part ≡ Ok turned = ap (λ (l : List Cells). rows_turned_by schema l turning.sets turning.tests) (sym c.as_slice.ensures) ∙ c.in_ok-turned.ensures in
    let may = may_update address chunks k name c.args.found old before contents is turned c.args.update.now part splits e in
    (before, contents, rows, subst (λ (l : List Cells). MayTurn address chunks k name c.args.found l turned before contents rows) (sym c.as_slice-2.ensures) may)

pub returns-clause-done : goal.returns-clause-done
returns-clause-done g c = λ before contents found.
    let address = g.D.Digester.address in
    let chunks = chunks_of c.args.draft.now.chunks in
    let k = c.args.database.now.0 in
    let name = c.as_slice-name.result.now in
    let schema = c.args.found.table.schema in
    let statement = c.args.update.now in
    let new = chunks_of c.put_turned.new.draft.chunks in
    let is = subst (λ (n : List ℕ). IsFound address chunks k n before contents c.args.found) (sym c.as_slice-name.ensures) found in
    let turning = change_seen c.in_ok-change.change in
    let old = c.in_ok-old.old in
    let turned = c.in_ok-turned.turned in
    let part = rows_turned_by schema old turning.sets turning.tests in
    let splits = update_said address chunks k name c.args.found old before contents is statement turning c.in_ok-change.ensures.is (c.in_ok-old.ensures contents is.stands) in
    let rows = splits.rows in
    let e : part ≡ Ok turned = ap (λ (l : List Cells). rows_turned_by schema l turning.sets turning.tests) (sym c.as_slice.ensures) ∙ c.in_ok-turned.ensures in
    let may = may_update address chunks k name c.args.found old before contents is turned statement part splits e in
    let put = c.put_turned.ensures.done before contents rows (subst (λ (l : List Cells). MayTurn address chunks k name c.args.found l turned before contents rows) (sym c.as_slice-2.ensures) may) in
    subst (λ (o : Outcome Effect). Makes address new c.put_turned.result o)
    (sym (updated_is c.rows_come_first.ensures checks before contents old statement part splits ∙ ap (λ (o : Outcome Turned). and_then o (filled_as checks before statement.table contents splits.rows)) e))
    (subst (λ (n : List ℕ). Makes address new c.put_turned.result (filled checks before n contents turned.count rows)) c.as_slice-name.ensures put)

pub returns-in_err-change-clause-done : goal.returns-in_err-change-clause-done
returns-in_err-change-clause-done g c = λ before contents found.
    let address = g.D.Digester.address in
    let chunks = chunks_of c.args.draft.now.chunks in
    let schema = c.args.found.table.schema in
    let statement = c.args.update.now in
    let same = schema_same address chunks c.args.found.table contents found.stands in
    refused_makes address chunks c.from_residual.result c.in_err-change.field-0.0 (change_of schema statement) (updated checks before statement contents)
    (gives_err change_seen c.in_err-change.field-0.0 (change_of schema statement) c.in_err-change.ensures.is)
    (λ number e. update_refused c.rows_come_first.ensures checks before contents statement number (sym (ap (λ (s : Schema). change_of s statement) same) ∙ e))
    c.from_residual.ensures

pub returns-in_err-turned-clause-done : goal.returns-in_err-turned-clause-done
returns-in_err-turned-clause-done g c = λ before contents found.
    let address = g.D.Digester.address in
    let chunks = chunks_of c.args.draft.now.chunks in
    let schema = c.args.found.table.schema in
    let statement = c.args.update.now in
    let turning = change_seen c.in_ok-change.change in
    let old = c.in_ok-old.old in
    let part = rows_turned_by schema old turning.sets turning.tests in
    let seen = rows_turned_by schema c.as_slice.result.now turning.sets turning.tests in
    let splits = update_said address chunks c.args.database.now.0 statement.table c.args.found old before contents found statement turning c.in_ok-change.ensures.is (c.in_ok-old.ensures contents found.stands) in
    let same : part ≡ seen = ap (λ (l : List Cells). rows_turned_by schema l turning.sets turning.tests) (sym c.as_slice.ensures) in
    refused_makes address chunks c.from_residual-in_err-turned.result c.in_err-turned.field-0.0 seen (updated checks before statement contents) c.in_err-turned.ensures
    (λ number e. updated_is c.rows_come_first.ensures checks before contents old statement part splits
    ∙ ap (λ (o : Outcome Turned). and_then o (filled_as checks before statement.table contents splits.rows)) (same ∙ e))
    c.from_residual-in_err-turned.ensures
