use Rattle.std.proofs.Common.{◌≡◌, ℕ, List, Ok, map, sym, ap, ◌∙◌, subst}
use Rattle.tuple_codec.specs.Rows.{Cells}
use Rattle.schema_model.specs.declared.schemas.Schema.{Schema}
use Rattle.chunk_store.specs.Drafts.{chunks_of}
use Rattle.expr_eval.specs.Binding.{Outcome, and_then}
use Rattle.expr_eval.specs.declared.bound.BoundExpr.{BoundExpr}
use Rattle.plain_writes.specs.CheckTexts.{checks}
use Rattle.plain_sql.specs.Answers.{Meaning}
use Rattle.plain_sql.specs.Plans.{meaning}
use Rattle.plain_writes.specs.Violations.{own_scope}
use Rattle.plain_writes.specs.Writes.{Effect, deleted, filled, tests_of}
use Rattle.sql_write.specs.Finding.{IsFound}
use Rattle.sql_write.specs.Making.{Makes}
use Rattle.sql_write.specs.Passing.{AreRead}
use Rattle.sql_write.specs.Turning.{rows_deleted_by}
use Rattle.sql_write.specs.Updating.{MayTurn}
use Rattle.sql_write.specs.declared.turning.Turned.{Turned}
use Rattle.sql_write.proofs.MakingLemmas.{refused_makes}
use Rattle.sql_write.proofs.PlaceLemmas.{schema_same}
use Rattle.sql_write.proofs.TurnLemmas.{delete_refused, delete_said, deleted_is, filled_as, gives_err, may_delete}
use Rattle.sql_write.proofs.updating.delete_found.Goals as goal

pub put_turned-requires-after_bounds : goal.put_turned-requires-after_bounds
put_turned-requires-after_bounds g c κs within =
    let address = g.D.Digester.address in
    let chunks = chunks_of c.args.draft.now.chunks in
    let k = c.args.database.now.0 in
    let name = c.as_slice-name.result.now in
    let schema = c.args.found.table.schema in
    let before = c.requires.0 in
    let contents = c.requires.1 in
    let is = subst (λ (n : List ℕ). IsFound address chunks k n before contents c.args.found) (sym c.as_slice-name.ensures) c.requires.2 in
    let tests = map meaning c.in_ok-tests.tests in
    let old = c.in_ok-old.old in
    let turned = c.in_ok-turned.turned in
    let part = rows_deleted_by schema old tests in
    let are = subst (λ (l : List BoundExpr). AreRead (map meaning l) contents.rows old) c.as_slice.ensures (c.in_ok-old.ensures contents is.stands) in
    let splits = delete_said address chunks k name c.args.found old before contents is c.args.delete.now tests c.in_ok-tests.ensures are in
    let rows = splits.rows in
    let e : part ≡ Ok turned = (λ i. rows_deleted_by schema (sym c.as_slice-3.ensures i) (map meaning (sym c.as_slice-2.ensures i))) ∙ c.in_ok-turned.ensures in
    let may = may_delete address chunks k name c.args.found old before contents is turned c.args.delete.now part splits e in
    (before, contents, rows, subst (λ (l : List Cells). MayTurn address chunks k name c.args.found l turned before contents rows) (sym c.as_slice-4.ensures) may)

pub returns-clause-done : goal.returns-clause-done
returns-clause-done g c = λ before contents found.
    let address = g.D.Digester.address in
    let chunks = chunks_of c.args.draft.now.chunks in
    let k = c.args.database.now.0 in
    let name = c.as_slice-name.result.now in
    let schema = c.args.found.table.schema in
    let statement = c.args.delete.now in
    let new = chunks_of c.put_turned.new.draft.chunks in
    let is = subst (λ (n : List ℕ). IsFound address chunks k n before contents c.args.found) (sym c.as_slice-name.ensures) found in
    let tests = map meaning c.in_ok-tests.tests in
    let old = c.in_ok-old.old in
    let turned = c.in_ok-turned.turned in
    let part = rows_deleted_by schema old tests in
    let are = subst (λ (l : List BoundExpr). AreRead (map meaning l) contents.rows old) c.as_slice.ensures (c.in_ok-old.ensures contents is.stands) in
    let splits = delete_said address chunks k name c.args.found old before contents is statement tests c.in_ok-tests.ensures are in
    let rows = splits.rows in
    let e : part ≡ Ok turned = (λ i. rows_deleted_by schema (sym c.as_slice-3.ensures i) (map meaning (sym c.as_slice-2.ensures i))) ∙ c.in_ok-turned.ensures in
    let may = may_delete address chunks k name c.args.found old before contents is turned statement part splits e in
    let put = c.put_turned.ensures.done before contents rows (subst (λ (l : List Cells). MayTurn address chunks k name c.args.found l turned before contents rows) (sym c.as_slice-4.ensures) may) in
    subst (λ (o : Outcome Effect). Makes address new c.put_turned.result o)
    (sym (deleted_is c.rows_come_first.ensures checks before contents old statement part splits ∙ ap (λ (o : Outcome Turned). and_then o (filled_as checks before statement.table contents splits.rows)) e))
    (subst (λ (n : List ℕ). Makes address new c.put_turned.result (filled checks before n contents turned.count rows)) c.as_slice-name.ensures put)

pub returns-in_err-tests-clause-done : goal.returns-in_err-tests-clause-done
returns-in_err-tests-clause-done g c = λ before contents found.
    let address = g.D.Digester.address in
    let chunks = chunks_of c.args.draft.now.chunks in
    let schema = c.args.found.table.schema in
    let statement = c.args.delete.now in
    let same = schema_same address chunks c.args.found.table contents found.stands in
    let asked : Schema → Outcome (List Meaning) = λ s. tests_of (own_scope statement.table s) statement.filter in
    refused_makes address chunks c.from_residual.result c.in_err-tests.field-0.0 (asked schema) (deleted checks before statement contents)
    (gives_err (map meaning) c.in_err-tests.field-0.0 (asked schema) c.in_err-tests.ensures)
    (λ number e. delete_refused c.rows_come_first.ensures checks before contents statement number (sym (ap asked same) ∙ e))
    c.from_residual.ensures

pub returns-in_err-turned-clause-done : goal.returns-in_err-turned-clause-done
returns-in_err-turned-clause-done g c = λ before contents found.
    let address = g.D.Digester.address in
    let chunks = chunks_of c.args.draft.now.chunks in
    let schema = c.args.found.table.schema in
    let statement = c.args.delete.now in
    let tests = map meaning c.in_ok-tests.tests in
    let old = c.in_ok-old.old in
    let part = rows_deleted_by schema old tests in
    let seen = rows_deleted_by schema c.as_slice-3.result.now (map meaning c.as_slice-2.result.now) in
    let are = subst (λ (l : List BoundExpr). AreRead (map meaning l) contents.rows old) c.as_slice.ensures (c.in_ok-old.ensures contents found.stands) in
    let splits = delete_said address chunks c.args.database.now.0 statement.table c.args.found old before contents found statement tests c.in_ok-tests.ensures are in
    let same : part ≡ seen = λ i. rows_deleted_by schema (sym c.as_slice-3.ensures i) (map meaning (sym c.as_slice-2.ensures i)) in
    refused_makes address chunks c.from_residual-in_err-turned.result c.in_err-turned.field-0.0 seen (deleted checks before statement contents) c.in_err-turned.ensures
    (λ number e. deleted_is c.rows_come_first.ensures checks before contents old statement part splits
    ∙ ap (λ (o : Outcome Turned). and_then o (filled_as checks before statement.table contents splits.rows)) (same ∙ e))
    c.from_residual-in_err-turned.ensures
