use Rattle.std.proofs.Common.{◌++◌, ℕ, List, length, sym, ap, ◌∙◌, subst}
use Rattle.tuple_codec.specs.Rows.{Cells}
use Rattle.chunk_store.specs.Drafts.{chunks_of}
use Rattle.schema_model.specs.declared.schemas.Schema.{Schema}
use Rattle.expr_eval.specs.Binding.{Outcome, and_then}
use Rattle.plain_writes.specs.CheckTexts.{checks}
use Rattle.plain_writes.specs.Writes.{Effect, result_of}
use Rattle.sql_write.specs.Inserting.{rows_in, rows_said}
use Rattle.sql_write.specs.Making.{Makes}
use Rattle.sql_write.proofs.PlaceLemmas.{inserted_is, schema_same}
use Rattle.sql_write.proofs.RowsLemmas.{may_put}
use Rattle.sql_write.proofs.inserting.insert_into.Goals as goal

pub insert_rows-requires-after_bounds : goal.insert_rows-requires-after_bounds
insert_rows-requires-after_bounds g c κs within = (
  c.requires.0,
  c.requires.1,
  may_put g.D.Digester.address (chunks_of c.args.draft.now.chunks) c.args.database.now.0 c.args.insert.now.table c.as_slice.result.now c.args.found c.requires.0 c.requires.1 (rows_in c.in_ok-rows.rows) c.as_slice-2.result.now
      c.requires.2 c.in_ok-rows.ensures.good c.as_slice.ensures c.as_slice-2.ensures,
)

pub returns-clause-done : goal.returns-clause-done
returns-clause-done g c = λ before contents is.
    let address = g.D.Digester.address in
    let chunks = chunks_of c.args.draft.now.chunks in
    let insert = c.args.insert.now in
    let same = schema_same address chunks c.args.found.table contents is.stands in
    let new = chunks_of c.insert_rows.new.draft.chunks in
    let last : List Cells → Outcome Effect = λ rows. result_of checks before insert.table contents (contents.rows ++ rows) (length rows) in
    let e = inserted_is checks before insert contents ∙ ap (λ (s : Schema). and_then (rows_said s insert) last) (sym same) ∙ ap (λ (o : Outcome (List Cells)). and_then o last) c.in_ok-rows.ensures.said in
    subst (λ (o : Outcome Effect). Makes address new c.insert_rows.result o) (sym e)
    (subst (λ (rows : List Cells). Makes address new c.insert_rows.result (last rows)) c.as_slice-2.ensures
    (subst (λ (name : List ℕ). Makes address new c.insert_rows.result (result_of checks before name contents (contents.rows ++ c.as_slice-2.result.now) (length c.as_slice-2.result.now))) c.as_slice.ensures
    (c.insert_rows.ensures.done before contents
    (may_put address chunks c.args.database.now.0 insert.table c.as_slice.result.now c.args.found before contents (rows_in c.in_ok-rows.rows) c.as_slice-2.result.now is c.in_ok-rows.ensures.good c.as_slice.ensures c.as_slice-2.ensures))))
