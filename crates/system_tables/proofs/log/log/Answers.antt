use Rattle.std.proofs.Common.{◌≡◌, ◌∙◌, ap}
use Rattle.std.proofs.lemmas.Result.{IfOk-weaker}
use Rattle.chunk_store.specs.Drafts.{chunks_of}
use Rattle.plain_sessions.specs.SystemTables as plain
use Rattle.plain_sql.specs.declared.sources.Known.{Known}
use Rattle.schema_model.specs.PlainCommits.{ancestors}
use Rattle.system_tables.specs.Known.{with_rows}
use Rattle.system_tables.specs.Rows.{bytes_of}
use Rattle.system_tables.proofs.AncestorLemmas.{are_known, logged}
use Rattle.system_tables.proofs.log.log.Goals as goal

pub commit_rows-requires-after_bounds : goal.commit_rows-requires-after_bounds
commit_rows-requires-after_bounds g c κs within =
    let t = c.requires.0 in
    let at = c.requires.1 in
    let found : bytes_of c.as_slice.result.now ≡ ancestors t.commits c.args.head.now.0 = ap bytes_of c.as_slice.ensures.value ∙ c.in_ok-commits.ensures t.commits at.stand at.known in
    (t.commits, are_known g.D.Digester.address (chunks_of c.args.draft.now.chunks) c.args.head.now.0 t at c.as_slice.result.now found c.law_of_ancestors.ensures)

pub returns : goal.returns
returns g c = λ t at.
    let found : bytes_of c.as_slice.result.now ≡ ancestors t.commits c.args.head.now.0 = ap bytes_of c.as_slice.ensures.value ∙ c.in_ok-commits.ensures t.commits at.stand at.known in
    let known = are_known g.D.Digester.address (chunks_of c.args.draft.now.chunks) c.args.head.now.0 t at c.as_slice.result.now found c.law_of_ancestors.ensures in
    let rows = logged g.D.Digester.address (chunks_of c.args.draft.now.chunks) c.args.head.now.0 t at c.as_slice.result.now found c.in_ok-rows.rows (c.in_ok-rows.ensures t.commits known) in
    IfOk-weaker c.log_of.result (λ (shown : Known). shown ≡ with_rows (plain.log t) c.in_ok-rows.rows) (λ (shown : Known). shown ≡ plain.log t)
    (λ shown is. is ∙ ap (with_rows (plain.log t)) rows) (c.log_of.ensures t)
