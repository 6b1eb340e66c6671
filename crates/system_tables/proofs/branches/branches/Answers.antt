use Rattle.std.proofs.Common.{◌≡◌, ◌∙◌, ap}
use Rattle.std.proofs.lemmas.Result.{IfOk-weaker}
use Rattle.chunk_store.specs.Drafts.{chunks_of}
use Rattle.plain_sessions.specs.SystemTables as plain
use Rattle.plain_sql.specs.declared.sources.Known.{Known}
use Rattle.system_tables.specs.Known.{with_rows}
use Rattle.system_tables.proofs.HeadLemmas.{branches_shown, heads_known}
use Rattle.system_tables.proofs.branches.branches.Goals as goal

pub branch_rows-requires-after_bounds : goal.branch_rows-requires-after_bounds
branch_rows-requires-after_bounds g c κs within =
    let t = c.requires.0 in
    (t.commits, heads_known g.D.Digester.address (chunks_of c.args.draft.now.chunks) c.args.heads.now t c.requires.1)

pub returns : goal.returns
returns g c = λ t of.
    let address = g.D.Digester.address in
    let chunks = chunks_of c.args.draft.now.chunks in
    let rows = branches_shown address chunks c.args.heads.now t of c.in_ok-rows.rows (c.in_ok-rows.ensures t.commits (heads_known address chunks c.args.heads.now t of)) in
    IfOk-weaker c.branches_of.result (λ (shown : Known). shown ≡ with_rows (plain.branches t) c.in_ok-rows.rows) (λ (shown : Known). shown ≡ plain.branches t)
    (λ shown is. is ∙ ap (with_rows (plain.branches t)) rows) (c.branches_of.ensures t)
