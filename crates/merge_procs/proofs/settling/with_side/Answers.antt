use Rattle.std.proofs.Common.{sym, subst}
use Rattle.chunk_store.specs.Drafts.{chunks_of}
use Rattle.index_keep.specs.Keeping.{with_rows}
use Rattle.plain_sessions.specs.Merging.{rows_after}
use Rattle.sql_procedures.specs.declared.requests.Side.{Side}
use Rattle.table_root.specs.Standing.{IsTableOf}
use Rattle.std.specs.Prelude.{IfOk}
use Rattle.merge_procs.proofs.SettleLemmas.{takes_so}
use Rattle.merge_procs.proofs.settling.with_side.Goals as goal

pub returns-in-Ours-clause-stands : goal.returns-in-Ours-clause-stands
returns-in-Ours-clause-stands g c = λ contents can.
    subst (λ (w : Side). IsTableOf g.D.Digester.address (chunks_of c.args.draft.now.chunks) c.args.table (with_rows contents (rows_after w contents))) (sym c.in-Ours.is) can.stands

pub with_theirs-requires-after_bounds : goal.with_theirs-requires-after_bounds
with_theirs-requires-after_bounds g c κs within =
    (c.requires.0, takes_so g.D.Digester.address (chunks_of c.args.draft.now.chunks) c.args.table c.args.side c.requires.0 c.requires.1 c.in-Theirs.is)

pub returns-in-Theirs-clause-stands : goal.returns-in-Theirs-clause-stands
returns-in-Theirs-clause-stands g c = λ contents can.
    let new = chunks_of c.with_theirs.new.draft.chunks in
    subst (λ (w : Side). IfOk c.with_theirs.result (λ made. IsTableOf g.D.Digester.address new made (with_rows contents (rows_after w contents)))) (sym c.in-Theirs.is)
    (c.with_theirs.ensures.stands contents (takes_so g.D.Digester.address (chunks_of c.args.draft.now.chunks) c.args.table c.args.side contents can c.in-Theirs.is))
