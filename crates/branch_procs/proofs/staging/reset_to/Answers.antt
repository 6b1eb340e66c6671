use Rattle.std.proofs.Common.{sym, subst}
use Rattle.std.specs.Prelude.{IfOk}
use Rattle.chunk_store.specs.Drafts.{chunks_of}
use Rattle.plain_sessions.specs.Branching.{reset_to}
use Rattle.root_merge.specs.States.{IsCandidate}
use Rattle.root_merge.specs.declared.candidates.Candidate.TheVariants as made
use Rattle.sql_procedures.specs.declared.requests.Reset.{Reset}
use Rattle.branch_procs.proofs.StageLemmas.{set_back}
use Rattle.branch_procs.proofs.staging.reset_to.Goals as goal

pub returns-in-Hard-clause-is : goal.returns-in-Hard-clause-is
returns-in-Hard-clause-is g c = λ state database on.
    let address = g.D.Digester.address in
    let chunks = chunks_of c.args.draft.now.chunks in
    subst (λ (which : Reset). IsCandidate address chunks (made.Record c.clean_at.result) (reset_to database which state)) (sym c.in-Hard.is)
    (set_back address chunks c.args.own.now c.clean_at.result c.args.root.now state database on.stands on.root_stands c.clean_at.ensures)

pub returns-in-Tables-clause-is : goal.returns-in-Tables-clause-is
returns-in-Tables-clause-is g c = λ state database on.
    subst (λ (which : Reset). IfOk c.reset_tables.result (λ m. IsCandidate g.D.Digester.address (chunks_of c.reset_tables.new.draft.chunks) m (reset_to database which state))) (sym c.in-Tables.is)
    (c.reset_tables.ensures.is state database on)
