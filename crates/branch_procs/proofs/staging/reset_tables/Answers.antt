use Rattle.std.proofs.Common.{sym, subst, List, ℕ}
use Rattle.std.specs.Prelude.{IfOk}
use Rattle.chunk_store.specs.Drafts.{chunks_of}
use Rattle.plain_sessions.specs.Branching.{reset_to}
use Rattle.root_merge.specs.States.{IsCandidate}
use Rattle.root_merge.specs.declared.candidates.Candidate.TheVariants as made
use Rattle.sql_procedures.specs.declared.requests.Reset.TheVariants as reset
use Rattle.sql_procedures.specs.declared.requests.Tables.{Tables}
use Rattle.sql_procedures.specs.declared.requests.Tables.TheVariants as tables
use Rattle.branch_procs.proofs.StageLemmas.{root_staged}
use Rattle.branch_procs.proofs.staging.reset_tables.Goals as goal

pub returns-in-All-clause-is : goal.returns-in-All-clause-is
returns-in-All-clause-is g c = λ state database on.
    let address = g.D.Digester.address in
    let chunks = chunks_of c.args.draft.now.chunks in
    subst (λ (which : Tables). IsCandidate address chunks (made.Record c.with_staged.result) (reset_to database (reset.Tables which) state)) (sym c.in-All.is)
    (root_staged address chunks c.args.own.now c.with_staged.result c.args.root.now state database on.stands on.root_stands c.with_staged.ensures)

pub returns-in-Named-clause-is : goal.returns-in-Named-clause-is
returns-in-Named-clause-is g c = λ state database on.
    let address = g.D.Digester.address in
    let new = chunks_of c.reset_named.new.draft.chunks in
    subst (λ (which : Tables). IfOk c.reset_named.result (λ m. IsCandidate address new m (reset_to database (reset.Tables which) state))) (sym c.in-Named.is)
    (subst (λ (names : List (List ℕ)). IfOk c.reset_named.result (λ m. IsCandidate address new m (reset_to database (reset.Tables (tables.Named names)) state))) c.as_slice.ensures
    (c.reset_named.ensures.is state database on))
