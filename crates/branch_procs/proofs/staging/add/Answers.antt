use Rattle.std.proofs.Common.{sym, subst, List, ℕ}
use Rattle.std.specs.Prelude.{IfOk}
use Rattle.chunk_store.specs.Drafts.{chunks_of}
use Rattle.plain_sessions.specs.Branching.{add}
use Rattle.root_merge.specs.States.{IsCandidate}
use Rattle.sql_procedures.specs.declared.requests.Tables.{Tables}
use Rattle.sql_procedures.specs.declared.requests.Tables.TheVariants as tables
use Rattle.branch_procs.proofs.staging.add.Goals as goal

pub returns-in_ok-made-in-All-clause-is : goal.returns-in_ok-made-in-All-clause-is
returns-in_ok-made-in-All-clause-is g c = λ state stands.
    subst (λ (which : Tables). IsCandidate g.D.Digester.address (chunks_of c.args.draft.now.chunks) c.in_ok-made-in-All.made (add which state)) (sym c.in-All.is)
    (c.in_ok-made-in-All.ensures state stands)

pub returns-in-Named-clause-is : goal.returns-in-Named-clause-is
returns-in-Named-clause-is g c = λ state stands.
    let new = chunks_of c.add_named.new.draft.chunks in
    subst (λ (which : Tables). IfOk c.add_named.result (λ made. IsCandidate g.D.Digester.address new made (add which state))) (sym c.in-Named.is)
    (subst (λ (names : List (List ℕ)). IfOk c.add_named.result (λ made. IsCandidate g.D.Digester.address new made (add (tables.Named names) state))) c.as_slice.ensures
    (c.add_named.ensures.is state stands))
