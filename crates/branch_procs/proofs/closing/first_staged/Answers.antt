use Rattle.std.proofs.Common.{sym, subst}
use Rattle.std.specs.Prelude.{IfOk}
use Rattle.chunk_store.specs.Drafts.{chunks_of}
use Rattle.plain_sessions.specs.Branching.{staged_first}
use Rattle.sql_procedures.specs.declared.requests.Staging.{Staging}
use Rattle.branch_procs.specs.Listing.{AreFewTables}
use Rattle.branch_procs.proofs.closing.first_staged.Goals as goal

pub read_tables-requires-after_bounds : goal.read_tables-requires-after_bounds
read_tables-requires-after_bounds g c κs within = let (state, database, on) = c.requires in let stands = on.stands in (state.staged, stands.staged)

pub read_tables-requires-in-All-after_bounds : goal.read_tables-requires-in-All-after_bounds
read_tables-requires-in-All-after_bounds g c κs within = let (state, database, on) = c.requires in let stands = on.stands in (state.working, stands.working)

pub returns-in-AsIs : goal.returns-in-AsIs
returns-in-AsIs g c = λ state database on.
    let stands = on.stands in
    subst (λ (way : Staging). IfOk c.read_tables.result (λ made. AreFewTables g.D.Digester.address (chunks_of c.args.draft.now.chunks) made.items (staged_first database way state)))
    (sym c.in-AsIs.is) (c.read_tables.ensures state.staged stands.staged)

pub returns-in-Known : goal.returns-in-Known
returns-in-Known g c = λ state database on.
    subst (λ (way : Staging). IfOk c.known_staged.result (λ made. AreFewTables g.D.Digester.address (chunks_of c.args.draft.now.chunks) made.items (staged_first database way state)))
    (sym c.in-Known.is) (c.known_staged.ensures state database on)

pub returns-in-All : goal.returns-in-All
returns-in-All g c = λ state database on.
    let stands = on.stands in
    subst (λ (way : Staging). IfOk c.read_tables-in-All.result (λ made. AreFewTables g.D.Digester.address (chunks_of c.args.draft.now.chunks) made.items (staged_first database way state)))
    (sym c.in-All.is) (c.read_tables-in-All.ensures state.working stands.working)
