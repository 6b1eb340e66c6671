use Rattle.chunk_store.specs.Drafts.{chunks_of}
use Rattle.branch_procs.proofs.ClosingLemmas.{decided, nothing_said, open_refuses}
use Rattle.branch_procs.proofs.StageLemmas.{all_there}
use Rattle.branch_procs.proofs.closing.commit_refusal.Goals as goal

pub read_tables-requires-after_bounds : goal.read_tables-requires-after_bounds
read_tables-requires-after_bounds g c κs within = let (state, database, on) = c.requires in let stands = on.stands in (state.working, stands.working)

pub any_is_open-requires-after_bounds : goal.any_is_open-requires-after_bounds
any_is_open-requires-after_bounds g c κs within =
    let (state, database, on) = c.requires in
    let stands = on.stands in (
      state.working,
      all_there g.D.Digester.address (chunks_of c.args.draft.now.chunks) c.in_ok-working.working.items c.as_slice.result.now state.working c.as_slice.ensures.value
          (c.in_ok-working.ensures state.working stands.working),
    )

pub returns-then-open : goal.returns-then-open
returns-then-open g c = λ state database on.
    let stands = on.stands in
    open_refuses database c.args.request.now state c.in_ok-open.open
    (c.in_ok-open.ensures state.working
    (all_there g.D.Digester.address (chunks_of c.args.draft.now.chunks) c.in_ok-working.working.items c.as_slice.result.now state.working c.as_slice.ensures.value
    (c.in_ok-working.ensures state.working stands.working))) c.if-open.true

pub returns-then-says : goal.returns-then-says
returns-then-says g c = λ state database on.
    let stands = on.stands in
    decided database c.args.request.now state c.in_ok-open.open c.in_ok-says.says
    (c.in_ok-open.ensures state.working
    (all_there g.D.Digester.address (chunks_of c.args.draft.now.chunks) c.in_ok-working.working.items c.as_slice.result.now state.working c.as_slice.ensures.value
    (c.in_ok-working.ensures state.working stands.working))) c.if-open.false (c.in_ok-says.ensures state database on) c.if-says.true

pub returns : goal.returns
returns g c = λ state database on.
    let stands = on.stands in
    nothing_said database c.args.request.now state c.in_ok-open.open c.in_ok-says.says
    (c.in_ok-open.ensures state.working
    (all_there g.D.Digester.address (chunks_of c.args.draft.now.chunks) c.in_ok-working.working.items c.as_slice.result.now state.working c.as_slice.ensures.value
    (c.in_ok-working.ensures state.working stands.working))) c.if-open.false (c.in_ok-says.ensures state database on) c.if-says.false
