use Rattle.chunk_store.specs.Drafts.{chunks_of}
use Rattle.branch_procs.proofs.StageLemmas.{added_all, all_there, few_enough, few_of, open_refused, stand_as}
use Rattle.branch_procs.proofs.staging.add_all.Goals as goal

pub read_tables-requires-after_bounds : goal.read_tables-requires-after_bounds
read_tables-requires-after_bounds g c κs within = let stands = c.requires.1 in (c.requires.0.working, stands.working)

pub any_is_open-requires-after_bounds : goal.any_is_open-requires-after_bounds
any_is_open-requires-after_bounds g c κs within =
    let address = g.D.Digester.address in
    let chunks = chunks_of c.args.draft.now.chunks in
    let stands = c.requires.1 in (
      c.requires.0.working,
      all_there address chunks c.in_ok-working.working.items c.as_slice.result.now c.requires.0.working c.as_slice.ensures.value (c.in_ok-working.ensures c.requires.0.working stands.working),
    )

pub returns-then-open : goal.returns-then-open
returns-then-open g c = λ state stands.
    let address = g.D.Digester.address in
    let chunks = chunks_of c.args.draft.now.chunks in
    open_refused address chunks state c.in_ok-open.open
    (c.in_ok-open.ensures state.working
    (all_there address chunks c.in_ok-working.working.items c.as_slice.result.now state.working c.as_slice.ensures.value (c.in_ok-working.ensures state.working stands.working))) c.if-open.true

pub returns : goal.returns
returns g c = λ state stands.
    let address = g.D.Digester.address in
    let chunks = chunks_of c.args.draft.now.chunks in
    let working = c.in_ok-working.ensures state.working stands.working in
    added_all address chunks c.with_staged.result state c.in_ok-open.open
    (c.in_ok-open.ensures state.working (all_there address chunks c.in_ok-working.working.items c.as_slice.result.now state.working c.as_slice.ensures.value working)) c.if-open.false
    (few_enough address chunks c.with_staged.result state state.working (few_of address chunks c.in_ok-working.working.items state.working working)
    (stand_as address chunks c.args.own.now c.with_staged.result state c.with_staged.ensures stands))
