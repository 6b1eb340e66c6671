use Rattle.std.proofs.Common.{◌∙◌, sym}
use Rattle.chunk_store.specs.Drafts.{chunks_of}
use Rattle.merge_procs.proofs.JudgeLemmas.{fine_found, refused_so, there_of}
use Rattle.merge_procs.proofs.resolving.resolved.Goals as goal

pub read_tables-requires-after_bounds : goal.read_tables-requires-after_bounds
read_tables-requires-after_bounds g c κs within =
    let (commits, state, stands) = c.requires in (state.working, stands.working)

pub first_refusal-requires-after_bounds : goal.first_refusal-requires-after_bounds
first_refusal-requires-after_bounds g c κs within =
    let (commits, state, stands) = c.requires in (
      state.working,
      there_of g.D.Digester.address (chunks_of c.args.draft.now.chunks) c.args.own.now.working.0 c.as_slice.result.now state.working stands.working
          (c.as_slice.ensures.value ∙ (c.in_ok-tables.ensures state.working stands.working).listed.listed),
    )

pub returns-in-Some-clause-is : goal.returns-in-Some-clause-is
returns-in-Some-clause-is g c = λ commits state stands.
    let there = there_of g.D.Digester.address (chunks_of c.args.draft.now.chunks) c.args.own.now.working.0 c.as_slice.result.now state.working stands.working
    (c.as_slice.ensures.value ∙ (c.in_ok-tables.ensures state.working stands.working).listed.listed) in
    refused_so c.args.request.now state c.in-Some.number (sym c.in-Some.is ∙ c.in_ok-refusal.ensures state.working there)

pub settled-requires-after_bounds : goal.settled-requires-after_bounds
settled-requires-after_bounds g c κs within =
    let (commits, state, stands) = c.requires in
    let address = g.D.Digester.address in
    let chunks = chunks_of c.args.draft.now.chunks in
    let there = there_of address chunks c.args.own.now.working.0 c.as_slice.result.now state.working stands.working
    (c.as_slice.ensures.value ∙ (c.in_ok-tables.ensures state.working stands.working).listed.listed) in (
      commits,
      state,
      fine_found address chunks commits c.args.own.now c.as_slice-in-None.result.now c.args.request.now state c.in_ok-refusal.refusal stands
          (c.as_slice-in-None.ensures.value ∙ (c.in_ok-tables.ensures state.working stands.working).listed.listed) (c.in_ok-refusal.ensures state.working there) c.in-None.is,
    )

pub returns-clause-is : goal.returns-clause-is
returns-clause-is g c = λ commits state stands.
    let address = g.D.Digester.address in
    let chunks = chunks_of c.args.draft.now.chunks in
    let there = there_of address chunks c.args.own.now.working.0 c.as_slice.result.now state.working stands.working
    (c.as_slice.ensures.value ∙ (c.in_ok-tables.ensures state.working stands.working).listed.listed) in
    c.settled.ensures.is commits state
    (fine_found address chunks commits c.args.own.now c.as_slice-in-None.result.now c.args.request.now state c.in_ok-refusal.refusal stands
    (c.as_slice-in-None.ensures.value ∙ (c.in_ok-tables.ensures state.working stands.working).listed.listed) (c.in_ok-refusal.ensures state.working there) c.in-None.is)
