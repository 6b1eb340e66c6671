use Rattle.std.proofs.Common.{◌∙◌, sym}
use Rattle.std.proofs.lemmas.Result.{IfOk-weaker}
use Rattle.chunk_store.specs.Drafts.{chunks_of}
use Rattle.plain_sql.specs.Lists.{each}
use Rattle.plain_sessions.specs.Branching.{may_stage, staged_as, taking_all, add}
use Rattle.root_merge.specs.States.{IsCandidate}
use Rattle.sql_procedures.specs.declared.requests.Tables.TheVariants as tables
use Rattle.branch_procs.proofs.StageLemmas.{added_named, both_of, can_stage, refused_so}
use Rattle.branch_procs.proofs.TablesLemmas.{few_as}
use Rattle.branch_procs.proofs.staging.add_named.Goals as goal

pub read_tables-requires-after_bounds : goal.read_tables-requires-after_bounds
read_tables-requires-after_bounds g c κs within = let (state, stands) = c.requires in (state.working, stands.working)

pub read_tables-requires-2-after_bounds : goal.read_tables-requires-2-after_bounds
read_tables-requires-2-after_bounds g c κs within = let (state, stands) = c.requires in (state.staged, stands.staged)

pub add_refusal-requires-after_bounds : goal.add_refusal-requires-after_bounds
add_refusal-requires-after_bounds g c κs within =
    let (state, stands) = c.requires in (
      state,
      both_of g.D.Digester.address (chunks_of c.args.draft.now.chunks) c.in_ok-working.working.items c.in_ok-staged.staged.items c.as_slice.result.now c.as_slice-2.result.now state state.working
          c.as_slice.ensures.value c.as_slice-2.ensures.value (c.in_ok-working.ensures state.working stands.working) (c.in_ok-staged.ensures state.staged stands.staged),
    )

pub returns-in-Some-clause-is : goal.returns-in-Some-clause-is
returns-in-Some-clause-is g c = λ state stands.
    let both = both_of g.D.Digester.address (chunks_of c.args.draft.now.chunks) c.in_ok-working.working.items c.in_ok-staged.staged.items c.as_slice.result.now c.as_slice-2.result.now state state.working
    c.as_slice.ensures.value c.as_slice-2.ensures.value (c.in_ok-working.ensures state.working stands.working) (c.in_ok-staged.ensures state.staged stands.staged) in
    refused_so g.D.Digester.address (chunks_of c.args.draft.now.chunks) (each (may_stage state) c.args.names.now) (λ named. staged_as state (taking_all state.working state.staged named)) c.in-Some.number
    (sym c.in-Some.is ∙ c.in_ok-refusal.ensures state both)

pub stage_tables-requires-after_bounds : goal.stage_tables-requires-after_bounds
stage_tables-requires-after_bounds g c κs within =
    let (state, stands) = c.requires in (
      state,
      taking_all state.working state.staged c.args.names.now,
      can_stage g.D.Digester.address (chunks_of c.args.draft.now.chunks) c.as_slice-in-None.result.now c.in_ok-staged.staged.items c.in_ok-made-in-None.made.items c.as_slice-in-None-2.result.now
          c.args.own.now state state.working c.args.names.now stands
          (few_as g.D.Digester.address (chunks_of c.args.draft.now.chunks) c.in_ok-working.working.items c.as_slice-in-None.result.now state.working c.as_slice-in-None.ensures.value
          (c.in_ok-working.ensures state.working stands.working))
          (c.in_ok-staged.ensures state.staged stands.staged) c.in_ok-made-in-None.ensures c.as_slice-in-None-2.ensures.value,
    )

pub returns-clause-is : goal.returns-clause-is
returns-clause-is g c = λ state stands.
    let address = g.D.Digester.address in
    let chunks = chunks_of c.args.draft.now.chunks in
    let new = chunks_of c.stage_tables.new.draft.chunks in
    let working = c.in_ok-working.ensures state.working stands.working in
    let staged = c.in_ok-staged.ensures state.staged stands.staged in
    let both = both_of address chunks c.in_ok-working.working.items c.in_ok-staged.staged.items c.as_slice.result.now c.as_slice-2.result.now state state.working
    c.as_slice.ensures.value c.as_slice-2.ensures.value working staged in
    IfOk-weaker c.stage_tables.result (λ m. IsCandidate address new m (staged_as state (taking_all state.working state.staged c.args.names.now)))
    (λ m. IsCandidate address new m (add (tables.Named c.args.names.now) state))
    (λ m is. added_named address new m state c.args.names.now (sym c.in-None.is ∙ c.in_ok-refusal.ensures state both) is)
    (c.stage_tables.ensures.is state (taking_all state.working state.staged c.args.names.now)
    (can_stage address chunks c.as_slice-in-None.result.now c.in_ok-staged.staged.items c.in_ok-made-in-None.made.items c.as_slice-in-None-2.result.now
    c.args.own.now state state.working c.args.names.now stands
    (few_as address chunks c.in_ok-working.working.items c.as_slice-in-None.result.now state.working c.as_slice-in-None.ensures.value working)
    staged c.in_ok-made-in-None.ensures c.as_slice-in-None-2.ensures.value))
