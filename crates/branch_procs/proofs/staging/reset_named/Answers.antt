use Rattle.std.proofs.Common.{◌∙◌, sym}
use Rattle.std.proofs.lemmas.Result.{IfOk-weaker}
use Rattle.chunk_store.specs.Drafts.{chunks_of}
use Rattle.plain_sql.specs.Lists.{each}
use Rattle.plain_sessions.specs.Branching.{may_reset, reset_to, staged_as, taking_all}
use Rattle.root_merge.specs.States.{IsCandidate}
use Rattle.sql_procedures.specs.declared.requests.Reset.TheVariants as reset
use Rattle.sql_procedures.specs.declared.requests.Tables.TheVariants as tables
use Rattle.branch_procs.proofs.StageLemmas.{can_stage, refused_so, reset_named, resets_listed}
use Rattle.branch_procs.proofs.TablesLemmas.{few_as}
use Rattle.branch_procs.proofs.staging.reset_named.Goals as goal

pub read_tables-requires-after_bounds : goal.read_tables-requires-after_bounds
read_tables-requires-after_bounds g c κs within = let (state, database, on) = c.requires in (database, on.root_stands)

pub read_tables-requires-2-after_bounds : goal.read_tables-requires-2-after_bounds
read_tables-requires-2-after_bounds g c κs within = let (state, database, on) = c.requires in let stands = on.stands in (state.staged, stands.staged)

pub returns-in-Some-clause-is : goal.returns-in-Some-clause-is
returns-in-Some-clause-is g c = λ state database on.
    let address = g.D.Digester.address in
    let chunks = chunks_of c.args.draft.now.chunks in
    let stands = on.stands in
    let head = c.in_ok-head.ensures database on.root_stands in
    let staged = c.in_ok-staged.ensures state.staged stands.staged in
    refused_so address chunks (each (may_reset database state) c.args.names.now) (λ named. staged_as state (taking_all database state.staged named)) c.in-Some.number
    (sym c.in-Some.is
    ∙ resets_listed address chunks c.in_ok-head.head.items c.in_ok-staged.staged.items database state c.as_slice.result.now c.as_slice-2.result.now c.args.names.now
    c.reset_refusal-refusal.result c.reset_refusal-refusal.ensures c.as_slice.ensures.value c.as_slice-2.ensures.value head staged)

pub stage_tables-requires-after_bounds : goal.stage_tables-requires-after_bounds
stage_tables-requires-after_bounds g c κs within =
    let (state, database, on) = c.requires in
    let stands = on.stands in (
      state,
      taking_all database state.staged c.args.names.now,
      can_stage g.D.Digester.address (chunks_of c.args.draft.now.chunks) c.as_slice-in-None.result.now c.in_ok-staged.staged.items c.in_ok-made-in-None.made.items c.as_slice-in-None-2.result.now
          c.args.own.now state database c.args.names.now stands
          (few_as g.D.Digester.address (chunks_of c.args.draft.now.chunks) c.in_ok-head.head.items c.as_slice-in-None.result.now database c.as_slice-in-None.ensures.value
          (c.in_ok-head.ensures database on.root_stands))
          (c.in_ok-staged.ensures state.staged stands.staged) c.in_ok-made-in-None.ensures c.as_slice-in-None-2.ensures.value,
    )

pub returns-clause-is : goal.returns-clause-is
returns-clause-is g c = λ state database on.
    let address = g.D.Digester.address in
    let chunks = chunks_of c.args.draft.now.chunks in
    let new = chunks_of c.stage_tables.new.draft.chunks in
    let stands = on.stands in
    let head = c.in_ok-head.ensures database on.root_stands in
    let staged = c.in_ok-staged.ensures state.staged stands.staged in
    IfOk-weaker c.stage_tables.result (λ m. IsCandidate address new m (staged_as state (taking_all database state.staged c.args.names.now)))
    (λ m. IsCandidate address new m (reset_to database (reset.Tables (tables.Named c.args.names.now)) state))
    (λ m is. reset_named address new m database state c.args.names.now
    (sym c.in-None.is
    ∙ resets_listed address chunks c.in_ok-head.head.items c.in_ok-staged.staged.items database state c.as_slice.result.now c.as_slice-2.result.now c.args.names.now
    c.reset_refusal-refusal.result c.reset_refusal-refusal.ensures c.as_slice.ensures.value c.as_slice-2.ensures.value head staged) is)
    (c.stage_tables.ensures.is state (taking_all database state.staged c.args.names.now)
    (can_stage address chunks c.as_slice-in-None.result.now c.in_ok-staged.staged.items c.in_ok-made-in-None.made.items c.as_slice-in-None-2.result.now
    c.args.own.now state database c.args.names.now stands
    (few_as address chunks c.in_ok-head.head.items c.as_slice-in-None.result.now database c.as_slice-in-None.ensures.value head)
    staged c.in_ok-made-in-None.ensures c.as_slice-in-None-2.ensures.value))
