use Rattle.std.proofs.Common.{sym, subst}
use Rattle.std.specs.Prelude.{IfOk}
use Rattle.chunk_store.specs.Drafts.{chunks_of}
use Rattle.plain_sessions.specs.Records.{root_of}
use Rattle.plain_sessions.specs.declared.commands.Work.{Work}
use Rattle.root_merge.specs.States.{IsCandidate}
use Rattle.branch_procs.specs.Calls.{staged_by}
use Rattle.branch_procs.proofs.LocalLemmas.{head_known_at, on_head}
use Rattle.session_plan.proofs.CommitLemmas.{state_in}
use Rattle.branch_procs.proofs.local.made.Goals as goal

pub add-requires-after_bounds : goal.add-requires-after_bounds
add-requires-after_bounds g c κs within =
    let (commits, state, own) = c.requires.stands in
    (state, state_in g.D.Digester.address (chunks_of c.args.draft.now.chunks) commits c.args.own.now state own.stands)

pub head_root-requires-after_bounds : goal.head_root-requires-after_bounds
head_root-requires-after_bounds g c κs within =
    let (commits, state, own) = c.requires.stands in
    (commits, own.all_there, head_known_at g.D.Digester.address c.args.draft.now.chunks c.args.own.now commits state own)

pub reset_to-requires-after_bounds : goal.reset_to-requires-after_bounds
reset_to-requires-after_bounds g c κs within =
    let (commits, state, own) = c.requires.stands in (
      state,
      root_of commits state.head,
      on_head g.D.Digester.address c.args.draft.now.chunks c.args.own.now commits state own c.in_ok-root-in-ResetTo.root
          (c.in_ok-root-in-ResetTo.ensures commits own.all_there (head_known_at g.D.Digester.address c.args.draft.now.chunks c.args.own.now commits state own)),
    )

pub returns-in-Add-clause-is : goal.returns-in-Add-clause-is
returns-in-Add-clause-is g c = λ commits state own.
    let address = g.D.Digester.address in
    subst (λ (w : Work). IfOk c.add.result (λ made. IsCandidate address (chunks_of c.add.new.draft.chunks) made (staged_by (root_of commits state.head) w state))) (sym c.in-Add.is)
    (c.add.ensures.is state (state_in address (chunks_of c.args.draft.now.chunks) commits c.args.own.now state own.stands))

pub returns-in_ok-root-in-ResetTo-clause-is : goal.returns-in_ok-root-in-ResetTo-clause-is
returns-in_ok-root-in-ResetTo-clause-is g c = λ commits state own.
    let address = g.D.Digester.address in
    subst (λ (w : Work). IfOk c.reset_to.result (λ made. IsCandidate address (chunks_of c.reset_to.new.draft.chunks) made (staged_by (root_of commits state.head) w state))) (sym c.in-ResetTo.is)
    (c.reset_to.ensures.is state (root_of commits state.head)
    (on_head address c.args.draft.now.chunks c.args.own.now commits state own c.in_ok-root-in-ResetTo.root
    (c.in_ok-root-in-ResetTo.ensures commits own.all_there (head_known_at address c.args.draft.now.chunks c.args.own.now commits state own))))
