use Rattle.chunk_store.specs.Drafts.{chunks_of}
use Rattle.session_plan.proofs.CommitLemmas.{fault_told, states_in}
use Rattle.session_txn.proofs.CommitLemmas.{planned_told, refused}
use Rattle.session_txn.proofs.committing.plan_merged.Goals as goal

pub candidate-made-requires-clause-start : goal.candidate-made-requires-clause-start
candidate-made-requires-clause-start g c κs within =
    let (p, t, shared, present, d) = c.requires in (
      t.start,
      (states_in g.D.Digester.address c.laws.ensures.chunks c.laws.ensures.records c.args.session.now c.args.look.now c.in-Some.start c.in-Some.is c.in_ok-work.work c.in_ok-work.ensures.work
          p t shared present d).start_stands,
    )

pub candidate-made-requires-clause-present : goal.candidate-made-requires-clause-present
candidate-made-requires-clause-present g c κs within =
    let (p, t, shared, present, d) = c.requires in (
      present,
      (states_in g.D.Digester.address c.laws.ensures.chunks c.laws.ensures.records c.args.session.now c.args.look.now c.in-Some.start c.in-Some.is c.in_ok-work.work c.in_ok-work.ensures.work
          p t shared present d).present_stands,
    )

pub candidate-made-requires-clause-own : goal.candidate-made-requires-clause-own
candidate-made-requires-clause-own g c κs within =
    let (p, t, shared, present, d) = c.requires in (
      t.own,
      (states_in g.D.Digester.address c.laws.ensures.chunks c.laws.ensures.records c.args.session.now c.args.look.now c.in-Some.start c.in-Some.is c.in_ok-work.work c.in_ok-work.ensures.work
          p t shared present d).own_stands,
    )

pub returns-in_err-number-clause-fault : goal.returns-in_err-number-clause-fault
returns-in_err-number-clause-fault g c =
    let (p, t, shared, present, d) = c.requires in
    fault_told g.D.Digester.address c.laws.ensures.chunks c.laws.ensures.records c.args.session.now c.args.look.now c.in-Some.start c.in-Some.is c.in_ok-work.work c.in_ok-work.ensures.work
    p t shared present d c.laws.ensures.drafts c.candidate-made.new.draft c.candidate-made.ensures.grows c.tell.ensures c.from_residual-in_err-number.result c.in_err-number.field-0.0
    c.in_err-number.ensures.cause c.from_residual-in_err-number.ensures

pub returns-in-Refused-clause-planned : goal.returns-in-Refused-clause-planned
returns-in-Refused-clause-planned g c = λ p t shared present d.
    let states = states_in g.D.Digester.address c.laws.ensures.chunks c.laws.ensures.records c.args.session.now c.args.look.now c.in-Some.start c.in-Some.is c.in_ok-work.work c.in_ok-work.ensures.work
    p t shared present d in
    refused g.D.Digester.address (chunks_of c.candidate-made.new.draft.chunks) c.args.session.now c.args.look.now p t shared.commits present c.in_ok-number.field-0 c.in-Refused.number
    c.refused.result d.session_stands c.in-Refused.is (c.in_ok-number.ensures.is t.start present t.own p.variables.autocommit states) c.refused.ensures

pub returns-in-Record-clause-planned : goal.returns-in-Record-clause-planned
returns-in-Record-clause-planned g c = λ p t shared present d.
    let states = states_in g.D.Digester.address c.laws.ensures.chunks c.laws.ensures.records c.args.session.now c.args.look.now c.in-Some.start c.in-Some.is c.in_ok-work.work c.in_ok-work.ensures.work
    p t shared present d in
    planned_told g.D.Digester.address c.laws.ensures.chunks c.laws.ensures.records c.args.session.now c.args.look.now c.in-Some.start c.in-Some.is c.in_ok-work.work c.in_ok-work.ensures.work
    p t shared present d c.laws.ensures.drafts c.candidate-made.new.draft c.candidate-made.ensures.grows c.tell.ensures c.laws.ensures.commits
    c.in_ok-number.field-0 c.in-Record.rec c.sealed.result c.in-Record.is (c.in_ok-number.ensures.is t.start present t.own p.variables.autocommit states) c.sealed.ensures.sealed
