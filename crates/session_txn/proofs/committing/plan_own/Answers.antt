use Rattle.std.specs.Arc.{arc_value}
use Rattle.chunk_store.specs.Drafts.{chunks_of}
use Rattle.session_txn.proofs.CommitLemmas.{refused}
use Rattle.session_txn.proofs.UnmovedLemmas.{own_decided, own_told}
use Rattle.session_txn.proofs.committing.plan_own.Goals as goal

pub returns-in-Refused-clause-planned : goal.returns-in-Refused-clause-planned
returns-in-Refused-clause-planned g c = λ p t shared present d.
    refused g.D.Digester.address (chunks_of c.args.session.now.draft.chunks) c.args.session.now c.args.look.now p t shared.commits present c.in_ok-made.made c.in-Refused.number c.refused.result
    d.session_stands c.in-Refused.is
    (own_decided g.D.Digester.address c.laws.ensures.chunks c.laws.ensures.records c.args.session.now c.args.look.now (arc_value c.in_ok-sealed.sealed) p t shared present d c.requires.unmoved
    c.in_ok-sealed.ensures.sealed c.in_ok-made.made c.in_ok-made.ensures.is)
    c.refused.ensures

pub returns-in-Record-clause-planned : goal.returns-in-Record-clause-planned
returns-in-Record-clause-planned g c = λ p t shared present d.
    own_told g.D.Digester.address c.laws.ensures.chunks c.laws.ensures.records c.laws.ensures.drafts c.laws.ensures.commits c.args.session.now c.args.look.now
    c.in-Record.rec (arc_value c.in_ok-sealed.sealed) p t shared present d c.requires.unmoved c.tell.ensures c.in_ok-made.made c.decision.result c.in-Record.is c.in_ok-made.ensures.is
    c.in_ok-sealed.ensures.sealed c.decision.ensures
