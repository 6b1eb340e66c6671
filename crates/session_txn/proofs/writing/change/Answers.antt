use Rattle.session_txn.proofs.SessionLemmas.{has_own}
use Rattle.session_txn.specs.Deleting.{turn_effect}
use Rattle.session_txn.proofs.WriteLemmas.{changes, left_at, left_by}
use Rattle.session_txn.proofs.writing.change.Goals as goal

pub turn-reply-requires-clause-tables : goal.turn-reply-requires-clause-tables
turn-reply-requires-clause-tables g c κs within = has_own g.D.Digester.address c.args.session.now c.requires.stands.0 c.requires.stands.1 c.requires.stands.2 c.requires.stands.3

pub returns-clause-alone : goal.returns-clause-alone
returns-clause-alone g c = λ p stands inside.
    changes g.D.Digester.address c.args.session.now c.turn-reply.new.draft c.turn-reply.new.database p c.args.statement.now c.turn-reply.result
    c.laws.ensures.drafts c.laws.ensures.growth c.laws.ensures.records c.laws.ensures.transactions inside stands c.turn-reply.ensures.turns

pub returns-clause-same : goal.returns-clause-same
returns-clause-same g c = λ refused.
    let own = has_own g.D.Digester.address c.args.session.now c.requires.stands.0 c.requires.stands.1 c.requires.stands.2 c.requires.stands.3 in
    let left = left_by g.D.Digester.address c.args.session.now.draft c.turn-reply.new.draft c.args.session.now.own.working c.turn-reply.new.database (turn_effect own.0 c.args.statement.now)
    c.turn-reply.result (c.turn-reply.ensures.turns own.0 own.1) refused in
    left_at c.args.session.now c.turn-reply.new.draft c.turn-reply.new.database left.0

pub returns-clause-draft : goal.returns-clause-draft
returns-clause-draft g c = λ refused.
    let own = has_own g.D.Digester.address c.args.session.now c.requires.stands.0 c.requires.stands.1 c.requires.stands.2 c.requires.stands.3 in
    let left = left_by g.D.Digester.address c.args.session.now.draft c.turn-reply.new.draft c.args.session.now.own.working c.turn-reply.new.database (turn_effect own.0 c.args.statement.now)
    c.turn-reply.result (c.turn-reply.ensures.turns own.0 own.1) refused in
    left.1
