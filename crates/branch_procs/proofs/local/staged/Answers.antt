use Rattle.plain_sessions.specs.Records.{root_of}
use Rattle.branch_procs.specs.Calls.{staged_by}
use Rattle.branch_procs.proofs.LocalLemmas.{answers, left_at, left_by}
use Rattle.session_plan.proofs.LocalLemmas.{own_in}
use Rattle.branch_procs.proofs.local.staged.Goals as goal

pub stage-reply-requires-clause-stands : goal.stage-reply-requires-clause-stands
stage-reply-requires-clause-stands g c κs within =
    let (p, t, stands, there) = c.requires.stands in
    (t.commits, t.own, own_in g.D.Digester.address c.args.session.now p t stands there)

pub returns-clause-alone : goal.returns-clause-alone
returns-clause-alone g c = λ p stands inside.
    answers g.D.Digester.address c.args.session.now c.stage-reply.new.draft c.stage-reply.new.own p c.args.asked.now c.stage-reply.result
    c.laws.ensures.chunks c.laws.ensures.drafts c.laws.ensures.growth c.laws.ensures.transactions c.requires.stages inside stands c.stage-reply.ensures.stages

pub returns-clause-same : goal.returns-clause-same
returns-clause-same g c = λ refused.
    let (p, t, stands, there) = c.requires.stands in
    let left = left_by g.D.Digester.address c.args.session.now.draft c.stage-reply.new.draft c.args.session.now.own c.stage-reply.new.own (staged_by (root_of t.commits t.own.head) c.args.asked.now t.own)
    c.stage-reply.result (c.stage-reply.ensures.stages t.commits t.own (own_in g.D.Digester.address c.args.session.now p t stands there)) refused in
    left_at c.args.session.now c.stage-reply.new.draft c.stage-reply.new.own left.0

pub returns-clause-draft : goal.returns-clause-draft
returns-clause-draft g c = λ refused.
    let (p, t, stands, there) = c.requires.stands in
    let left = left_by g.D.Digester.address c.args.session.now.draft c.stage-reply.new.draft c.args.session.now.own c.stage-reply.new.own (staged_by (root_of t.commits t.own.head) c.args.asked.now t.own)
    c.stage-reply.result (c.stage-reply.ensures.stages t.commits t.own (own_in g.D.Digester.address c.args.session.now p t stands there)) refused in
    left.1
