use Rattle.std.proofs.Common.{◌+◌}
use Rattle.session_state.specs.declared.sessions.Position.TheVariants as place
use Rattle.serving.proofs.ComingLemmas.{moved_on, passes_by}
use Rattle.serving.proofs.coming.come_to.Goals as goal

-- src/coming.rt
pub returns-clause-alone : goal.returns-clause-alone
returns-clause-alone g c = λ p here before.
    passes_by g.D.Digester.address c.args.session.now c.answer_at_once.new.session p here before c.args.asked.now c.in_ok-reply.reply
    c.go_on.new.session c.number_of-number.result c.number_of-number.ensures c.go_on.ensures (c.in_ok-reply.ensures.alone p here)

pub returns-clause-same : goal.returns-clause-same
returns-clause-same g c = λ refused.
    moved_on c.args.session.now c.answer_at_once.new.session c.go_on.new.session (c.in_ok-reply.ensures.same refused) (place.Before (c.number_of-number.result + 1)) c.go_on.ensures
