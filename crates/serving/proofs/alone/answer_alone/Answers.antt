use Rattle.std.proofs.Common.{sym}
use Rattle.serving.proofs.StageLemmas.{is_then_inside, is_then_local, stands_inside}
use Rattle.serving.proofs.alone.answer_alone.Goals as goal

pub call-requires-clause-stands : goal.call-requires-clause-stands
call-requires-clause-stands g c κs within =
    stands_inside g.D.Digester.address c.args.session.now c.requires.stands.0 c.args.asked.now c.requires.stands.1 (sym c.if-calls.ensures) c.requires.stands.2

pub local-requires-clause-stands : goal.local-requires-clause-stands
local-requires-clause-stands g c κs within =
    (c.requires.stands.0, c.requires.stands.1, is_then_local c.requires.stands.0 c.args.asked.now (sym c.if-calls.ensures) c.requires.stands.2)

pub returns-then-calls-clause-alone : goal.returns-then-calls-clause-alone
returns-then-calls-clause-alone g c = λ p stands is.
    c.call.ensures.alone p stands (is_then_inside p c.args.asked.now (sym c.if-calls.ensures) is)

pub returns-else-calls-clause-alone : goal.returns-else-calls-clause-alone
returns-else-calls-clause-alone g c = λ p stands is.
    c.local.ensures.alone p stands (is_then_local p c.args.asked.now (sym c.if-calls.ensures) is)
