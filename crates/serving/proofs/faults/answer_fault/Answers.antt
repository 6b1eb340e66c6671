use Rattle.std.proofs.Common.{◌+◌}
use Rattle.serving.proofs.ComingLemmas.{fault_passes, went_on}
use Rattle.session_state.specs.declared.sessions.Position.TheVariants as place
use Rattle.serving.proofs.faults.answer_fault.Goals as goal

-- src/faults.rt
pub returns-clause-alone : goal.returns-clause-alone
returns-clause-alone g c =
    fault_passes g.D.Digester.address c.args.session.now c.go_on.new.session c.number_of-number.result c.args.fault c.reply_to.result
    c.number_of-number.ensures c.go_on.ensures c.reply_to.ensures.reply

pub returns-clause-same : goal.returns-clause-same
returns-clause-same g c = went_on c.args.session.now c.go_on.new.session (place.Before (c.number_of-number.result + 1)) c.go_on.ensures
