use Rattle.std.proofs.Common.{arith, if◌then◌else◌}
use Rattle.plain_sessions.specs.Sessions.{over}
use Rattle.session_txn.proofs.SessionLemmas.{switches}
use Rattle.session_txn.proofs.answering.switch.Goals as goal

pub returns-clause-alone : goal.returns-clause-alone
returns-clause-alone g c p stands local =
    switches g.D.Digester.address c.set_variable.new.session p c.args.setting.now c.as_slice-variable.result.now c.ends_transaction-ends.result c.as_slice-variable.ensures
    (c.ends_transaction-ends.ensures p stands) local
    (c.set_variable.ensures.stands (if c.ends_transaction-ends.result then over p else p) (c.end_if.ensures.stands p stands))

pub returns-clause-pages : goal.returns-clause-pages
returns-clause-pages g c = omega (arith, c.end_if.ensures.pages, c.set_variable.ensures.pages)
