use Rattle.std.proofs.Common.{inr, refl}
use Rattle.script_text.specs.declared.replies.Reply.TheVariants.{Refused}
use Rattle.session_txn.proofs.SelectLemmas.{asks}
use Rattle.session_txn.proofs.SessionLemmas.{has_own}
use Rattle.session_txn.proofs.selecting.ask.Goals as goal

pub show-requires-after_bounds : goal.show-requires-after_bounds
show-requires-after_bounds g c κs within = has_own g.D.Digester.address c.args.session.now c.requires.0 c.requires.1 c.requires.2 c.requires.3

pub returns-in-Ok-clause-alone : goal.returns-in-Ok-clause-alone
returns-in-Ok-clause-alone g c = λ p stands inside.
    asks g.D.Digester.address c.args.session.now p c.args.select.now c.show.result inside stands
    (λ t there kept. c.show.ensures.due t kept (c.in-Ok.ensures p t stands there))

pub returns-in-Err-clause-alone : goal.returns-in-Err-clause-alone
returns-in-Err-clause-alone g c = λ p stands inside.
    asks g.D.Digester.address c.args.session.now p c.args.select.now (Refused 1) inside stands (λ t there kept. inr refl)
