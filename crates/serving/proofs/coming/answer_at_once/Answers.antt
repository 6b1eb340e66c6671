use Rattle.serving.proofs.ComingLemmas.{checkout_alone}
use Rattle.serving.proofs.coming.answer_at_once.Goals as goal

-- src/coming.rt
pub returns-in-Checkout-clause-alone : goal.returns-in-Checkout-clause-alone
returns-in-Checkout-clause-alone g c =
    checkout_alone g.D.Digester.address c.args.session.now c.args.asked.now c.in-Checkout.field-0 c.in-Checkout.is c.changed_alone.result c.changed_alone.ensures.refused
