use Rattle.session_txn.proofs.ValueLemmas.{made_for}
use Rattle.session_txn.proofs.selecting.with_values_of.Goals as goal

pub returns : goal.returns
returns g c =
    made_for g.D.Digester.address c.args.session.now c.in_ok-values.values c.args.list.now c.select_with_values.result c.in_ok-values.ensures c.select_with_values.ensures
