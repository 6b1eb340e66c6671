use Rattle.std.proofs.Common.{◌∙◌}
use Rattle.session_txn.specs.Values.{asked_of}
use Rattle.session_txn.proofs.ValueLemmas.{item_so}
use Rattle.session_txn.proofs.values.item_with_values.Goals as goal

pub returns : goal.returns
returns c =
    item_so (asked_of c.args.values.now) c.args.named.now c.into_inner.result c.in_ok-name.name (c.into_inner.ensures ∙ c.in_ok-expr.ensures) c.in_ok-name.ensures
