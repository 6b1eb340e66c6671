use Rattle.std.proofs.Common.{◌∙◌, refl}
use Rattle.session_txn.proofs.ValueLemmas.{values_so}
use Rattle.session_txn.proofs.values.values_of.Goals as goal

pub returns : goal.returns
returns g c = λ p stands.
    values_so g.D.Digester.address c.args.session.now
    (record { autocommit = c.args.session.now.autocommit; allow = c.args.session.now.allow; force = c.args.session.now.force; branch = c.in_ok-from_slice.field-0 })
    p stands refl refl refl (c.in_ok-from_slice.ensures ∙ c.bytes.ensures.bytes)
