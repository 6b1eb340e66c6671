use Rattle.std.proofs.Common.{◌∙◌, sym}
use Rattle.session_txn.proofs.PutBackLemmas.{violations_named}
use Rattle.session_txn.proofs.deleting.list_named.Goals as goal

pub returns-then-is_below-2 : goal.returns-then-is_below-2
returns-then-is_below-2 c = violations_named c.args.name.now (sym c.is_below.ensures ∙ c.if-is_below.false) (sym c.is_below-2.ensures ∙ c.if-is_below-2.true)
