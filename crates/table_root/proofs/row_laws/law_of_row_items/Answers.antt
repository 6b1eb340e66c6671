use Rattle.table_root.proofs.RowLemmas.{items_follow}
use Rattle.table_root.proofs.row_laws.law_of_row_items.Goals as goal

pub returns : goal.returns
returns c = items_follow c.keys_keep_order.ensures.whole
