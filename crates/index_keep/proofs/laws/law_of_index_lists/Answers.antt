use Rattle.index_keep.proofs.IndexLemmas.{lists_follow}
use Rattle.index_keep.proofs.laws.law_of_index_lists.Goals as goal

pub returns : goal.returns
returns c = lists_follow c.law_of_row_items.ensures c.keys_are_one_spelling.ensures
