use Rattle.tuple_codec.proofs.OrderLemmas.{key_order, key_order_whole}
use Rattle.tuple_codec.proofs.key_codec.keys_keep_order.Goals as goal

pub returns-clause-whole : goal.returns-clause-whole
returns-clause-whole c = key_order_whole

pub returns-clause-before : goal.returns-clause-before
returns-clause-before c = key_order
