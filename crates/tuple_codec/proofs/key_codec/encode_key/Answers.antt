use Rattle.tuple_codec.proofs.OrderLemmas.{keys_spelled}
use Rattle.tuple_codec.proofs.key_codec.encode_key.Goals as goal

pub encode-requires : goal.encode-requires
encode-requires c = keys_spelled c.args.row.now
