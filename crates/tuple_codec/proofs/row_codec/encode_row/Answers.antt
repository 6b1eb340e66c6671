use Rattle.tuple_codec.proofs.OrderLemmas.{rows_spelled}
use Rattle.tuple_codec.proofs.row_codec.encode_row.Goals as goal

pub encode-requires : goal.encode-requires
encode-requires c = rows_spelled c.args.types.now c.args.row.now c.requires.types c.requires.fit
