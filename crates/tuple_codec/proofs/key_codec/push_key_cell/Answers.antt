use Rattle.tuple_codec.proofs.OrderLemmas.{key_spelled}
use Rattle.tuple_codec.proofs.key_codec.push_key_cell.Goals as goal

pub push_cell-requires : goal.push_cell-requires
push_cell-requires c = key_spelled c.args.cell.now
