use Rattle.std.proofs.Common.{◌+◌, ◌-◌, length}
use Rattle.node_format.proofs.EndLemmas.{put_front}
use Rattle.node_format.proofs.boundary.put.Goals as goal

pub returns-clause-front : goal.returns-clause-front
returns-clause-front c =
    put_front c.args.bytes.now c.copy_from_slice.new.self c.args.key.now c.args.level (1 + length c.args.key.now - 1) c.requires c.copy_from_slice.ensures.after
