use Rattle.std.proofs.Common.{length}
use Rattle.tuple_codec.proofs.rows.+key_cmp.Given as goal

abbrev pub decreases-key_cmp : goal.decreases-key_cmp
decreases-key_cmp l = length l.a.now
