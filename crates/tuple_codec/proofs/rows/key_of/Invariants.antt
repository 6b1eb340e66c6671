use Rattle.std.proofs.Common.{◌≡◌, ◌++◌, drop}
use Rattle.tuple_codec.specs.Rows.{key_of}
use Rattle.tuple_codec.proofs.rows.key_of.Given as goal

abbrev pub invariant-loop-position : goal.invariant-loop-position
invariant-loop-position l = key_of l.positions l.row ≡ l.key ++ key_of (drop l.position-index l.positions) l.row
