use Rattle.std.proofs.Common.{◌≡◌, ◌++◌, drop}
use Rattle.tuple_codec.specs.KeyBytes.{key_bytes}
use Rattle.tuple_codec.specs.Rows.{key_of}
use Rattle.table_root.proofs.items.written_key.Given as goal

abbrev pub invariant-loop-position : goal.invariant-loop-position
invariant-loop-position l = l.bytes.items ++ key_bytes (key_of (drop l.position-index l.key) l.row) ≡ key_bytes (key_of l.key l.row)
