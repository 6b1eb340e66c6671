use Rattle.std.proofs.Common.{◌≡◌, ◌++◌, map, drop}
use Rattle.tuple_codec.specs.Rows.{key_of}
use Rattle.plain_writes.proofs.parents.keys_of_rows.Given as goal

abbrev pub invariant-loop-row : goal.invariant-loop-row
invariant-loop-row l = map (key_of l.places) l.rows ≡ l.keys ++ map (key_of l.places) (drop l.row-index l.rows)
