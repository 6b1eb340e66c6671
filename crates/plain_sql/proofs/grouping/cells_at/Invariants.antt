use Rattle.std.proofs.Common.{◌≡◌, ◌++◌, drop}
use Rattle.tuple_codec.specs.Rows.{key_of}
use Rattle.plain_sql.proofs.grouping.cells_at.Given as goal

abbrev pub invariant-loop-place : goal.invariant-loop-place
invariant-loop-place l = key_of l.places l.row ≡ l.key ++ key_of (drop l.place-index l.places) l.row
