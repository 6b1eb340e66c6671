use Rattle.std.proofs.Common.{◌≡◌, drop}
use Rattle.tuple_codec.specs.Rows.{key_of}
use Rattle.plain_writes.specs.Violations.{is_whole}
use Rattle.plain_writes.proofs.places.is_whole_at.Given as goal

abbrev pub invariant-loop-place : goal.invariant-loop-place
invariant-loop-place l = is_whole (key_of l.places l.row) ≡ is_whole (key_of (drop l.place-index l.places) l.row)
