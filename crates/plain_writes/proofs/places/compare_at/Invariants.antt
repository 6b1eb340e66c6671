use Rattle.std.proofs.Common.{◌≡◌, drop}
use Rattle.tuple_codec.specs.Rows.{key_cmp, key_of}
use Rattle.plain_writes.proofs.places.compare_at.Given as goal

abbrev pub invariant-loop-place : goal.invariant-loop-place
invariant-loop-place l =
    key_cmp (key_of l.places l.a) (key_of l.places l.b) ≡ key_cmp (key_of (drop l.place-index l.places) l.a) (key_of (drop l.place-index l.places) l.b)
