use Rattle.std.proofs.Common.{◌≡◌, drop}
use Rattle.plain_sql.specs.Runs.{places_cmp}
use Rattle.plain_sql.proofs.grouping.compare_at.Given as goal

abbrev pub invariant-loop-place : goal.invariant-loop-place
invariant-loop-place l = places_cmp l.places l.a l.b ≡ places_cmp (drop l.place-index l.places) l.a l.b
