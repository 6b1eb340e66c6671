use Rattle.std.proofs.Common.{◌≡◌, ◌++◌, ◌-◌}
use Rattle.std.specs.List.{range_with_len}
use Rattle.plain_writes.proofs.inserting.all_places.Given as goal

abbrev pub invariant-loop-place : goal.invariant-loop-place
invariant-loop-place l = range_with_len 0 l.count ≡ l.places.items ++ range_with_len l.place (l.count - l.place)
