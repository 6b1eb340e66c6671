use Rattle.std.proofs.Common.{◌≡◌, ◌++◌, map, drop}
use Rattle.std.specs.List.{flat_map}
use Rattle.plain_writes.specs.Seen.{found_seen, named_seen}
use Rattle.violation_lists.specs.Written.{written_in}
use Rattle.violation_lists.proofs.listing.written_all.Given as goal

abbrev pub invariant-loop-one : goal.invariant-loop-one
invariant-loop-one l =
    flat_map (written_in (map named_seen l.tables)) (map found_seen l.found)
    ≡ l.list.items ++ flat_map (written_in (map named_seen l.tables)) (map found_seen (drop l.one-index l.found))
