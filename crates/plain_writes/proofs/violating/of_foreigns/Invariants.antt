use Rattle.std.proofs.Common.{◌≡◌, ◌++◌, drop, map}
use Rattle.std.specs.List.{flat_map}
use Rattle.plain_writes.specs.Seen.{broken_seen, named_seen}
use Rattle.plain_writes.specs.Violations.{of_foreign}
use Rattle.plain_writes.proofs.violating.of_foreigns.Given as goal

abbrev pub invariant-loop-foreign : goal.invariant-loop-foreign
invariant-loop-foreign l =
    flat_map (of_foreign (map named_seen l.database) l.schema l.rows) l.schema.foreign
    ≡ map broken_seen l.found ++ flat_map (of_foreign (map named_seen l.database) l.schema l.rows) (drop l.foreign-index l.keys)
