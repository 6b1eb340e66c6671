use Rattle.std.proofs.Common.{◌≡◌, ◌++◌, drop, map}
use Rattle.std.specs.List.{flat_map}
use Rattle.plain_writes.specs.Seen.{broken_seen}
use Rattle.plain_writes.specs.Violations.{of_index}
use Rattle.plain_writes.proofs.violating.of_indexes.Given as goal

abbrev pub invariant-loop-index : goal.invariant-loop-index
invariant-loop-index l =
    flat_map (of_index l.schema l.rows) l.schema.indexes ≡ map broken_seen l.found ++ flat_map (of_index l.schema l.rows) (drop l.index-index l.indexes)
