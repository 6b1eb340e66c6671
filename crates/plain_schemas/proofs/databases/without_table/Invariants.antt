use Rattle.std.proofs.Common.{◌≡◌, ◌++◌, drop, map}
use Rattle.plain_writes.specs.Seen.{named_seen}
use Rattle.plain_schemas.specs.Effects.{without_table}
use Rattle.plain_schemas.proofs.databases.without_table.Given as goal

abbrev pub invariant-loop-named : goal.invariant-loop-named
invariant-loop-named l =
    without_table l.name (map named_seen l.database) ≡ map named_seen l.tables ++ without_table l.name (map named_seen (drop l.named-index l.database))
