use Rattle.std.proofs.Common.{◌≡◌, ◌++◌, drop, map}
use Rattle.plain_writes.specs.Seen.{named_seen, table_seen}
use Rattle.plain_writes.specs.Writes.{replaced}
use Rattle.plain_writes.proofs.effects.replaced.Given as goal

abbrev pub invariant-loop-named : goal.invariant-loop-named
invariant-loop-named l =
    replaced l.name (table_seen l.table) (map named_seen l.database)
    ≡ map named_seen l.found ++ replaced l.name (table_seen l.table) (map named_seen (drop l.named-index l.database))
