use Rattle.std.proofs.Common.{◌≡◌, ◌++◌, drop, map}
use Rattle.plain_writes.specs.Seen.{named_seen}
use Rattle.plain_schemas.proofs.databases.push_copies.Given as goal

abbrev pub invariant-loop-named : goal.invariant-loop-named
invariant-loop-named l =
    map named_seen l.fn.tables ++ map named_seen l.database ≡ map named_seen l.tables ++ map named_seen (drop l.named-index l.database)
