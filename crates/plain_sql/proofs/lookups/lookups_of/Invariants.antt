use Rattle.std.proofs.Common.{map, take}
use Rattle.plain_sql.specs.Links.{AreServed}
use Rattle.plain_sql.specs.Plans.{meaning}
use Rattle.plain_sql.proofs.lookups.lookups_of.Given as goal

abbrev pub invariant-loop-source : goal.invariant-loop-source
invariant-loop-source l = AreServed (map meaning l.tests) (take l.source-index l.sources) l.lookups
