use Rattle.std.proofs.Common.{drop, map}
use Rattle.plain_sql.specs.Links.{Skips}
use Rattle.plain_sql.specs.Plans.{meaning}
use Rattle.plain_sql.specs.declared.linking.Link.{Link}
use Rattle.plain_sql.proofs.linking.link_of.Given as goal

abbrev pub invariant-loop-test : goal.invariant-loop-test
invariant-loop-test l = (link : Link) → Skips (map meaning (drop l.test-index l.tests)) l.width link → Skips (map meaning l.tests) l.width link
