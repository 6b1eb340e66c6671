use Rattle.std.proofs.Common.{◌≡◌, ◌++◌, map, drop}
use Rattle.plain_sql.specs.Seen.{heading_seen}
use Rattle.plain_sql.proofs.answering.types_of.Given as goal

abbrev pub invariant-loop-heading : goal.invariant-loop-heading
invariant-loop-heading l =
    map (λ heading. heading.kind) (map heading_seen l.headings) ≡ l.kinds ++ map (λ heading. heading.kind) (map heading_seen (drop l.heading-index l.headings))
