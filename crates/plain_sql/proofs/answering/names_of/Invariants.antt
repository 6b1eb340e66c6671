use Rattle.std.proofs.Common.{◌≡◌, ◌++◌, map, drop}
use Rattle.plain_sql.specs.Seen.{heading_seen}
use Rattle.plain_sql.proofs.answering.names_of.Given as goal

abbrev pub invariant-loop-heading : goal.invariant-loop-heading
invariant-loop-heading l =
    map (λ heading. heading.name) (map heading_seen l.headings) ≡ l.names ++ map (λ heading. heading.name) (map heading_seen (drop l.heading-index l.headings))
