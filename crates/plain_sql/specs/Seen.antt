-- What contracts see of a plan.
use Rattle.std.specs.Prelude.{map}
use Rattle.plain_sql.specs.declared.shown.Showing.{Showing}
use Rattle.plain_sql.specs.declared.shown.Showing.TheVariants as showing
use Rattle.plain_sql.specs.declared.items.Heading as column
use Rattle.plain_sql.specs.declared.ranking.Sorter.{Sorter}
use Rattle.plain_sql.specs.declared.planning.Plan as plan
use Rattle.plain_sql.specs.Answers.{Shown, Of, Rows, Count, Sum, Least, Greatest, Heading, SortKey, Plan}
use Rattle.plain_sql.specs.Plans.{meaning}

abbrev pub showing_seen : Showing → Shown
showing_seen (showing.Of expr) = Of (meaning expr)
showing_seen showing.Rows = Rows
showing_seen (showing.Count expr) = Count (meaning expr)
showing_seen (showing.Sum expr) = Sum expr.kind (meaning expr)
showing_seen (showing.Least expr) = Least (meaning expr)
showing_seen (showing.Greatest expr) = Greatest (meaning expr)

abbrev pub heading_seen : column.Heading → Heading
heading_seen heading = record { name = heading.name; kind = heading.kind; shown = showing_seen heading.shown }

abbrev pub key_seen : Sorter → SortKey
key_seen sorter = record { shown = showing_seen sorter.shown; direction = sorter.direction }

abbrev pub plan_seen : plan.Plan → Plan
plan_seen plan = record {
  tests = map meaning plan.tests;
  grouping = plan.grouping;
  headings = map heading_seen plan.headings;
  distinct = plan.distinct;
  keys = map key_seen plan.keys;
  limit = plan.limit;
}
