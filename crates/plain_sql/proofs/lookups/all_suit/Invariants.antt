use Rattle.std.proofs.Common.{◌≡◌, drop}
use Rattle.std.specs.List.{list_all}
use Rattle.plain_sql.specs.Links.{suits_at}
use Rattle.plain_sql.proofs.lookups.all_suit.Given as goal

abbrev pub invariant-loop-row : goal.invariant-loop-row
invariant-loop-row l = list_all (suits_at l.kind l.place) l.rows ≡ list_all (suits_at l.kind l.place) (drop l.row-index l.rows)
