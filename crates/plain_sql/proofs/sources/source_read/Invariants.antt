use Rattle.std.proofs.Common.{◌≡◌, drop}
use Rattle.std.specs.List.{find}
use Rattle.plain_sql.specs.Plans.{is_known_as}
use Rattle.plain_sql.proofs.sources.source_read.Given as goal

abbrev pub invariant-loop-one : goal.invariant-loop-one
invariant-loop-one l = find (is_known_as l.source.table) l.known ≡ find (is_known_as l.source.table) (drop l.one-index l.known)
