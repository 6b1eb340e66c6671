use Rattle.std.proofs.Common.{◌≡◌, drop}
use Rattle.std.specs.List.{enumerate_from, list_any}
use Rattle.violation_lists.specs.Thinned.{is_guarded}
use Rattle.violation_lists.proofs.thinning.has_guarded.Given as goal

abbrev pub invariant-loop-place : goal.invariant-loop-place
invariant-loop-place l = list_any (is_guarded l.key) (enumerate_from l.place (drop l.place l.columns)) ≡ list_any (is_guarded l.key) (enumerate_from 0 l.columns)
