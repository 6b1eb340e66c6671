use Rattle.std.proofs.Common.{◌≤◌, drop}
use Rattle.table_merge.specs.Walking.{three_in}
use Rattle.table_merge.proofs.WalkLemmas.{Counting}
use Rattle.table_merge.proofs.walking.count_conflicts_in.Given as goal

abbrev pub invariant-loop-key : goal.invariant-loop-key
invariant-loop-key l = Counting l.schema (three_in l.base l.ours l.theirs) (drop l.key-index l.key-items) l.count × (l.count ≤ l.key-index)
