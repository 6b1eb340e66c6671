use Rattle.std.proofs.Common.{map, drop}
use Rattle.node_format.specs.Views.{leaf_of}
use Rattle.table_merge.specs.Walking.{three_in}
use Rattle.table_merge.proofs.WalkLemmas.{Walked}
use Rattle.table_merge.proofs.walking.merge_lists.Given as goal

abbrev pub invariant-loop-key : goal.invariant-loop-key
invariant-loop-key l = Walked l.schema (three_in l.base l.ours l.theirs) (drop l.key-index l.key-items) (map leaf_of l.rows.items) (map leaf_of l.conflicts.items)
