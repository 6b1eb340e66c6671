use Rattle.std.proofs.Common.{drop, map}
use Rattle.chunk_store.specs.Drafts.{chunks_of}
use Rattle.node_format.specs.Views.{leaf_of}
use Rattle.schema_merge.specs.TableMerge.{Three}
use Rattle.table_merge.specs.Skipping.{CanDecideAll}
use Rattle.table_merge.proofs.DecideLemmas.{Deciding}
use Rattle.table_merge.proofs.changing.decide_changes.Given as goal

abbrev pub invariant-loop-change : goal.invariant-loop-change
invariant-loop-change g l =
    (three : Three) → CanDecideAll g.D.Digester.address (chunks_of l.draft.chunks) l.ours.0 l.schema three l.changes
    → Deciding l.schema three (drop l.change-index l.changes) l.changes l.edits.items (map leaf_of l.conflicts.items)
