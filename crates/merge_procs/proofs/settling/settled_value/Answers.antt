use Rattle.chunk_store.specs.Kinds.{is_node}
use Rattle.index_keep.specs.Keeping.{with_rows}
use Rattle.plain_sessions.specs.Merging.{rows_after}
use Rattle.merge_procs.proofs.settling.settled_value.Goals as goal

pub returns-clause-stands : goal.returns-clause-stands
returns-clause-stands g c = λ contents can. c.without_conflicts.ensures.stands (with_rows contents (rows_after c.args.side contents)) (c.in_ok-taken.ensures.stands contents can)

pub returns-clause-grows : goal.returns-clause-grows
returns-clause-grows g c = c.law_of_growth.ensures.in_steps is_node c.args.draft.now c.with_side.new.draft c.without_conflicts.new.draft c.with_side.ensures.grows c.without_conflicts.ensures.grows
