use Rattle.std.specs.Option.{option_copied}
use Rattle.chunk_store.specs.Drafts.{chunks_of}
use Rattle.table_merge.specs.Merging.{IsFaultOf, IsMergeReason, fault_of_put, fault_of_stop, merged_contents}
use Rattle.table_merge.proofs.FaultLemmas.{err_of, put_fault, put_reason, stop_fault, stop_reason}
use Rattle.table_merge.proofs.KeepLemmas.{conflicts_can, is_merged, rows_can}
use Rattle.table_merge.proofs.SideLemmas.{known}
use Rattle.table_merge.proofs.merging.merge_on.Goals as goal

pub lists_within-requires-after_bounds : goal.lists_within-requires-after_bounds
lists_within-requires-after_bounds g c κs within = c.requires

pub returns-in_err-lists-clause-fault : goal.returns-in_err-lists-clause-fault
returns-in_err-lists-clause-fault g c = λ contents are.
    let k = known g.D.Digester.address (chunks_of c.args.draft.now.chunks) (option_copied c.args.base) c.args.ours.now c.args.theirs.now contents are c.law_of_sameness.ensures c.args.schema c.requires.2 in
    let why = c.in_err-lists.field-0.0 in
    err_of (IsFaultOf (merged_contents contents)) c.from_residual.result (fault_of_stop why) c.from_residual.ensures
    (stop_fault c.args.schema contents k why (c.in_err-lists.ensures contents are))

pub returns-in_err-lists-clause-cause : goal.returns-in_err-lists-clause-cause
returns-in_err-lists-clause-cause g c =
    let why = c.in_err-lists.field-0.0 in
    err_of (IsMergeReason g.D.Digester.address (chunks_of c.args.draft.now.chunks)) c.from_residual.result (fault_of_stop why) c.from_residual.ensures
    (stop_reason g.D.Digester.address (chunks_of c.args.draft.now.chunks) why)

pub keep-requires-clause-rows : goal.keep-requires-clause-rows
keep-requires-clause-rows g c κs within =
    let k = known g.D.Digester.address (chunks_of c.args.draft.now.chunks) (option_copied c.args.base) c.args.ours.now c.args.theirs.now c.requires.0 c.requires.1 c.law_of_sameness.ensures c.args.schema c.requires.2 in
    let lists = c.in_ok-lists.ensures c.requires.0 c.requires.1 in
    rows_can c.args.schema c.requires.0 k c.in_ok-lists.lists.rows.items lists.0 lists.2

pub keep-requires-clause-conflicts : goal.keep-requires-clause-conflicts
keep-requires-clause-conflicts g c κs within =
    let k = known g.D.Digester.address (chunks_of c.args.draft.now.chunks) (option_copied c.args.base) c.args.ours.now c.args.theirs.now c.requires.0 c.requires.1 c.law_of_sameness.ensures c.args.schema c.requires.2 in
    let lists = c.in_ok-lists.ensures c.requires.0 c.requires.1 in
    conflicts_can c.args.schema c.requires.0 k c.in_ok-lists.lists.conflicts.items lists.1 lists.2

pub returns-in_err-keep-clause-fault : goal.returns-in_err-keep-clause-fault
returns-in_err-keep-clause-fault g c = λ contents are.
    let why = c.in_err-keep.field-0.0 in
    err_of (IsFaultOf (merged_contents contents)) c.from_residual-in_err-keep.result (fault_of_put why) c.from_residual-in_err-keep.ensures (put_fault (merged_contents contents) why)

pub returns-in_err-keep-clause-cause : goal.returns-in_err-keep-clause-cause
returns-in_err-keep-clause-cause g c =
    let address = g.D.Digester.address in
    let chunks = chunks_of c.keep.new.draft.chunks in
    let why = c.in_err-keep.field-0.0 in
    err_of (IsMergeReason address chunks) c.from_residual-in_err-keep.result (fault_of_put why) c.from_residual-in_err-keep.ensures (put_reason address chunks why c.in_err-keep.ensures.cause)

pub returns-clause-merged : goal.returns-clause-merged
returns-clause-merged g c = λ contents are.
    let k = known g.D.Digester.address (chunks_of c.args.draft.now.chunks) (option_copied c.args.base) c.args.ours.now c.args.theirs.now contents are c.law_of_sameness.ensures c.args.schema c.requires.2 in
    let lists = c.in_ok-lists.ensures contents are in
    is_merged c.args.schema contents k g.D.Digester.address (chunks_of c.keep.new.draft.chunks) _ c.in_ok-lists.lists.rows.items c.in_ok-lists.lists.conflicts.items lists.0 lists.1 lists.2 c.in_ok-keep.ensures.kept
