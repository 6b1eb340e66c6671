use Rattle.std.proofs.Common.{ℕ, nat_le, ap, sym, ◌∙◌}
use Rattle.std.proofs.lemmas.Bool.{le-leb, lt-leb}
use Rattle.chunk_store.specs.Drafts.{chunks_of}
use Rattle.schema_model.specs.Limits.{most_rows}
use Rattle.table_merge.specs.Merging.{IsFaultOf, IsMergeReason, fault_of_put, fault_of_stop, merged_contents}
use Rattle.table_merge.proofs.FaultLemmas.{err_of, put_fault, put_reason, stop_reason}
use Rattle.table_merge.proofs.KeptLemmas.{can_edit, conflicts_stand, is_merged, merged_fault, our_rows, passes_many, ready}
use Rattle.table_merge.proofs.SideLemmas.{three_of}
use Rattle.table_merge.proofs.skipping.merge_by_changes.Goals as goal

pub merge_changes-requires-after_bounds : goal.merge_changes-requires-after_bounds
merge_changes-requires-after_bounds g c κs within =
    let r = ready g.D.Digester.address (chunks_of c.args.draft.now.chunks) c.args.base.now c.args.ours.now c.args.theirs.now c.args.schema c.law_of_sameness.ensures c.requires.sides.2 c.requires.shared
    c.requires.sides.0 c.requires.sides.1 in
    (three_of c.args.schema c.requires.sides.0, r.can)

pub returns-in_err-merged-clause-fault : goal.returns-in_err-merged-clause-fault
returns-in_err-merged-clause-fault g c = λ contents are.
    let r = ready g.D.Digester.address (chunks_of c.args.draft.now.chunks) c.args.base.now c.args.ours.now c.args.theirs.now c.args.schema c.law_of_sameness.ensures c.requires.sides.2 c.requires.shared
    contents are in
    let why = c.in_err-merged.field-0.0 in
    err_of (IsFaultOf (merged_contents contents)) c.from_residual.result (fault_of_stop why) c.from_residual.ensures
    (merged_fault c.args.schema contents r.known_is why (c.in_err-merged.ensures (three_of c.args.schema contents) r.can))

pub returns-in_err-merged-clause-cause : goal.returns-in_err-merged-clause-cause
returns-in_err-merged-clause-cause g c =
    let why = c.in_err-merged.field-0.0 in
    err_of (IsMergeReason g.D.Digester.address (chunks_of c.args.draft.now.chunks)) c.from_residual.result (fault_of_stop why) c.from_residual.ensures
    (stop_reason g.D.Digester.address (chunks_of c.args.draft.now.chunks) why)

pub keep_merged-requires-clause-rows : goal.keep_merged-requires-clause-rows
keep_merged-requires-clause-rows g c κs within =
    let contents = c.requires.sides.0 in
    let r = ready g.D.Digester.address (chunks_of c.args.draft.now.chunks) c.args.base.now c.args.ours.now c.args.theirs.now c.args.schema c.law_of_sameness.ensures c.requires.sides.2 c.requires.shared
    contents c.requires.sides.1 in (
      our_rows c.args.schema contents,
      can_edit g.D.Digester.address (chunks_of c.args.draft.now.chunks) c.args.base.now.rows.0 c.args.ours.now.rows.0 c.args.theirs.now.rows.0 c.args.schema
          (three_of c.args.schema contents) r.can c.in_ok-merged.merged (c.in_ok-merged.ensures (three_of c.args.schema contents) r.can),
    )

pub keep_merged-requires-clause-conflicts : goal.keep_merged-requires-clause-conflicts
keep_merged-requires-clause-conflicts g c κs within =
    let contents = c.requires.sides.0 in
    let r = ready g.D.Digester.address (chunks_of c.args.draft.now.chunks) c.args.base.now c.args.ours.now c.args.theirs.now c.args.schema c.law_of_sameness.ensures c.requires.sides.2 c.requires.shared
    contents c.requires.sides.1 in
    let can = r.can in
    conflicts_stand c.args.schema (three_of c.args.schema contents) can.kept c.in_ok-merged.merged (c.in_ok-merged.ensures (three_of c.args.schema contents) can)

pub returns-in_err-table-clause-fault : goal.returns-in_err-table-clause-fault
returns-in_err-table-clause-fault g c = λ contents are.
    let why = c.in_err-table.field-0.0 in
    err_of (IsFaultOf (merged_contents contents)) c.from_residual-in_err-table.result (fault_of_put why) c.from_residual-in_err-table.ensures (put_fault (merged_contents contents) why)

pub returns-in_err-table-clause-cause : goal.returns-in_err-table-clause-cause
returns-in_err-table-clause-cause g c =
    let address = g.D.Digester.address in
    let chunks = chunks_of c.keep_merged.new.draft.chunks in
    let why = c.in_err-table.field-0.0 in
    err_of (IsMergeReason address chunks) c.from_residual-in_err-table.result (fault_of_put why) c.from_residual-in_err-table.ensures (put_reason address chunks why c.in_err-table.ensures.cause)

pub count-requires-clause-tree : goal.count-requires-clause-tree
count-requires-clause-tree g c κs within =
    let contents = c.requires.sides.0 in
    let r = ready g.D.Digester.address (chunks_of c.args.draft.now.chunks) c.args.base.now c.args.ours.now c.args.theirs.now c.args.schema c.law_of_sameness.ensures c.requires.sides.2 c.requires.shared
    contents c.requires.sides.1 in
    let can = r.can in
    let kept = c.in_ok-table.ensures.kept (our_rows c.args.schema contents) can.our_tree in
    (_, kept.rows_stand)

pub returns-then-count-le-MOST_ROWS-clause-merged : goal.returns-then-count-le-MOST_ROWS-clause-merged
returns-then-count-le-MOST_ROWS-clause-merged g c = λ contents are.
    let r = ready g.D.Digester.address (chunks_of c.args.draft.now.chunks) c.args.base.now c.args.ours.now c.args.theirs.now c.args.schema c.law_of_sameness.ensures c.requires.sides.2 c.requires.shared
    contents are in
    let can = r.can in
    let merged = c.in_ok-merged.ensures (three_of c.args.schema contents) can in
    let kept = c.in_ok-table.ensures.kept (our_rows c.args.schema contents) can.our_tree in
    let few = ap (λ (n : ℕ). nat_le n most_rows) (sym (c.count.ensures _ kept.rows_stand)) ∙ le-leb c.count.result most_rows c.if-count-le-MOST_ROWS.true in
    is_merged c.args.schema contents r.known_is g.D.Digester.address (chunks_of c.keep_merged.new.draft.chunks) _ _ _ merged.rows merged.conflicts r.limits few merged.short kept

pub returns-clause-fault : goal.returns-clause-fault
returns-clause-fault g c = λ contents are.
    let r = ready g.D.Digester.address (chunks_of c.args.draft.now.chunks) c.args.base.now c.args.ours.now c.args.theirs.now c.args.schema c.law_of_sameness.ensures c.requires.sides.2 c.requires.shared
    contents are in
    let can = r.can in
    let merged = c.in_ok-merged.ensures (three_of c.args.schema contents) can in
    let kept = c.in_ok-table.ensures.kept (our_rows c.args.schema contents) can.our_tree in
    let many = ap (λ (n : ℕ). nat_le n most_rows) (sym (c.count.ensures _ kept.rows_stand)) ∙ lt-leb c.count.result most_rows c.if-count-le-MOST_ROWS.false in
    passes_many c.args.schema contents r.known_is _ merged.rows many
