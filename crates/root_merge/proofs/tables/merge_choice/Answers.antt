use Rattle.std.proofs.Common.{IfErr, IfOk, sym, subst}
use Rattle.chunk_store.specs.Drafts.{chunks_of}
use Rattle.schema_merge.specs.RootMerge.{MergedTable}
use Rattle.root_merge.specs.Merging.{IsBecome, IsLimitFault, is_within_perhaps}
use Rattle.root_merge.proofs.ChoiceLemmas.{rows_for}
use Rattle.root_merge.proofs.tables.merge_choice.Goals as goal

pub merge_rows-requires-after_bounds : goal.merge_rows-requires-after_bounds
merge_rows-requires-after_bounds g c κs within =
    let rows = rows_for g.D.Digester.address (chunks_of c.args.draft.now.chunks) c.in-Rows.base c.in-Rows.ours c.in-Rows.theirs c.args.choice.now c.requires.0 c.requires.1 c.in-Rows.is c.requires.2 c.requires.3 in
    (rows.contents, rows.table, record { kept = rows.kept; comes = rows.is })

pub returns-in-Rows-clause-made : goal.returns-in-Rows-clause-made
returns-in-Rows-clause-made g c = λ wanted merged leads is.
    let address = g.D.Digester.address in
    let rows = rows_for address (chunks_of c.args.draft.now.chunks) c.in-Rows.base c.in-Rows.ours c.in-Rows.theirs c.args.choice.now wanted merged c.in-Rows.is leads is in
    subst (λ (m : MergedTable). IfOk c.merge_rows.result (λ became. IsBecome address (chunks_of c.merge_rows.new.draft.chunks) became m)) (sym rows.all_is)
    (c.merge_rows.ensures.made rows.contents rows.table (record { kept = rows.kept; comes = rows.is }))

pub returns-in-Rows-clause-fault : goal.returns-in-Rows-clause-fault
returns-in-Rows-clause-fault g c = λ wanted merged leads is.
    let rows = rows_for g.D.Digester.address (chunks_of c.args.draft.now.chunks) c.in-Rows.base c.in-Rows.ours c.in-Rows.theirs c.args.choice.now wanted merged c.in-Rows.is leads is in
    subst (λ (m : MergedTable). IfErr c.merge_rows.result (IsLimitFault (is_within_perhaps m.table))) (sym rows.all_is)
    (c.merge_rows.ensures.fault rows.contents rows.table (record { kept = rows.kept; comes = rows.is }))
