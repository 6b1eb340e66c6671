use Rattle.std.proofs.Common.{◌∙◌, ap, sym}
use Rattle.chunk_store.specs.Drafts.{chunks_of}
use Rattle.tuple_codec.specs.ByKey.{as_edits}
use Rattle.root_merge.specs.Changing.{HasChanges}
use Rattle.root_merge.proofs.MergedLemmas.{rows_pass, table_within}
use Rattle.root_merge.proofs.changing.keep_changes.Goals as goal

pub rows_are_short-requires-after_bounds : goal.rows_are_short-requires-after_bounds
rows_are_short-requires-after_bounds g c κs within =
    (c.requires.0, c.requires.1, record { can = c.requires.2; changes_are = c.as_slice.ensures.value ∙ c.in_ok-changes.ensures c.requires.0 c.requires.1 c.requires.2 })

pub returns-then-not-short-clause-fault : goal.returns-then-not-short-clause-fault
returns-then-not-short-clause-fault g c = λ before contents can.
    rows_pass contents (sym (c.in_ok-short.ensures before contents (record { can = can; changes_are = c.as_slice.ensures.value ∙ c.in_ok-changes.ensures before contents can })) ∙ c.if-not-short.true)

pub keep_edits-requires-after_bounds : goal.keep_edits-requires-after_bounds
keep_edits-requires-after_bounds g c κs within =
    let before = c.requires.0 in
    let contents = c.requires.1 in
    let can = c.requires.2 in
    let are = c.in_ok-changes.ensures before contents can in
    let has : HasChanges g.D.Digester.address (chunks_of c.args.draft.now.chunks) c.args.ours c.args.merged.now c.as_slice.result.now before contents = record { can = can; changes_are = c.as_slice.ensures.value ∙ are } in (
      before,
      contents,
      record {
        can = can;
        within = table_within contents can.made.limits (sym (c.in_ok-short.ensures before contents has) ∙ c.if-not-short.false) can.made.settled;
        edits_are = c.as_slice-2.ensures.value ∙ c.in_ok-edits.ensures ∙ ap as_edits are;
      },
    )

pub returns-clause-made : goal.returns-clause-made
returns-clause-made g c = λ before contents can.
    let are = c.in_ok-changes.ensures before contents can in
    let has : HasChanges g.D.Digester.address (chunks_of c.args.draft.now.chunks) c.args.ours c.args.merged.now c.as_slice.result.now before contents = record { can = can; changes_are = c.as_slice.ensures.value ∙ are } in
    c.in_ok-became.ensures.made before contents (record {
      can = can;
      within = table_within contents can.made.limits (sym (c.in_ok-short.ensures before contents has) ∙ c.if-not-short.false) can.made.settled;
      edits_are = c.as_slice-2.ensures.value ∙ c.in_ok-edits.ensures ∙ ap as_edits are;
    })
