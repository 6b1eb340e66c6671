use Rattle.std.proofs.Common.{◌∙◌, ◌<◌, ◌^◌, length, arith}
use Rattle.chunk_store.specs.Drafts.{chunks_of}
use Rattle.plain_sessions.specs.Merging.{rows_after}
use Rattle.sql_procedures.specs.declared.requests.Side.TheVariants as side
use Rattle.merge_procs.proofs.TheirsLemmas.{can_edit}
use Rattle.merge_procs.proofs.settling.with_theirs.Goals as goal

pub apply_with_indexes-requires-after_bounds : goal.apply_with_indexes-requires-after_bounds
apply_with_indexes-requires-after_bounds g c κs within =
    let contents = c.requires.0 in
    let can = c.requires.1 in
    let most = c.as_slice.type_inv.1 in
    let few : length c.as_slice.result.now < 2 ^ 62 = omega (arith, most) in (
      contents,
      rows_after side.Theirs contents,
      can_edit c.law_of_row_items.ensures c.keys_are_one_spelling.ensures g.D.Digester.address (chunks_of c.args.draft.now.chunks) c.args.table contents can
          c.as_slice.result.now (c.as_slice.ensures ∙ c.in_ok-edits.ensures contents can.stands) few,
    )

pub returns-clause-stands : goal.returns-clause-stands
returns-clause-stands g c = λ contents can.
    let most = c.as_slice.type_inv.1 in
    let few : length c.as_slice.result.now < 2 ^ 62 = omega (arith, most) in
    c.apply_with_indexes.ensures.ok contents (rows_after side.Theirs contents)
    (can_edit c.law_of_row_items.ensures c.keys_are_one_spelling.ensures g.D.Digester.address (chunks_of c.args.draft.now.chunks) c.args.table contents can
    c.as_slice.result.now (c.as_slice.ensures ∙ c.in_ok-edits.ensures contents can.stands) few)
