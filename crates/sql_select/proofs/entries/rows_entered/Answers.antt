use Rattle.std.proofs.Common.{◌≡◌, sym, filter, length}
use Rattle.std.proofs.lemmas.Bool.{ltb-false, ltb-true}
use Rattle.std.proofs.lemmas.Result.{IfOk-weaker}
use Rattle.chunk_store.specs.Drafts.{chunks_of}
use Rattle.sql_select.specs.Entries.{has_cells, is_entered}
use Rattle.sql_select.proofs.TableLemmas.{has_rows, indexed, is_at, no_root, same_entered}
use Rattle.sql_select.proofs.entries.rows_entered.Goals as goal

pub rows_by_index-requires-clause-index : goal.rows_by_index-requires-clause-index
rows_by_index-requires-clause-index g c = λ κs within.
    let has = has_rows g.D.Digester.address (chunks_of c.args.draft.now.chunks) c.args.table.now c.requires.table.0 c.requires.table.1 in
    let at = is_at c.args.table.now.schema c.args.entries.now c.as_slice-in-Some.result.now c.in-Some-get.index.now has.valid c.requires.entries c.as_slice-in-Some.ensures
    (ltb-true c.args.entries.now.place (length c.as_slice-in-Some.result.now) (sym c.in-Some-get.ensures.lookup.0)) c.in-Some-get.ensures.lookup.1 in (
      c.requires.table.0,
      indexed g.D.Digester.address (chunks_of c.args.draft.now.chunks) c.args.table.now c.requires.table.0 c.args.entries.now c.in-Some-get.index.now c.as_slice.result.now c.in-Some.root.now c.requires.table.1 at
          c.as_slice.ensures (ltb-true c.args.entries.now.place (length c.as_slice.result.now) (sym c.in-Some.ensures.lookup.0)) c.in-Some.ensures.lookup.1,
    )

pub rows_by_index-requires-clause-places : goal.rows_by_index-requires-clause-places
rows_by_index-requires-clause-places g c = λ κs within.
    let has = has_rows g.D.Digester.address (chunks_of c.args.draft.now.chunks) c.args.table.now c.requires.table.0 c.requires.table.1 in
    let at = is_at c.args.table.now.schema c.args.entries.now c.as_slice-in-Some.result.now c.in-Some-get.index.now has.valid c.requires.entries c.as_slice-in-Some.ensures
    (ltb-true c.args.entries.now.place (length c.as_slice-in-Some.result.now) (sym c.in-Some-get.ensures.lookup.0)) c.in-Some-get.ensures.lookup.1 in
    at.places

pub rows_by_index-requires-clause-fits : goal.rows_by_index-requires-clause-fits
rows_by_index-requires-clause-fits g c = λ κs within.
    let has = has_rows g.D.Digester.address (chunks_of c.args.draft.now.chunks) c.args.table.now c.requires.table.0 c.requires.table.1 in
    let at = is_at c.args.table.now.schema c.args.entries.now c.as_slice-in-Some.result.now c.in-Some-get.index.now has.valid c.requires.entries c.as_slice-in-Some.ensures
    (ltb-true c.args.entries.now.place (length c.as_slice-in-Some.result.now) (sym c.in-Some-get.ensures.lookup.0)) c.in-Some-get.ensures.lookup.1 in
    at.fits

pub returns : goal.returns
returns g c = λ contents of.
    let has = has_rows g.D.Digester.address (chunks_of c.args.draft.now.chunks) c.args.table.now c.requires.table.0 c.requires.table.1 in
    let at = is_at c.args.table.now.schema c.args.entries.now c.as_slice-in-Some.result.now c.in-Some-get.index.now has.valid c.requires.entries c.as_slice-in-Some.ensures
    (ltb-true c.args.entries.now.place (length c.as_slice-in-Some.result.now) (sym c.in-Some-get.ensures.lookup.0)) c.in-Some-get.ensures.lookup.1 in
    let tree = indexed g.D.Digester.address (chunks_of c.args.draft.now.chunks) c.args.table.now contents c.args.entries.now c.in-Some-get.index.now c.as_slice.result.now c.in-Some.root.now of at
    c.as_slice.ensures (ltb-true c.args.entries.now.place (length c.as_slice.result.now) (sym c.in-Some.ensures.lookup.0)) c.in-Some.ensures.lookup.1 in
    IfOk-weaker c.rows_by_index.result (λ rows. rows ≡ filter (has_cells c.in-Some-get.index.now.columns c.args.entries.now.cells) contents.rows) (λ rows. rows ≡ filter (is_entered c.args.table.now.schema c.args.entries.now) contents.rows)
    (λ rows is. same_entered c.args.table.now.schema c.args.entries.now c.in-Some-get.index.now contents.rows rows at is) (c.rows_by_index.ensures contents tree)

pub unreachable-requires-in-None : goal.unreachable-requires-in-None
unreachable-requires-in-None g c =
    no_root g.D.Digester.address (chunks_of c.args.draft.now.chunks) c.args.table.now c.requires.table.0 c.args.entries.now c.as_slice.result.now c.requires.table.1 c.as_slice.ensures c.requires.entries
    (ltb-false c.args.entries.now.place (length c.as_slice.result.now) (sym c.in-None.ensures.lookup.0))
