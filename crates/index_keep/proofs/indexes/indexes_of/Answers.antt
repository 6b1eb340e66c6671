use Rattle.std.proofs.Common.{◌≡◌, ◌∙◌, List, [], map, None, Some, sym, ap, subst}
use Rattle.chunk_store.specs.Drafts.{chunks_of}
use Rattle.schema_model.specs.declared.schemas.IndexDef.{IndexDef}
use Rattle.tuple_codec.specs.Rows.{Cells}
use Rattle.tuple_codec.specs.declared.addresses.Address.{Address}
use Rattle.index_keep.specs.Entries.{row_change, row_key}
use Rattle.index_keep.specs.Steps.{StandAt}
use Rattle.index_keep.proofs.TableLemmas.{indexes_after, indexes_new}
use Rattle.index_keep.proofs.indexes.indexes_of.Goals as goal

pub read_rows-requires-clause-schema : goal.read_rows-requires-clause-schema
read_rows-requires-clause-schema g c κs within = c.requires.1.rows_of.valid

pub read_rows-requires-clause-tree : goal.read_rows-requires-clause-tree
read_rows-requires-clause-tree g c κs within = (c.requires.0, record { fit = c.requires.1.rows_of.fit; tree = c.requires.1.tree })

pub edit_indexes-requires-after_bounds : goal.edit_indexes-requires-after_bounds
edit_indexes-requires-after_bounds g c κs within =
    let address = g.D.Digester.address in
    let old = chunks_of c.args.draft.now.chunks in
    let later = chunks_of c.empty_roots.new.draft.chunks in
    let schema = c.args.schema.now in
    let rows = c.requires.0 in
    let can = c.requires.1 in
    let read : c.in_ok-read.read ≡ rows = c.in_ok-read.ensures rows (record { fit = can.rows_of.fit; tree = can.tree }) in
    let changes : c.as_slice-3.result.now ≡ map (λ row. row_change None (Some row)) rows =
    c.as_slice-3.ensures.value ∙ c.in_ok-changes.ensures ∙ ap (λ (l : List Cells). map (λ row. row_change None (Some row)) l) read in
    let stand = subst (λ (l : List Address). StandAt address later schema [] schema.indexes l) (sym c.as_slice-2.ensures)
    (subst (λ (l : List IndexDef). StandAt address later schema [] l c.in_ok-empty.empty) c.as_slice.ensures (c.in_ok-empty.ensures.ok schema)) in
    ([], rows, map (row_key schema) rows, indexes_new address old c.args.rows.now.0 schema rows can later c.as_slice-2.result.now stand c.as_slice-3.result.now changes)

pub returns-clause-ok : goal.returns-clause-ok
returns-clause-ok g c rows can =
    let address = g.D.Digester.address in
    let old = chunks_of c.args.draft.now.chunks in
    let later = chunks_of c.empty_roots.new.draft.chunks in
    let last = chunks_of c.edit_indexes.new.draft.chunks in
    let schema = c.args.schema.now in
    let read : c.in_ok-read.read ≡ rows = c.in_ok-read.ensures rows (record { fit = can.rows_of.fit; tree = can.tree }) in
    let changes : c.as_slice-3.result.now ≡ map (λ row. row_change None (Some row)) rows =
    c.as_slice-3.ensures.value ∙ c.in_ok-changes.ensures ∙ ap (λ (l : List Cells). map (λ row. row_change None (Some row)) l) read in
    let stand = subst (λ (l : List Address). StandAt address later schema [] schema.indexes l) (sym c.as_slice-2.ensures)
    (subst (λ (l : List IndexDef). StandAt address later schema [] l c.in_ok-empty.empty) c.as_slice.ensures (c.in_ok-empty.ensures.ok schema)) in
    let all = indexes_new address old c.args.rows.now.0 schema rows can later c.as_slice-2.result.now stand c.as_slice-3.result.now changes in
    let made = c.in_ok-roots.ensures.ok [] rows (map (row_key schema) rows) all in
    indexes_after address old c.args.rows.now.0 schema rows can last c.into_vec.result.items
    (subst (λ (l : List Address). StandAt address last schema rows schema.indexes l) (sym c.into_vec.ensures) made)
