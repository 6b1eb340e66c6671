use Rattle.std.proofs.Common.{List, sym, subst}
use Rattle.chunk_store.specs.Drafts.{chunks_of}
use Rattle.schema_model.specs.PlainTables.{row_items}
use Rattle.tuple_codec.specs.declared.addresses.Address.{Address}
use Rattle.index_keep.specs.Steps.{StandAt}
use Rattle.index_keep.proofs.MakingLemmas.{grown}
use Rattle.index_keep.proofs.TableLemmas.{none_stand, rows_can, table_after}
use Rattle.index_keep.proofs.tables.apply_to_rows.Goals as goal

pub apply-requires-after_bounds : goal.apply-requires-after_bounds
apply-requires-after_bounds g c κs within = (
  row_items c.requires.can.0,
  rows_can g.D.Digester.address (chunks_of c.args.draft.now.chunks) c.args.table c.args.edits.now c.requires.can.0 c.requires.can.1 c.requires.can.2,
)

pub returns-clause-ok : goal.returns-clause-ok
returns-clause-ok g c contents rows can =
    let address = g.D.Digester.address in
    let old = chunks_of c.args.draft.now.chunks in
    let last = chunks_of c.apply.new.draft.chunks in
    let table = c.args.table in
    let edits = c.args.edits.now in
    let more = grown c.args.draft.now c.apply.new.draft c.apply.ensures.grows in
    let none = none_stand address old table edits contents rows can c.law_of_row_items.ensures last last more c.requires.none in
    let stand = subst (λ (l : List Address). StandAt address last table.schema rows table.schema.indexes l) (sym c.requires.none) none in
    let tree = c.in_ok-rows.ensures.ok (row_items contents) (rows_can address old table edits contents rows can).tree in
    table_after address old table edits contents rows can c.law_of_row_items.ensures last more c.in_ok-rows.rows tree table.indexes stand
