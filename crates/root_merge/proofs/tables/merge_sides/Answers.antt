use Rattle.std.proofs.Common.{Option, sym, subst}
use Rattle.schema_model.specs.Limits.{is_table_within_limits}
use Rattle.chunk_store.specs.Chunks.{Extends}
use Rattle.chunk_store.specs.Drafts.{chunks_of}
use Rattle.chunk_store.specs.Kinds.{is_data, is_node}
use Rattle.table_root.specs.declared.records.StoredTable.{StoredTable}
use Rattle.table_merge.specs.Merging.{AreKeptSides}
use Rattle.root_merge.specs.Merging.{IsLimitFault}
use Rattle.root_merge.proofs.ChoiceLemmas.{fault_limit, made_of}
use Rattle.root_merge.proofs.TableLemmas.{node_data, same_fault}
use Rattle.root_merge.proofs.tables.merge_sides.Goals as goal

pub returns-in_err-table-clause-fault : goal.returns-in_err-table-clause-fault
returns-in_err-table-clause-fault g c = λ contents table can.
    let sides = c.args.sides in
    let stand = subst (λ (base : Option StoredTable). AreKeptSides g.D.Digester.address (chunks_of c.args.draft.now.chunks) base sides.ours sides.theirs contents) (sym c.as_ref.ensures.value) can.stand in
    same_fault (IsLimitFault (is_table_within_limits table)) c.from_residual.result c.in_err-table.field-0.0
    (fault_limit contents table c.in_err-table.field-0.0 can.comes (c.in_err-table.ensures.fault contents stand)) c.from_residual.ensures

pub keep_merge-requires-after_bounds : goal.keep_merge-requires-after_bounds
keep_merge-requires-after_bounds g c κs within =
    let address = g.D.Digester.address in
    let old = c.args.draft.now in
    let new = c.merge_kept_table.new.draft in
    let laws = c.laws_of_growth.ensures in
    let more : Extends (chunks_of old.chunks) (chunks_of new.chunks) = laws.drafts.longer_extends old.chunks new.chunks (laws.growth.is_longer is_node old new c.merge_kept_table.ensures.grows) in
    let sides = c.args.sides in
    let contents = c.requires.0 in
    let table = c.requires.1 in
    let can = c.requires.2 in
    let stand = subst (λ (base : Option StoredTable). AreKeptSides address (chunks_of old.chunks) base sides.ours sides.theirs contents) (sym c.as_ref.ensures.value) can.stand in (
      contents.ours,
      table,
      record {
        stands = laws.values.later address (chunks_of old.chunks) (chunks_of new.chunks) contents.ours sides.ours more can.stand.sides.our_side.stands;
        within = can.stand.ours_kept;
        made = made_of address (chunks_of new.chunks) c.in_ok-table.table contents table can.comes (c.in_ok-table.ensures.merged contents stand);
      },
    )

pub returns-clause-made : goal.returns-clause-made
returns-clause-made g c = λ contents table can.
    let address = g.D.Digester.address in
    let old = c.args.draft.now in
    let new = c.merge_kept_table.new.draft in
    let laws = c.laws_of_growth.ensures in
    let more : Extends (chunks_of old.chunks) (chunks_of new.chunks) = laws.drafts.longer_extends old.chunks new.chunks (laws.growth.is_longer is_node old new c.merge_kept_table.ensures.grows) in
    let sides = c.args.sides in
    let stand = subst (λ (base : Option StoredTable). AreKeptSides address (chunks_of old.chunks) base sides.ours sides.theirs contents) (sym c.as_ref.ensures.value) can.stand in
    c.keep_merge.ensures.made contents.ours table (record {
      stands = laws.values.later address (chunks_of old.chunks) (chunks_of new.chunks) contents.ours sides.ours more can.stand.sides.our_side.stands;
      within = can.stand.ours_kept;
      made = made_of address (chunks_of new.chunks) c.in_ok-table.table contents table can.comes (c.in_ok-table.ensures.merged contents stand);
    })

pub returns-clause-fault : goal.returns-clause-fault
returns-clause-fault g c = λ contents table can.
    let address = g.D.Digester.address in
    let old = c.args.draft.now in
    let new = c.merge_kept_table.new.draft in
    let laws = c.laws_of_growth.ensures in
    let more : Extends (chunks_of old.chunks) (chunks_of new.chunks) = laws.drafts.longer_extends old.chunks new.chunks (laws.growth.is_longer is_node old new c.merge_kept_table.ensures.grows) in
    let sides = c.args.sides in
    let stand = subst (λ (base : Option StoredTable). AreKeptSides address (chunks_of old.chunks) base sides.ours sides.theirs contents) (sym c.as_ref.ensures.value) can.stand in
    c.keep_merge.ensures.fault contents.ours table (record {
      stands = laws.values.later address (chunks_of old.chunks) (chunks_of new.chunks) contents.ours sides.ours more can.stand.sides.our_side.stands;
      within = can.stand.ours_kept;
      made = made_of address (chunks_of new.chunks) c.in_ok-table.table contents table can.comes (c.in_ok-table.ensures.merged contents stand);
    })

pub returns-clause-grows : goal.returns-clause-grows
returns-clause-grows g c =
    let old = c.args.draft.now in
    let mid = c.merge_kept_table.new.draft in
    let new = c.keep_merge.new.draft in
    let laws = c.laws_of_growth.ensures.growth in
    laws.in_steps is_data old mid new (node_data laws old mid c.merge_kept_table.ensures.grows) c.keep_merge.ensures.grows

pub returns-in_err-table-clause-grows : goal.returns-in_err-table-clause-grows
returns-in_err-table-clause-grows g c = node_data c.laws_of_growth.ensures.growth c.args.draft.now c.merge_kept_table.new.draft c.merge_kept_table.ensures.grows
