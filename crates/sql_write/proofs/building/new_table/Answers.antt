use Rattle.std.proofs.Common.{[], sym, subst, ap, ◌∙◌, map, List}
use Rattle.tuple_codec.specs.Nodes.{Item}
use Rattle.tuple_codec.specs.Trees.{AreRows}
use Rattle.tuple_codec.specs.declared.addresses.Address.{Address}
use Rattle.node_format.specs.Views.{leaf_of}
use Rattle.schema_model.specs.PlainTables.{row_item}
use Rattle.chunk_store.specs.Chunks.{Extends}
use Rattle.chunk_store.specs.Drafts.{chunks_of}
use Rattle.chunk_store.specs.Kinds.{is_node}
use Rattle.chunk_store.specs.Standing.{IsTree}
use Rattle.prolly_tree.proofs.Growing.{tree_later}
use Rattle.table_root.specs.Standing.{IsTableOf}
use Rattle.index_keep.specs.Keeping.{table_of_rows}
use Rattle.sql_write.proofs.BuildingLemmas.{built_rows, can_index, table_stands}
use Rattle.sql_write.proofs.building.new_table.Goals as goal

pub build-requires-after_bounds : goal.build-requires-after_bounds
build-requires-after_bounds g c κs within =
    subst (λ (list : List Item). AreRows list) (sym (ap (map leaf_of) c.as_slice.ensures.value ∙ c.in_ok-items.ensures)) (built_rows c.law_of_row_items.ensures c.args.schema c.args.rows.now c.requires)

pub indexes_of-requires-after_bounds : goal.indexes_of-requires-after_bounds
indexes_of-requires-after_bounds g c κs within =
    let address = g.D.Digester.address in
    let one = c.build.new.draft in
    let two = c.build-2.new.draft in
    let laws = c.laws_of_growth.ensures in
    let more : Extends (chunks_of one.chunks) (chunks_of two.chunks) = laws.drafts.longer_extends one.chunks two.chunks (laws.growth.is_longer is_node one two c.build-2.ensures.grows) in
    let items : List Item = map (row_item c.args.schema) c.args.rows.now in
    let are = ap (map leaf_of) c.as_slice.ensures.value ∙ c.in_ok-items.ensures in
    let tree = subst (λ list. IsTree address (chunks_of one.chunks) c.in_ok-root.root.0 list) are c.in_ok-root.ensures.ok in
    (c.args.rows.now, can_index address (chunks_of two.chunks) c.in_ok-root.root.0 c.args.schema c.args.rows.now c.requires (tree_later address (chunks_of one.chunks) (chunks_of two.chunks) more c.in_ok-root.root.0 items tree))

pub returns-clause-stands : goal.returns-clause-stands
returns-clause-stands g c =
    let address = g.D.Digester.address in
    let one = c.build.new.draft in
    let two = c.build-2.new.draft in
    let three = c.indexes_of.new.draft in
    let laws = c.laws_of_growth.ensures in
    let first : Extends (chunks_of one.chunks) (chunks_of two.chunks) = laws.drafts.longer_extends one.chunks two.chunks (laws.growth.is_longer is_node one two c.build-2.ensures.grows) in
    let next : Extends (chunks_of two.chunks) (chunks_of three.chunks) = laws.drafts.longer_extends two.chunks three.chunks (laws.growth.is_longer is_node two three c.indexes_of.ensures.grows) in
    let items : List Item = map (row_item c.args.schema) c.args.rows.now in
    let are = ap (map leaf_of) c.as_slice.ensures.value ∙ c.in_ok-items.ensures in
    let tree = subst (λ list. IsTree address (chunks_of one.chunks) c.in_ok-root.root.0 list) are c.in_ok-root.ensures.ok in
    let tree_two = tree_later address (chunks_of one.chunks) (chunks_of two.chunks) first c.in_ok-root.root.0 items tree in
    let tree_three = tree_later address (chunks_of two.chunks) (chunks_of three.chunks) next c.in_ok-root.root.0 items tree_two in
    let none = tree_later address (chunks_of two.chunks) (chunks_of three.chunks) next c.in_ok-none.none.0 [] c.in_ok-none.ensures.ok in
    let indexes = c.in_ok-indexes.ensures.ok c.args.rows.now (can_index address (chunks_of two.chunks) c.in_ok-root.root.0 c.args.schema c.args.rows.now c.requires tree_two) in
    subst (λ (roots : List Address). IsTableOf address (chunks_of three.chunks) (record { schema = c.args.schema; rows = c.in_ok-root.root; indexes = roots; conflicts = c.in_ok-none.none; violations = c.in_ok-none.none }) (table_of_rows c.args.schema c.args.rows.now))
    (sym c.from_vec.ensures)
    (table_stands address (chunks_of three.chunks) c.args.schema c.args.rows.now c.in_ok-root.root c.in_ok-none.none c.in_ok-indexes.indexes.items c.requires tree_three none indexes)
