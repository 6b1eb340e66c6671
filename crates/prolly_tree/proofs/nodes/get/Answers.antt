use Rattle.std.proofs.Common.{ap, ◌∙◌}
use Rattle.chunk_store.specs.Drafts.{chunks_of}
use Rattle.prolly_tree.proofs.Standing.{trees_lead}
use Rattle.tuple_codec.specs.Edits.{value_at}
use Rattle.prolly_tree.proofs.nodes.get.Goals as goal

pub get_below-requires-after_bounds : goal.get_below-requires-after_bounds
get_below-requires-after_bounds g c κs within =
    let t = trees_lead g.D.Digester.address (chunks_of c.args.draft.now.chunks) c.args.root.now.0 c.requires.tree.0 c.requires.tree.1 in
    (t.0, t.1.opens)

pub returns : goal.returns
returns g c = λ rows tree.
    let t = trees_lead g.D.Digester.address (chunks_of c.args.draft.now.chunks) c.args.root.now.0 rows tree in
    c.get_below.ensures t.0 t.1.opens ∙ ap (value_at c.args.key.now) t.1.rows_are
