use Rattle.std.proofs.Common.{sym, ap, ◌∙◌, subst}
use Rattle.chunk_store.specs.Drafts.{chunks_of}
use Rattle.prolly_tree.proofs.Standing.{trees_lead}
use Rattle.prolly_tree.specs.Standing.{Leads, rows_below}
use Rattle.tuple_codec.specs.Nodes.{Node}
use Rattle.prolly_tree.specs.Lists.{has_any}
use Rattle.prolly_tree.proofs.meets.has_any.Goals as goal

pub node_at-requires-after_bounds : goal.node_at-requires-after_bounds
node_at-requires-after_bounds g c κs within =
    let t = trees_lead g.D.Digester.address (chunks_of c.args.draft.now.chunks) c.args.root.now.0 c.requires.tree.0 c.requires.tree.1 in
    (t.0, t.1.opens.stored)

pub node_has_any-requires-clause-leads : goal.node_has_any-requires-clause-leads
node_has_any-requires-clause-leads g c κs within =
    let chunks = chunks_of c.args.draft.now.chunks in
    let t = trees_lead g.D.Digester.address chunks c.args.root.now.0 c.requires.tree.0 c.requires.tree.1 in
    subst (λ (n : Node). Leads chunks n) (sym (c.node_at.ensures t.0 t.1.opens.stored)) t.1.opens.leads

pub returns-in_default : goal.returns-in_default
returns-in_default g c = λ rows tree.
    let chunks = chunks_of c.args.draft.now.chunks in
    let t = trees_lead g.D.Digester.address chunks c.args.root.now.0 rows tree in
    c.node_has_any.ensures
    ∙ ap (λ (n : Node). has_any (rows_below chunks n) c.args.edits.now) (c.node_at.ensures t.0 t.1.opens.stored)
    ∙ ap (λ l. has_any l c.args.edits.now) t.1.rows_are
