use Rattle.std.proofs.Common.{◌≡◌, ◌≤◌, List, ap, sym, ◌∙◌, subst, arith}
use Rattle.tuple_codec.specs.Nodes.{Node}
use Rattle.chunk_store.specs.Drafts.{chunks_of}
use Rattle.prolly_tree.specs.Found.{nodes_in}
use Rattle.prolly_tree.specs.Standing.{Leads}
use Rattle.prolly_tree.proofs.Standing.{trees_lead}
use Rattle.prolly_tree.specs.Walks.{left_in}
use Rattle.prolly_tree.specs.Fronts.{IsReady, front_of, on_level, rows_ahead}
use Rattle.prolly_tree.proofs.WalkLemmas.{begin}
use Rattle.prolly_tree.proofs.FrontLemmas.{begin_front, begin_ready, rows_on}
use Rattle.prolly_tree.proofs.walks.Walk.new.Goals as goal

pub node_at-node-requires-after_bounds : goal.node_at-node-requires-after_bounds
node_at-node-requires-after_bounds g c κs within =
    let t = trees_lead g.D.Digester.address (chunks_of c.args.draft.now.chunks) c.args.root.now.0 c.requires.tree.0 c.requires.tree.1 in
    (t.0, t.1.opens.stored)

-- the walk begins at the root
begins : (g : _) (c : goal.After-new-path g) → c.new-path.result ≡ begin c.node_at-node.result 0 c.in_ok-above.above.capacity
begins g c =
    c.new-path.ensures
    ∙ ap (λ (n : Node). record { here = n; above = c.in_ok-above.above.items; room = c.in_ok-above.above.capacity }) c.from-2.ensures
    ∙ ap (λ (l : List Node). record { here = left_in c.node_at-node.result 0; above = l; room = c.in_ok-above.above.capacity }) c.in_ok-above.ensures.items

pub invariant_of-result : goal.invariant_of-result
invariant_of-result g c =
    let chunks = chunks_of c.args.draft.now.chunks in
    let t = trees_lead g.D.Digester.address chunks c.args.root.now.0 c.requires.tree.0 c.requires.tree.1 in
    let leads : Leads chunks c.node_at-node.result = subst (Leads chunks) (sym (c.node_at-node.ensures t.0 t.1.opens.stored)) t.1.opens.leads in
    let room = c.in_ok-above.ensures.capacity in
    let level = c.level.ensures.level in
    let has : c.node_at-node.result.level ≤ c.in_ok-above.above.capacity = omega (arith, room, level) in
    subst (IsReady chunks) (sym (begins g c)) (begin_ready chunks c.node_at-node.result c.in_ok-above.above.capacity leads has)

pub returns-clause-items : goal.returns-clause-items
returns-clause-items g c = λ node stored.
    ap front_of (begins g c) ∙ begin_front c.node_at-node.result c.in_ok-above.above.capacity
    ∙ ap (λ (n : Node). on_level n.level n.items) (c.node_at-node.ensures node stored)

pub returns-clause-rows : goal.returns-clause-rows
returns-clause-rows g c = λ rows tree.
    let chunks = chunks_of c.args.draft.now.chunks in
    let t = trees_lead g.D.Digester.address chunks c.args.root.now.0 rows tree in
    let front : front_of c.new-path.result ≡ on_level t.0.level t.0.items =
    ap front_of (begins g c) ∙ begin_front c.node_at-node.result c.in_ok-above.above.capacity
    ∙ ap (λ (n : Node). on_level n.level n.items) (c.node_at-node.ensures t.0 t.1.opens.stored) in
    ap (rows_ahead (nodes_in chunks)) front ∙ rows_on (nodes_in chunks) t.0.level t.0.items ∙ t.1.rows_are
