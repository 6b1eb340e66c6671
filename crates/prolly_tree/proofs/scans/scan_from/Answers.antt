use Rattle.std.proofs.Common.{◌≡◌, ◌≤◌, ◌++◌, List, map, ap, sym, ◌∙◌, subst, append-nil, arith}
use Rattle.tuple_codec.specs.Nodes.{Item, Node, Rise}
use Rattle.chunk_store.specs.Drafts.{chunks_of}
use Rattle.prolly_tree.specs.Standing.{Leads, rows_below}
use Rattle.prolly_tree.proofs.Standing.{trees_lead}
use Rattle.prolly_tree.specs.Lists.{from_key, pair_of}
use Rattle.prolly_tree.specs.Walks.{CanWalk, Left, left_in, rows_above}
use Rattle.prolly_tree.proofs.WalkLemmas.{begin, begin_can, begin_from, begin_rest, begin_rise}
use Rattle.prolly_tree.proofs.scans.scan_from.Goals as goal

pub node_at-node-requires-after_bounds : goal.node_at-node-requires-after_bounds
node_at-node-requires-after_bounds g c κs within =
    let t = trees_lead g.D.Digester.address (chunks_of c.args.draft.now.chunks) c.args.root.now.0 c.requires.tree.0 c.requires.tree.1 in
    (t.0, t.1.opens.stored)

-- the walk begins at the root
begins : (g : _) (c : goal.After-walk-1 g) → c.new-walk.result ≡ begin c.node_at-node.result c.place_of-at.result c.in_ok-above.above.capacity
begins g c =
    c.new-walk.ensures
    ∙ ap (λ (n : Node). record { here = n; above = c.in_ok-above.above.items; room = c.in_ok-above.above.capacity }) c.from-2.ensures
    ∙ ap (λ (l : List Node). record { here = left_in c.node_at-node.result c.place_of-at.result; above = l; room = c.in_ok-above.above.capacity }) c.in_ok-above.ensures.items

leads_at : (g : _) (c : goal.After-walk-1 g) → Leads (chunks_of c.args.draft.now.chunks) c.node_at-node.result
leads_at g c =
    let chunks = chunks_of c.args.draft.now.chunks in
    let t = trees_lead g.D.Digester.address chunks c.args.root.now.0 c.requires.tree.0 c.requires.tree.1 in
    subst (Leads chunks) (sym (c.node_at-node.ensures t.0 t.1.opens.stored)) t.1.opens.leads

pub seek-requires-clause-can : goal.seek-requires-clause-can
seek-requires-clause-can g c = λ κs within.
    let chunks = chunks_of c.args.draft.now.chunks in
    let room = c.in_ok-above.ensures.capacity in
    let level = c.level.ensures.level in
    let has : c.node_at-node.result.level ≤ c.in_ok-above.above.capacity = omega (arith, room, level) in
    subst (CanWalk chunks) (sym (begins g c)) (begin_can chunks c.node_at-node.result c.place_of-at.result c.in_ok-above.above.capacity (leads_at g c) has)

pub seek-requires-clause-rise : goal.seek-requires-clause-rise
seek-requires-clause-rise g c = λ κs within.
    let chunks = chunks_of c.args.draft.now.chunks in
    subst (λ (l : Left). Rise (rows_below chunks l.here)) (sym (begins g c)) (begin_rise chunks c.node_at-node.result c.place_of-at.result (leads_at g c))

pub seek-requires-clause-begun : goal.seek-requires-clause-begun
seek-requires-clause-begun g c = λ κs within.
    subst (λ (l : Left). from_key c.args.key.now l.here.items ≡ l.here.items) (sym (begins g c)) (begin_from c.args.key.now c.node_at-node.result c.place_of-at.result c.place_of-at.ensures.place)

pub returns : goal.returns
returns g c = λ rows tree.
    let chunks = chunks_of c.args.draft.now.chunks in
    let key = c.args.key.now in
    let t = trees_lead g.D.Digester.address chunks c.args.root.now.0 rows tree in
    let n : c.node_at-node.result ≡ t.0 = c.node_at-node.ensures t.0 t.1.opens.stored in
    let leads : Leads chunks c.node_at-node.result = subst (Leads chunks) (sym n) t.1.opens.leads in
    let e : c.new-walk.result ≡ begin c.node_at-node.result c.place_of-at.result c.in_ok-above.above.capacity =
    c.new-walk.ensures
    ∙ ap (λ (n : Node). record { here = n; above = c.in_ok-above.above.items; room = c.in_ok-above.above.capacity }) c.from-2.ensures
    ∙ ap (λ (l : List Node). record { here = left_in c.node_at-node.result c.place_of-at.result; above = l; room = c.in_ok-above.above.capacity }) c.in_ok-above.ensures.items in
    ap (λ (l : List Item). map pair_of l)
    (c.seek.ensures.rest
    ∙ ap (λ (l : Left). from_key key (rows_below chunks l.here) ++ rows_above chunks l.above) e
    ∙ append-nil (from_key key (rows_below chunks (left_in c.node_at-node.result c.place_of-at.result)))
    ∙ begin_rest chunks key c.node_at-node.result c.place_of-at.result leads c.place_of-at.ensures.place
    ∙ ap (λ (n : Node). from_key key (rows_below chunks n)) n
    ∙ ap (from_key key) t.1.rows_are)

pub invariant_of-result : goal.invariant_of-result
invariant_of-result g c = c.seek.ensures.can
