use Rattle.std.proofs.Common.{◌≡◌, ◌<◌, ℕ, List, sym, ap, ◌∙◌, subst, refl, arith}
use Rattle.tuple_codec.specs.Nodes.{Node}
use Rattle.chunk_store.specs.Drafts.{chunks_of}
use Rattle.prolly_tree.specs.Standing.{Leads, rows_below}
use Rattle.tuple_codec.specs.Edits.{value_at}
use Rattle.prolly_tree.specs.Lists.{place_of}
use Rattle.prolly_tree.proofs.Descents.{IsNext, leaf_value, next, nothing_at_end}
use Rattle.prolly_tree.proofs.nodes.get_below.Goals as goal

pub levels-init : goal.levels-init
levels-init g c =
    let chunks = chunks_of c.args.draft.now.chunks in
    let e : c.known_at-node.result ≡ c.requires.0 = c.known_at-node.ensures c.requires.0 c.requires.1.stored in
    record { leads = subst (λ (n : Node). Leads chunks n) (sym e) c.requires.1.leads; same = refl }

pub returns-in-None : goal.returns-in-None
returns-in-None g c = λ node opens.
    let chunks = chunks_of c.args.draft.now.chunks in
    sym (nothing_at_end chunks c.levels.node c.args.key.now c.levels.invariant.leads c.in-None.ensures)
    ∙ c.levels.invariant.same ∙ ap (λ (n : Node). value_at c.args.key.now (rows_below chunks n)) (c.known_at-node.ensures node opens.stored)

pub known_at-node-requires-in-Some-after_bounds : goal.known_at-node-requires-in-Some-after_bounds
known_at-node-requires-in-Some-after_bounds g c κs within =
    let chunks = chunks_of c.args.draft.now.chunks in
    let node = c.levels.node in
    let inner : 0 < node.level = omega arith in
    let n = next chunks c.args.key.now node (place_of c.args.key.now node.items) c.in-Some.ensures.0 c.levels.invariant.leads inner refl c.in-Some.ensures.1 in
    let there = subst (λ (k : List ℕ). IsNext chunks c.args.key.now node k n.0) c.in-Some.ensures.2 n.1 in
    (n.0, there.opens.stored)

pub levels-smaller : goal.levels-smaller
levels-smaller g c =
    let chunks = chunks_of c.args.draft.now.chunks in
    let node = c.levels.node in
    let inner : 0 < node.level = omega arith in
    let n = next chunks c.args.key.now node (place_of c.args.key.now node.items) c.in-Some.ensures.0 c.levels.invariant.leads inner refl c.in-Some.ensures.1 in
    let there = subst (λ (k : List ℕ). IsNext chunks c.args.key.now node k n.0) c.in-Some.ensures.2 n.1 in
    let e : c.known_at-node-in-Some.result ≡ n.0 = c.known_at-node-in-Some.ensures n.0 there.opens.stored in
    let same : c.known_at-node-in-Some.result.level ≡ n.0.level = ap (λ (x : Node). x.level) e in
    let level = there.level in
    let smaller : c.known_at-node-in-Some.result.level < node.level = omega (arith, same, level) in
    smaller

pub levels-preserved : goal.levels-preserved
levels-preserved g c =
    let chunks = chunks_of c.args.draft.now.chunks in
    let node = c.levels.node in
    let inner : 0 < node.level = omega arith in
    let n = next chunks c.args.key.now node (place_of c.args.key.now node.items) c.in-Some.ensures.0 c.levels.invariant.leads inner refl c.in-Some.ensures.1 in
    let there = subst (λ (k : List ℕ). IsNext chunks c.args.key.now node k n.0) c.in-Some.ensures.2 n.1 in
    let e : c.known_at-node-in-Some.result ≡ n.0 = c.known_at-node-in-Some.ensures n.0 there.opens.stored in
    record {
      leads = subst (λ (x : Node). Leads chunks x) (sym e) there.opens.leads;
      same = ap (λ (x : Node). value_at c.args.key.now (rows_below chunks x)) e ∙ sym there.same ∙ c.levels.invariant.same;
    }

pub returns : goal.returns
returns g c = λ node opens.
    let chunks = chunks_of c.args.draft.now.chunks in
    let leaf : c.levels.node.level ≡ 0 = omega arith in
    c.value_from.ensures ∙ leaf_value chunks c.args.key.now c.levels.node c.levels.invariant.leads leaf
    ∙ c.levels.invariant.same ∙ ap (λ (n : Node). value_at c.args.key.now (rows_below chunks n)) (c.known_at-node.ensures node opens.stored)
