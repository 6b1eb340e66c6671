use Rattle.std.proofs.Common.{◌≡◌, ◌-◌, suc, List, length, ap, sym, ◌∙◌, arith}
use Rattle.tuple_codec.specs.Nodes.{Item, Node}
use Rattle.node_format.proofs.NodeLemmas.{one_spelling}
use Rattle.prolly_edit.proofs.NameLemmas.{node_names}
use Rattle.prolly_edit.proofs.paths.Step.new.Goals as goal

pub of-node-requires : goal.of-node-requires
of-node-requires g c = (c.requires.0, c.requires.2, c.deref.ensures.value ∙ c.requires.1)

pub overflow_sub-level : goal.overflow_sub-level
overflow_sub-level g c =
    let node = c.requires.0 in
    let known = c.of-node.ensures node c.requires.2 (c.deref.ensures.value ∙ c.requires.1) in
    omega (arith, ap (λ (n : Node). n.level) known, c.level-level.ensures, c.requires.3)

pub invariant_of-result : goal.invariant_of-result
invariant_of-result g c =
    let node = c.requires.0 in
    let known = c.of-node.ensures node c.requires.2 (c.deref.ensures.value ∙ c.requires.1) in
    let level : node.level ≡ suc (c.level-level.result - 1) = omega (arith, ap (λ (n : Node). n.level) known, c.level-level.ensures, c.requires.3) in
    (node_names g.D.Digester.address (c.level-level.result - 1) c.count-left.result c.args.bytes.items node c.requires.1 c.requires.2 c.requires.4 c.requires.5 level
    (c.count-left.ensures ∙ ap (λ (n : Node). length n.items) known)).are

pub returns : goal.returns
returns g c = λ other bytes is above.
    let node = c.requires.0 in
    let known = c.of-node.ensures node c.requires.2 (c.deref.ensures.value ∙ c.requires.1) in
    let level : node.level ≡ suc (c.level-level.result - 1) = omega (arith, ap (λ (n : Node). n.level) known, c.level-level.ensures, c.requires.3) in
    let names = (node_names g.D.Digester.address (c.level-level.result - 1) c.count-left.result c.args.bytes.items node c.requires.1 c.requires.2 c.requires.4 c.requires.5 level
    (c.count-left.ensures ∙ ap (λ (n : Node). length n.items) known)).same in
    let same : other ≡ node = one_spelling other node is c.requires.2 (sym bytes ∙ c.requires.1) in
    let here : c.level-level.result - 1 ≡ node.level - 1 = omega (arith, level) in
    ap (λ (l : List Item). record { level = c.level-level.result - 1; items = l }) names
    ∙ ap (λ n. record { level = n; items = node.items }) here ∙ ap (λ (n : Node). record { level = n.level - 1; items = n.items }) (sym same)
