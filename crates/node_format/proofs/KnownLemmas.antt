-- Bytes that are known to be a node's.
use Rattle.std.proofs.Common.{◌≡◌, ℕ, List, None, length, refl, sym, ap, subst, ◌∙◌}
use Rattle.tuple_codec.specs.Nodes.{Item, IsNode, Node, items_bytes}
use Rattle.node_format.specs.Known.{IsKnown}
use Rattle.node_format.specs.Marks.{node_from}
use Rattle.node_format.specs.Reading.{items_from}
use Rattle.node_format.proofs.ItemLemmas.{read_again}
use Rattle.node_format.proofs.NodeLemmas.{parts_of}

read : (node : Node) → IsNode node → items_from node.level (length node.items) (items_bytes node.level node.items) ≡ node.items
read node is = (read_again node.level None node.items is.items is.keys).1

-- the parts of a node's bytes are that node
pub known_is : (node : Node) → IsNode node → (x : ℕ × ℕ × List ℕ) → x ≡ parts_of node → node_from x.0 x.1 x.2 ≡ node
known_is node is x same =
    ap (λ (y : ℕ × ℕ × List ℕ). node_from y.0 y.1 y.2) same ∙ ap (λ (items : List Item). record { level = node.level; items = items }) (read node is)

pub is_known : (node : Node) → IsNode node → (x : ℕ × ℕ × List ℕ) → x ≡ parts_of node → IsKnown x.0 x.1 x.2
is_known node is x same =
    subst (λ (y : ℕ × ℕ × List ℕ). IsKnown y.0 y.1 y.2) (sym same)
    (record {
      node = subst IsNode (sym (known_is node is (parts_of node) refl)) is;
      many = ap (λ (items : List Item). length items) (read node is);
      spelled = ap (items_bytes node.level) (sym (read node is));
    })
