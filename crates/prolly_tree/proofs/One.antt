-- An address stands for one list of rows.
use Rattle.std.proofs.Common.{◌≡◌, ℕ, List, sym, ap, ◌∙◌, subst}
use Rattle.tuple_codec.proofs.Options.{some_is}
use Rattle.tuple_codec.specs.Nodes.{Item, Node}
use Rattle.tuple_codec.specs.Trees.{root}
use Rattle.chunk_store.specs.Chunks.{Chunks}
use Rattle.chunk_store.specs.Standing.{IsTree}
use Rattle.node_format.proofs.NodeLemmas.{one_spelling}
use Rattle.prolly_tree.specs.Standing.{IsStored, TreesAreOne, rows_below}
use Rattle.prolly_tree.proofs.Standing.{trees_lead}

-- one node is found at an address
pub one_node : (chunks : Chunks) (k : List ℕ) (a b : Node) → IsStored chunks k a → IsStored chunks k b → a ≡ b
one_node chunks k a b is_a is_b = one_spelling a b is_a.is_node is_b.is_node (some_is _ _ (sym is_a.found ∙ is_b.found))

pub one_tree : (address : List ℕ → List ℕ) (chunks : Chunks) (k : List ℕ) (rows others : List Item) → IsTree address chunks k rows → IsTree address chunks k others → rows ≡ others
one_tree address chunks k rows others a b =
    let p = trees_lead address chunks k rows a in
    let q = trees_lead address chunks k others b in
    sym p.1.rows_are ∙ ap (λ (n : Node). rows_below chunks n) (one_node chunks k p.0 q.0 p.1.opens.stored q.1.opens.stored) ∙ q.1.rows_are

pub trees_are_one : TreesAreOne
trees_are_one = record {
  one = one_tree;
  exactly = λ address chunks k l rows others a b.
      (λ same. one_tree address chunks l rows others (subst (λ j. IsTree address chunks j rows) same a) b, λ same. sym a.named ∙ ap (root address) same ∙ b.named);
}
