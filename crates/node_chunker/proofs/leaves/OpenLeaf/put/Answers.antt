use Rattle.std.proofs.Common.{◌≡◌, ◌∙◌, ℕ, List, [], ◌∷◌, ap, subst, sym, true}
use Rattle.tuple_codec.specs.Nodes.{Node}
use Rattle.tuple_codec.specs.Trees.{bytes_of, last_key}
use Rattle.chunk_store.specs.Drafts.{chunks_of}
use Rattle.chunk_store.specs.Kinds.{is_node}
use Rattle.chunk_store.specs.Standing.{AreHeld}
use Rattle.node_chunker.proofs.NodeLemmas.{name_is, node_kind, rows_count}
use Rattle.node_chunker.proofs.leaves.OpenLeaf.put.Goals as goal

pub returns-clause-ok : goal.returns-clause-ok
returns-clause-ok g c =
    let a = g.D.Digester.address in
    let held = c.args.self.now in
    let items = c.self.inside.node.items in
    let bytes_are = c.bytes.ensures ∙ ap (λ l. bytes_of l items) c.self.invariant ∙ ap (bytes_of 0) c.self.view_is in
    let rows_are = c.from-rows.ensures ∙ c.count.ensures ∙ rows_count items held c.self.view_is c.requires.node.items in
    let P : List ℕ → Type 0 = λ bytes. AreHeld a (chunks_of c.put_chunk.new.draft.chunks) (bytes ∷ []) in
    record {
      emptied = ap (λ (n : Node). n.items) c.clear.ensures;
      named_is = name_is a 0 held c.in_ok-key.key c.in_ok-address.address.0 c.from-rows.result
          (c.in_ok-key.ensures.copy ∙ c.last_key.ensures ∙ ap last_key c.self.view_is)
          (c.in_ok-address.ensures.address ∙ ap a bytes_are) rows_are;
      put = subst P bytes_are c.in_ok-address.ensures.put;
    }

pub put_chunk-requires-clause-node : goal.put_chunk-requires-clause-node
put_chunk-requires-clause-node g c κs within =
    let items = c.self.inside.node.items in
    subst (λ bytes. is_node bytes ≡ true) (sym (c.bytes.ensures ∙ ap (λ l. bytes_of l items) c.self.invariant)) (node_kind 0 items)
