use Rattle.std.proofs.Common.{◌≡◌, ◌∙◌, ℕ, List, [], ◌∷◌, ap, subst, sym, true}
use Rattle.tuple_codec.specs.Nodes.{Node, node_bytes}
use Rattle.tuple_codec.specs.Trees.{bytes_of, last_key, rows_in}
use Rattle.chunk_store.specs.Drafts.{chunks_of}
use Rattle.chunk_store.specs.Kinds.{is_node}
use Rattle.chunk_store.specs.Standing.{AreHeld}
use Rattle.node_chunker.proofs.NodeLemmas.{name_is, node_kind}
use Rattle.node_chunker.proofs.inners.OpenInner.put.Goals as goal

pub returns-clause-ok : goal.returns-clause-ok
returns-clause-ok g c =
    let a = g.D.Digester.address in
    let held = c.args.self.now in
    let level = c.args.level in
    let items_are = ap (λ (n : Node). n.items) c.set_level.ensures ∙ c.self.view_is in
    let bytes_are = c.bytes.ensures ∙ ap node_bytes c.set_level.ensures ∙ ap (bytes_of level) c.self.view_is in
    let P : List ℕ → Type 0 = λ bytes. AreHeld a (chunks_of c.put_chunk.new.draft.chunks) (bytes ∷ []) in
    record {
      emptied = ap (λ (n : Node). n.items) c.clear.ensures;
      named_is = name_is a level held c.in_ok-key.key c.in_ok-address.address.0 c.self.inside.rows
          (c.in_ok-key.ensures.copy ∙ c.last_key.ensures ∙ ap last_key items_are)
          (c.in_ok-address.ensures.address ∙ ap a bytes_are) (c.self.invariant.1 ∙ ap rows_in c.self.view_is);
      put = subst P bytes_are c.in_ok-address.ensures.put;
    }

pub put_chunk-requires-clause-node : goal.put_chunk-requires-clause-node
put_chunk-requires-clause-node g c κs within =
    subst (λ bytes. is_node bytes ≡ true) (sym (c.bytes.ensures ∙ ap node_bytes c.set_level.ensures)) (node_kind c.args.level c.self.inside.node.items)
