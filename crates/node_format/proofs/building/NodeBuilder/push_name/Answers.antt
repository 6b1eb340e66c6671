use Rattle.std.proofs.Common.{◌≡◌, ◌≤◌, ◌<◌, ◌+◌, ◌++◌, ◌∷◌, [], ℕ, List, length, ap, sym, subst, ◌∙◌, arith}
use Rattle.std.specs.Int.{w64, to_be_bytes}
use Rattle.tuple_codec.specs.Nodes.{Item, IsItem, Node, item_bytes, sized}
use Rattle.node_format.proofs.BuildLemmas.{as_inner, grown, built_on, inner_parts, is_inner, key_there, key_within}
use Rattle.node_format.proofs.building.NodeBuilder.push_name.Goals as goal

pub invariant_of-self : goal.invariant_of-self
invariant_of-self c =
    let level = c.self.inside.level in
    let bytes = c.self.inside.bytes.items in
    let mid = c.push_name.new.out.items in
    let new = c.put_header.new.bytes.items in
    let row : Item = record { key = c.args.key.now; body = c.args.address.now.0; rows = c.args.rows } in
    let tail = row.body ++ to_be_bytes w64 row.rows in
    let above : 0 < level = subst (λ n. 0 < n) (sym (ap (λ (n : Node). n.level) c.self.view_is)) c.requires.inner in
    let pushed = c.in-Ok.ensures.ok in
    let parts = pushed ∙ ap (λ l. bytes ++ l) (inner_parts row) in
    let at_is : c.len-start.result + 2 ≡ length bytes + 2 = omega arith in
    built_on level c.self.inside.count bytes mid new c.self.inside.key_start c.self.inside.key_size row c.self.invariant
    (is_inner level row above c.requires.item) (pushed ∙ ap (λ l. bytes ++ l) (as_inner level row above)) c.put_header.ensures
    (c.len-start.result + 2) (length c.args.key.now) (omega (arith, c.self.invariant.room))
    (key_there bytes mid c.args.key.now tail (c.len-start.result + 2) at_is parts)
    (key_within bytes mid c.args.key.now tail (c.len-start.result + 2) at_is parts)

pub returns-in-Ok : goal.returns-in-Ok
returns-in-Ok c =
    let level = c.self.inside.level in
    let bytes = c.self.inside.bytes.items in
    let mid = c.push_name.new.out.items in
    let new = c.put_header.new.bytes.items in
    let row : Item = record { key = c.args.key.now; body = c.args.address.now.0; rows = c.args.rows } in
    let above : 0 < level = subst (λ n. 0 < n) (sym (ap (λ (n : Node). n.level) c.self.view_is)) c.requires.inner in
    let items = grown level c.self.inside.count bytes mid new c.self.inside.key_start c.self.inside.key_size row c.self.invariant
    (is_inner level row above c.requires.item) (c.in-Ok.ensures.ok ∙ ap (λ l. bytes ++ l) (as_inner level row above)) c.put_header.ensures in
    record { err = tt; ok = items ∙ ap (λ (n : Node). n.items ++ row ∷ []) c.self.view_is; level = ap (λ (n : Node). n.level) c.self.view_is }
