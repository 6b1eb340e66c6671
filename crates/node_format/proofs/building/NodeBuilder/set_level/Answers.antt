use Rattle.std.proofs.Common.{◌≡◌, ◌<◌, ℕ, List, ap, sym, subst, ◌∙◌, arith}
use Rattle.tuple_codec.specs.Nodes.{Item, Node}
use Rattle.node_format.proofs.BuildLemmas.{built_lifted, lifted}
use Rattle.node_format.proofs.building.NodeBuilder.set_level.Goals as goal

pub invariant_of-self : goal.invariant_of-self
invariant_of-self c =
    let above : 0 < c.self.inside.level = subst (λ n. 0 < n) (sym (ap (λ (n : Node). n.level) c.self.view_is)) c.requires.inner in
    built_lifted c.self.inside.level c.args.level c.self.inside.count c.self.inside.bytes.items c.put_header.new.bytes.items c.self.inside.key_start c.self.inside.key_size
    c.self.invariant above c.requires.above c.put_header.ensures

pub returns : goal.returns
returns c =
    let above : 0 < c.self.inside.level = subst (λ n. 0 < n) (sym (ap (λ (n : Node). n.level) c.self.view_is)) c.requires.inner in
    let made : List Item → Node = λ l. record { level = c.args.level; items = l } in
    ap made (lifted c.self.inside.level c.args.level c.self.inside.count c.self.inside.bytes.items c.put_header.new.bytes.items c.self.inside.key_start c.self.inside.key_size
    c.self.invariant above c.requires.above c.put_header.ensures ∙ ap (λ (n : Node). n.items) c.self.view_is)
