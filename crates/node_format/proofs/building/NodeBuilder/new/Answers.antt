use Rattle.std.proofs.Common.{◌≡◌, ◌++◌, ◌∷◌, List, [], length, ap, ◌∙◌, arith}
use Rattle.tuple_codec.specs.Nodes.{Item, Node}
use Rattle.node_format.proofs.BuildLemmas.{built_none, none_after}
use Rattle.node_format.proofs.building.NodeBuilder.new.Goals as goal

pub invariant_of-result : goal.invariant_of-result
invariant_of-result c =
    let bytes = c.extend_from_slice.new.self.items in
    built_none c.args.level bytes
    (c.in_ok-extend_from_slice.ensures.items ∙ ap (λ l. l ++ c.kind_of.result ∷ c.args.level ∷ 0 ∷ 0 ∷ []) c.in_ok-bytes.ensures.items ∙ ap (λ kind. kind ∷ c.args.level ∷ 0 ∷ 0 ∷ []) c.kind_of.ensures)

pub returns : goal.returns
returns c =
    let made : List Item → Node = λ l. record { level = c.args.level; items = l } in
    ap made (none_after c.args.level c.extend_from_slice.new.self.items)
