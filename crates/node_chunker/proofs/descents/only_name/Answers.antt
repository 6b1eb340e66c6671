use Rattle.std.proofs.Common.{◌≡◌, ◌<◌, [], ◌∷◌, length, refl, subst, arith}
use Rattle.tuple_codec.specs.Nodes.{Item, Node}
use Rattle.prolly_tree.proofs.PassingLemmas.{name_is, name_read}
use Rattle.node_chunker.proofs.LowestLemmas.{only_one}
use Rattle.node_chunker.proofs.descents.only_name.Goals as goal

pub first_name-requires : goal.first_name-requires
first_name-requires g c =
    let node = c.known_at-node.result in
    let inner : 0 < node.level = omega arith in
    name_is node.level node.items 0 c.items.result.now inner c.items.ensures.node.items c.items.ensures.bytes (omega arith)

pub returns : goal.returns
returns g c node stored =
    let found = c.known_at-node.result in
    let same : found ≡ node = c.known_at-node.ensures node stored in
    let inner : 0 < found.level = omega arith in
    let one : length found.items ≡ 1 = omega arith in
    let name : Item = record { key = c.first_name.result.0.now; body = c.first_name.result.1.0; rows = c.first_name.result.2 } in
    let here = name_read found.level found.items 0 c.items.result.now name inner c.items.ensures.node.items c.items.ensures.bytes (omega arith) c.first_name.ensures in
    (name, subst (λ (n : Node). 0 < n.level) same inner, subst (λ (n : Node). n.items ≡ name ∷ []) same (only_one found.items name one here.got), refl)
