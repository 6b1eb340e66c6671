use Rattle.std.proofs.Common.{◌≡◌, ◌<◌, ◌-◌, ◌++◌, ◌∷◌, [], List, length, replicate, ap, ◌∙◌, arith}
use Rattle.tuple_codec.specs.Nodes.{Item}
use Rattle.node_chunker.proofs.SubtreeLemmas.{one_level}
use Rattle.node_chunker.proofs.towers.open_levels.Goals as goal

pub levels-preserved : goal.levels-preserved
levels-preserved c =
    let items : List (List Item) = c.levels.inner.items in
    let fewer : length items < c.args.count = omega arith in
    let pushed : c.push.new.self.items ≡ items ++ [] ∷ [] = c.in_ok-push.ensures.items ∙ ap (λ l. items ++ l ∷ []) c.in_ok-node.ensures in
    ap (λ l. l ++ replicate (c.args.count - length l) []) pushed ∙ one_level items c.args.count fewer ∙ c.levels.invariant
