use Rattle.std.proofs.Common.{Bool, cond, Some, None, sym, ap, ◌∙◌}
use Rattle.prolly_tree.specs.Lists.{first_of}
use Rattle.prolly_tree.proofs.Descents.{from_end, from_place}
use Rattle.prolly_tree.proofs.nodes.value_in.Goals as goal

pub returns-then-at-count : goal.returns-then-at-count
returns-then-at-count c =
    ap (first_of c.args.key.now) (sym (from_end c.args.key.now c.args.leaf.now.items (sym c.place_of-at.ensures.place ∙ c.if-at-count.true ∙ c.count.ensures)))

pub returns-then-eq : goal.returns-then-eq
returns-then-eq c =
    sym (ap (first_of c.args.key.now) (from_place c.args.key.now c.args.leaf.now.items _ _ c.place_of-at.ensures.place c.leaf_item.ensures)
    ∙ ap (λ (b : Bool). cond b (Some c.leaf_item.result.1.now) None) (sym c.eq.ensures ∙ c.if-eq.true))

pub returns-else-eq : goal.returns-else-eq
returns-else-eq c =
    sym (ap (first_of c.args.key.now) (from_place c.args.key.now c.args.leaf.now.items _ _ c.place_of-at.ensures.place c.leaf_item.ensures)
    ∙ ap (λ (b : Bool). cond b (Some c.leaf_item.result.1.now) None) (sym c.eq.ensures ∙ c.if-eq.false))
