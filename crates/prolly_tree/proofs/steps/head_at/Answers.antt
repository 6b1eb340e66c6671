use Rattle.prolly_tree.proofs.Descents.{head_drop}
use Rattle.prolly_tree.proofs.steps.head_at.Goals as goal

pub returns-then-at-count : goal.returns-then-at-count
returns-then-at-count c = (head_drop c.args.node.now.items c.args.at _ c.item_at.ensures.item, c.item_at.ensures.level)
