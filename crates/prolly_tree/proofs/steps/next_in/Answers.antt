use Rattle.std.proofs.Common.{◌≡◌, ◌+◌, ℕ, suc, drop, ap, ◌∙◌, arith}
use Rattle.prolly_tree.proofs.Descents.{drop_next, drop_past}
use Rattle.prolly_tree.proofs.steps.next_in.Goals as goal

pub returns-then-at-count : goal.returns-then-at-count
returns-then-at-count c =
    let e : c.args.at + 1 ≡ suc c.args.at = omega arith in
    ap (λ (n : ℕ). drop n c.args.node.now.items) e ∙ drop_next c.args.node.now.items c.args.at

pub returns-else-at-count : goal.returns-else-at-count
returns-else-at-count c = drop_past c.args.node.now.items c.args.at (omega arith)
