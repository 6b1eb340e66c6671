use Rattle.std.proofs.Common.{◌≡◌, sym, ◌∙◌, arith}
use Rattle.prolly_tree.proofs.PassingLemmas.{leaf_count}
use Rattle.prolly_tree.proofs.passing.rows_in.Goals as goal

pub returns-then-level-eq0 : goal.returns-then-level-eq0
returns-then-level-eq0 c =
    let node = c.args.node.now in
    let leaf : node.level ≡ 0 = omega arith in
    omega (arith, leaf_count node.level node.items leaf c.requires.node.items)
