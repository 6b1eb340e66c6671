use Rattle.std.proofs.Common.{sym, ◌∙◌, arith}
use Rattle.prolly_tree.proofs.Lookups.{place_after, place_before, place_within}
use Rattle.prolly_tree.proofs.nodes.place_of.Goals as goal

pub halves-init : goal.halves-init
halves-init c =
    let within = place_within c.args.key.now c.args.node.now.items in
    (omega arith, omega arith, omega arith)

pub halves-preserved-then-is_below : goal.halves-preserved-then-is_below
halves-preserved-then-is_below c =
    let after = place_after c.args.key.now _ c.args.node.now.items _ c.key_at.ensures.node.keys c.key_at.ensures.key (sym c.is_below.ensures ∙ c.if-is_below.true) in
    (omega arith, omega arith, omega arith)

pub halves-preserved : goal.halves-preserved
halves-preserved c =
    let before = place_before c.args.key.now _ c.args.node.now.items _ c.key_at.ensures.key (sym c.is_below.ensures ∙ c.if-is_below.false) in
    (omega arith, omega arith, omega arith)
