use Rattle.std.proofs.Common.{◌≡◌, ◌∙◌, ap, sym, ℕ, ◌+◌, ◌-◌, List, [], ◌∷◌, ◌++◌, take, arith}
use Rattle.std.specs.List.{filter}
use Rattle.sql_rules.specs.Constraints.{is_free, names_from}
use Rattle.sql_rules.proofs.MadeNames.{after_free, after_taken}
use Rattle.sql_rules.proofs.constraints.made_names.Goals as goal

pub loop-turn-preserved-then-not-is_unused : goal.loop-turn-preserved-then-not-is_unused
loop-turn-preserved-then-not-is_unused c =
    after_taken c.args.table.now c.args.elements.now c.args.sort c.in_ok-most.most c.loop-turn.turn c.loop-turn.left c.in_ok-name.name c.loop-turn.names _
    (omega arith) c.in_ok-name.ensures c.loop-turn.invariant (sym c.is_unused.ensures ∙ c.if-not-is_unused.true)

pub loop-turn-preserved : goal.loop-turn-preserved
loop-turn-preserved c =
    let pushed : c.push.new.self ≡ c.loop-turn.names ++ c.in_ok-name.name ∷ [] = c.in_ok-push.ensures.ok in
    let left = after_free c.args.table.now c.args.elements.now c.args.sort c.in_ok-most.most c.loop-turn.turn c.loop-turn.left c.in_ok-name.name c.loop-turn.names _
    (omega arith) c.in_ok-name.ensures c.loop-turn.invariant (omega arith) (sym c.is_unused.ensures ∙ c.if-not-is_unused.false) in
    ap (λ (ns : List (List ℕ)). ns ++ take (c.loop-turn.left - 1)
    (filter (is_free c.args.elements.now) (names_from c.args.table.now c.args.sort (c.loop-turn.turn + 1 + 1) (c.in_ok-most.most - (c.loop-turn.turn + 1))))) pushed ∙ left
