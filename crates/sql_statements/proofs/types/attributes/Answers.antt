use Rattle.std.proofs.Common.{rules, arith}
use Rattle.std.proofs.lemmas.Grind.{common_steps}
use Rattle.sql_statements.specs.Tables.{attributes_from}
use Rattle.sql_grammar.proofs.Turns.{one_more}
use Rattle.sql_statements.proofs.types.attributes.Goals as goal

pub loop-turn-preserved : goal.loop-turn-preserved
unfolding attributes_from
loop-turn-preserved c =
    let e = one_more (λ n. attributes_from c.args.definer n c.loop-turn.found c.loop-turn.cursor) _ c.loop-turn._turn c.loop-turn-test.true c.loop-turn.invariant in
    first_of (search rules, grind (arith, common_steps))
