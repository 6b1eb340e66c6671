use Rattle.std.proofs.Common.{◌≡◌, ap, rules, arith}
use Rattle.std.proofs.lemmas.Grind.{common_steps}
use Rattle.sql_grammar.specs.Expressions.{expression}
use Rattle.sql_grammar.proofs.Turns.{deeper}
use Rattle.sql_grammar.proofs.grammars.+boxed_expression.Goals as goal

pub returns-then-depth-eq0 : goal.returns-then-depth-eq0
unfolding expression
returns-then-depth-eq0 t c =
    let none : c.args.depth ≡ 0 = omega arith in
    let e : expression c.args.depth c.args.cursor.now ≡ expression 0 c.args.cursor.now = ap (λ n. expression n c.args.cursor.now) none in
    first_of (search rules, grind (arith, common_steps))

pub returns : goal.returns
unfolding expression
returns t c = rw (deeper (λ n. expression n c.args.cursor.now) c.args.depth (omega arith)) c.disjunction.ensures
