use Rattle.sql_grammar.proofs.grammars.+boxed_expression.Given as goal

abbrev pub decreases-boxed_expression : goal.decreases-boxed_expression
decreases-boxed_expression l = l.depth
