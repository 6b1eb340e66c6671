use Rattle.sql_grammar.specs.Expressions.{any}
use Rattle.sql_laws.proofs.Trees.{reads_back_at}
use Rattle.sql_laws.proofs.grammar_laws.law_of_reading_back.Goals as goal

pub returns : goal.returns
unfolding any
returns c = record { any = λ x rest tree few ends. reads_back_at 64 x rest tree few ends; at_each_limit = reads_back_at }
