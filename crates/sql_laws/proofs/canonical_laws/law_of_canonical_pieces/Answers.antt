use Rattle.sql_grammar.specs.Expressions.{any}
use Rattle.sql_laws.proofs.Pieces.{reads_pieces_at}
use Rattle.sql_laws.proofs.canonical_laws.law_of_canonical_pieces.Goals as goal

pub returns : goal.returns
unfolding any
returns c = record { any = λ x rest tree few ends. reads_pieces_at 64 x rest tree few ends; at_each_limit = reads_pieces_at }
