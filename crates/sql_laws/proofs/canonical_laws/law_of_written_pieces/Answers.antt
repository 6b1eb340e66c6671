use Rattle.sql_laws.proofs.GivenTests.{reads_written}
use Rattle.sql_laws.proofs.ReadTokens.{tokens_are_given}
use Rattle.sql_laws.proofs.canonical_laws.law_of_written_pieces.Goals as goal

pub returns : goal.returns
returns c = record { pieces = tokens_are_given; read = reads_written }
