use Rattle.sql_laws.proofs.ReadBack.{has_pieces}
use Rattle.sql_laws.proofs.canonical_laws.law_of_canonical_tokens.Goals as goal

pub returns : goal.returns
returns c = has_pieces
