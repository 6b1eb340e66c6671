use Rattle.sql_laws.proofs.ReadBack.{reads_text}
use Rattle.sql_laws.proofs.canonical_laws.law_of_reading_text.Goals as goal

pub returns : goal.returns
returns c = reads_text
