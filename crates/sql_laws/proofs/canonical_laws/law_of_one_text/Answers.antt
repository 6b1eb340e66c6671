use Rattle.sql_laws.proofs.ReadBack.{says_one_thing}
use Rattle.sql_laws.proofs.Texts.{keeps_text}
use Rattle.sql_laws.proofs.canonical_laws.law_of_one_text.Goals as goal

pub returns : goal.returns
returns c = record { kept = keeps_text; one = says_one_thing }
