use Rattle.sql_laws.proofs.StoredTexts.{stores_text}
use Rattle.sql_laws.proofs.canonical_laws.law_of_stored_texts.Goals as goal

pub returns : goal.returns
returns c = stores_text
