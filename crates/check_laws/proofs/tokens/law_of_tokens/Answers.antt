use Rattle.check_laws.proofs.TokenLemmas.{tokens_follow}
use Rattle.check_laws.proofs.tokens.law_of_tokens.Goals as goal

pub returns : goal.returns
returns c = tokens_follow
