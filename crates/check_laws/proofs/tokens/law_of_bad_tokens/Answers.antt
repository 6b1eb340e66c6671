use Rattle.check_laws.proofs.TokenLemmas.{refusals_follow}
use Rattle.check_laws.proofs.tokens.law_of_bad_tokens.Goals as goal

pub returns : goal.returns
returns c = refusals_follow
