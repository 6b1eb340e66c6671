use Rattle.check_laws.proofs.Bound.{worths_have_kinds}
use Rattle.check_laws.proofs.KindValues.{values_have_kinds}
use Rattle.check_laws.proofs.kind_laws.law_of_kinds.Goals as goal

pub returns-clause-worths : goal.returns-clause-worths
returns-clause-worths c = worths_have_kinds

pub returns-clause-values : goal.returns-clause-values
returns-clause-values c = values_have_kinds
