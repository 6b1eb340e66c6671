use Rattle.check_laws.specs.Laws.{NamesAgree}
use Rattle.check_laws.proofs.NamesIn.{names_are}
use Rattle.check_laws.proofs.Needing.{needs_where_named}
use Rattle.check_laws.proofs.laws.law_of_names.Goals as goal

names_agree : NamesAgree
names_agree = record { scan = names_are; needs = needs_where_named }

pub returns : goal.returns
returns c = names_agree
