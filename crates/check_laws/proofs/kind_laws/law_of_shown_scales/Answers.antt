use Rattle.check_laws.proofs.Cells.{shows_scales}
use Rattle.check_laws.proofs.kind_laws.law_of_shown_scales.Goals as goal

pub returns : goal.returns
returns c = shows_scales
