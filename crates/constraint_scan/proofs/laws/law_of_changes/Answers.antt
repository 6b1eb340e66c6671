use Rattle.constraint_scan.proofs.ChangedLemmas.{rows_tell}
use Rattle.constraint_scan.proofs.LostLemmas.{changes_tell}
use Rattle.constraint_scan.proofs.laws.law_of_changes.Goals as goal

pub returns : goal.returns
returns c = record { rows = rows_tell; changes = λ checks old new alike. changes_tell old new alike checks }
