use Rattle.check_laws.specs.Laws.{ChecksAreKept}
use Rattle.check_laws.proofs.Altering.{alters_meant}
use Rattle.check_laws.proofs.Creating.{creates_meant}
use Rattle.check_laws.proofs.Databases.{deletes_meant, drops_meant, inserts_meant, updates_meant}
use Rattle.check_laws.proofs.Writing.{all_meant}
use Rattle.check_laws.proofs.Meaning.{checks_are_meant}
use Rattle.check_laws.proofs.laws.law_of_checks.Goals as goal

checks_are_kept : ChecksAreKept
checks_are_kept = record { creates = creates_meant; drops = drops_meant; inserts = inserts_meant; updates = updates_meant; deletes = deletes_meant; alters = alters_meant; all = all_meant }

pub returns-clause-kept : goal.returns-clause-kept
returns-clause-kept c = checks_are_kept

pub returns-clause-meant : goal.returns-clause-meant
returns-clause-meant c = checks_are_meant
