-- What is read back of a CHECK has its values.
use Rattle.std.proofs.lemmas.Bool.{and_parts}
use Rattle.sql_laws.specs.Spelling.{is_tree}
use Rattle.sql_laws.specs.Canonical.{paired}
use Rattle.sql_laws.specs.Written.{is_written}
use Rattle.sql_laws.proofs.StoredTexts.{stores_text}
use Rattle.check_laws.specs.CheckLaws.{KeepsChecks}
use Rattle.check_laws.proofs.CheckValues.{keeps_values}

pub keeps_checks : KeepsChecks
keeps_checks x is low = (paired x, ((stores_text x is low).0, λ scope. keeps_values scope x (and_parts (is_tree x) (is_written x) is).0))
