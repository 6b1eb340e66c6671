use Rattle.schema_model.specs.Sameness.{SamenessIsEquality}
use Rattle.check_laws.specs.Laws.{MergesKeepChecks}
use Rattle.check_laws.proofs.Merging.{merged_meant}
use Rattle.check_laws.proofs.Roots.{recorded_meant, root_meant}
use Rattle.check_laws.proofs.laws.law_of_merges.Goals as goal

merges_keep_checks : SamenessIsEquality → MergesKeepChecks
merges_keep_checks told = record { schemas = merged_meant told; roots = root_meant told; recording = recorded_meant }

pub returns : goal.returns
returns c = merges_keep_checks c.law_of_sameness.ensures
