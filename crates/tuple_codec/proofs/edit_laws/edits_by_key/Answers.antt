use Rattle.std.proofs.Common.{None}
use Rattle.tuple_codec.proofs.Rising.{changed_rise, edited_rise}
use Rattle.tuple_codec.proofs.EditedValues.{changed_value, changes_back, edited_value, same_rows}
use Rattle.tuple_codec.proofs.edit_laws.edits_by_key.Goals as goal

pub returns-clause-edits : goal.returns-clause-edits
returns-clause-edits c = record {
  rise = λ rows edits. edited_rise rows None edits;
  value = λ key rows edits. edited_value key rows None edits;
}

pub returns-clause-changes : goal.returns-clause-changes
returns-clause-changes c = record {
  rise = λ rows others. changed_rise rows others None;
  value = λ key rows others. changed_value key rows others None;
  back = changes_back;
}

pub returns-clause-one : goal.returns-clause-one
returns-clause-one c = λ rows others. same_rows rows others None
