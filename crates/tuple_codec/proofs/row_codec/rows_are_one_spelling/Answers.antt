use Rattle.tuple_codec.specs.declared.forms.Form.TheVariants as form
use Rattle.tuple_codec.proofs.CellLemmas.{one_spelling}
use Rattle.tuple_codec.proofs.row_codec.rows_are_one_spelling.Goals as goal

pub returns : goal.returns
returns c = one_spelling form.Row
