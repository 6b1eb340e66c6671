use Rattle.std.proofs.Common.{◌++◌, [], List, ap, ◌∙◌}
use Rattle.tuple_codec.specs.declared.edits.Edit.{Edit}
use Rattle.sql_write.specs.Differences.{row_edits}
use Rattle.sql_write.proofs.PutLemmas.{puts_rows}
use Rattle.sql_write.proofs.edits.edits_of.Goals as goal

pub returns : goal.returns
returns c =
    let schema = c.args.schema.now in
    let rows = c.args.rows.now in
    c.in_ok-put_all.ensures ∙ ap (λ (l : List Edit). l ++ row_edits schema [] rows) c.in_ok-edits.ensures.items ∙ puts_rows schema rows
