use Rattle.sql_write.proofs.SaidLemmas.{types_well}
use Rattle.sql_write.proofs.inserting.row_said.Goals as goal

pub new_row-requires : goal.new_row-requires
new_row-requires c = types_well c.args.schema.now c.requires
