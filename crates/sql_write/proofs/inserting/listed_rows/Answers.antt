use Rattle.sql_write.proofs.SaidLemmas.{types_well}
use Rattle.sql_write.proofs.inserting.listed_rows.Goals as goal

pub new_rows-requires : goal.new_rows-requires
new_rows-requires c = types_well c.args.schema.now c.requires
