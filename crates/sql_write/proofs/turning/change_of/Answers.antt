use Rattle.sql_write.proofs.TurningLemmas.{schema_typed}
use Rattle.sql_write.proofs.turning.change_of.Goals as goal

pub assignments-requires : goal.assignments-requires
assignments-requires c = schema_typed c.args.schema.now c.requires
