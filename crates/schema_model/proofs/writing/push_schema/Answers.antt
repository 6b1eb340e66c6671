use Rattle.std.proofs.Common.{length}
use Rattle.schema_model.proofs.SchemaLemmas.{parts_of}
use Rattle.schema_model.proofs.WrittenLemmas.{all_foreign_written, checks_written, columns_written, indexes_written}
use Rattle.schema_model.proofs.writing.push_schema.Goals as goal

pub push_list-requires-clause-allowed : goal.push_list-requires-clause-allowed
push_list-requires-clause-allowed c = rw c.as_slice.ensures (columns_written c.args.schema.now.columns (parts_of c.args.schema.now c.requires.schema).columns)

pub push_list-requires-2-clause-allowed : goal.push_list-requires-2-clause-allowed
push_list-requires-2-clause-allowed c = rw c.as_slice-3.ensures (indexes_written (length c.args.schema.now.columns) c.args.schema.now.indexes (parts_of c.args.schema.now c.requires.schema).indexes)

pub push_list-requires-3-clause-allowed : goal.push_list-requires-3-clause-allowed
push_list-requires-3-clause-allowed c = rw c.as_slice-4.ensures (checks_written c.args.schema.now.checks (parts_of c.args.schema.now c.requires.schema).checks)

pub push_list-requires-4-clause-allowed : goal.push_list-requires-4-clause-allowed
push_list-requires-4-clause-allowed c = rw c.as_slice-5.ensures (all_foreign_written (length c.args.schema.now.columns) c.args.schema.now.foreign (parts_of c.args.schema.now c.requires.schema).foreign)
