use Rattle.std.proofs.Common.{arith}
use Rattle.schema_model.proofs.SchemaLemmas.{is_none, is_read}
use Rattle.schema_model.proofs.reading.read_schema.Goals as goal

pub returns-in-Ok : goal.returns-in-Ok
returns-in-Ok c = is_read c.args.bytes.now c.in-Ok.schema (λ i. omega (arith, c.type_inv.bytes i)) c.in-Ok.ensures

pub returns-in-Err-Malformed : goal.returns-in-Err-Malformed
returns-in-Err-Malformed c = is_none c.args.bytes.now (rw c.in-Err-Malformed.field-0-is at c.in-Err-Malformed.ensures)
