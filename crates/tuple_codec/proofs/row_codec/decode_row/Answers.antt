use Rattle.std.proofs.Common.{arith}
use Rattle.tuple_codec.specs.declared.forms.Form.TheVariants as form
use Rattle.tuple_codec.proofs.CellLemmas.{found, none}
use Rattle.tuple_codec.proofs.row_codec.decode_row.Goals as goal

pub returns-in-Ok : goal.returns-in-Ok
returns-in-Ok c = found form.Row c.args.types.now c.args.bytes.now c.in-Ok.row (λ i. omega (arith, c.type_inv.bytes i)) c.in-Ok.ensures

pub returns-in-Err-Malformed : goal.returns-in-Err-Malformed
returns-in-Err-Malformed c = none form.Row c.args.types.now c.args.bytes.now (rw c.in-Err-Malformed.field-0-is at c.in-Err-Malformed.ensures)
