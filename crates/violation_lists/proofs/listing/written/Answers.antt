use Rattle.std.proofs.Common.{◌∙◌, ◌&&◌, ap, sym}
use Rattle.tuple_codec.specs.KeyBytes.{key_bytes}
use Rattle.tuple_codec.specs.Nodes.{Item}
use Rattle.tuple_codec.specs.Rows.{same_cells}
use Rattle.tuple_codec.proofs.Orders.{cells_told}
use Rattle.schema_model.specs.PlainTables.{is_row, primary_key, row_item}
use Rattle.schema_model.specs.Schemas.{is_schema}
use Rattle.plain_writes.proofs.RowOrderLemmas.{right_so}
use Rattle.violation_lists.proofs.listing.written.Goals as goal

pub returns : goal.returns
returns c =
    let schema = c.args.schema.now in
    let broken = c.args.one.now.violation in
    let under = right_so (is_row schema broken.row) (same_cells broken.key (primary_key schema broken.row))
    (right_so (is_schema schema) (is_row schema broken.row && same_cells broken.key (primary_key schema broken.row)) c.requires) in
    let keyed = (cells_told broken.key (primary_key schema broken.row)).0 under in
    let item = c.in_ok-item.ensures ∙ ap (row_item schema) c.as_slice.ensures in
    let table = c.in_ok-from_slice.ensures ∙ c.as_slice-2.ensures in
    let constraint = c.in_ok-from_slice-2.ensures ∙ c.as_slice-3.ensures in
    let key = ap (λ (x : Item). x.key) item ∙ ap key_bytes (sym keyed) in
    let row = ap (λ (x : Item). x.body) item in
    (λ i. record { table = table i; kind = broken.kind; constraint = constraint i; key = key i; row = row i })
