use Rattle.std.proofs.Common.{ap, sym, ◌∙◌}
use Rattle.schema_model.specs.PlainTables.{row_item}
use Rattle.sql_write.proofs.DifferenceLemmas.{met_itself}
use Rattle.sql_write.proofs.differences.meet.Goals as goal

pub returns-then-same_cells : goal.returns-then-same_cells
returns-then-same_cells c =
    met_itself _ _ (ap (row_item c.args.schema.now) (sym c.as_slice.ensures ∙ (c.same_cells_are_one.ensures.cells c.as_slice.result.now c.as_slice-2.result.now).0 (sym c.same_cells.ensures ∙ c.if-same_cells.true) ∙ c.as_slice-2.ensures))
