use Rattle.tuple_codec.proofs.Orders.{cells_told, values_told}
use Rattle.tuple_codec.proofs.rows.same_cells_are_one.Goals as goal

pub returns-clause-values : goal.returns-clause-values
returns-clause-values c = values_told

pub returns-clause-cells : goal.returns-clause-cells
returns-clause-cells c = cells_told
