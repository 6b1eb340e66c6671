use Rattle.std.proofs.Common.{◌≡◌, List, true}
use Rattle.std.specs.List.{list_all}
use Rattle.tuple_codec.specs.Rows.{Cells}
use Rattle.sql_write.specs.Inserting.{is_good, listed_rows, rows_in}
use Rattle.sql_write.proofs.SaidLemmas.{gives_so, listed_good}
use Rattle.sql_write.proofs.inserting.rows_said.Goals as goal

pub returns-clause-good : goal.returns-clause-good
returns-clause-good c =
    let schema = c.args.schema.now in
    let places = c.as_slice.result.now in
    let tuples = c.as_slice-2.result.now in
    gives_so rows_in (λ (rows : List Cells). list_all (is_good schema) rows ≡ true) c.rows_of_tuples.result (listed_rows schema places tuples) c.rows_of_tuples.ensures
    (λ rows e. listed_good schema places tuples rows c.requires e)
