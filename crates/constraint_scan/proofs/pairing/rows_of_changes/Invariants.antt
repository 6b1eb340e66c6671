use Rattle.std.proofs.Common.{◌≡◌, true, List, drop}
use Rattle.std.specs.List.{list_all}
use Rattle.tuple_codec.specs.Rows.{Cells}
use Rattle.schema_model.specs.PlainTables.{is_row}
use Rattle.table_root.proofs.ReadingLemmas.{IsReading}
use Rattle.constraint_scan.specs.Pairs.{come_pairs, row_pairs}
use Rattle.constraint_scan.proofs.pairing.rows_of_changes.Given as goal

abbrev pub invariant-loop-change : goal.invariant-loop-change
invariant-loop-change l =
    (rows : List Cells) → list_all (is_row l.schema) rows ≡ true → come_pairs l.list ≡ row_pairs l.schema rows → IsReading l.schema l.rows (come_pairs (drop l.change-index l.list)) rows
