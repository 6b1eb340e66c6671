use Rattle.std.proofs.Common.{◌≡◌, List, Option, drop}
use Rattle.std.specs.List.{list_all}
use Rattle.tuple_codec.specs.Rows.{Cells}
use Rattle.root_merge.specs.Changing.{AreBrought, is_short_perhaps}
use Rattle.root_merge.proofs.changing.are_short.Given as goal

abbrev pub invariant-loop-change : goal.invariant-loop-change
invariant-loop-change l =
    (rows : List (Option Cells)) → AreBrought l.schema l.changes rows
    → list_all (is_short_perhaps l.schema) (drop l.change-index rows) ≡ list_all (is_short_perhaps l.schema) rows
