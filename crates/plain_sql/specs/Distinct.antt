-- What DISTINCT remembers.
use Rattle.std.specs.Prelude.{◌≡◌, List}
use Rattle.std.specs.List.{list_any}
use Rattle.std.specs.Ordering.{is_eq}
use Rattle.tuple_codec.specs.Rows.{Cells, key_cmp}
use Rattle.plain_sql.specs.declared.distinct.DistinctRow.{DistinctRow}
use Rattle.plain_sql.specs.declared.ranking.RankedRow.{RankedRow}

-- the lines are what the ranks show
abbrev pub AreSeen : List DistinctRow → List RankedRow → Type 0
AreSeen lines ranks = (cells : Cells) → list_any (λ line. is_eq (key_cmp cells line.cells)) lines ≡ list_any (λ rank. is_eq (key_cmp cells rank.cells)) ranks
