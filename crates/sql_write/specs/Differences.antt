-- The edits that turn rows into others.
use Rattle.std.specs.Prelude.{if◌then◌else◌, List, map, bytes_eq}
use Rattle.std.specs.Ordering.{match_ordering}
use Rattle.tuple_codec.specs.Edits.{added, changed, order, removed, replaced}
use Rattle.tuple_codec.specs.Nodes.{Item}
use Rattle.tuple_codec.specs.Rows.{Cells}
use Rattle.tuple_codec.specs.declared.edits.Edit.{Edit}
use Rattle.schema_model.specs.PlainTables.{row_item}
use Rattle.schema_model.specs.declared.schemas.Schema.{Schema}
use Rattle.tuple_codec.specs.ByKey.{as_edit, as_edits}
use Rattle.sql_write.specs.declared.differences.Meeting.{Meeting}
use Rattle.sql_write.specs.declared.differences.Meeting.TheVariants as meet

-- what the first items of two lists with rising keys say of the one list and the other
abbrev pub meeting : Item → Item → Meeting
meeting item other =
    match_ordering (order other.key item.key) (meet.Put (as_edit (added other)))
    (if bytes_eq other.body item.body then meet.Same else meet.Replaced (as_edit (replaced item other))) (meet.Removed (as_edit (removed item)))

-- the edits, by rising key, that lead from the items of rows to those of others: none where a row stays as it is
abbrev pub row_edits : Schema → List Cells → List Cells → List Edit
row_edits schema rows others = as_edits (changed (map (row_item schema) rows) (map (row_item schema) others))
