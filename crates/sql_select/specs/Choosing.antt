-- What is sought in place of all rows.
use Rattle.std.specs.Prelude.{Bool}
use Rattle.tuple_codec.specs.Rows.{Cells}
use Rattle.schema_model.specs.declared.schemas.Schema.{Schema}
use Rattle.sql_select.specs.Entries.{AreEntriesOf, is_entered}
use Rattle.sql_select.specs.Seeking.{IsSpanOf, is_sought}
use Rattle.sql_select.specs.declared.choosing.Seek.{Seek}
use Rattle.sql_select.specs.declared.choosing.Seek.TheVariants as seek

-- the rows of a span of primary keys, or those that have entries in an index
abbrev pub is_wanted : Schema → Seek → Cells → Bool
is_wanted schema (seek.Keys span) = is_sought schema span
is_wanted schema (seek.Entries entries) = is_entered schema entries

-- what is sought fits the schema
abbrev pub IsSeekOf : Schema → Seek → Type 0
IsSeekOf schema (seek.Keys span) = IsSpanOf schema span
IsSeekOf schema (seek.Entries entries) = AreEntriesOf schema entries
