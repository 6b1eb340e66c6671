-- The types of a database's columns are types.
use Rattle.std.specs.Prelude.{Bool, List}
use Rattle.std.specs.List.{list_all}
use Rattle.tuple_codec.specs.Limits.{is_type}
use Rattle.plain_writes.specs.declared.tables.NamedTable.{NamedTable}

abbrev pub has_types : NamedTable → Bool
has_types named = list_all (λ column. is_type column.kind) named.table.schema.columns

abbrev pub are_typed : List NamedTable → Bool
are_typed database = list_all has_types database
