-- Plain databases merged table by table.
use Rattle.std.specs.Prelude.{ℕ, ◌+◌, if◌then◌else◌, List, [], ◌∷◌, length, map, Option, None, Some, Result, Ok, Err, bytes_eq}
use Rattle.std.specs.Ordering.{nat_cmp}
use Rattle.std.specs.Cmp.Lexicographic.{slice_cmp}
use Rattle.tuple_codec.specs.RowRule.{same_option, three_way}
use Rattle.schema_model.specs.PlainTables.{PlainDatabase, PlainTable}
use Rattle.schema_model.specs.Sameness.{is_same_table}
use Rattle.schema_merge.specs.KeyByKey.{all_keys}
use Rattle.schema_merge.specs.TableMerge.{table3}

-- a table whose schemas don't merge, and the part in conflict; the empty one where a side has no such table
pub record SchemaConflict : Type 0 where
  pub table : List ℕ
  pub part : List ℕ

-- the table of a name
abbrev pub table_in : List ℕ → PlainDatabase → Option PlainTable
table_in name [] = None
table_in name (named ∷ database) = if bytes_eq named.name name then Some named.table else table_in name database

-- what becomes of a table: what stands there, and how many conflicts its rows met
pub record MergedTable : Type 0 where
  pub table : Option PlainTable
  pub conflicts : ℕ

abbrev pub unmerged : Option PlainTable → MergedTable
unmerged table = record { table = table; conflicts = 0 }

abbrev pub merged : Result PlainTable (List ℕ) → Result MergedTable (List ℕ)
merged (Ok table) = Ok (record { table = Some table; conflicts = length table.conflicts })
merged (Err part) = Err part

-- where no whole table decides
abbrev pub by_rows : Option PlainTable → Option PlainTable → Option PlainTable → Result MergedTable (List ℕ)
by_rows base (Some ours) (Some theirs) = merged (table3 base ours theirs)
by_rows base ours theirs = Err []

abbrev pub or_by_rows : Option (Option PlainTable) → Option PlainTable → Option PlainTable → Option PlainTable → Result MergedTable (List ℕ)
or_by_rows (Some table) base ours theirs = Ok (unmerged table)
or_by_rows None base ours theirs = by_rows base ours theirs

-- whole tables first, absence counting as a table: schema, rows, conflicts and violations
abbrev pub either_table : Option PlainTable → Option PlainTable → Option PlainTable → Result MergedTable (List ℕ)
either_table base ours theirs = or_by_rows (three_way (same_option is_same_table) base ours theirs) base ours theirs

-- what databases come to, and how many conflicts rows met
pub record MergedDatabase : Type 0 where
  pub database : PlainDatabase
  pub conflicts : ℕ

abbrev pub with_table : List ℕ → Option PlainTable → PlainDatabase → PlainDatabase
with_table name None database = database
with_table name (Some table) database = record { name = name; table = table } ∷ database

abbrev pub added : List ℕ → MergedTable → Result MergedDatabase SchemaConflict → Result MergedDatabase SchemaConflict
added name one (Ok others) = Ok (record { database = with_table name one.table others.database; conflicts = one.conflicts + others.conflicts })
added name one (Err conflict) = Err conflict

-- the first table in conflict is told
abbrev pub step : List ℕ → Result MergedTable (List ℕ) → Result MergedDatabase SchemaConflict → Result MergedDatabase SchemaConflict
step name (Ok one) others = added name one others
step name (Err part) others = Err (record { table = name; part = part })

abbrev pub over_names : PlainDatabase → PlainDatabase → PlainDatabase → List (List ℕ) → Result MergedDatabase SchemaConflict
over_names base ours theirs [] = Ok (record { database = []; conflicts = 0 })
over_names base ours theirs (name ∷ names) =
    step name (either_table (table_in name base) (table_in name ours) (table_in name theirs)) (over_names base ours theirs names)

abbrev pub names_of : PlainDatabase → List (List ℕ)
names_of database = map (λ named. named.name) database

unfoldable pub root3 : PlainDatabase → PlainDatabase → PlainDatabase → Result MergedDatabase SchemaConflict
root3 base ours theirs = over_names base ours theirs (all_keys (slice_cmp nat_cmp) (names_of base) (names_of ours) (names_of theirs))
