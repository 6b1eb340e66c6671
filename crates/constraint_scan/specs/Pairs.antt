-- Two databases side by side, table by table, with the rows that came.
use Rattle.std.specs.Prelude.{◌≡◌, ℕ, Bool, false, ◌||◌, not, List, [], ◌∷◌, filter, map, if◌then◌else◌, Option, None, Some, bytes_eq}
use Rattle.std.specs.List.{list_any}
use Rattle.std.specs.Option.{option_map_or}
use Rattle.tuple_codec.specs.Rows.{Cells, same_cells}
use Rattle.tuple_codec.specs.declared.edits.ItemChange.{ItemChange}
use Rattle.schema_model.specs.PlainTables.{NamedTable, PlainDatabase, PlainTable, row_item}
use Rattle.schema_model.specs.declared.schemas.ForeignKey.{ForeignKey}
use Rattle.schema_model.specs.declared.schemas.Schema.{Schema}
use Rattle.prolly_tree.specs.Lists.{pair_of}
use Rattle.chunk_store.specs.Chunks.{Chunks}
use Rattle.table_root.specs.Standing.{IsTableOf}
use Rattle.table_root.specs.Rows.{AreRowsAt}
use Rattle.plain_writes.specs.Violations.{Checks}
use Rattle.constraint_scan.specs.Changed.{is_failed, is_missed_row, is_orphan, is_repeated}
use Rattle.constraint_scan.specs.declared.pairing.Pair.{Pair}

-- ---- the rows that came

-- rows of the one list that the other hasn't just so
abbrev pub come_of : List Cells → List Cells → List Cells
come_of old new = filter (λ row. not (list_any (same_cells row) old)) new

-- the keys and values that changes bring
abbrev pub come_pairs : List ItemChange → List (List ℕ × List ℕ)
come_pairs [] = []
come_pairs (change ∷ changes) = option_map_or (λ value. (change.key, value) ∷ come_pairs changes) change.new (come_pairs changes)

-- rows as keys and values
abbrev pub row_pairs : Schema → List Cells → List (List ℕ × List ℕ)
row_pairs schema rows = map pair_of (map (row_item schema) rows)

-- ---- tables side by side

-- a root of the rows of a table that has this schema
pub record HasRoot (address : List ℕ → List ℕ) (chunks : Chunks) (k : List ℕ) (schema : Schema) (contents : PlainTable) : Type 0 where
  pub same : contents.schema ≡ schema
  pub rows : AreRowsAt address chunks k schema contents.rows

-- a table in both databases, under one name and schema
pub record IsPair (address : List ℕ → List ℕ) (chunks : Chunks) (pair : Pair) (before after : NamedTable) : Type 0 where
  pub name : pair.name ≡ after.name
  pub old_name : before.name ≡ after.name
  pub schema : before.table.schema ≡ after.table.schema
  pub old : AreRowsAt address chunks pair.old.0 after.table.schema before.table.rows
  pub new : IsTableOf address chunks pair.new after.table
  pub come : pair.come ≡ come_of before.table.rows after.table.rows

abbrev pub ArePairs : (List ℕ → List ℕ) → Chunks → List Pair → PlainDatabase → PlainDatabase → Type 0
ArePairs address chunks [] [] [] = Unit {0}
ArePairs address chunks (pair ∷ pairs) (b ∷ before) (a ∷ after) = IsPair address chunks pair b a × ArePairs address chunks pairs before after
ArePairs address chunks pairs before after = ⊥

abbrev pub HavePairs : (List ℕ → List ℕ) → Chunks → List Pair → Type 0
HavePairs address chunks pairs = (before : PlainDatabase) × (after : PlainDatabase) × ArePairs address chunks pairs before after

-- ---- what they tell

-- some row that came breaks it
abbrev pub some_come : (NamedTable → Cells → Bool) → PlainDatabase → PlainDatabase → Bool
some_come breaks (b ∷ before) (a ∷ after) = list_any (breaks a) (come_of b.table.rows a.table.rows) || some_come breaks before after
some_come breaks before after = false

-- a row of the parent that isn't there just so any more was the last with its key, and the child's rows have it
abbrev pub deserts : PlainDatabase → PlainTable → ForeignKey → PlainDatabase → PlainDatabase → Bool
deserts new child foreign (b ∷ before) (a ∷ after) =
    if bytes_eq a.name foreign.parent then list_any (is_missed_row new child foreign a.table) (come_of a.table.rows b.table.rows) else deserts new child foreign before after
deserts new child foreign before after = false

abbrev pub some_deserts : PlainDatabase → PlainDatabase → PlainDatabase → Bool
some_deserts old new tables = list_any (λ named. list_any (λ foreign. deserts new named.table foreign old new) named.table.schema.foreign) tables

abbrev pub told_by_pairs : Checks → PlainDatabase → PlainDatabase → Option ℕ
told_by_pairs checks old new =
    if some_come is_repeated old new then Some 1062
    else (if some_come (is_failed checks) old new then Some 3819
    else (if some_come (is_orphan new) old new then Some 1452
    else (if some_deserts old new new then Some 1451 else None)))
