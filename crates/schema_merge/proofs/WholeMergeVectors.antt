-- The definitions, computed.
use Rattle.std.proofs.Common.{◌≡◌, ℕ, true, List, [], ◌∷◌, Some, None, refl}
use Rattle.std.specs.Prelude.{Ok, Err, codes, pos}
use Rattle.tuple_codec.specs.RowRule.{row3}
use Rattle.tuple_codec.specs.Rows.{Cells}
use Rattle.tuple_codec.specs.declared.values.SqlType.TheVariants as kind
use Rattle.tuple_codec.specs.declared.values.Value.TheVariants as cell
use Rattle.schema_model.specs.PlainTables.{NamedTable, PlainTable}
use Rattle.schema_model.specs.declared.schemas.Column.{Column}
use Rattle.schema_model.specs.declared.schemas.Schema.{Schema}
use Rattle.schema_merge.specs.Merging.{schema3}
use Rattle.schema_merge.specs.Parts.{moved_place}
use Rattle.schema_merge.specs.RootMerge.{root3}
use Rattle.schema_merge.specs.TableMerge.{table3}

abbrev column : List ℕ → Column
column name = record { name = name; kind = kind.BigInt; not_null = true; default = None }

abbrev of : List Column → Schema
of columns = record { columns = columns; key = 0 ∷ []; indexes = []; checks = []; foreign = [] }

abbrev two : Schema
two = of (column (codes "id") ∷ column (codes "x") ∷ [])

abbrev row : ℕ → ℕ → Cells
row id x = cell.Int (pos id) ∷ cell.Int (pos x) ∷ []

abbrev table : Schema → List Cells → PlainTable
table schema rows = record { schema = schema; rows = rows; conflicts = []; violations = [] }

-- each side changes rows of its own, removes one and adds one
rows_of_both : table3 (Some (table two (row 1 1 ∷ row 2 2 ∷ row 3 3 ∷ row 4 4 ∷ []))) (table two (row 1 9 ∷ row 3 3 ∷ row 4 4 ∷ row 5 5 ∷ [])) (table two (row 1 1 ∷ row 2 2 ∷ row 4 8 ∷ row 6 6 ∷ []))
    ≡ Ok (table two (row 1 9 ∷ row 4 8 ∷ row 5 5 ∷ row 6 6 ∷ []))
unfolding table3 schema3 moved_place row3
rows_of_both = refl

-- a conflict keeps ours, a row or its absence
conflicts_keep_ours : table3 (Some (table two (row 1 1 ∷ row 2 2 ∷ []))) (table two (row 1 8 ∷ [])) (table two (row 1 9 ∷ row 2 3 ∷ []))
    ≡ Ok (record (table two (row 1 8 ∷ [])) {
      conflicts = record { key = cell.Int (pos 1) ∷ []; base = Some (row 1 1); ours = Some (row 1 8); theirs = Some (row 1 9) }
          ∷ record { key = cell.Int (pos 2) ∷ []; base = Some (row 2 2); ours = None; theirs = Some (row 2 3) } ∷ [];
    })
unfolding table3 schema3 moved_place row3
conflicts_keep_ours = refl

-- theirs adds a column with a default, which rows of ours get
abbrev three : Schema
three = of (column (codes "id") ∷ column (codes "x") ∷ record (column (codes "y")) { default = Some (cell.Int (pos 7)) } ∷ [])

rows_are_projected : table3 (Some (table two (row 1 1 ∷ []))) (table two (row 1 1 ∷ row 2 5 ∷ [])) (table three ((cell.Int (pos 1) ∷ cell.Int (pos 2) ∷ cell.Int (pos 7) ∷ []) ∷ []))
    ≡ Ok (table three ((cell.Int (pos 1) ∷ cell.Int (pos 2) ∷ cell.Int (pos 7) ∷ []) ∷ (cell.Int (pos 2) ∷ cell.Int (pos 5) ∷ cell.Int (pos 7) ∷ []) ∷ []))
unfolding table3 schema3 moved_place row3
rows_are_projected = refl

-- ---- databases

abbrev named : List ℕ → PlainTable → NamedTable
named name of_rows = record { name = name; table = of_rows }

-- ours alone has a table, theirs alone another, theirs dropped one, and one merges row by row
databases_of_both : root3
    (named (codes "a") (table two (row 1 1 ∷ [])) ∷ named (codes "d") (table two []) ∷ [])
    (named (codes "a") (table two (row 1 1 ∷ row 2 2 ∷ [])) ∷ named (codes "b") (table two []) ∷ named (codes "d") (table two []) ∷ [])
    (named (codes "a") (table two (row 1 9 ∷ [])) ∷ named (codes "c") (table two []) ∷ [])
    ≡ Ok (record {
      database = named (codes "a") (table two (row 1 9 ∷ row 2 2 ∷ [])) ∷ named (codes "b") (table two []) ∷ named (codes "c") (table two []) ∷ [];
      conflicts = 0;
    })
unfolding root3 table3 schema3 moved_place row3
databases_of_both = refl

dropped_and_changed : root3 (named (codes "a") (table two []) ∷ []) [] (named (codes "a") (table two (row 1 1 ∷ [])) ∷ []) ≡ Err (record { table = codes "a"; part = [] })
unfolding root3
dropped_and_changed = refl

both_create_it_otherwise : root3 [] (named (codes "a") (table two []) ∷ []) (named (codes "a") (table (of (column (codes "id") ∷ record (column (codes "x")) { kind = kind.Int } ∷ [])) []) ∷ [])
    ≡ Err (record { table = codes "a"; part = codes "x" })
unfolding root3 table3 schema3
both_create_it_otherwise = refl
