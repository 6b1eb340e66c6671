-- Worked examples.
use Rattle.std.proofs.Common.{◌≡◌, refl, codes, ℕ, List, [], ◌∷◌, true, false, None, Some, Ok, Err, pos}
use Rattle.tuple_codec.specs.Rows.{Cells, cell_at}
use Rattle.tuple_codec.specs.declared.values.Value.{Value}
use Rattle.tuple_codec.specs.declared.values.Value.TheVariants as cell
use Rattle.tuple_codec.specs.declared.values.SqlType.TheVariants as type
use Rattle.sql_values.specs.declared.kinds.Kind.TheVariants as kind
use Rattle.schema_model.specs.declared.schemas.Schema.{Schema}
use Rattle.schema_model.specs.PlainTables.{PlainTable, PlainDatabase}
use Rattle.plain_sql.specs.Answers.{given, Meaning}
use Rattle.plain_writes.specs.Violations.{Checks, Found, violations, first_violation}
use Rattle.plain_writes.specs.Writes.{Assign, result_of, turned, row_after, by_key, new_row, Worth}

-- rows of two whole numbers
abbrev n : ℕ → Value
n x = cell.Int (pos x)

abbrev row : ℕ → ℕ → Cells
row a b = n a ∷ n b ∷ []

abbrev at : ℕ → Meaning
at place = λ cells. Some (cell_at cells place)

-- a table of a key, a number that is unique, and a parent in the same table
abbrev schema : Schema
schema = record {
  columns = record { name = codes "id"; kind = type.BigInt; not_null = true; default = None } ∷ record { name = codes "u"; kind = type.BigInt; not_null = false; default = None } ∷ [];
  key = 0 ∷ [];
  indexes = record { name = codes "t_uq_1"; unique = true; columns = 1 ∷ [] } ∷ [];
  checks = [];
  foreign = record { name = codes "t_fk_1"; columns = 1 ∷ []; parent = codes "t"; parent_columns = codes "id" ∷ [] } ∷ [];
}

abbrev holding : List Cells → PlainTable
holding rows = record { schema = schema; rows = rows; conflicts = []; violations = [] }

abbrev database : List Cells → PlainDatabase
database rows = record { name = codes "t"; table = holding rows } ∷ []

abbrev no_checks : Checks
no_checks name table text = None

abbrev breaking : ℕ → List ℕ → ℕ → ℕ → Found
breaking kind name id u = record { table = codes "t"; violation = record { kind = kind; constraint = name; key = n id ∷ []; row = row id u } }

-- two rows with one key of the index, and one without its parent
three : violations no_checks (database (row 1 1 ∷ row 2 1 ∷ row 3 9 ∷ []))
    ≡ breaking 1 (codes "t_fk_1") 3 9 ∷ breaking 2 (codes "t_uq_1") 1 1 ∷ breaking 2 (codes "t_uq_1") 2 1 ∷ []
three = refl

-- 1062 comes before 1451; without the second row nothing is twice, and the third row was there
new_ones : (first_violation no_checks (database (row 1 1 ∷ row 2 2 ∷ [])) (database (row 1 1 ∷ row 2 1 ∷ row 3 9 ∷ [])) ≡ Some 1062)
new_ones = refl

parent_gone : first_violation no_checks (database (row 1 1 ∷ row 2 1 ∷ [])) (database (row 2 1 ∷ [])) ≡ Some 1451
parent_gone = refl

-- UPDATE t SET id = u, u = id: the second sees the first
abbrev swapped : List Assign
swapped = record { place = 0; column = record { name = codes "id"; kind = type.BigInt; not_null = true; default = None }; kind = kind.Int; meaning = at 1 }
    ∷ record { place = 1; column = record { name = codes "u"; kind = type.BigInt; not_null = false; default = None }; kind = kind.Int; meaning = at 0 } ∷ []

left_to_right : row_after swapped (row 1 2) ≡ Ok (row 2 2)
unfolding given
left_to_right = refl

-- NULL into the key column
null_key : turned schema [] swapped (n 1 ∷ cell.Null ∷ []) ≡ Err 1048
unfolding given
null_key = refl

twice : by_key schema (row 1 2 ∷ row 1 3 ∷ []) ≡ Err 1062
twice = refl

laid_out : new_row schema (1 ∷ 0 ∷ []) (Worth kind.Int (λ cells. Some (n 7)) ∷ Worth kind.Int (λ cells. Some (n 1)) ∷ []) ≡ Ok (row 1 7)
unfolding given
laid_out = refl

whole : result_of no_checks (database (row 1 1 ∷ [])) (codes "t") (holding (row 1 1 ∷ [])) (row 1 1 ∷ row 2 1 ∷ []) 1 ≡ Err 1062
whole = refl
