-- Rows that an INSERT says are rows of the table, within the limits.
use Rattle.std.proofs.Common.{◌≡◌, refl, true, ◌&&◌, ℕ, List, [], ◌∷◌, Result, Ok, Err, IfOk}
use Rattle.std.specs.List.{list_all}
use Rattle.tuple_codec.specs.Limits.{is_type}
use Rattle.schema_model.specs.Schemas.{default_fits, is_column, is_name, is_schema}
use Rattle.schema_model.specs.declared.schemas.Column.{Column}
use Rattle.schema_model.specs.declared.schemas.Schema.{Schema}
use Rattle.schema_model.proofs.FitLemmas.{columns_of as columns_well}
use Rattle.sql_ast.specs.declared.statements.InsertCell.{InsertCell}
use Rattle.expr_eval.specs.Binding.{Outcome, and_then}
use Rattle.tuple_codec.specs.Rows.{Cells}
use Rattle.plain_sql.specs.Lists.{each}
use Rattle.plain_writes.specs.Writes.{Said, new_row, tuple_said}
use Rattle.plain_sql.specs.Gives.{GivesBy}
use Rattle.plain_sql.specs.declared.faults.Refused.{Refused}
use Rattle.plain_writes.proofs.RowOrderLemmas.{both_so, left_so, right_so}
use Rattle.plain_writes.proofs.RowLemmas.{new_rows_good}
use Rattle.sql_write.specs.Inserting.{is_good, listed_rows}

types_in : (columns : List Column) → list_all is_column columns ≡ true → list_all (λ (column : Column). is_type column.kind) columns ≡ true
types_in [] h = refl
types_in (column ∷ columns) h = both_so
    (right_so (is_name column.name) (is_type column.kind) (left_so (is_name column.name && is_type column.kind) (default_fits column.kind column.default) (left_so (is_column column) (list_all is_column columns) h)))
    (types_in columns (right_so (is_column column) (list_all is_column columns) h))

pub types_well : (schema : Schema) → is_schema schema ≡ true → list_all (λ (column : Column). is_type column.kind) schema.columns ≡ true
types_well schema h = types_in schema.columns (columns_well schema h)

-- what is known of what a definition gives is known of what contracts see of what code gives
pub gives_so : {A B : Type 0} (view : A → B) (P : B → Type 0) (r : Result A Refused) (o : Outcome B) → GivesBy view r o → ((x : B) → o ≡ Ok x → P x) → IfOk r (λ x. P (view x))
gives_so view P (Ok x) o gives f = f (view x) gives
gives_so view P (Err fault) o gives f = tt

-- rows that tuples bring are rows of the table, within the limits
pub listed_good : (schema : Schema) (places : List ℕ) (tuples : List (List InsertCell)) (rows : List Cells) → is_schema schema ≡ true → listed_rows schema places tuples ≡ Ok rows
    → list_all (is_good schema) rows ≡ true
listed_good schema places tuples rows well h = by (each (tuple_said schema places) tuples) h where
  by : (said : Outcome (List (List Said))) → and_then said (λ said. each (new_row schema places) said) ≡ Ok rows → list_all (is_good schema) rows ≡ true
  by (Ok said) h = new_rows_good schema places said rows (columns_well schema well) h
  by (Err number) h = cc
