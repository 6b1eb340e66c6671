-- Worked examples of CREATE TABLE, DROP TABLE and ALTER TABLE.
use Rattle.std.proofs.Common.{◌≡◌, refl, codes, ℕ, List, [], ◌∷◌, true, false, None, Some, Ok, Err, pos}
use Rattle.std.specs.Fmt.{digits}
use Rattle.tuple_codec.specs.Rows.{Cells}
use Rattle.tuple_codec.specs.declared.values.SqlType.TheVariants as type
use Rattle.tuple_codec.specs.declared.values.Value.TheVariants as cell
use Rattle.schema_model.specs.declared.schemas.Column.{Column}
use Rattle.schema_model.specs.declared.schemas.Schema.{Schema}
use Rattle.schema_model.specs.PlainTables.{PlainDatabase}
use Rattle.sql_ast.specs.declared.expressions.Literal.TheVariants as literal
use Rattle.sql_ast.specs.declared.tables.CreateTable.{CreateTable}
use Rattle.sql_ast.specs.declared.tables.Element.TheVariants as element
use Rattle.sql_ast.specs.declared.tables.Attribute.{Attribute}
use Rattle.sql_ast.specs.declared.tables.Attribute.TheVariants as attribute
use Rattle.sql_ast.specs.declared.tables.ColumnElement.{ColumnElement}
use Rattle.sql_ast.specs.declared.tables.TypeName.{TypeName}
use Rattle.sql_ast.specs.declared.tables.TypeName.TheVariants as named
use Rattle.sql_ast.specs.declared.statements.AlterAction.{AlterAction}
use Rattle.sql_ast.specs.declared.statements.AlterAction.TheVariants as action
use Rattle.expr_eval.specs.Binding.{Outcome}
use Rattle.plain_writes.specs.Violations.{Checks}
use Rattle.plain_writes.specs.Writes.{Effect}
use Rattle.plain_schemas.specs.Made.{columns_made, schema_of}
use Rattle.plain_schemas.specs.Effects.{changed_to, create_effect, drop_effect, empty_table}
use Rattle.plain_schemas.specs.Altered.{alter_effect}

-- CREATE TABLE t (id BIGINT PRIMARY KEY, u BIGINT UNIQUE DEFAULT 7, FOREIGN KEY (u) REFERENCES t (id))
abbrev create : CreateTable
create = record {
  if_not_exists = false;
  table = codes "t";
  elements = element.Column (record { name = codes "id"; kind = named.BigInt; attributes = attribute.PrimaryKey ∷ [] })
      ∷ element.Column (record { name = codes "u"; kind = named.BigInt; attributes = attribute.Unique ∷ attribute.Default false (literal.Whole 7) ∷ [] })
      ∷ element.ForeignKey (record { name = None; columns = codes "u" ∷ []; parent = codes "t"; parent_columns = codes "id" ∷ [] }) ∷ [];
}

abbrev columns : List Column
columns = record { name = codes "id"; kind = type.BigInt; not_null = true; default = None }
    ∷ record { name = codes "u"; kind = type.BigInt; not_null = false; default = Some (cell.Int (pos 7)) } ∷ []

abbrev schema : Schema
schema = record {
  columns = columns;
  key = 0 ∷ [];
  indexes = record { name = codes "t_uq_1"; unique = true; columns = 1 ∷ [] } ∷ [];
  checks = [];
  foreign = record { name = codes "t_fk_1"; columns = 1 ∷ []; parent = codes "t"; parent_columns = codes "id" ∷ [] } ∷ [];
}

defined : columns_made create.elements ≡ Ok columns
defined = refl

said : schema_of create columns ≡ schema
unfolding digits
said = refl

abbrev empty : PlainDatabase
empty = record { name = codes "t"; table = empty_table schema } ∷ []

created : create_effect [] create ≡ Ok (changed_to empty)
unfolding digits
created = refl

again : create_effect empty create ≡ Err 1050
again = refl

-- the foreign key's parent has no column v
no_parent_column : create_effect empty (record {
  if_not_exists = false;
  table = codes "s";
  elements = element.Column (record { name = codes "id"; kind = named.BigInt; attributes = attribute.PrimaryKey ∷ [] })
      ∷ element.ForeignKey (record { name = None; columns = codes "id" ∷ []; parent = codes "t"; parent_columns = codes "v" ∷ [] }) ∷ [];
}) ≡ Err 1054
unfolding digits
no_parent_column = refl

dropped : drop_effect empty (record { if_exists = false; table = codes "t" }) ≡ Ok (changed_to [])
dropped = refl

none_there : drop_effect [] (record { if_exists = false; table = codes "t" }) ≡ Err 1146
none_there = refl

-- ---- ALTER

-- nothing reads a CHECK here
abbrev no_checks : Checks
no_checks name table text = None

abbrev with_row : PlainDatabase
with_row = record { name = codes "t"; table = record { schema = schema; rows = (cell.Int (pos 1) ∷ cell.Null ∷ []) ∷ []; conflicts = []; violations = [] } } ∷ []

abbrev alter : AlterAction → Outcome Effect
alter action = alter_effect no_checks with_row (record { table = codes "t"; action = action })

abbrev column : List ℕ → TypeName → List Attribute → ColumnElement
column name kind attributes = record { name = name; kind = kind; attributes = attributes }

-- u stands in an index
used : alter (action.Drop (codes "u")) ≡ Err 9013
used = refl

absent : alter (action.Modify (column (codes "q") named.Int [])) ≡ Err 1054
absent = refl

present : alter (action.Add (column (codes "u") named.Int [])) ≡ Err 9013
present = refl

-- ALTER TABLE t ADD COLUMN n BIGINT NOT NULL: no value for the row
no_value : alter (action.Add (column (codes "n") named.BigInt (attribute.NotNull ∷ []))) ≡ Err 1048
no_value = refl

abbrev rows_of : Outcome Effect → List (List Cells)
rows_of (Ok effect) = tables effect.database where
  tables : PlainDatabase → List (List Cells)
  tables [] = []
  tables (one ∷ more) = one.table.rows ∷ tables more
rows_of (Err number) = []

-- ALTER TABLE t ADD COLUMN n BIGINT NOT NULL DEFAULT 7
filled : rows_of (alter (action.Add (column (codes "n") named.BigInt (attribute.NotNull ∷ attribute.Default false (literal.Whole 7) ∷ []))))
    ≡ ((cell.Int (pos 1) ∷ cell.Null ∷ cell.Int (pos 7) ∷ []) ∷ []) ∷ []
filled = refl

-- a table with (1, 2.50) in the columns id and d
abbrev priced : PlainDatabase
priced = record {
  name = codes "p";
  table = record {
    schema = record {
      columns = record { name = codes "id"; kind = type.BigInt; not_null = true; default = None } ∷ record { name = codes "d"; kind = type.Decimal 6 2; not_null = false; default = None } ∷ [];
      key = 0 ∷ [];
      indexes = [];
      checks = [];
      foreign = [];
    };
    rows = (cell.Int (pos 1) ∷ cell.Decimal (pos 250) ∷ []) ∷ [];
    conflicts = [];
    violations = [];
  };
} ∷ []

abbrev alter_prices : AlterAction → Outcome Effect
alter_prices action = alter_effect no_checks priced (record { table = codes "p"; action = action })

-- ALTER TABLE p MODIFY d BIGINT: the cell is assigned anew, rounded
rounded : rows_of (alter_prices (action.Modify (column (codes "d") named.BigInt []))) ≡ ((cell.Int (pos 1) ∷ cell.Int (pos 3) ∷ []) ∷ []) ∷ []
rounded = refl

out_of_range : alter_prices (action.Modify (column (codes "d") named.Bool [])) ≡ Err 1264
out_of_range = refl

other_kind : alter_prices (action.Modify (column (codes "d") (named.Varchar 9) [])) ≡ Err 9001
other_kind = refl

gone : rows_of (alter_prices (action.Drop (codes "d"))) ≡ ((cell.Int (pos 1) ∷ []) ∷ []) ∷ []
gone = refl
