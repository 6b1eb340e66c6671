-- Each statement keeps the meaning of CHECKs.
use Rattle.std.specs.Prelude.{◌≡◌, ℕ, List, IfOk, Ok, Option, Some, true, bytes_eq, slice_get}
use Rattle.std.specs.List.{AllByRecursion, list_all, list_any}
use Rattle.schema_model.specs.PlainTables.{PlainDatabase}
use Rattle.sql_ast.specs.declared.statements.Alter.{Alter}
use Rattle.sql_ast.specs.declared.statements.Delete.{Delete}
use Rattle.sql_ast.specs.declared.statements.Insert.{Insert}
use Rattle.sql_ast.specs.declared.statements.Update.{Update}
use Rattle.sql_ast.specs.declared.statements.Write.{Write}
use Rattle.sql_ast.specs.declared.statements.Write.TheVariants as write
use Rattle.sql_ast.specs.declared.tables.CreateTable.{CreateTable}
use Rattle.sql_ast.specs.declared.tables.DropTable.{DropTable}
use Rattle.sql_laws.specs.Fit.{IsFit}
use Rattle.plain_schemas.specs.Statements.{write_effect}
use Rattle.plain_sql.specs.Answers.{Meaning, given}
use Rattle.plain_sql.specs.Plans.{condition}
use Rattle.tuple_codec.specs.Rows.{Cells}
use Rattle.plain_sessions.specs.StateLimits.{has_meant_checks}
use Rattle.plain_writes.specs.CheckTexts.{checks}
use Rattle.plain_writes.specs.Violations.{Checks, breaks_check, is_false, own_scope}
use Rattle.plain_writes.specs.Writes.{delete_effect, insert_effect, update_effect}
use Rattle.plain_schemas.specs.Altered.{alter_effect, check_needs, without_column}
use Rattle.plain_schemas.specs.Effects.{create_effect, drop_effect}
use Rattle.schema_model.specs.Schemas.{is_schema}
use Rattle.schema_model.specs.declared.schemas.CheckDef.{CheckDef}
use Rattle.schema_model.specs.declared.schemas.Column.{Column}
use Rattle.schema_model.specs.declared.schemas.Schema.{Schema}
use Rattle.plain_writes.specs.WriteLaws.{IsKept}
use Rattle.schema_merge.specs.Merging.{schema3}
use Rattle.schema_merge.specs.Names.{names_in}
use Rattle.sql_ast.specs.declared.expressions.Expr.{Expr}
use Rattle.sql_text.specs.Canon.{text}
use Rattle.sql_laws.specs.Sound.{is_expr}
use Rattle.schema_merge.specs.RootMerge.{MergedDatabase, root3}
use Rattle.plain_sessions.specs.CommitRule.{recorded}
use Rattle.table_merge.specs.Laws.{AreSchemas}
use Rattle.check_laws.specs.Meant.{AreMeant, IsMeantCheck, IsMeantTable}
use Rattle.check_laws.specs.Named.{names_of}

pub record ChecksAreKept : Type 0 where
  pub creates : (database : PlainDatabase) (create : CreateTable) → AreMeant database → IsFit (write.Create create) → IfOk (create_effect database create) (λ effect. AreMeant effect.database)
  pub drops : (database : PlainDatabase) (drop : DropTable) → AreMeant database → IfOk (drop_effect database drop) (λ effect. AreMeant effect.database)
  pub inserts : (checks : Checks) (database : PlainDatabase) (insert : Insert) → AreMeant database → IfOk (insert_effect checks database insert) (λ effect. AreMeant effect.database)
  pub updates : (checks : Checks) (database : PlainDatabase) (update : Update) → AreMeant database → IfOk (update_effect checks database update) (λ effect. AreMeant effect.database)
  pub deletes : (checks : Checks) (database : PlainDatabase) (delete : Delete) → AreMeant database → IfOk (delete_effect checks database delete) (λ effect. AreMeant effect.database)
  pub alters : (database : PlainDatabase) (alter : Alter) → IsKept database → AreMeant database → IsFit (write.Alter alter) → IfOk (alter_effect checks database alter) (λ effect. AreMeant effect.database)
  -- so each statement that writes
  pub all : (database : PlainDatabase) (write : Write) → IsKept database → AreMeant database → IsFit write → IfOk (write_effect database write) (λ effect. AreMeant effect.database)

-- A CHECK's text is read, and judged on each row by what its expression is worth there: never by having no meaning.
pub record HasMeaning (name : List ℕ) (schema : Schema) (check : CheckDef) : Type 0 where
  pub expr : Expr
  pub text_is : text expr ≡ check.text
  pub own : Meaning
  pub own_is : condition (own_scope name schema) expr ≡ Ok own
  pub meaning : Meaning
  pub meaning_is : checks name schema check.text ≡ Some meaning
  pub same : (row : Cells) → meaning row ≡ own row
  pub judged : (row : Cells) → breaks_check (checks name schema check.text) row ≡ is_false (given meaning row)

-- so of each CHECK
pub record ChecksAreMeant : Type 0 where
  pub limits : (database : PlainDatabase) → AreMeant database → list_all has_meant_checks database ≡ true
  pub meanings : (name : List ℕ) (schema : Schema) → IsMeantTable name schema → AllByRecursion (HasMeaning name schema) schema.checks

-- ---- names

pub record NamesAgree : Type 0 where
  -- the scan by which schemas are merged finds just the names of the expression, in their order
  pub scan : (x : Expr) → is_expr x ≡ true → names_in (text x) ≡ names_of x
  -- so ALTER, to which a CHECK names a column where it says nothing without it, and merges have one word for it
  pub needs : (name : List ℕ) (schema : Schema) (place : ℕ) (column : Column) (check : CheckDef) → is_schema schema ≡ true → slice_get schema.columns place ≡ Some column → IsMeantCheck name schema check
      → check_needs checks name (without_column schema place) check ≡ list_any (bytes_eq column.name) (names_in check.text)

-- ---- merges

pub record MergesKeepChecks : Type 0 where
  pub schemas : (name : List ℕ) (base : Option Schema) (ours theirs merged : Schema) → AreSchemas base ours theirs → IsMeantTable name ours → IsMeantTable name theirs
      → schema3 base ours theirs ≡ Ok merged → IsMeantTable name merged
  pub roots : (base ours theirs : PlainDatabase) (merged : MergedDatabase) → IsKept base → IsKept ours → IsKept theirs → AreMeant ours → AreMeant theirs
      → root3 base ours theirs ≡ Ok merged → AreMeant merged.database
  pub recording : (database : PlainDatabase) → AreMeant database → AreMeant (recorded database)
