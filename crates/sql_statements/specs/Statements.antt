-- Statements:
--
--     statement := CREATE TABLE .. | DROP TABLE .. | ALTER TABLE .. | SELECT ..
--       | INSERT INTO name [( names )] VALUES tuple {, tuple}
--       | UPDATE name SET name = expr {, name = expr} [WHERE expr]
--       | DELETE FROM name [WHERE expr]
--       | BEGIN [WORK] | START TRANSACTION | COMMIT [WORK] | ROLLBACK [WORK]
--       | SET [SESSION | @@ | @@SESSION .] name = (0 | 1 | ON | OFF | TRUE | FALSE)
--       | CALL name ( [string {, string}] )
--     tuple := ( (expr | DEFAULT) {, (expr | DEFAULT)} )
use Rattle.std.specs.Prelude.{◌≡◌, ℕ, if◌then◌else◌, List, [], ◌∷◌, length, Option, Some, None, Result, Ok, Err, codes}
use Rattle.sql_ast.specs.declared.signs.Sign.TheVariants as sign
use Rattle.sql_ast.specs.declared.statements.Assignment.{Assignment}
use Rattle.sql_ast.specs.declared.statements.Call.{Call}
use Rattle.sql_ast.specs.declared.statements.Delete.{Delete}
use Rattle.sql_ast.specs.declared.statements.InsertCell.{InsertCell}
use Rattle.sql_ast.specs.declared.statements.InsertCell.TheVariants as entry
use Rattle.sql_ast.specs.declared.statements.Insert.{Insert}
use Rattle.sql_ast.specs.declared.statements.Setting.{Setting}
use Rattle.sql_ast.specs.declared.statements.Statement.{Statement}
use Rattle.sql_ast.specs.declared.statements.Statement.TheVariants as statement
use Rattle.sql_ast.specs.declared.statements.Update.{Update}
use Rattle.sql_ast.specs.declared.statements.Write.TheVariants as write
use Rattle.sql_ast.specs.declared.words.Keyword.TheVariants as word
use Rattle.sql_ast.specs.declared.pieces.Piece.{Piece}
use Rattle.sql_grammar.specs.declared.stops.Stop.{Stop}
use Rattle.sql_grammar.specs.declared.stops.Stop.TheVariants.{Memory, At}
use Rattle.sql_grammar.specs.Expressions.{any}
use Rattle.sql_grammar.specs.Reading.{Outcome, Reader, ◌>>=◌, ◌>>◌, ◌<$>◌, pure, skip, one, sees, eat, eat_keyword, eat_word, expect, expect_keyword, expect_word, name, string, list}
use Rattle.sql_statements.specs.Selects.{filter, selection}
use Rattle.sql_statements.specs.Alters.{alter}
use Rattle.sql_statements.specs.Heads.{opening_of, switch_of, begins_session_point, begins_session}
use Rattle.sql_statements.specs.Tables.{names, create, drop_table}
use Rattle.sql_statements.specs.declared.heads.Opening.{Opening}
use Rattle.sql_statements.specs.declared.heads.Opening.TheVariants as opening

-- ---- rows

unfoldable pub any_entry : Reader InsertCell
any_entry = do
  default ← eat_keyword word.Default
  if default then pure entry.Default else entry.Value <$> any

unfoldable pub tuple : Reader (List InsertCell)
tuple = do
  expect sign.OpenParenthesis
  found ← list any_entry
  expect sign.CloseParenthesis
  pure found

-- [( names )]
unfoldable pub named_columns : Reader (Option (List (List ℕ)))
named_columns = λ ts. if sees sign.OpenParenthesis ts then (Some <$> names) ts else Ok (None, ts)

unfoldable pub insert : Reader Insert
insert = do
  expect_keyword word.Into
  n ← name
  own ← named_columns
  expect_keyword word.Values
  found ← list tuple
  pure (record { table = n; columns = own; tuples = found })

unfoldable pub assignment : Reader Assignment
assignment = do
  n ← name
  expect sign.Equal
  x ← any
  pure (record { column = n; value = x })

unfoldable pub update : Reader Update
update = do
  n ← name
  expect_keyword word.Set
  found ← list assignment
  filtered ← filter
  pure (record { table = n; assignments = found; filter = filtered })

unfoldable pub delete : Reader Delete
delete = do
  expect_keyword word.From
  n ← name
  filtered ← filter
  pure (record { table = n; filter = filtered })

-- ---- settings and calls

unfoldable pub scope_behind : Reader (Unit {0})
scope_behind = λ ts. if begins_session_point ts then (skip >> skip) ts else Ok (tt, ts)

unfoldable pub scope_word : Reader (Unit {0})
scope_word = λ ts. if begins_session ts then skip ts else Ok (tt, ts)

-- [SESSION | @@ | @@SESSION .]
unfoldable pub scope : Reader (Unit {0})
scope = do
  at ← eat sign.AtAt
  if at then scope_behind else scope_word

unfoldable pub setting : Reader Setting
setting = do
  scope
  n ← name
  expect sign.Equal
  on ← one switch_of
  pure (record { variable = n; on = on })

-- behind the opening parenthesis
unfoldable pub arguments : Reader (List (List ℕ))
arguments = do
  none ← eat sign.CloseParenthesis
  if none then pure [] else (do
    found ← list string
    expect sign.CloseParenthesis
    pure found)

unfoldable pub call : Reader Call
call = do
  n ← name
  expect sign.OpenParenthesis
  found ← arguments
  pure (record { name = n; arguments = found })

-- ---- statements

abbrev pub created : Reader Statement
created = (λ x. statement.Write (write.Create x)) <$> create

abbrev pub dropped : Reader Statement
dropped = (λ x. statement.Write (write.Drop x)) <$> drop_table

abbrev pub inserted : Reader Statement
inserted = (λ x. statement.Write (write.Insert x)) <$> insert

abbrev pub updated : Reader Statement
updated = (λ x. statement.Write (write.Update x)) <$> update

abbrev pub deleted : Reader Statement
deleted = (λ x. statement.Write (write.Delete x)) <$> delete

abbrev pub altered : Reader Statement
altered = (λ x. statement.Write (write.Alter x)) <$> alter

abbrev pub selected : Reader Statement
selected = statement.Select <$> selection

abbrev pub set : Reader Statement
set = statement.Set <$> setting

abbrev pub called : Reader Statement
called = statement.Call <$> call

abbrev pub started : Reader Statement
started = expect_word (codes "transaction") >> pure statement.Start

-- [WORK]
abbrev pub with_work : Statement → Reader Statement
with_work x = eat_word (codes "work") >> pure x

abbrev pub statement_by : Opening → Reader Statement
statement_by opening.Create = created
statement_by opening.Drop = dropped
statement_by opening.Insert = inserted
statement_by opening.Update = updated
statement_by opening.Delete = deleted
statement_by opening.Select = selected
statement_by opening.Begin = with_work statement.Begin
statement_by opening.Start = started
statement_by opening.Commit = with_work statement.Commit
statement_by opening.Rollback = with_work statement.Rollback
statement_by opening.Set = set
statement_by opening.Call = called
statement_by opening.Alter = altered

-- behind a statement's first word
unfoldable pub statement_behind : Opening → Reader Statement
statement_behind word = statement_by word

unfoldable pub any_statement : Reader Statement
any_statement = do
  word ← one opening_of
  statement_behind word

-- all pieces have to be read
abbrev pub finished : {A : Type 0} → A → List Piece → Result A ℕ
finished x [] = Ok x
finished x (t ∷ ts) = Err (length (t ∷ ts))

abbrev pub whole_of : Outcome Statement → Result Statement ℕ
whole_of (Ok read) = finished read.0 read.1
whole_of (Err left) = Err left

-- the statement that the pieces are, or how many of them are left where no statement goes on
unfoldable pub statement_of : List Piece → Result Statement ℕ
statement_of ts = whole_of (any_statement ts)

-- what a function that reads a whole statement ensures: the statement, or no memory
abbrev pub ReadsWhole : {A : Type 0} → Result A ℕ → Result A Stop → Type 0
ReadsWhole outcome (Ok x) = outcome ≡ Ok x
ReadsWhole outcome (Err Memory) = Unit {0}
ReadsWhole outcome (Err (At left)) = outcome ≡ Err left
