-- What the CHECKs of a table say: of databases, of states, and of all that is shared.
use Rattle.std.specs.Prelude.{◌≡◌, ℕ, Bool, true, false, List, Option, None, Ok, Err, Some}
use Rattle.std.specs.List.{AllByRecursion}
use Rattle.schema_model.specs.PlainCommits.{Commits, PlainCommit}
use Rattle.schema_model.specs.PlainTables.{PlainDatabase}
use Rattle.schema_model.specs.declared.schemas.CheckDef.{CheckDef}
use Rattle.schema_model.specs.declared.schemas.Schema.{Schema}
use Rattle.sql_ast.specs.declared.expressions.Expr.{Expr}
use Rattle.sql_text.specs.Depths.{is_deep}
use Rattle.sql_text.specs.Canon.{text}
use Rattle.sql_values.specs.Kinds.{is_bool}
use Rattle.sql_laws.specs.Sound.{is_expr}
use Rattle.expr_eval.specs.Binding.{Outcome, bound}
use Rattle.expr_eval.specs.declared.bound.BoundExpr.{BoundExpr}
use Rattle.plain_sessions.specs.Merging.{Ending, Committing, Forwarding, Joining, Worked, Answers, Closes}
use Rattle.plain_sessions.specs.Moments.{Change}
use Rattle.plain_sessions.specs.Records.{BranchState, Shared}
use Rattle.plain_sessions.specs.Sessions.{Transaction}
use Rattle.plain_writes.specs.Violations.{own_scope}

-- ---- databases

-- bound to a truth value
abbrev pub is_condition : Outcome BoundExpr → Bool
is_condition (Ok b) = is_bool b.kind
is_condition (Err number) = false

-- A CHECK is the canonical text of an expression that a text can give, and this is a truth value over the table's columns.
pub record IsMeantCheck (name : List ℕ) (schema : Schema) (check : CheckDef) : Type 0 where
  pub expr : Expr
  pub sound : is_expr expr ≡ true
  pub shallow : is_deep expr ≡ false
  pub text_is : text expr ≡ check.text
  pub binds : is_condition (bound (own_scope name schema) expr) ≡ true

-- each CHECK of a table of this name
abbrev pub IsMeantTable : List ℕ → Schema → Type 0
IsMeantTable name schema = AllByRecursion (IsMeantCheck name schema) schema.checks

abbrev pub AreMeant : PlainDatabase → Type 0
AreMeant database = AllByRecursion (λ named. IsMeantTable named.name named.table.schema) database

-- ---- states

-- of both databases
pub record IsMeantState (state : BranchState) : Type 0 where
  pub working : AreMeant state.working
  pub staged : AreMeant state.staged

abbrev pub AreMeantCommits : Commits → Type 0
AreMeantCommits commits = (k : List ℕ) (commit : PlainCommit) → commits k ≡ Some commit → AreMeant commit.database

-- of all that a transaction sees
pub record IsMeantTransaction (t : Transaction) : Type 0 where
  pub start : IsMeantState t.start
  pub own : IsMeantState t.own
  pub commits : AreMeantCommits t.commits

pub record IsMeantShared (shared : Shared) : Type 0 where
  pub branches : AllByRecursion (λ branch. IsMeantState branch.state) shared.branches
  pub commits : AreMeantCommits shared.commits

-- ---- what a statement comes to, and what a decision makes

-- what a closing call's decision is on; a commit that is forwarded to is among the transaction's
abbrev pub IsMeantEnding : Ending → Type 0
IsMeantEnding (Committing own message) = IsMeantState own
IsMeantEnding (Forwarding other) = Unit {0}
IsMeantEnding (Joining database other message) = AreMeant database

abbrev pub IsMeantWork : Worked → Type 0
IsMeantWork (Answers reply own) = IsMeantState own
IsMeantWork (Closes ending) = IsMeantEnding ending

-- of the commit that is made, if there is one
abbrev pub IfMade : (PlainCommit → Type 0) → Option PlainCommit → Type 0
IfMade P None = Unit {0}
IfMade P (Some commit) = P commit

pub record IsMeantChange (change : Change) : Type 0 where
  pub becomes : IsMeantState change.becomes
  pub made : IfMade (λ commit. AreMeant commit.database) change.made
