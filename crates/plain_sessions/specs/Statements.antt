-- What a database statement comes to in a transaction, and what a SELECT without FROM says.
use Rattle.std.specs.Prelude.{ℕ, Bool, if◌then◌else◌, List, [], ◌∷◌, map, Option, None, Some, Ok}
use Rattle.sql_ast.specs.declared.expressions.Expr.{Expr, fold-Expr, roll-Expr}
use Rattle.sql_ast.specs.declared.expressions.Expr.TheOpen.{Expr-F}
use Rattle.sql_ast.specs.declared.expressions.Expr.TheVariants as expr
use Rattle.sql_ast.specs.declared.expressions.Literal.TheVariants as literal
use Rattle.sql_ast.specs.declared.selects.NamedExpr.{NamedExpr}
use Rattle.sql_ast.specs.declared.selects.Select.{Select}
use Rattle.sql_ast.specs.declared.selects.Select.TheVariants as select
use Rattle.sql_ast.specs.declared.statements.Delete.{Delete}
use Rattle.sql_ast.specs.declared.statements.Write.{Write}
use Rattle.sql_ast.specs.declared.statements.Write.TheVariants as write
use Rattle.sql_text.specs.Features.{has}
use Rattle.sql_text.specs.declared.features.Feature.TheVariants as feature
use Rattle.sql_procedures.specs.declared.requests.CommitRequest.{CommitRequest}
use Rattle.schema_model.specs.PlainTables.{PlainDatabase}
use Rattle.expr_eval.specs.Binding.{Outcome, and_then}
use Rattle.plain_sql.specs.Plans.{answer, shown_name}
use Rattle.plain_writes.specs.Writes.{Effect}
use Rattle.plain_sessions.specs.Records.{BranchState}
use Rattle.plain_sessions.specs.Sessions.{Session, Transaction, is_on, own_root}
use Rattle.script_text.specs.declared.replies.Reply.{Reply}
use Rattle.plain_sessions.specs.Replies.{counted, done, one_row, shown, shown_or_refused}
use Rattle.plain_sessions.specs.declared.commands.Work.{Work}
use Rattle.plain_sessions.specs.declared.commands.Work.TheVariants.{Ask, Change, Add, ResetTo, Commit, Merge, Resolve, Verify}
use Rattle.plain_schemas.specs.Statements.{write_effect}
use Rattle.plain_sessions.specs.Branching.{add, reset_to, status, to_commit}
use Rattle.plain_sessions.specs.Merging.{Worked, Answers, Closes, Committing, merge, resolve, verify}
use Rattle.plain_sessions.specs.SystemTables.{delete_entries, known}

-- ---- CREATE, DROP, ALTER, INSERT, UPDATE, DELETE

abbrev pub counted_or_done : Option ℕ → Reply
counted_or_done (Some rows) = counted rows
counted_or_done None = done

-- the working database becomes the effect's
abbrev pub written_by : BranchState → Effect → Worked
written_by own effect = Answers (counted_or_done effect.count) (record own { working = effect.database })

abbrev pub changed : BranchState → Outcome Effect → Outcome Worked
changed own effect = and_then effect (λ made. Ok (written_by own made))

-- a DELETE of entries, or of a table's rows
abbrev pub or_of_rows : BranchState → Delete → Option (Outcome Worked) → Outcome Worked
or_of_rows own delete (Some entries) = entries
or_of_rows own delete None = changed own (write_effect own.working (write.Delete delete))

abbrev pub write_worked : BranchState → Write → Outcome Worked
write_worked own (write.Delete delete) = or_of_rows own delete (delete_entries own delete)
write_worked own other = changed own (write_effect own.working other)

-- ---- a database statement

-- a SELECT reads the working tables and the system tables
abbrev pub asked : Transaction → Select → Outcome Worked
asked t one = and_then (answer (known t) one) (λ answer. Ok (Answers (shown answer) t.own))

abbrev pub staged : Outcome BranchState → Outcome Worked
staged own = and_then own (λ made. Ok (Answers (one_row (status ∷ [])) made))

abbrev pub commit_worked : Transaction → CommitRequest → Outcome Worked
commit_worked t request = and_then (to_commit (own_root t) request t.own) (λ own. Ok (Closes (Committing own request.message)))

abbrev pub resolve_worked : BranchState → Outcome PlainDatabase → Outcome Worked
resolve_worked own database = and_then database (λ working. Ok (Answers (one_row (status ∷ [])) (record own { working = working })))

-- what it comes to in this transaction of the session, or its first refusal
unfoldable pub worked : Session → Transaction → Work → Outcome Worked
worked session t (Ask one) = asked t one
worked session t (Change write) = write_worked t.own write
worked session t (Add tables) = staged (add tables t.own)
worked session t (ResetTo reset) = staged (reset_to (own_root t) reset t.own)
worked session t (Commit request) = commit_worked t request
worked session t (Merge request) = merge session t request
worked session t (Resolve request) = resolve_worked t.own (resolve request t.own.working)
worked session t (Verify way) = Ok (verify way t.own)

-- ---- SELECT without FROM

abbrev pub number_of : Bool → ℕ
number_of on = if on then 1 else 0

-- a variable is 0 or 1, and active_branch() the session's branch
abbrev pub with_value : Session → Expr-F Expr → Expr
with_value session (Expr-F.Variable name) = expr.Literal (literal.Whole (number_of (is_on session.variables name)))
with_value session Expr-F.ActiveBranch = expr.Literal (literal.Text session.branch)
with_value session node = roll-Expr node

abbrev pub with_values : Session → Expr → Expr
with_values session whole = fold-Expr Expr (with_value session) whole

-- an item that asks for such a value keeps the name that it shows
abbrev pub item_with_values : Session → NamedExpr → NamedExpr
item_with_values session named =
    if has feature.SessionWord named.expr then record { expr = with_values session named.expr; name = Some (shown_name named.name named.expr) } else named

abbrev pub select_with_values : Session → Select → Select
select_with_values session (select.Alone list) = select.Alone (map (item_with_values session) list)
select_with_values session (select.From query) = select.From query

unfoldable pub said : Session → Select → Reply
said session one = shown_or_refused (answer [] (select_with_values session one))
