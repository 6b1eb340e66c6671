use Rattle.std.proofs.Common.{◌≡◌, ◌∙◌, IfOk, List, Option, ap, subst, ℕ}
use Rattle.std.specs.List.{list_any}
use Rattle.expr_eval.specs.declared.scopes.ScopeColumn.{ScopeColumn}
use Rattle.plain_sql.specs.Answers.{Meaning}
use Rattle.plain_writes.specs.Violations.{breaks_check, own_scope, said_of}
use Rattle.sql_grammar.specs.Checking.{canonical_expression}
use Rattle.constraint_scan.proofs.changing.has_failed_by.Goals as goal

pub returns : goal.returns
returns c =
    let said = c.in_ok-said.ensures
    ∙ ap (λ (scope : List ScopeColumn). said_of canonical_expression scope c.as_slice-2.result.now) (c.as_slice.ensures ∙ c.in_ok-scope.ensures)
    ∙ ap (λ (text : List ℕ). said_of canonical_expression (own_scope c.args.name.now c.args.schema.now) text) c.as_slice-2.ensures in
    subst (λ (meaning : Option Meaning). IfOk c.has_failed.result (λ found. found ≡ list_any (breaks_check meaning) c.args.rows.now)) said c.has_failed.ensures
