use Rattle.std.proofs.Common.{◌≡◌, ◌∙◌, ap, subst, ℕ, List, map, Option}
use Rattle.std.specs.Prelude.{IfOk}
use Rattle.schema_model.specs.PlainTables.{Violation}
use Rattle.expr_eval.specs.declared.scopes.ScopeColumn.{ScopeColumn}
use Rattle.plain_sql.specs.Answers.{Meaning}
use Rattle.plain_writes.specs.Seen.{broken_seen}
use Rattle.plain_writes.specs.Violations.{breaks_check, broken, own_scope, said_of}
use Rattle.plain_writes.proofs.violating.of_check.Goals as goal

pub returns : goal.returns
returns g c =
    let schema = c.args.schema.now in
    let check = c.args.check.now in
    let reading = g.R.Reads.reading in
    let said = c.in_ok-said.ensures
    ∙ ap (λ (scope : List ScopeColumn). said_of reading scope c.as_slice-2.result.now) (c.as_slice.ensures ∙ c.in_ok-scope.ensures)
    ∙ ap (λ (text : List ℕ). said_of reading (own_scope c.args.name.now schema) text) c.as_slice-2.ensures in
    subst (λ (found : List Violation). IfOk c.broken_by.result (λ them. map broken_seen them ≡ found))
    (ap (λ (meaning : Option Meaning). broken schema c.args.rows.now 3 check.name (breaks_check meaning)) said) c.broken_by.ensures
