use Rattle.std.proofs.Common.{◌≡◌, ◌∙◌, ℕ, List, Ok, ap, map, subst, sym}
use Rattle.schema_model.specs.PlainTables.{PlainDatabase, PlainTable}
use Rattle.sql_ast.specs.declared.statements.Assignment.{Assignment}
use Rattle.expr_eval.specs.Binding.{Outcome}
use Rattle.expr_eval.specs.declared.scopes.ScopeColumn.{ScopeColumn}
use Rattle.plain_sql.specs.Gives.{GivesBy}
use Rattle.plain_sql.specs.Lists.{each}
use Rattle.plain_writes.specs.declared.updating.BoundAssignment.{BoundAssignment}
use Rattle.plain_writes.specs.Seen.{effect_seen, named_seen, setting_seen, table_seen}
use Rattle.plain_writes.specs.Steps.{updated_by}
use Rattle.plain_writes.specs.Violations.{Checks, checks_by, own_scope}
use Rattle.plain_writes.specs.Writes.{Effect, bound_assignment}
use Rattle.plain_writes.proofs.EffectLemmas.{once_bound}
use Rattle.plain_writes.proofs.effects.updated.Goals as goal

pub returns : goal.returns
returns g c =
    let checks : Checks = checks_by g.R.Reads.reading in
    let database : PlainDatabase = map named_seen c.args.database.now in
    let table : PlainTable = table_seen c.args.table.now in
    let scoped : c.in_ok-scope.scope ≡ own_scope c.args.update.now.table table.schema =
    c.in_ok-scope.ensures ∙ ap (λ (name : List ℕ). own_scope name table.schema) c.as_slice.ensures in
    let bound : each (bound_assignment table.schema c.in_ok-scope.scope) c.args.update.now.assignments ≡ Ok (map setting_seen c.in_ok-settings.settings) =
    ap (λ (scope : List ScopeColumn). each (bound_assignment table.schema scope) c.args.update.now.assignments) (sym c.as_slice-2.ensures)
    ∙ ap (λ (list : List Assignment). each (bound_assignment table.schema c.as_slice-2.result.now) list) (sym c.as_slice-3.ensures)
    ∙ c.in_ok-settings.ensures.is in
    let same = once_bound checks database c.args.update.now table c.in_ok-scope.scope (map setting_seen c.in_ok-settings.settings) scoped bound in
    let given : GivesBy effect_seen c.updated_by.result (updated_by checks database c.args.update.now table c.in_ok-scope.scope (map setting_seen c.in_ok-settings.settings)) =
    subst (λ (scope : List ScopeColumn). GivesBy effect_seen c.updated_by.result (updated_by checks database c.args.update.now table scope (map setting_seen c.in_ok-settings.settings)))
    c.as_slice-4.ensures
    (subst (λ (list : List BoundAssignment). GivesBy effect_seen c.updated_by.result (updated_by checks database c.args.update.now table c.as_slice-4.result.now (map setting_seen list)))
    c.as_slice-5.ensures c.updated_by.ensures) in
    subst (λ (outcome : Outcome Effect). GivesBy effect_seen c.updated_by.result outcome) (sym same) given
