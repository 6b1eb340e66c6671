use Rattle.std.proofs.Common.{◌≡◌, ◌∙◌, ap, sym, refl, ℕ, List, Option, Some, None}
use Rattle.std.specs.Prelude.{not, is_some}
use Rattle.std.specs.Option.{option_map}
use Rattle.expr_eval.specs.declared.scopes.ScopeColumn.{ScopeColumn}
use Rattle.plain_sql.specs.Answers.{Meaning}
use Rattle.plain_sql.specs.Plans.{meaning}
use Rattle.plain_writes.specs.Violations.{own_scope, said_of}
use Rattle.plain_schemas.proofs.altering.check_needs.Goals as goal

is_some-map : {A B : Type 0} (f : A → B) (o : Option A) → is_some (option_map f o) ≡ is_some o
is_some-map f None = refl
is_some-map f (Some x) = refl

pub returns : goal.returns
returns g c =
    let without = c.args.without.now in
    let reading = g.R.Reads.reading in
    let said = c.in_ok-found.ensures
    ∙ ap (λ (scope : List ScopeColumn). said_of reading scope c.as_slice-2.result.now) (c.as_slice.ensures ∙ c.in_ok-scope.ensures)
    ∙ ap (λ (text : List ℕ). said_of reading (own_scope c.args.name.now without) text) c.as_slice-2.ensures in
    c.is_nothing.ensures ∙ ap not (sym (is_some-map meaning c.in_ok-found.found) ∙ ap (λ (found : Option Meaning). is_some found) said)
