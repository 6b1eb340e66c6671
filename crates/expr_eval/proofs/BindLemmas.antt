-- What binding answers behind a part: what is bound goes on, and a refusal goes through.
use Rattle.std.proofs.Common.{◌≡◌, ◌∙◌, sym, refl, ap, subst, ℕ, ◌<◌, List, Option, Result, Ok, Err, length, map, get_or, fold}
use Rattle.std.proofs.lemmas.List.Folds.{fold_stays}
use Rattle.sql_ast.specs.declared.expressions.Expr.{Expr}
use Rattle.sql_ast.specs.declared.expressions.Expr.TheVariants.{Name, Qualified}
use Rattle.expr_eval.specs.declared.bound.BoundExpr.{BoundExpr}
use Rattle.expr_eval.specs.declared.faults.BindFault.{BindFault}
use Rattle.expr_eval.specs.declared.faults.BindFault.TheVariants.{Memory, Refused}
use Rattle.expr_eval.specs.declared.scopes.ScopeColumn.{ScopeColumn}
use Rattle.expr_eval.specs.Scopes.{place_named, place_qualified}
use Rattle.expr_eval.specs.Binding.{Gives, Outcome, and_then, bound, bound_column}
use Rattle.expr_eval.proofs.BoundNodes.{bound_of_name, bound_of_qualified}
use Rattle.expr_eval.proofs.FoldLemmas.{so_far, stopped}

pub gives_along : {A : Type 0} (r : Result A BindFault) (o p : Outcome A) → o ≡ p → Gives r p → Gives r o
gives_along r o p e h = subst (λ (y : Outcome _). Gives r y) (sym e) h

pub err_through : {A B : Type 0} (o : Outcome A) (f : A → Outcome B) (e : BindFault) (whole : Outcome B) → whole ≡ and_then o f → Gives {A = A} (Err e) o → Gives {A = B} (Err e) whole
err_through o f Memory whole is h = tt
err_through o f (Refused n) whole is h = is ∙ ap (λ (y : Outcome _). and_then y f) h

pub named : (scope : List ScopeColumn) (expr : Expr) (name given : List ℕ) (place : Option ℕ) (r : Result BoundExpr BindFault)
    → expr ≡ Name name → given ≡ name → place ≡ place_named given scope → Gives r (bound_column scope place) → Gives r (bound scope expr)
named scope expr name given place r is given_is place_is h =
    gives_along r _ _ (ap (λ (y : Expr). bound scope y) is ∙ bound_of_name scope name
    ∙ ap (λ (y : Option ℕ). bound_column scope y) (ap (λ (n : List ℕ). place_named n scope) (sym given_is) ∙ sym place_is)) h

pub qualified : (scope : List ScopeColumn) (expr : Expr) (source name given_source given : List ℕ) (place : Option ℕ) (r : Result BoundExpr BindFault)
    → expr ≡ Qualified source name → given_source ≡ source → given ≡ name → place ≡ place_qualified given_source given scope → Gives r (bound_column scope place) → Gives r (bound scope expr)
qualified scope expr source name given_source given place r is source_is given_is place_is h =
    gives_along r _ _ (ap (λ (y : Expr). bound scope y) is ∙ bound_of_qualified scope source name
    ∙ ap (λ (y : Option ℕ). bound_column scope y) (ap (λ (s : List ℕ). place_qualified s name scope) (sym source_is)
    ∙ ap (λ (n : List ℕ). place_qualified given_source n scope) (sym given_is) ∙ sym place_is)) h

-- an arm that hands its parts on
pub parts_are : {C : Type 0} (h : Outcome BoundExpr → List C → Outcome BoundExpr) (scope : List ScopeColumn) (whole : Outcome BoundExpr) (a got : Expr) (xs given : List C)
    → whole ≡ h (bound scope a) xs → got ≡ a → given ≡ xs → whole ≡ h (bound scope got) given
parts_are h scope whole a got xs given is got_is given_is =
    is ∙ ap (λ (y : Expr). h (bound scope y) xs) (sym got_is) ∙ ap (λ ys. h (bound scope got) ys) (sym given_is)

pub handed : {C : Type 0} (h : Outcome BoundExpr → List C → Outcome BoundExpr) (scope : List ScopeColumn) (whole : Outcome BoundExpr) (a got : Expr) (xs given : List C) (r : Result BoundExpr BindFault)
    → whole ≡ h (bound scope a) xs → got ≡ a → given ≡ xs → Gives r (h (bound scope got) given) → Gives r whole
handed h scope whole a got xs given r is got_is given_is answers = gives_along r _ _ (parts_are h scope whole a got xs given is got_is given_is) answers

-- a chain goes on from its first operand, once that is bound
pub from_first : {A S X : Type 0} (f : Outcome S → A → Outcome S) (o : Outcome X) (g : X → S) (xs : List A)
    → ((n : ℕ) (y : A) → f (Err n) y ≡ Err n) → and_then o (λ x. fold f (Ok (g x)) xs) ≡ fold f (and_then o (λ x. Ok (g x))) xs
from_first f (Ok x) g xs stays = refl
from_first f (Err n) g xs stays = sym (fold_stays f (Err n) (stays n) xs)

-- a refusal from the middle of a chain
pub refused : {A C S : Type 0} (f : Outcome S → A → Outcome S) (g : C → A) (a : Outcome S) (xs : List C) (i : ℕ) (x : C) (b : Outcome S) (e : BindFault)
    → ((n : ℕ) (y : A) → f (Err n) y ≡ Err n) → i < length xs → x ≡ get_or xs i x → so_far f g a xs i ≡ b
    → Gives {A = S} (Err e) (f b (g x)) → Gives {A = S} (Err e) (fold f a (map g xs))
refused f g a xs i x b Memory stays below is before h = tt
refused f g a xs i x b (Refused n) stays below is before h = stopped f g a xs i x b (Err n) (stays n) below is before h
