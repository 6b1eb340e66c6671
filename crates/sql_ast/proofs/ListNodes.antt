-- The nodes of an expression that hold a list: how deep they are, and what a fold gives there.
use Rattle.std.proofs.Common.{◌≡◌, ◌∙◌, sym, ap, ◌+◌, ◌<◌, max, List, map, arith}
use Rattle.sql_ast.specs.declared.expressions.Expr.{Expr, size_is-Expr, fold-Expr, fold-roll-Expr}
use Rattle.sql_ast.specs.declared.expressions.Expr.TheOpen.{Expr-F}
use Rattle.sql_ast.specs.declared.expressions.Expr.TheVariants as e
use Rattle.sql_ast.specs.declared.expressions.Expr.TheVariants.{outs-In, outs-NotIn, outs-Or, outs-And, outs-Factors, outs-Terms, rolls-In, rolls-NotIn, rolls-Or, rolls-And, rolls-Factors, rolls-Terms}
use Rattle.sql_ast.specs.declared.expressions.Term.{Term}
use Rattle.sql_ast.proofs.expressions.Expr.TheLaws.{the_size}
use denote.Param.Weighed.{most}

-- the elements of a list are less deep than the node that holds it
pub in_size : (a : Expr) (xs : List Expr) → most the_size xs < the_size (e.In a xs)
in_size a xs =
    let s : the_size (e.In a xs) ≡ max (the_size a) (max (most the_size xs) 0) + 1 = rw (outs-In a xs) at (size_is-Expr (e.In a xs)) in
    omega arith

pub not_in_size : (a : Expr) (xs : List Expr) → most the_size xs < the_size (e.NotIn a xs)
not_in_size a xs =
    let s : the_size (e.NotIn a xs) ≡ max (the_size a) (max (most the_size xs) 0) + 1 = rw (outs-NotIn a xs) at (size_is-Expr (e.NotIn a xs)) in
    omega arith

pub or_size : (a : Expr) (xs : List Expr) → most the_size xs < the_size (e.Or a xs)
or_size a xs =
    let s : the_size (e.Or a xs) ≡ max (the_size a) (max (most the_size xs) 0) + 1 = rw (outs-Or a xs) at (size_is-Expr (e.Or a xs)) in
    omega arith

pub and_size : (a : Expr) (xs : List Expr) → most the_size xs < the_size (e.And a xs)
and_size a xs =
    let s : the_size (e.And a xs) ≡ max (the_size a) (max (most the_size xs) 0) + 1 = rw (outs-And a xs) at (size_is-Expr (e.And a xs)) in
    omega arith

pub factors_size : (a : Expr) (xs : List Expr) → most the_size xs < the_size (e.Factors a xs)
factors_size a xs =
    let s : the_size (e.Factors a xs) ≡ max (the_size a) (max (most the_size xs) 0) + 1 = rw (outs-Factors a xs) at (size_is-Expr (e.Factors a xs)) in
    omega arith

pub terms_size : (a : Expr) (xs : List (Term × Expr)) → most (λ x. max 0 (max (the_size x.1) 0)) xs < the_size (e.Terms a xs)
terms_size a xs =
    let s : the_size (e.Terms a xs) ≡ max (the_size a) (max (most (λ x. max 0 (max (the_size x.1) 0)) xs) 0) + 1 = rw (outs-Terms a xs) at (size_is-Expr (e.Terms a xs)) in
    omega arith

-- a fold at these nodes
pub fold_in : {A : Type 0} (step : Expr-F A → A) (a : Expr) (xs : List Expr)
    → fold-Expr A step (e.In a xs) ≡ step (Expr-F.In (fold-Expr A step a) (map (fold-Expr A step) xs))
fold_in {A = A} step a xs = ap (λ y. fold-Expr A step y) (sym (rolls-In a xs)) ∙ fold-roll-Expr A step (Expr-F.In a xs)

pub fold_not_in : {A : Type 0} (step : Expr-F A → A) (a : Expr) (xs : List Expr)
    → fold-Expr A step (e.NotIn a xs) ≡ step (Expr-F.NotIn (fold-Expr A step a) (map (fold-Expr A step) xs))
fold_not_in {A = A} step a xs = ap (λ y. fold-Expr A step y) (sym (rolls-NotIn a xs)) ∙ fold-roll-Expr A step (Expr-F.NotIn a xs)

pub fold_or : {A : Type 0} (step : Expr-F A → A) (a : Expr) (xs : List Expr)
    → fold-Expr A step (e.Or a xs) ≡ step (Expr-F.Or (fold-Expr A step a) (map (fold-Expr A step) xs))
fold_or {A = A} step a xs = ap (λ y. fold-Expr A step y) (sym (rolls-Or a xs)) ∙ fold-roll-Expr A step (Expr-F.Or a xs)

pub fold_and : {A : Type 0} (step : Expr-F A → A) (a : Expr) (xs : List Expr)
    → fold-Expr A step (e.And a xs) ≡ step (Expr-F.And (fold-Expr A step a) (map (fold-Expr A step) xs))
fold_and {A = A} step a xs = ap (λ y. fold-Expr A step y) (sym (rolls-And a xs)) ∙ fold-roll-Expr A step (Expr-F.And a xs)

pub fold_factors : {A : Type 0} (step : Expr-F A → A) (a : Expr) (xs : List Expr)
    → fold-Expr A step (e.Factors a xs) ≡ step (Expr-F.Factors (fold-Expr A step a) (map (fold-Expr A step) xs))
fold_factors {A = A} step a xs = ap (λ y. fold-Expr A step y) (sym (rolls-Factors a xs)) ∙ fold-roll-Expr A step (Expr-F.Factors a xs)

pub fold_terms : {A : Type 0} (step : Expr-F A → A) (a : Expr) (xs : List (Term × Expr))
    → fold-Expr A step (e.Terms a xs) ≡ step (Expr-F.Terms (fold-Expr A step a) (map (λ x. (x.0, fold-Expr A step x.1)) xs))
fold_terms {A = A} step a xs = ap (λ y. fold-Expr A step y) (sym (rolls-Terms a xs)) ∙ fold-roll-Expr A step (Expr-F.Terms a xs)
