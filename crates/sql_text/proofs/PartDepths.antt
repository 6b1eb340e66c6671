-- The parts of a node are less deep than the node.
use Rattle.std.proofs.Common.{◌≡◌, ap, ℕ, ◌+◌, ◌<◌, ◌⊎◌, inl, inr, List, max, arith}
use Rattle.sql_ast.specs.declared.expressions.Expr.{Expr, size_is-Expr}
use Rattle.sql_ast.specs.declared.expressions.Expr.TheVariants as e
use Rattle.sql_ast.specs.declared.expressions.Expr.TheVariants.{outs-And, outs-Between, outs-Factors, outs-In, outs-NotBetween, outs-NotIn, outs-Or}
use Rattle.sql_ast.proofs.expressions.Expr.TheLaws.{the_size}
use denote.Param.Weighed.{most}

-- the deepest of a first part and of those in a list
abbrev pub deepest : Expr → List Expr → ℕ
deepest a xs = max (the_size a) (most the_size xs)

or_deep : (a : Expr) (xs : List Expr) → deepest a xs < the_size (e.Or a xs)
or_deep a xs =
    let s : the_size (e.Or a xs) ≡ max (the_size a) (max (most the_size xs) 0) + 1 = rw (outs-Or a xs) at (size_is-Expr (e.Or a xs)) in omega arith

and_deep : (a : Expr) (xs : List Expr) → deepest a xs < the_size (e.And a xs)
and_deep a xs =
    let s : the_size (e.And a xs) ≡ max (the_size a) (max (most the_size xs) 0) + 1 = rw (outs-And a xs) at (size_is-Expr (e.And a xs)) in omega arith

factors_deep : (a : Expr) (xs : List Expr) → deepest a xs < the_size (e.Factors a xs)
factors_deep a xs =
    let s : the_size (e.Factors a xs) ≡ max (the_size a) (max (most the_size xs) 0) + 1 = rw (outs-Factors a xs) at (size_is-Expr (e.Factors a xs)) in omega arith

in_deep : (a : Expr) (xs : List Expr) → deepest a xs < the_size (e.In a xs)
in_deep a xs =
    let s : the_size (e.In a xs) ≡ max (the_size a) (max (most the_size xs) 0) + 1 = rw (outs-In a xs) at (size_is-Expr (e.In a xs)) in omega arith

not_in_deep : (a : Expr) (xs : List Expr) → deepest a xs < the_size (e.NotIn a xs)
not_in_deep a xs =
    let s : the_size (e.NotIn a xs) ≡ max (the_size a) (max (most the_size xs) 0) + 1 = rw (outs-NotIn a xs) at (size_is-Expr (e.NotIn a xs)) in omega arith

pub chain_deep : (x a : Expr) (xs : List Expr) → (x ≡ e.Or a xs) ⊎ ((x ≡ e.And a xs) ⊎ (x ≡ e.Factors a xs)) → deepest a xs < the_size x
chain_deep x a xs (inl is) = let node = ap the_size is in let shallow = or_deep a xs in omega arith
chain_deep x a xs (inr (inl is)) = let node = ap the_size is in let shallow = and_deep a xs in omega arith
chain_deep x a xs (inr (inr is)) = let node = ap the_size is in let shallow = factors_deep a xs in omega arith

pub contained_deep : (x a : Expr) (xs : List Expr) → (x ≡ e.In a xs) ⊎ (x ≡ e.NotIn a xs) → deepest a xs < the_size x
contained_deep x a xs (inl is) = let node = ap the_size is in let shallow = in_deep a xs in omega arith
contained_deep x a xs (inr is) = let node = ap the_size is in let shallow = not_in_deep a xs in omega arith

between_deep : (a low high : Expr) → max (the_size a) (max (the_size low) (the_size high)) < the_size (e.Between a low high)
between_deep a low high =
    let s : the_size (e.Between a low high) ≡ max (the_size a) (max (the_size low) (max (the_size high) 0)) + 1 = rw (outs-Between a low high) at (size_is-Expr (e.Between a low high)) in
    omega arith

not_between_deep : (a low high : Expr) → max (the_size a) (max (the_size low) (the_size high)) < the_size (e.NotBetween a low high)
not_between_deep a low high =
    let s : the_size (e.NotBetween a low high) ≡ max (the_size a) (max (the_size low) (max (the_size high) 0)) + 1 = rw (outs-NotBetween a low high) at (size_is-Expr (e.NotBetween a low high)) in
    omega arith

pub ranged_deep : (x a low high : Expr) → (x ≡ e.Between a low high) ⊎ (x ≡ e.NotBetween a low high) → max (the_size a) (max (the_size low) (the_size high)) < the_size x
ranged_deep x a low high (inl is) = let node = ap the_size is in let shallow = between_deep a low high in omega arith
ranged_deep x a low high (inr is) = let node = ap the_size is in let shallow = not_between_deep a low high in omega arith
