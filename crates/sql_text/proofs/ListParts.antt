-- What the folds over an expression give at a node that holds a list, whichever node it is.
use Rattle.std.proofs.Common.{◌≡◌, ◌∙◌, sym, ap, refl, Bool, false, ◌||◌, ◌<◌, ◌⊎◌, inl, inr, List, [], ◌∷◌, map, max, arith}
use Rattle.std.specs.List.{list_any}
use Rattle.tuple_codec.proofs.Lists.{any_map as list_any-map}
use Rattle.sql_ast.specs.declared.expressions.Expr.{Expr}
use Rattle.sql_ast.specs.declared.expressions.Expr.TheOpen.{Expr-F}
use Rattle.sql_ast.specs.declared.expressions.Expr.TheVariants as e
use Rattle.sql_ast.specs.declared.expressions.Term.{Term}
use Rattle.sql_ast.proofs.expressions.Expr.TheLaws.{the_size}
use Rattle.sql_ast.proofs.ListNodes.{in_size, not_in_size, or_size, and_size, factors_size, fold_in, fold_not_in, fold_or, fold_and, fold_factors, fold_terms}
use Rattle.sql_text.specs.Features.{has, step, shows, parts, any_of, is_aggregate, is_session_word, has_long_name, is_other_variable}
use Rattle.sql_text.specs.Nesting.{greatest, nesting, nested_at}
use Rattle.sql_text.specs.Depths.{chained, depth, depth_at}
use Rattle.sql_text.specs.declared.features.Feature.{Feature}
use Rattle.sql_text.specs.declared.features.Feature.TheVariants as feature
use denote.Param.Weighed.{most}

-- a chain: a first operand and the others
abbrev pub Chained : Expr → Expr → List Expr → Type 0
Chained x a xs = (x ≡ e.Or a xs) ⊎ ((x ≡ e.And a xs) ⊎ (x ≡ e.Factors a xs))

-- a chain, or a value and the list that it is looked for in
abbrev pub Listed : Expr → Expr → List Expr → Type 0
Listed x a xs = (x ≡ e.Or a xs) ⊎ ((x ≡ e.And a xs) ⊎ ((x ≡ e.In a xs) ⊎ ((x ≡ e.NotIn a xs) ⊎ (x ≡ e.Factors a xs))))

pub chained_size : (x a : Expr) (xs : List Expr) → Chained x a xs → most the_size xs < the_size x
chained_size x a xs (inl is) = let node = ap the_size is in let shallow = or_size a xs in omega arith
chained_size x a xs (inr (inl is)) = let node = ap the_size is in let shallow = and_size a xs in omega arith
chained_size x a xs (inr (inr is)) = let node = ap the_size is in let shallow = factors_size a xs in omega arith

pub listed_size : (x a : Expr) (xs : List Expr) → Listed x a xs → most the_size xs < the_size x
listed_size x a xs (inl is) = let node = ap the_size is in let shallow = or_size a xs in omega arith
listed_size x a xs (inr (inl is)) = let node = ap the_size is in let shallow = and_size a xs in omega arith
listed_size x a xs (inr (inr (inl is))) = let node = ap the_size is in let shallow = in_size a xs in omega arith
listed_size x a xs (inr (inr (inr (inl is)))) = let node = ap the_size is in let shallow = not_in_size a xs in omega arith
listed_size x a xs (inr (inr (inr (inr is)))) = let node = ap the_size is in let shallow = factors_size a xs in omega arith

-- the operands of a sum, once each has come to something
pub operands : {A : Type 0} (f : Expr → A) (xs : List (Term × Expr)) → map (λ (y : Term × A). y.1) (map (λ (x : Term × Expr). (x.0, f x.1)) xs) ≡ map (λ x. f x.1) xs
operands f [] = refl
operands f (x ∷ xs) = ap (λ ys. f x.1 ∷ ys) (operands f xs)

-- What an expression shows.

plain : (f : Feature) (node : Expr-F Bool) → is_aggregate node ≡ false → is_session_word node ≡ false → has_long_name node ≡ false → is_other_variable node ≡ false
    → shows f node ≡ false
plain feature.Aggregate node a b c d = a
plain feature.SessionWord node a b c d = b
plain feature.LongName node a b c d = c
plain feature.OtherVariable node a b c d = d

-- a node that shows nothing itself has what one of its parts has
of_parts : (f : Feature) (x : Expr) (node : Expr-F Bool) → has f x ≡ step f node → shows f node ≡ false → has f x ≡ any_of (parts node)
of_parts f x node is none = is ∙ ap (λ (b : Bool). b || any_of (parts node)) none

of_list : (f : Feature) (a : Expr) (xs : List Expr) → any_of (has f a ∷ map (has f) xs) ≡ (has f a || list_any (has f) xs)
of_list f a xs = ap (λ (b : Bool). has f a || b) (list_any-map (λ b. b) (has f) xs)

pub has_listed : (f : Feature) (x a : Expr) (xs : List Expr) → Listed x a xs → has f x ≡ (has f a || list_any (has f) xs)
has_listed f x a xs (inl is) =
    ap (has f) is ∙ of_parts f (e.Or a xs) (Expr-F.Or (has f a) (map (has f) xs)) (fold_or (step f) a xs) (plain f (Expr-F.Or (has f a) (map (has f) xs)) refl refl refl refl) ∙ of_list f a xs
has_listed f x a xs (inr (inl is)) =
    ap (has f) is ∙ of_parts f (e.And a xs) (Expr-F.And (has f a) (map (has f) xs)) (fold_and (step f) a xs) (plain f (Expr-F.And (has f a) (map (has f) xs)) refl refl refl refl) ∙ of_list f a xs
has_listed f x a xs (inr (inr (inl is))) =
    ap (has f) is ∙ of_parts f (e.In a xs) (Expr-F.In (has f a) (map (has f) xs)) (fold_in (step f) a xs) (plain f (Expr-F.In (has f a) (map (has f) xs)) refl refl refl refl) ∙ of_list f a xs
has_listed f x a xs (inr (inr (inr (inl is)))) =
    ap (has f) is ∙ of_parts f (e.NotIn a xs) (Expr-F.NotIn (has f a) (map (has f) xs)) (fold_not_in (step f) a xs) (plain f (Expr-F.NotIn (has f a) (map (has f) xs)) refl refl refl refl) ∙ of_list f a xs
has_listed f x a xs (inr (inr (inr (inr is)))) =
    ap (has f) is ∙ of_parts f (e.Factors a xs) (Expr-F.Factors (has f a) (map (has f) xs)) (fold_factors (step f) a xs) (plain f (Expr-F.Factors (has f a) (map (has f) xs)) refl refl refl refl) ∙ of_list f a xs

pub has_terms : (f : Feature) (a : Expr) (xs : List (Term × Expr)) → has f (e.Terms a xs) ≡ (has f a || list_any (λ x. has f x.1) xs)
has_terms f a xs =
    of_parts f (e.Terms a xs) (Expr-F.Terms (has f a) (map (λ x. (x.0, has f x.1)) xs)) (fold_terms (step f) a xs) (plain f (Expr-F.Terms (has f a) (map (λ x. (x.0, has f x.1)) xs)) refl refl refl refl)
    ∙ ap (λ (bs : List Bool). any_of (has f a ∷ bs)) (operands (has f) xs)
    ∙ ap (λ (b : Bool). has f a || b) (list_any-map (λ b. b) (λ x. has f x.1) xs)

-- where the part before the list has nothing, the list decides
pub rest_decides : (f : Feature) (a x : Expr) (answer rest : Bool) → x ≡ a → answer ≡ has f x → answer ≡ false → rest ≡ (has f a || rest)
rest_decides f a x answer rest lent said none = sym (ap (λ (b : Bool). b || rest) (ap (has f) (sym lent) ∙ sym said ∙ none))

-- How aggregates nest.

pub nesting_listed : (x a : Expr) (xs : List Expr) → Listed x a xs → nesting x ≡ max (nesting a) (greatest (map nesting xs))
nesting_listed x a xs (inl is) = ap nesting is ∙ fold_or nested_at a xs
nesting_listed x a xs (inr (inl is)) = ap nesting is ∙ fold_and nested_at a xs
nesting_listed x a xs (inr (inr (inl is))) = ap nesting is ∙ fold_in nested_at a xs
nesting_listed x a xs (inr (inr (inr (inl is)))) = ap nesting is ∙ fold_not_in nested_at a xs
nesting_listed x a xs (inr (inr (inr (inr is)))) = ap nesting is ∙ fold_factors nested_at a xs

pub nesting_terms : (a : Expr) (xs : List (Term × Expr)) → nesting (e.Terms a xs) ≡ max (nesting a) (greatest (map (λ x. nesting x.1) xs))
nesting_terms a xs = fold_terms nested_at a xs ∙ ap (λ ns. max (nesting a) (greatest ns)) (operands nesting xs)

-- How deep the canonical text goes.

pub depth_chained : (x a : Expr) (xs : List Expr) → Chained x a xs → depth x ≡ chained (depth a) (map depth xs)
depth_chained x a xs (inl is) = ap depth is ∙ fold_or depth_at a xs
depth_chained x a xs (inr (inl is)) = ap depth is ∙ fold_and depth_at a xs
depth_chained x a xs (inr (inr is)) = ap depth is ∙ fold_factors depth_at a xs

pub depth_terms : (a : Expr) (xs : List (Term × Expr)) → depth (e.Terms a xs) ≡ chained (depth a) (map (λ x. depth x.1) xs)
depth_terms a xs = fold_terms depth_at a xs ∙ ap (λ ns. chained (depth a) ns) (operands depth xs)
