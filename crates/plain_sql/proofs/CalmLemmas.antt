-- Nodes that are out of range on no row, from their parts.
use Rattle.std.proofs.Common.{◌≡◌, ◌∙◌, ap, refl, ℕ, false, List, [], ◌∷◌, Option, Some, map, fold}
use Rattle.std.specs.List.{All}
use Rattle.std.specs.Option.{option_map}
use Rattle.std.proofs.lemmas.List.Elements.{All-head, All-tail}
use Rattle.sql_ast.specs.declared.expressions.Comparison.{Comparison}
use Rattle.tuple_codec.specs.Rows.{Cells}
use Rattle.tuple_codec.specs.declared.values.Value.{Value}
use Rattle.sql_values.specs.declared.kinds.Kind.{Kind}
use Rattle.sql_values.specs.Worths.{Worth, of_truth}
use Rattle.expr_eval.specs.declared.bound.BoundNode.{BoundNode}
use Rattle.expr_eval.specs.declared.bound.BoundNode.TheVariants as n
use Rattle.expr_eval.specs.Valuing.{Worthy, among, chained, comparison, conjunction, disjunction, matched, one, two, within, worth}
use Rattle.expr_eval.proofs.WorthNodes.{worth_and, worth_between, worth_column, worth_compare, worth_constant, worth_in, worth_is_not_null, worth_is_null, worth_not, worth_or}
use Rattle.plain_sql.specs.Passing.{IsCalm}

-- something is known
abbrev Known : {A : Type 0} → Option A → Type 0
Known {A} o = (x : A) × (o ≡ Some x)

known_by : {A : Type 0} (o p : Option A) → o ≡ p → Known p → Known o
known_by o p e k = (k.0, e ∙ k.1)

-- an operation that is never out of range
one_known : (f : Worth → Worthy) → ((x : Worth) → Known (f x)) → (a : Worthy) → Known a → Known (one f a)
one_known f total a k = known_by (one f a) (f k.0) (ap (one f) k.1) (total k.0)

two_known : {A B C : Type 0} (f : A → B → Option C) → ((x : A) (y : B) → Known (f x y)) → (a : Option A) (b : Option B) → Known a → Known b → Known (two f a b)
two_known f total a b k l = known_by (two f a b) (f k.0 l.0) (ap (λ x. two f x b) k.1 ∙ ap (two f (Some k.0)) l.1) (total k.0 l.0)

fold_known : {B : Type 0} (f : B → Worth → Option B) → ((x : B) (y : Worth) → Known (f x y)) → (row : Cells) (a : Option B) (xs : List BoundNode) → Known a → All IsCalm xs
    → Known (fold (two f) a (map (worth row) xs))
fold_known f total row a [] k calm = k
fold_known f total row a (x ∷ xs) k calm =
    fold_known f total row (two f a (worth row x)) xs (two_known f total a (worth row x) k (All-head IsCalm x xs calm row)) (All-tail IsCalm x xs calm)

pub calm_or : (a : BoundNode) (xs : List BoundNode) → IsCalm a → All IsCalm xs → IsCalm (n.Or a xs)
calm_or a xs first rest = λ row.
    known_by (worth row (n.Or a xs)) (chained disjunction (worth row a) (map (worth row) xs)) (worth_or row a xs)
    (fold_known disjunction (λ x y. (_, refl)) row (worth row a) xs (first row) rest)

pub calm_and : (a : BoundNode) (xs : List BoundNode) → IsCalm a → All IsCalm xs → IsCalm (n.And a xs)
calm_and a xs first rest = λ row.
    known_by (worth row (n.And a xs)) (chained conjunction (worth row a) (map (worth row) xs)) (worth_and row a xs)
    (fold_known conjunction (λ x y. (_, refl)) row (worth row a) xs (first row) rest)

pub calm_not : (a : BoundNode) → IsCalm a → IsCalm (n.Not a)
calm_not a first = λ row. known_by _ _ (worth_not row a) (one_known _ (λ x. (_, refl)) (worth row a) (first row))

pub calm_is_null : (a : BoundNode) → IsCalm a → IsCalm (n.IsNull a)
calm_is_null a first = λ row. known_by _ _ (worth_is_null row a) (one_known _ (λ x. (_, refl)) (worth row a) (first row))

pub calm_is_not_null : (a : BoundNode) → IsCalm a → IsCalm (n.IsNotNull a)
calm_is_not_null a first = λ row. known_by _ _ (worth_is_not_null row a) (one_known _ (λ x. (_, refl)) (worth row a) (first row))

pub calm_compare : (a : BoundNode) (operator : Comparison) (b : BoundNode) → IsCalm a → IsCalm b → IsCalm (n.Compare a operator b)
calm_compare a operator b left right = λ row.
    known_by _ _ (worth_compare row a operator b) (two_known (comparison operator) (λ x y. (_, refl)) (worth row a) (worth row b) (left row) (right row))

among_known : (row : Cells) (x : Worth) (xs : List BoundNode) → All IsCalm xs → Known (among (map (worth row) xs) x)
among_known row x xs rest =
    let k = fold_known (matched x) (λ f y. (_, refl)) row (Some (Some false)) xs (Some false, refl) rest in
    (of_truth k.0, ap (option_map of_truth) k.1)

pub calm_in : (a : BoundNode) (xs : List BoundNode) → IsCalm a → All IsCalm xs → IsCalm (n.In a xs)
calm_in a xs first rest = λ row.
    known_by _ _ (worth_in row a xs) (one_known (among (map (worth row) xs)) (λ x. among_known row x xs rest) (worth row a) (first row))

pub calm_between : (a low high : BoundNode) → IsCalm a → IsCalm low → IsCalm high → IsCalm (n.Between a low high)
calm_between a low high first second third = λ row.
    known_by _ _ (worth_between row a low high)
    (one_known (λ x. two (λ l h. within l h x) (worth row low) (worth row high))
    (λ x. two_known (λ l h. within l h x) (λ l h. (_, refl)) (worth row low) (worth row high) (second row) (third row)) (worth row a) (first row))

pub calm_constant : (kind : Kind) (value : Value) → IsCalm (n.Constant kind value)
calm_constant kind value = λ row. (_, worth_constant row kind value)

pub calm_column : (kind : Kind) (place : ℕ) → IsCalm (n.Column kind place)
calm_column kind place = λ row. (_, worth_column row kind place)
