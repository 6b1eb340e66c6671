-- Each node is written where its parts are.
use Rattle.std.proofs.Common.{◌≡◌, ◌∙◌, sym, ap, refl, ℕ, true, false, Bool, ◌&&◌, List, [], ◌∷◌, map}
use Rattle.std.specs.List.{AllByRecursion}
use Rattle.std.proofs.lemmas.Bool.{and_from, le-leb, leb-true}
use Rattle.std.specs.Prelude.{◌-◌, ◌^◌}
use Rattle.sql_ast.specs.declared.expressions.Comparison.{Comparison}
use Rattle.sql_ast.specs.declared.expressions.Expr.{Expr, fold-roll-Expr, out-Expr, roll-Expr, roll-out-Expr}
use Rattle.sql_ast.specs.declared.expressions.Expr.TheOpen.{Expr-F}
use Rattle.sql_ast.specs.declared.expressions.Expr.TheVariants as e
use Rattle.sql_ast.specs.declared.expressions.Expr.TheVariants.{rolls-Or, rolls-And, rolls-Not, rolls-Compare, rolls-IsNull, rolls-IsNotNull, rolls-In, rolls-NotIn, rolls-Between, rolls-NotBetween, rolls-Terms, rolls-Factors, rolls-Negate, rolls-Literal, rolls-Name, rolls-Qualified, rolls-CountAll, rolls-Count, rolls-Sum, rolls-Min, rolls-Max, rolls-ActiveBranch, rolls-Variable}
use Rattle.sql_ast.specs.declared.expressions.Literal.{Literal}
use Rattle.sql_ast.specs.declared.expressions.Literal.TheVariants as literal
use Rattle.sql_ast.specs.declared.expressions.Term.{Term}
use Rattle.std.proofs.Common.{arith, subst}
use Rattle.sql_laws.specs.Spelling.{operands}
use Rattle.sql_laws.specs.Written.{all_plain, is_literal, is_name, is_written_behind, written_at}

abbrev pub IsWritten : Expr → Type 0
IsWritten x = is_written_behind x false ≡ true

abbrev pub IsWrittenBehind : Bool → Expr → Type 0
IsWrittenBehind minus x = is_written_behind x minus ≡ true

-- from a layer to the expression that it is rolled up to
made : (y : Expr-F Expr) (x : Expr) (minus b : Bool) → roll-Expr y ≡ x → is_written_behind (roll-Expr y) minus ≡ b → b ≡ true → is_written_behind x minus ≡ true
made y x minus b is layer all = ap (λ z. is_written_behind z minus) (sym is) ∙ layer ∙ all

all_written : (xs : List Expr) → AllByRecursion IsWritten xs → all_plain (map is_written_behind xs) ≡ true
all_written [] all = refl
all_written (x ∷ xs) all = and_from (is_written_behind x false) (all_plain (map is_written_behind xs)) all.0 (all_written xs all.1)

terms_written : (xs : List (Term × Expr)) → AllByRecursion (λ (x : Term × Expr). IsWritten x.1) xs → all_plain (operands (map (λ (y : Term × Expr). (y.0, is_written_behind y.1)) xs)) ≡ true
terms_written [] all = refl
terms_written (x ∷ xs) all = and_from (is_written_behind x.1 false) (all_plain (operands (map (λ (y : Term × Expr). (y.0, is_written_behind y.1)) xs))) all.0 (terms_written xs all.1)

pub or_written : (a x : Expr) (xs : List Expr) → IsWritten a → AllByRecursion IsWritten (x ∷ xs) → IsWritten (e.Or a (x ∷ xs))
unfolding is_written_behind
or_written a x xs one all = made (Expr-F.Or a (x ∷ xs)) (e.Or a (x ∷ xs)) false _ (rolls-Or a (x ∷ xs)) (ap (λ (f : Bool → Bool). f false) (fold-roll-Expr (Bool → Bool) written_at (Expr-F.Or a (x ∷ xs)))) (and_from (is_written_behind a false) (all_plain (map is_written_behind (x ∷ xs))) one (all_written (x ∷ xs) all))

pub and_written : (a x : Expr) (xs : List Expr) → IsWritten a → AllByRecursion IsWritten (x ∷ xs) → IsWritten (e.And a (x ∷ xs))
unfolding is_written_behind
and_written a x xs one all = made (Expr-F.And a (x ∷ xs)) (e.And a (x ∷ xs)) false _ (rolls-And a (x ∷ xs)) (ap (λ (f : Bool → Bool). f false) (fold-roll-Expr (Bool → Bool) written_at (Expr-F.And a (x ∷ xs)))) (and_from (is_written_behind a false) (all_plain (map is_written_behind (x ∷ xs))) one (all_written (x ∷ xs) all))

pub factors_written : (a x : Expr) (xs : List Expr) → IsWritten a → AllByRecursion IsWritten (x ∷ xs) → IsWritten (e.Factors a (x ∷ xs))
unfolding is_written_behind
factors_written a x xs one all = made (Expr-F.Factors a (x ∷ xs)) (e.Factors a (x ∷ xs)) false _ (rolls-Factors a (x ∷ xs)) (ap (λ (f : Bool → Bool). f false) (fold-roll-Expr (Bool → Bool) written_at (Expr-F.Factors a (x ∷ xs)))) (and_from (is_written_behind a false) (all_plain (map is_written_behind (x ∷ xs))) one (all_written (x ∷ xs) all))

pub in_written : (a : Expr) (xs : List Expr) → IsWritten a → AllByRecursion IsWritten xs → IsWritten (e.In a xs)
unfolding is_written_behind
in_written a xs one all = made (Expr-F.In a xs) (e.In a xs) false _ (rolls-In a xs) (ap (λ (f : Bool → Bool). f false) (fold-roll-Expr (Bool → Bool) written_at (Expr-F.In a xs))) (and_from (is_written_behind a false) (all_plain (map is_written_behind xs)) one (all_written xs all))

pub not_in_written : (a : Expr) (xs : List Expr) → IsWritten a → AllByRecursion IsWritten xs → IsWritten (e.NotIn a xs)
unfolding is_written_behind
not_in_written a xs one all = made (Expr-F.NotIn a xs) (e.NotIn a xs) false _ (rolls-NotIn a xs) (ap (λ (f : Bool → Bool). f false) (fold-roll-Expr (Bool → Bool) written_at (Expr-F.NotIn a xs))) (and_from (is_written_behind a false) (all_plain (map is_written_behind xs)) one (all_written xs all))

pub terms_are_written : (a : Expr) (x : Term × Expr) (xs : List (Term × Expr)) → IsWritten a → AllByRecursion (λ (y : Term × Expr). IsWritten y.1) (x ∷ xs) → IsWritten (e.Terms a (x ∷ xs))
unfolding is_written_behind
terms_are_written a x xs one all = made (Expr-F.Terms a (x ∷ xs)) (e.Terms a (x ∷ xs)) false _ (rolls-Terms a (x ∷ xs)) (ap (λ (f : Bool → Bool). f false) (fold-roll-Expr (Bool → Bool) written_at (Expr-F.Terms a (x ∷ xs)))) (and_from (is_written_behind a false) (all_plain (operands (map (λ (y : Term × Expr). (y.0, is_written_behind y.1)) (x ∷ xs)))) one (terms_written (x ∷ xs) all))

pub not_written : (a : Expr) → IsWritten a → IsWritten (e.Not a)
unfolding is_written_behind
not_written a one = made (Expr-F.Not a) (e.Not a) false _ (rolls-Not a) (ap (λ (f : Bool → Bool). f false) (fold-roll-Expr (Bool → Bool) written_at (Expr-F.Not a))) one

pub is_null_written : (a : Expr) → IsWritten a → IsWritten (e.IsNull a)
unfolding is_written_behind
is_null_written a one = made (Expr-F.IsNull a) (e.IsNull a) false _ (rolls-IsNull a) (ap (λ (f : Bool → Bool). f false) (fold-roll-Expr (Bool → Bool) written_at (Expr-F.IsNull a))) one

pub is_not_null_written : (a : Expr) → IsWritten a → IsWritten (e.IsNotNull a)
unfolding is_written_behind
is_not_null_written a one = made (Expr-F.IsNotNull a) (e.IsNotNull a) false _ (rolls-IsNotNull a) (ap (λ (f : Bool → Bool). f false) (fold-roll-Expr (Bool → Bool) written_at (Expr-F.IsNotNull a))) one

pub count_written : (a : Expr) → IsWritten a → IsWritten (e.Count a)
unfolding is_written_behind
count_written a one = made (Expr-F.Count a) (e.Count a) false _ (rolls-Count a) (ap (λ (f : Bool → Bool). f false) (fold-roll-Expr (Bool → Bool) written_at (Expr-F.Count a))) one

pub sum_written : (a : Expr) → IsWritten a → IsWritten (e.Sum a)
unfolding is_written_behind
sum_written a one = made (Expr-F.Sum a) (e.Sum a) false _ (rolls-Sum a) (ap (λ (f : Bool → Bool). f false) (fold-roll-Expr (Bool → Bool) written_at (Expr-F.Sum a))) one

pub min_written : (a : Expr) → IsWritten a → IsWritten (e.Min a)
unfolding is_written_behind
min_written a one = made (Expr-F.Min a) (e.Min a) false _ (rolls-Min a) (ap (λ (f : Bool → Bool). f false) (fold-roll-Expr (Bool → Bool) written_at (Expr-F.Min a))) one

pub max_written : (a : Expr) → IsWritten a → IsWritten (e.Max a)
unfolding is_written_behind
max_written a one = made (Expr-F.Max a) (e.Max a) false _ (rolls-Max a) (ap (λ (f : Bool → Bool). f false) (fold-roll-Expr (Bool → Bool) written_at (Expr-F.Max a))) one

pub negate_written : (a : Expr) → IsWrittenBehind true a → IsWritten (e.Negate a)
unfolding is_written_behind
negate_written a one = made (Expr-F.Negate a) (e.Negate a) false _ (rolls-Negate a) (ap (λ (f : Bool → Bool). f false) (fold-roll-Expr (Bool → Bool) written_at (Expr-F.Negate a))) one

pub compare_written : (a : Expr) (o : Comparison) (b : Expr) → IsWritten a → IsWritten b → IsWritten (e.Compare a o b)
unfolding is_written_behind
compare_written a o b one two = made (Expr-F.Compare a o b) (e.Compare a o b) false _ (rolls-Compare a o b) (ap (λ (f : Bool → Bool). f false) (fold-roll-Expr (Bool → Bool) written_at (Expr-F.Compare a o b))) (and_from (is_written_behind a false) (is_written_behind b false) one two)

pub between_written : (a low high : Expr) → IsWritten a → IsWritten low → IsWritten high → IsWritten (e.Between a low high)
unfolding is_written_behind
between_written a low high one two three = made (Expr-F.Between a low high) (e.Between a low high) false _ (rolls-Between a low high) (ap (λ (f : Bool → Bool). f false) (fold-roll-Expr (Bool → Bool) written_at (Expr-F.Between a low high))) (and_from (is_written_behind a false) (is_written_behind low false && is_written_behind high false) one (and_from (is_written_behind low false) (is_written_behind high false) two three))

pub not_between_written : (a low high : Expr) → IsWritten a → IsWritten low → IsWritten high → IsWritten (e.NotBetween a low high)
unfolding is_written_behind
not_between_written a low high one two three = made (Expr-F.NotBetween a low high) (e.NotBetween a low high) false _ (rolls-NotBetween a low high) (ap (λ (f : Bool → Bool). f false) (fold-roll-Expr (Bool → Bool) written_at (Expr-F.NotBetween a low high))) (and_from (is_written_behind a false) (is_written_behind low false && is_written_behind high false) one (and_from (is_written_behind low false) (is_written_behind high false) two three))

pub name_written : (n : List ℕ) → is_name n ≡ true → IsWritten (e.Name n)
unfolding is_written_behind
name_written n is = made (Expr-F.Name n) (e.Name n) false _ (rolls-Name n) (ap (λ (f : Bool → Bool). f false) (fold-roll-Expr (Bool → Bool) written_at (Expr-F.Name n))) is

pub variable_written : (n : List ℕ) → is_name n ≡ true → IsWritten (e.Variable n)
unfolding is_written_behind
variable_written n is = made (Expr-F.Variable n) (e.Variable n) false _ (rolls-Variable n) (ap (λ (f : Bool → Bool). f false) (fold-roll-Expr (Bool → Bool) written_at (Expr-F.Variable n))) is

pub qualified_written : (source n : List ℕ) → is_name source ≡ true → is_name n ≡ true → IsWritten (e.Qualified source n)
unfolding is_written_behind
qualified_written source n one two = made (Expr-F.Qualified source n) (e.Qualified source n) false _ (rolls-Qualified source n) (ap (λ (f : Bool → Bool). f false) (fold-roll-Expr (Bool → Bool) written_at (Expr-F.Qualified source n))) (and_from (is_name source) (is_name n) one two)

pub count_all_written : IsWritten e.CountAll
unfolding is_written_behind
count_all_written = made Expr-F.CountAll e.CountAll false _ rolls-CountAll (ap (λ (f : Bool → Bool). f false) (fold-roll-Expr (Bool → Bool) written_at Expr-F.CountAll)) refl

pub branch_written : IsWritten e.ActiveBranch
unfolding is_written_behind
branch_written = made Expr-F.ActiveBranch e.ActiveBranch false _ rolls-ActiveBranch (ap (λ (f : Bool → Bool). f false) (fold-roll-Expr (Bool → Bool) written_at Expr-F.ActiveBranch)) refl

pub literal_written : (minus : Bool) (x : Literal) → is_literal minus x ≡ true → IsWrittenBehind minus (e.Literal x)
unfolding is_written_behind
literal_written minus x is = made (Expr-F.Literal x) (e.Literal x) minus _ (rolls-Literal x) (ap (λ (f : Bool → Bool). f minus) (fold-roll-Expr (Bool → Bool) written_at (Expr-F.Literal x))) is

-- what is written anywhere is written behind a minus
pub literal_easier : (x : Literal) → is_literal false x ≡ true → (minus : Bool) → is_literal minus x ≡ true
literal_easier (literal.Whole value) is true = let low = leb-true value (2 ^ 63 - 1) is in le-leb value (2 ^ 63) (omega arith)
literal_easier (literal.Whole value) is false = is
literal_easier x is minus = is

layer_easier : (y : Expr-F Expr) → IsWritten (roll-Expr y) → (minus : Bool) → IsWrittenBehind minus (roll-Expr y)
unfolding is_written_behind
layer_easier (Expr-F.Literal x) is minus =
    let layer = fold-roll-Expr (Bool → Bool) written_at (Expr-F.Literal x) in
    ap (λ (f : Bool → Bool). f minus) layer ∙ literal_easier x (sym (ap (λ (f : Bool → Bool). f false) layer) ∙ is) minus
layer_easier y is minus =
    let layer = fold-roll-Expr (Bool → Bool) written_at y in
    ap (λ (f : Bool → Bool). f minus) layer ∙ sym (ap (λ (f : Bool → Bool). f false) layer) ∙ is

pub easier : (x : Expr) → IsWritten x → (minus : Bool) → IsWrittenBehind minus x
easier x = subst (λ y. IsWritten y → (minus : Bool) → IsWrittenBehind minus y) (roll-out-Expr x) (layer_easier (out-Expr x))
