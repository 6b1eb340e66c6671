-- Nodes whose canonical texts are known, given the texts of their parts.
use Rattle.std.proofs.Common.{◌≡◌, refl, codes, ℕ, List, [], ◌∷◌, true}
use Rattle.std.specs.Fmt.{digits}
use Rattle.sql_ast.specs.declared.expressions.Comparison.TheVariants.{NotEqual, AtMost, Less}
use Rattle.sql_ast.specs.declared.expressions.Expr.TheOpen.{Expr-F}
use Rattle.sql_ast.specs.declared.expressions.Literal.{Literal}
use Rattle.sql_ast.specs.declared.expressions.Literal.TheVariants as literal
use Rattle.sql_ast.specs.declared.expressions.Term.TheVariants.{Plus, Minus}
use Rattle.sql_text.specs.Canon.{step}
use Rattle.sql_text.specs.Values.{byte_string}

abbrev says : Expr-F (List ℕ) → List ℕ
says node = step node

abbrev constant : Literal → List ℕ
constant literal = says (Expr-F.Literal literal)

abbrev named : List ℕ → List ℕ
named name = says (Expr-F.Name name)

limits : says (Expr-F.Between (codes "a") (codes "1") (codes "2")) ≡ codes "((a >= 1) AND (a <= 2))"
limits = refl

no_limits : says (Expr-F.NotBetween (codes "a") (codes "1") (codes "2")) ≡ codes "(NOT ((a >= 1) AND (a <= 2)))"
no_limits = refl

lists : (says (Expr-F.In (codes "a") (codes "1" ∷ codes "2" ∷ [])) ≡ codes "(a IN (1, 2))") × (says (Expr-F.NotIn (codes "a") (codes "1" ∷ codes "2" ∷ [])) ≡ codes "(NOT (a IN (1, 2)))")
lists = (refl, refl)

tests : (says (Expr-F.IsNotNull (codes "a")) ≡ codes "(a IS NOT NULL)") × (says (Expr-F.IsNull (codes "''")) ≡ codes "('' IS NULL)") × (says (Expr-F.Not (codes "a")) ≡ codes "(NOT a)")
tests = (refl, refl, refl)

comparisons : (says (Expr-F.Compare (says (Expr-F.Qualified (codes "t") (codes "n"))) Less (codes "10")) ≡ codes "(t.n < 10)") × (says (Expr-F.Compare (codes "v.id") NotEqual (codes "19")) ≡ codes "(v.id <> 19)")
comparisons = (refl, refl)

chains : (says (Expr-F.And (named (codes "a")) (named (codes "b") ∷ named (codes "c") ∷ [])) ≡ codes "((a AND b) AND c)") × (says (Expr-F.Or (codes "a") (codes "b" ∷ [])) ≡ codes "(a OR b)")
chains = (refl, refl)

-- - y - 3 + z <= 2 * x * x + 1
sums : says (Expr-F.Compare (says (Expr-F.Terms (says (Expr-F.Negate (codes "y"))) ((Minus, codes "3") ∷ (Plus, codes "z") ∷ []))) AtMost
    (says (Expr-F.Terms (says (Expr-F.Factors (codes "2") (codes "x" ∷ codes "x" ∷ []))) ((Plus, codes "1") ∷ []))))
    ≡ codes "((((- y) - 3) + z) <= (((2 * x) * x) + 1))"
sums = refl

calls : (says (Expr-F.Sum (says (Expr-F.Terms (codes "x") ((Plus, codes "1") ∷ [])))) ≡ codes "SUM((x + 1))") × (says (Expr-F.Count (codes "x")) ≡ codes "COUNT(x)") × (says (Expr-F.Min (codes "x")) ≡ codes "MIN(x)")
    × (says (Expr-F.Max (codes "x")) ≡ codes "MAX(x)") × (says Expr-F.CountAll ≡ codes "COUNT(*)") × (says Expr-F.ActiveBranch ≡ codes "active_branch()") × (says (Expr-F.Variable (codes "autocommit")) ≡ codes "@@autocommit")
calls = (refl, refl, refl, refl, refl, refl, refl)

literals : (constant (literal.Whole 9223372036854775808) ≡ codes "9223372036854775808") × (constant (literal.Decimal 8340 2) ≡ codes "83.40") × (constant (literal.Decimal 5 1) ≡ codes "0.5")
    × (constant (literal.Bool true) ≡ codes "TRUE") × (constant literal.Null ≡ codes "NULL") × (constant (literal.Text (codes "back\\'")) ≡ codes "'back\\\\\\''")
    × (constant (literal.Bytes (128 ∷ 92 ∷ [])) ≡ byte_string (128 ∷ 92 ∷ []))
unfolding digits
literals = (refl, refl, refl, refl, refl, refl, refl)
