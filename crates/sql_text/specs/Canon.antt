-- The canonical text of an expression: what a node says, given what its parts say.
use Rattle.std.specs.Prelude.{ℕ, zero, suc, length, Bool, true, false, List, [], ◌∷◌, ◌++◌, codes}
use Rattle.std.specs.Fmt.{decimal}
use Rattle.sql_ast.specs.declared.expressions.Comparison.{Comparison}
use Rattle.sql_ast.specs.declared.expressions.Comparison.TheVariants.{Equal, NotEqual, Less, AtMost, Greater, AtLeast}
use Rattle.sql_ast.specs.declared.expressions.Expr.{Expr, fold-Expr}
use Rattle.sql_ast.specs.declared.expressions.Expr.TheOpen.{Expr-F}
use Rattle.sql_ast.specs.declared.expressions.Literal.{Literal}
use Rattle.sql_ast.specs.declared.expressions.Literal.TheVariants as literal
use Rattle.sql_ast.specs.declared.expressions.Term.{Term}
use Rattle.sql_ast.specs.declared.expressions.Term.TheVariants.{Plus, Minus}
use Rattle.sql_text.specs.Values.{byte_string, quoted, scaled}

abbrev pub truth_word : Bool → List ℕ
truth_word true = codes "TRUE"
truth_word false = codes "FALSE"

abbrev pub literal_text : Literal → List ℕ
literal_text (literal.Whole number) = decimal number
literal_text (literal.Decimal number scale) = scaled scale number
literal_text (literal.Text text) = quoted text
literal_text (literal.Bytes bytes) = byte_string bytes
literal_text (literal.Bool bit) = truth_word bit
literal_text literal.Null = codes "NULL"

abbrev pub comparison_word : Comparison → List ℕ
comparison_word Equal = codes " = "
comparison_word NotEqual = codes " <> "
comparison_word Less = codes " < "
comparison_word AtMost = codes " <= "
comparison_word Greater = codes " > "
comparison_word AtLeast = codes " >= "

-- what an operand of a sum stands behind
abbrev pub term_word : Term → List ℕ
term_word Plus = codes " + "
term_word Minus = codes " - "

-- what stands before the parts of an operation that is no chain
abbrev pub front : {A : Type 0} → Expr-F A → List ℕ
front (Expr-F.Not a) = codes "(NOT "
front (Expr-F.NotIn a list) = codes "(NOT ("
front (Expr-F.Between a low high) = codes "(("
front (Expr-F.NotBetween a low high) = codes "(NOT (("
front (Expr-F.Negate a) = codes "(- "
front (Expr-F.Count a) = codes "COUNT("
front (Expr-F.Sum a) = codes "SUM("
front (Expr-F.Min a) = codes "MIN("
front (Expr-F.Max a) = codes "MAX("
front node = codes "("

-- what stands behind them
abbrev pub back : {A : Type 0} → Expr-F A → List ℕ
back (Expr-F.IsNull a) = codes " IS NULL)"
back (Expr-F.IsNotNull a) = codes " IS NOT NULL)"
back (Expr-F.In a list) = codes "))"
back (Expr-F.NotIn a list) = codes ")))"
back (Expr-F.Between a low high) = codes "))"
back (Expr-F.NotBetween a low high) = codes ")))"
back node = codes ")"

abbrev pub around : Expr-F (List ℕ) → List ℕ → List ℕ
around node inside = front node ++ inside ++ back node

-- elements with a comma between them; `before` stands before the first
abbrev pub listed : List ℕ → List (List ℕ) → List ℕ
listed before [] = []
listed before (text ∷ texts) = before ++ text ++ listed (codes ", ") texts

abbrev pub contained : List ℕ → List (List ℕ) → List ℕ
contained a texts = a ++ codes " IN (" ++ listed [] texts

abbrev pub ranged : List ℕ → List ℕ → List ℕ → List ℕ
ranged a low high = a ++ codes " >= " ++ low ++ codes ") AND (" ++ a ++ codes " <= " ++ high

-- Chains, grouped from the left: each operand but the first has a parenthesis before them all, and closes one.

abbrev pub operator : {A : Type 0} → Expr-F A → List ℕ
operator (Expr-F.Or a list) = codes " OR "
operator (Expr-F.And a list) = codes " AND "
operator (Expr-F.Factors a list) = codes " * "
operator node = []

-- `(` as many times
abbrev pub opened : ℕ → List ℕ
opened zero = []
opened (suc n) = codes "(" ++ opened n

abbrev pub operands : List ℕ → List (List ℕ) → List ℕ
operands word [] = []
operands word (text ∷ texts) = word ++ text ++ codes ")" ++ operands word texts

abbrev pub chain : List ℕ → List ℕ → List (List ℕ) → List ℕ
chain word a texts = opened (length texts) ++ a ++ operands word texts

abbrev pub addends : List (Term × List ℕ) → List ℕ
addends [] = []
addends (term ∷ terms) = term_word term.0 ++ term.1 ++ codes ")" ++ addends terms

abbrev pub sum_text : List ℕ → List (Term × List ℕ) → List ℕ
sum_text a terms = opened (length terms) ++ a ++ addends terms

abbrev pub step : Expr-F (List ℕ) → List ℕ
step (Expr-F.Or a texts) = chain (codes " OR ") a texts
step (Expr-F.And a texts) = chain (codes " AND ") a texts
step (Expr-F.Not a) = around (Expr-F.Not a) a
step (Expr-F.Compare a op b) = codes "(" ++ a ++ comparison_word op ++ b ++ codes ")"
step (Expr-F.IsNull a) = around (Expr-F.IsNull a) a
step (Expr-F.IsNotNull a) = around (Expr-F.IsNotNull a) a
step (Expr-F.In a texts) = around (Expr-F.In a texts) (contained a texts)
step (Expr-F.NotIn a texts) = around (Expr-F.NotIn a texts) (contained a texts)
step (Expr-F.Between a low high) = around (Expr-F.Between a low high) (ranged a low high)
step (Expr-F.NotBetween a low high) = around (Expr-F.NotBetween a low high) (ranged a low high)
step (Expr-F.Terms a terms) = sum_text a terms
step (Expr-F.Factors a texts) = chain (codes " * ") a texts
step (Expr-F.Negate a) = around (Expr-F.Negate a) a
step (Expr-F.Literal literal) = literal_text literal
step (Expr-F.Name name) = name
step (Expr-F.Qualified source name) = source ++ codes "." ++ name
step Expr-F.CountAll = codes "COUNT(*)"
step (Expr-F.Count a) = around (Expr-F.Count a) a
step (Expr-F.Sum a) = around (Expr-F.Sum a) a
step (Expr-F.Min a) = around (Expr-F.Min a) a
step (Expr-F.Max a) = around (Expr-F.Max a) a
step Expr-F.ActiveBranch = codes "active_" ++ codes "branch()"
step (Expr-F.Variable name) = codes "@@" ++ name

abbrev pub text : Expr → List ℕ
text expr = fold-Expr (List ℕ) step expr
