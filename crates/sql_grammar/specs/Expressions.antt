-- Expressions:
--
--     expr := OR of AND of [NOT] of comparison
--     comparison := sum [op sum | IS [NOT] NULL | [NOT] IN ( expr {, expr} ) | [NOT] BETWEEN sum AND sum]
--     sum := product {(+ | -) product}    product := unary {* unary}    unary := [-] atom
--     atom := literal | name | name . name | ( expr ) | COUNT(*) | COUNT(expr) | SUM(expr) | MIN(expr) | MAX(expr)
--           | active_branch() | @@ name
--
-- Operands of one rank stand in one list, behind the first.
use Rattle.std.specs.Prelude.{ℕ, zero, suc, if◌then◌else◌, ◌+◌, List, [], ◌∷◌, Option, Some, None}
use Rattle.sql_ast.specs.Limits.{most_open}
use Rattle.sql_ast.specs.declared.expressions.Expr.{Expr}
use Rattle.sql_ast.specs.declared.expressions.Expr.TheVariants as e
use Rattle.sql_ast.specs.declared.expressions.Literal.{Literal}
use Rattle.sql_ast.specs.declared.expressions.Term.{Term}
use Rattle.sql_ast.specs.declared.signs.Sign.TheVariants as sign
use Rattle.sql_ast.specs.declared.words.Keyword.TheVariants as word
use Rattle.sql_grammar.specs.declared.heads.Test.{Test}
use Rattle.sql_grammar.specs.declared.heads.Test.TheVariants as test
use Rattle.sql_grammar.specs.declared.heads.Function.{Function}
use Rattle.sql_grammar.specs.declared.heads.Function.TheVariants as function
use Rattle.sql_ast.specs.declared.pieces.Piece.{Piece}
use Rattle.sql_grammar.specs.Pieces.{test_of, term_of, function_of, literal_of, is_sign}
use Rattle.sql_grammar.specs.Reading.{Reader, ◌>>=◌, ◌>>◌, ◌<$>◌, pure, stop, skip, seen, eat, eat_keyword, expect, expect_keyword, name, behind, chain, list}

-- name | name . name
unfoldable pub column : Reader Expr
column = do
  first ← name
  qualified ← eat sign.Point
  if qualified then e.Qualified first <$> name else pure (e.Name first)

-- behind `active_branch (`
unfoldable pub branch : Reader Expr
branch = do
  expect sign.CloseParenthesis
  pure e.ActiveBranch

-- behind IS
unfoldable pub null_test : Expr → Reader Expr
null_test left = do
  negated ← eat_keyword word.Not
  expect_keyword word.Null
  pure (if negated then e.IsNotNull left else e.IsNull left)

-- a function is called where its word stands before a parenthesis
abbrev pub called_by : Piece → List Piece → Option Function
called_by t [] = None
called_by t (u ∷ ts) = if is_sign sign.OpenParenthesis u then function_of t else None

unfoldable pub called : List Piece → Option Function
called [] = None
called (t ∷ ts) = called_by t ts

unfoldable pub test_ahead : List Piece → Test
test_ahead [] = test.Absent
test_ahead (t ∷ ts) = test_of t

unfoldable pub term_ahead : List Piece → Option Term
term_ahead = seen term_of

unfoldable pub literal_ahead : List Piece → Option Literal
literal_ahead = seen literal_of

-- operands of one rank: the node of a chain, where others follow the first
abbrev pub chained : {A : Type 0} → (Expr → List A → Expr) → Expr → List A → Expr
chained node first [] = first
chained node first (x ∷ xs) = node first (x ∷ xs)

abbrev pub between : Expr → Expr × Expr → Expr
between left ends = e.Between left ends.0 ends.1

abbrev pub not_between : Expr → Expr × Expr → Expr
not_between left ends = e.NotBetween left ends.0 ends.1

-- What stands in parentheses is read by `inner`.
module _ (inner : Reader Expr) where
  -- behind an opening parenthesis
  unfoldable pub enclosed : Reader Expr
  enclosed = do
    x ← inner
    expect sign.CloseParenthesis
    pure x

  -- behind `COUNT (`
  unfoldable pub count : Reader Expr
  count = do
    all ← eat sign.Star
    if all then expect sign.CloseParenthesis >> pure e.CountAll else e.Count <$> enclosed

  abbrev pub call_of : Function → Reader Expr
  call_of function.Count = count
  call_of function.Sum = e.Sum <$> enclosed
  call_of function.Min = e.Min <$> enclosed
  call_of function.Max = e.Max <$> enclosed
  call_of function.ActiveBranch = branch

  unfoldable pub call : Function → Reader Expr
  call f = skip >> skip >> call_of f

  -- an atom that is neither a literal nor a call
  unfoldable pub other_atom : Reader Expr
  other_atom = do
    open_ ← eat sign.OpenParenthesis
    if open_ then enclosed else (do
      at ← eat sign.AtAt
      if at then e.Variable <$> name else column)

  abbrev pub literal_or_other : Option Literal → Reader Expr
  literal_or_other (Some x) = skip >> pure (e.Literal x)
  literal_or_other None = other_atom

  unfoldable pub plain_atom : Reader Expr
  plain_atom = λ ts. literal_or_other (literal_ahead ts) ts

  abbrev pub atom_by : Option Function → Reader Expr
  atom_by (Some f) = call f
  atom_by None = plain_atom

  unfoldable pub atom : Reader Expr
  atom = λ ts. atom_by (called ts) ts

  unfoldable pub unary : Reader Expr
  unary = do
    minus ← eat sign.Minus
    if minus then e.Negate <$> atom else atom

  abbrev pub factor : Reader (Option Expr)
  factor = behind (eat sign.Star) unary

  unfoldable pub product : Reader Expr
  product = do
    first ← unary
    rest ← chain factor
    pure (chained e.Factors first rest)

  abbrev pub term_by : Option Term → Reader (Option (Term × Expr))
  term_by (Some sign) = skip >> (λ x. Some (sign, x)) <$> product
  term_by None = pure None

  unfoldable pub term : Reader (Option (Term × Expr))
  term = λ ts. term_by (term_ahead ts) ts

  unfoldable pub sum : Reader Expr
  sum = do
    first ← product
    rest ← chain term
    pure (chained e.Terms first rest)

  -- behind IN
  unfoldable pub listed : Reader (List Expr)
  listed = do
    expect sign.OpenParenthesis
    items ← list inner
    expect sign.CloseParenthesis
    pure items

  -- behind BETWEEN
  unfoldable pub limits : Reader (Expr × Expr)
  limits = do
    low ← sum
    expect_keyword word.And
    high ← sum
    pure (low, high)

  -- behind NOT
  abbrev pub negated_by : Expr → Test → Reader Expr
  negated_by left test.In = skip >> e.NotIn left <$> listed
  negated_by left test.Between = skip >> not_between left <$> limits
  negated_by left _ = stop

  unfoldable pub negated : Expr → Reader Expr
  negated left = λ ts. negated_by left (test_ahead ts) ts

  abbrev pub tested_by : Expr → Test → Reader Expr
  tested_by left (test.Compare operator) = skip >> e.Compare left operator <$> sum
  tested_by left test.Is = skip >> null_test left
  tested_by left test.Not = skip >> negated left
  tested_by left test.In = skip >> e.In left <$> listed
  tested_by left test.Between = skip >> between left <$> limits
  tested_by left test.Absent = pure left

  unfoldable pub tested : Expr → Reader Expr
  tested left = λ ts. tested_by left (test_ahead ts) ts

  unfoldable pub comparison : Reader Expr
  comparison = do
    left ← sum
    tested left

  unfoldable pub negation : Reader Expr
  negation = do
    not_ ← eat_keyword word.Not
    if not_ then e.Not <$> comparison else comparison

  abbrev pub conjunct : Reader (Option Expr)
  conjunct = behind (eat_keyword word.And) negation

  unfoldable pub conjunction : Reader Expr
  conjunction = do
    first ← negation
    rest ← chain conjunct
    pure (chained e.And first rest)

  abbrev pub disjunct : Reader (Option Expr)
  disjunct = behind (eat_keyword word.Or) conjunction

  unfoldable pub disjunction : Reader Expr
  disjunction = do
    first ← conjunction
    rest ← chain disjunct
    pure (chained e.Or first rest)

-- an expression in which fewer than so many parentheses are open at any place
unfoldable pub expression : ℕ → Reader Expr
expression zero = stop
expression (suc depth) = disjunction (expression depth)

-- a statement with more open parentheses is refused before
abbrev pub most_depth : ℕ
most_depth = most_open + 1

unfoldable pub any : Reader Expr
any = expression most_depth
