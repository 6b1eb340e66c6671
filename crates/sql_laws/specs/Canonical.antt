-- What the canonical text of an expression says: as an expression, and in pieces.
use Rattle.std.specs.Prelude.{Bool, ◌&&◌, not, List, [], ◌∷◌, ◌++◌, codes}
use Rattle.sql_ast.specs.declared.expressions.Comparison.TheVariants as comparison
use Rattle.sql_ast.specs.declared.expressions.Expr.{Expr, fold-Expr}
use Rattle.sql_ast.specs.declared.expressions.Expr.TheOpen.{Expr-F}
use Rattle.sql_ast.specs.declared.expressions.Expr.TheVariants as e
use Rattle.sql_ast.specs.declared.expressions.Term.{Term}
use Rattle.sql_ast.specs.declared.signs.Sign.TheVariants as sign
use Rattle.sql_ast.specs.declared.words.Keyword.TheVariants as word
use Rattle.sql_ast.specs.declared.pieces.Piece.{Piece}
use Rattle.sql_ast.specs.declared.pieces.Piece.TheVariants as piece
use Rattle.sql_grammar.specs.Reading.{sees}
use Rattle.sql_laws.specs.Spelling.{comparison_sign, enclosed, ends_expression, key, led, literal_piece, mark, separated, term_sign}

-- operations of one rank, from the left
abbrev pub grouped : {A B : Type 0} → (A → B → A) → A → List B → A
grouped operation a [] = a
grouped operation a (b ∷ bs) = grouped operation (operation a b) bs

-- The expression: each operation has two operands, BETWEEN is its two comparisons, NOT BETWEEN and NOT IN are the NOT of the plain form.

abbrev pub either : Expr → Expr → Expr
either x y = e.Or x (y ∷ [])

abbrev pub both : Expr → Expr → Expr
both x y = e.And x (y ∷ [])

abbrev pub product : Expr → Expr → Expr
product x y = e.Factors x (y ∷ [])

abbrev pub sum : Expr → Term × Expr → Expr
sum x y = e.Terms x (y ∷ [])

abbrev pub within : Expr → Expr → Expr → Expr
within x low high = both (e.Compare x comparison.AtLeast low) (e.Compare x comparison.AtMost high)

abbrev pub paired_at : Expr-F Expr → Expr
paired_at (Expr-F.Or x ys) = grouped either x ys
paired_at (Expr-F.And x ys) = grouped both x ys
paired_at (Expr-F.Not x) = e.Not x
paired_at (Expr-F.Compare x operator y) = e.Compare x operator y
paired_at (Expr-F.IsNull x) = e.IsNull x
paired_at (Expr-F.IsNotNull x) = e.IsNotNull x
paired_at (Expr-F.In x ys) = e.In x ys
paired_at (Expr-F.NotIn x ys) = e.Not (e.In x ys)
paired_at (Expr-F.Between x low high) = within x low high
paired_at (Expr-F.NotBetween x low high) = e.Not (within x low high)
paired_at (Expr-F.Terms x ys) = grouped sum x ys
paired_at (Expr-F.Factors x ys) = grouped product x ys
paired_at (Expr-F.Negate x) = e.Negate x
paired_at (Expr-F.Literal literal) = e.Literal literal
paired_at (Expr-F.Name name) = e.Name name
paired_at (Expr-F.Qualified source name) = e.Qualified source name
paired_at Expr-F.CountAll = e.CountAll
paired_at (Expr-F.Count x) = e.Count x
paired_at (Expr-F.Sum x) = e.Sum x
paired_at (Expr-F.Min x) = e.Min x
paired_at (Expr-F.Max x) = e.Max x
paired_at Expr-F.ActiveBranch = e.ActiveBranch
paired_at (Expr-F.Variable name) = e.Variable name

unfoldable pub paired : Expr → Expr
paired x = fold-Expr Expr paired_at x

-- The pieces: each operation stands in parentheses.

-- `(a op b)`
abbrev pub operation : Piece → List Piece → List Piece → List Piece
operation t a b = enclosed (a ++ t ∷ b)

abbrev pub term_operation : List Piece → Term × List Piece → List Piece
term_operation a b = operation (mark (term_sign b.0)) a b.1

-- `(a IN (b, c))`
abbrev pub contained : List Piece → List (List Piece) → List Piece
contained a bs = operation (key word.In) a (enclosed (separated bs))

-- `((a >= low) AND (a <= high))`
abbrev pub ranged : List Piece → List Piece → List Piece → List Piece
ranged a low high = operation (key word.And) (operation (mark sign.AtLeast) a low) (operation (mark sign.AtMost) a high)

abbrev pub canonical_at : Expr-F (List Piece) → List Piece
canonical_at (Expr-F.Or a bs) = grouped (operation (key word.Or)) a bs
canonical_at (Expr-F.And a bs) = grouped (operation (key word.And)) a bs
canonical_at (Expr-F.Not a) = enclosed (key word.Not ∷ a)
canonical_at (Expr-F.Compare a operator b) = operation (mark (comparison_sign operator)) a b
canonical_at (Expr-F.IsNull a) = enclosed (a ++ key word.Is ∷ key word.Null ∷ [])
canonical_at (Expr-F.IsNotNull a) = enclosed (a ++ key word.Is ∷ key word.Not ∷ key word.Null ∷ [])
canonical_at (Expr-F.In a bs) = contained a bs
canonical_at (Expr-F.NotIn a bs) = enclosed (key word.Not ∷ contained a bs)
canonical_at (Expr-F.Between a low high) = ranged a low high
canonical_at (Expr-F.NotBetween a low high) = enclosed (key word.Not ∷ ranged a low high)
canonical_at (Expr-F.Terms a bs) = grouped term_operation a bs
canonical_at (Expr-F.Factors a bs) = grouped (operation (mark sign.Star)) a bs
canonical_at (Expr-F.Negate a) = enclosed (mark sign.Minus ∷ a)
canonical_at (Expr-F.Literal literal) = literal_piece literal ∷ []
canonical_at (Expr-F.Name name) = piece.Word name ∷ []
canonical_at (Expr-F.Qualified source name) = piece.Word source ∷ mark sign.Point ∷ piece.Word name ∷ []
canonical_at Expr-F.CountAll = led (piece.Word (codes "count")) (mark sign.Star ∷ [])
canonical_at (Expr-F.Count a) = led (piece.Word (codes "count")) a
canonical_at (Expr-F.Sum a) = led (piece.Word (codes "sum")) a
canonical_at (Expr-F.Min a) = led (piece.Word (codes "min")) a
canonical_at (Expr-F.Max a) = led (piece.Word (codes "max")) a
canonical_at Expr-F.ActiveBranch = led (piece.Word (codes "active_branch")) []
canonical_at (Expr-F.Variable name) = mark sign.AtAt ∷ piece.Word name ∷ []

unfoldable pub canonical : Expr → List Piece
canonical x = fold-Expr (List Piece) canonical_at x

-- no canonical text before these pieces goes on with them; before a parenthesis a name may be a function's
abbrev pub ends_canonical : List Piece → Bool
ends_canonical ts = ends_expression ts && not (sees sign.OpenParenthesis ts)
