-- What the reader of expressions gives for an expression as it is written.
use Rattle.std.specs.Prelude.{◌≡◌, ◌≤◌, ℕ, suc, true, List, ◌∷◌, ◌++◌, length, Ok, Err}
use Rattle.sql_ast.specs.declared.expressions.Expr.{Expr}
use Rattle.sql_ast.specs.declared.pieces.Piece.{Piece}
use Rattle.sql_grammar.specs.Expressions.{any, expression}
use Rattle.sql_laws.specs.Spelling.{spelled, deepest, is_tree, ends_expression}

-- a tree that is written with at most so many open parentheses is read as that tree, and what can't go on is left
abbrev pub ReadsBackAt : ℕ → Type 0
ReadsBackAt depth = (x : Expr) (rest : List Piece) → is_tree x ≡ true → deepest 0 (spelled x) ≤ depth → ends_expression rest ≡ true
    → expression (suc depth) (spelled x ++ rest) ≡ Ok (x, rest)

-- with at most 64
abbrev pub ReadsBack : Type 0
ReadsBack = (x : Expr) (rest : List Piece) → is_tree x ≡ true → deepest 0 (spelled x) ≤ 64 → ends_expression rest ≡ true
    → any (spelled x ++ rest) ≡ Ok (x, rest)

-- pieces begin with one tree's spelling at most
abbrev pub HasOneTree : Type 0
HasOneTree = (x y : Expr) (rest more : List Piece) → is_tree x ≡ true → is_tree y ≡ true → ends_expression rest ≡ true → ends_expression more ≡ true
    → spelled x ++ rest ≡ spelled y ++ more → (x ≡ y) × (rest ≡ more)

-- whatever is read is a tree
abbrev pub ReadsTrees : Type 0
ReadsTrees = (depth : ℕ) (pieces rest : List Piece) (x : Expr) → expression depth pieces ≡ Ok (x, rest) → is_tree x ≡ true

-- where reading stops at a piece, it stops there whatever stands behind that piece
abbrev pub StopsForGood : Type 0
StopsForGood = (depth : ℕ) (front : List Piece) (t : Piece) (behind other : List Piece) → expression depth (front ++ t ∷ behind) ≡ Err (length (t ∷ behind))
    → expression depth (front ++ t ∷ other) ≡ Err (length (t ∷ other))
