-- A function value that reads expressions to a depth.
use Rattle.std.specs.Prelude.{ℕ, List, Result}
use Rattle.std.specs.declared.alloc.Global.{Global}
use denote.Ref.{MutBor}
use Rattle.sql_ast.specs.declared.expressions.Expr.{Expr}
use Rattle.sql_ast.specs.declared.pieces.Piece.{Piece}
use Rattle.sql_grammar.specs.declared.stops.Stop.{Stop}
use Rattle.sql_grammar.specs.Reading.{Reads}
use Rattle.sql_grammar.specs.Expressions.{expression}

pub record Nests (depth : ℕ) (pre : Global → MutBor (List Piece) → ℕ → Type 0)
    (post : Global → MutBor (List Piece) → ℕ → Result Expr Stop → MutBor (List Piece) → Type 0) : Type 0 where
  pub callable : (alloc : Global) (old : MutBor (List Piece)) → pre alloc old depth
  pub reads : (alloc : Global) (old new : MutBor (List Piece)) (r : Result Expr Stop) → post alloc old depth r new → Reads (expression depth old.now) r new.now
