-- What doesn't follow, where an expression ends.
use Rattle.std.proofs.Common.{◌≡◌, refl, true, false, List, [], ◌∷◌, None}
use Rattle.sql_ast.specs.declared.signs.Sign.TheVariants as sign
use Rattle.sql_ast.specs.declared.words.Keyword.TheVariants as word
use Rattle.sql_grammar.specs.declared.heads.Test.TheVariants as test
use Rattle.sql_ast.specs.declared.pieces.Piece.{Piece}
use Rattle.sql_ast.specs.declared.pieces.Piece.TheVariants as piece
use Rattle.sql_grammar.specs.Pieces.{same_sign, same_keyword}
use Rattle.sql_grammar.specs.Reading.{sees, sees_keyword}
use Rattle.sql_grammar.specs.Expressions.{test_ahead, term_ahead}
use Rattle.sql_laws.specs.Spelling.{ends_expression}

-- no comparison goes on
pub record EndsComparison (ts : List Piece) : Type 0 where
  pub star : sees sign.Star ts ≡ false
  pub term : term_ahead ts ≡ None
  pub test : test_ahead ts ≡ test.Absent

-- no conjunction does
pub record EndsConjunction (ts : List Piece) : Type 0 where
  pub comparison : EndsComparison ts
  pub conjunct : sees_keyword word.And ts ≡ false

-- no expression does
pub record EndsAll (ts : List Piece) : Type 0 where
  pub comparison : EndsComparison ts
  pub point : sees sign.Point ts ≡ false
  pub conjunct : sees_keyword word.And ts ≡ false
  pub disjunct : sees_keyword word.Or ts ≡ false

pub ends_all : (ts : List Piece) → ends_expression ts ≡ true → EndsAll ts
unfolding sees sees_keyword same_sign same_keyword test_ahead term_ahead
ends_all [] ends = record { comparison = record { star = refl; term = refl; test = refl }; point = refl; conjunct = refl; disjunct = refl }
ends_all (piece.Sign sign.Point ∷ ts) ends = absurd (cc)
ends_all (piece.Sign sign.Star ∷ ts) ends = absurd (cc)
ends_all (piece.Sign sign.Plus ∷ ts) ends = absurd (cc)
ends_all (piece.Sign sign.Minus ∷ ts) ends = absurd (cc)
ends_all (piece.Sign sign.Equal ∷ ts) ends = absurd (cc)
ends_all (piece.Sign sign.NotEqual ∷ ts) ends = absurd (cc)
ends_all (piece.Sign sign.Less ∷ ts) ends = absurd (cc)
ends_all (piece.Sign sign.AtMost ∷ ts) ends = absurd (cc)
ends_all (piece.Sign sign.Greater ∷ ts) ends = absurd (cc)
ends_all (piece.Sign sign.AtLeast ∷ ts) ends = absurd (cc)
ends_all (piece.Keyword word.Is ∷ ts) ends = absurd (cc)
ends_all (piece.Keyword word.Not ∷ ts) ends = absurd (cc)
ends_all (piece.Keyword word.In ∷ ts) ends = absurd (cc)
ends_all (piece.Keyword word.Between ∷ ts) ends = absurd (cc)
ends_all (piece.Keyword word.And ∷ ts) ends = absurd (cc)
ends_all (piece.Keyword word.Or ∷ ts) ends = absurd (cc)
ends_all (t ∷ ts) ends = record { comparison = record { star = refl; term = refl; test = refl }; point = refl; conjunct = refl; disjunct = refl }
