-- What a rule reads of a whole expression, up to where it ends, is the expression.
use Rattle.std.proofs.Common.{◌≡◌, false, List, [], Ok}
use Rattle.sql_ast.specs.declared.expressions.Expr.{Expr}
use Rattle.sql_ast.specs.declared.signs.Sign.TheVariants as sign
use Rattle.sql_ast.specs.declared.words.Keyword.TheVariants as word
use Rattle.sql_ast.specs.declared.pieces.Piece.{Piece}
use Rattle.sql_grammar.specs.Reading.{Reader, sees, sees_keyword}
use Rattle.sql_grammar.specs.Expressions.{atom, unary, product, sum, comparison, negation, conjunction, disjunction}
use Rattle.sql_laws.proofs.Ends.{EndsAll}
use Rattle.sql_laws.proofs.Operands.{no_factor, no_term, no_conjunct, no_disjunct}
use Rattle.sql_laws.proofs.Rungs.{unary_of_atom, product_of_unaries, sum_of_products, comparison_of_sum, untested, negation_of_comparison, conjunction_of_negations, disjunction_of_conjunctions}

module _ (inner : Reader Expr) (rest : List Piece) (ends : EndsAll rest) (x : Expr) (ts : List Piece) where
  pub whole_of_conjunction : conjunction inner ts ≡ Ok (x, rest) → disjunction inner ts ≡ Ok (x, rest)
  whole_of_conjunction is = disjunction_of_conjunctions inner x [] ts rest rest is (no_disjunct inner rest ends.disjunct)

  pub whole_of_negation : negation inner ts ≡ Ok (x, rest) → disjunction inner ts ≡ Ok (x, rest)
  whole_of_negation is = whole_of_conjunction (conjunction_of_negations inner x [] ts rest rest is (no_conjunct inner rest ends.conjunct))

  module _ (positive : sees_keyword word.Not ts ≡ false) where
    pub whole_of_comparison : comparison inner ts ≡ Ok (x, rest) → disjunction inner ts ≡ Ok (x, rest)
    whole_of_comparison is = whole_of_negation (negation_of_comparison inner x ts rest positive is)

    pub whole_of_sum : sum inner ts ≡ Ok (x, rest) → disjunction inner ts ≡ Ok (x, rest)
    whole_of_sum is = whole_of_comparison (comparison_of_sum inner x x ts rest rest is (untested inner x rest ends.comparison.test))

    pub whole_of_product : product inner ts ≡ Ok (x, rest) → disjunction inner ts ≡ Ok (x, rest)
    whole_of_product is = whole_of_sum (sum_of_products inner x [] ts rest rest is (no_term inner rest ends.comparison.term))

    pub whole_of_unary : unary inner ts ≡ Ok (x, rest) → disjunction inner ts ≡ Ok (x, rest)
    whole_of_unary is = whole_of_product (product_of_unaries inner x [] ts rest rest is (no_factor inner rest ends.comparison.star))

    pub whole_of_atom : sees sign.Minus ts ≡ false → atom inner ts ≡ Ok (x, rest) → disjunction inner ts ≡ Ok (x, rest)
    whole_of_atom other is = whole_of_unary (unary_of_atom inner x ts rest other is)
