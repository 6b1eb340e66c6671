-- An atom, and an operand in parentheses, rule by rule.
use Rattle.std.proofs.Common.{◌≡◌, ◌∙◌, ap, refl, true, false, List, [], ◌∷◌, ◌++◌, None, Ok}
use Rattle.std.proofs.lemmas.List.{append_assoc}
use Rattle.sql_ast.specs.declared.expressions.Expr.{Expr}
use Rattle.sql_ast.specs.declared.expressions.Term.{Term}
use Rattle.sql_ast.specs.declared.signs.Sign.TheVariants as sign
use Rattle.sql_ast.specs.declared.words.Keyword.TheVariants as word
use Rattle.sql_ast.specs.declared.pieces.Piece.{Piece}
use Rattle.sql_grammar.specs.Pieces.{same_sign}
use Rattle.sql_grammar.specs.Reading.{Reader, sees, sees_keyword, chain}
use Rattle.sql_grammar.specs.Expressions as grammar
use Rattle.sql_grammar.specs.Expressions.{atom, atom_by, plain_atom, other_atom, literal_ahead, unary, factor, product, term, sum, comparison, negation, conjunct, conjunction, disjunct, called, term_ahead, test_ahead}
use Rattle.sql_laws.specs.Spelling.{spelled, enclosed, mark, ends_expression}
use Rattle.sql_laws.proofs.Chains.{no_chain}
use Rattle.sql_laws.proofs.Ends.{EndsComparison}
use Rattle.sql_laws.proofs.Rungs.{not_called, unary_of_atom, product_of_unaries, sum_of_products, comparison_of_sum, untested, negation_of_comparison, conjunction_of_negations}

module _ (inner : Reader Expr) where
  -- where nothing leads to one more operand
  pub no_factor : (rest : List Piece) → sees sign.Star rest ≡ false → chain (factor inner) rest ≡ Ok ([], rest)
  no_factor rest star = no_chain Expr (factor inner) rest (rw star refl)

  pub no_term : (rest : List Piece) → term_ahead rest ≡ None → chain (term inner) rest ≡ Ok ([], rest)
  unfolding term
  no_term rest none = no_chain (Term × Expr) (term inner) rest (rw none refl)

  pub no_conjunct : (rest : List Piece) → sees_keyword word.And rest ≡ false → chain (conjunct inner) rest ≡ Ok ([], rest)
  no_conjunct rest other = no_chain Expr (conjunct inner) rest (rw other refl)

  pub no_disjunct : (rest : List Piece) → sees_keyword word.Or rest ≡ false → chain (disjunct inner) rest ≡ Ok ([], rest)
  no_disjunct rest other = no_chain Expr (disjunct inner) rest (rw other refl)

  -- from an atom to each looser rule, where what follows is none of that rule's
  module _ (x : Expr) (ts rest : List Piece) (is : atom inner ts ≡ Ok (x, rest)) (other : sees sign.Minus ts ≡ false) where
    pub atom_unary : unary inner ts ≡ Ok (x, rest)
    atom_unary = unary_of_atom inner x ts rest other is

    pub atom_product : sees sign.Star rest ≡ false → product inner ts ≡ Ok (x, rest)
    atom_product star = product_of_unaries inner x [] ts rest rest atom_unary (no_factor rest star)

    pub atom_sum : sees sign.Star rest ≡ false → term_ahead rest ≡ None → sum inner ts ≡ Ok (x, rest)
    atom_sum star none = sum_of_products inner x [] ts rest rest (atom_product star) (no_term rest none)

    pub atom_comparison : EndsComparison rest → comparison inner ts ≡ Ok (x, rest)
    atom_comparison ends = comparison_of_sum inner x x ts rest rest (atom_sum ends.star ends.term) (untested inner x rest ends.test)

    module _ (positive : sees_keyword word.Not ts ≡ false) where
      pub atom_negation : EndsComparison rest → negation inner ts ≡ Ok (x, rest)
      atom_negation ends = negation_of_comparison inner x ts rest positive (atom_comparison ends)

      pub atom_conjunction : EndsComparison rest → sees_keyword word.And rest ≡ false → conjunction inner ts ≡ Ok (x, rest)
      atom_conjunction ends last = conjunction_of_negations inner x [] ts rest rest (atom_negation ends) (no_conjunct rest last)

  -- `inner` reads a tree as it is spelled, up to what can't go on
  abbrev pub IsRead : Expr → Type 0
  IsRead x = (rest : List Piece) → ends_expression rest ≡ true → inner (spelled x ++ rest) ≡ Ok (x, rest)

  -- behind an opening parenthesis
  pub closed : (x : Expr) → IsRead x → (rest : List Piece) → grammar.enclosed inner ((spelled x ++ mark sign.CloseParenthesis ∷ []) ++ rest) ≡ Ok (x, rest)
  unfolding grammar.enclosed sees same_sign
  closed x read rest = rw (append_assoc (spelled x) (mark sign.CloseParenthesis ∷ []) rest, read (mark sign.CloseParenthesis ∷ rest) refl) refl

  module _ (x : Expr) (read : IsRead x) (rest : List Piece) where
    pub operand_atom : atom inner (enclosed (spelled x) ++ rest) ≡ Ok (x, rest)
    unfolding atom plain_atom literal_ahead other_atom sees same_sign
    operand_atom =
        ap (λ f. atom_by inner f (enclosed (spelled x) ++ rest)) (not_called (mark sign.OpenParenthesis) ((spelled x ++ mark sign.CloseParenthesis ∷ []) ++ rest) refl)
        ∙ closed x read rest

    pub operand_unary : unary inner (enclosed (spelled x) ++ rest) ≡ Ok (x, rest)
    unfolding sees same_sign
    operand_unary = atom_unary x (enclosed (spelled x) ++ rest) rest operand_atom refl

    pub operand_product : sees sign.Star rest ≡ false → product inner (enclosed (spelled x) ++ rest) ≡ Ok (x, rest)
    unfolding sees same_sign
    operand_product = atom_product x (enclosed (spelled x) ++ rest) rest operand_atom refl

    pub operand_sum : sees sign.Star rest ≡ false → term_ahead rest ≡ None → sum inner (enclosed (spelled x) ++ rest) ≡ Ok (x, rest)
    unfolding sees same_sign
    operand_sum = atom_sum x (enclosed (spelled x) ++ rest) rest operand_atom refl

    pub operand_comparison : EndsComparison rest → comparison inner (enclosed (spelled x) ++ rest) ≡ Ok (x, rest)
    unfolding sees same_sign
    operand_comparison = atom_comparison x (enclosed (spelled x) ++ rest) rest operand_atom refl

    pub operand_negation : EndsComparison rest → negation inner (enclosed (spelled x) ++ rest) ≡ Ok (x, rest)
    unfolding sees same_sign sees_keyword
    operand_negation = atom_negation x (enclosed (spelled x) ++ rest) rest operand_atom refl refl

    pub operand_conjunction : EndsComparison rest → sees_keyword word.And rest ≡ false → conjunction inner (enclosed (spelled x) ++ rest) ≡ Ok (x, rest)
    unfolding sees same_sign sees_keyword
    operand_conjunction = atom_conjunction x (enclosed (spelled x) ++ rest) rest operand_atom refl refl
