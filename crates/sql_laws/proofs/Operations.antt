-- One lemma an operation: it is read of its operands, which are atoms.
use Rattle.std.proofs.Common.{◌≡◌, refl, false, List, [], ◌∷◌, None, Some, Ok}
use Rattle.sql_ast.specs.declared.expressions.Comparison.{Comparison}
use Rattle.sql_ast.specs.declared.expressions.Expr.{Expr}
use Rattle.sql_ast.specs.declared.expressions.Expr.TheVariants as e
use Rattle.sql_ast.specs.declared.expressions.Term.{Term}
use Rattle.sql_ast.specs.declared.expressions.Term.TheVariants as term
use Rattle.sql_ast.specs.declared.signs.Sign.TheVariants as sign
use Rattle.sql_ast.specs.declared.words.Keyword.TheVariants as word
use Rattle.sql_ast.specs.declared.pieces.Piece.{Piece}
use Rattle.sql_grammar.specs.Pieces.{same_sign, same_keyword}
use Rattle.sql_grammar.specs.Reading.{Reader, sees, sees_keyword}
use Rattle.sql_grammar.specs.Expressions as grammar
use Rattle.sql_grammar.specs.Expressions.{atom, conjunct, disjunct, disjunction, factor, tested, term_ahead, test_ahead}
use Rattle.sql_laws.specs.Spelling.{comparison_sign, key, mark, term_sign}
use Rattle.sql_laws.proofs.Chains.{one_link}
use Rattle.sql_laws.proofs.Ends.{EndsAll}
use Rattle.sql_laws.proofs.Nodes.{comparison_ahead, no_star_ahead, no_term_ahead}
use Rattle.sql_laws.proofs.Operands.{atom_comparison, atom_conjunction, atom_negation, atom_product, atom_sum, atom_unary}
use Rattle.sql_laws.proofs.Rungs.{comparison_of_sum, conjunction_of_negations, disjunction_of_conjunctions, negated_comparison, negative_of_atom, product_of_unaries, sum_of_products}
use Rattle.sql_laws.proofs.Wholes.{whole_of_comparison, whole_of_conjunction, whole_of_negation, whole_of_product, whole_of_sum, whole_of_unary}

-- an atom may begin with these
pub record Begins (ts : List Piece) : Type 0 where
  pub other : sees sign.Minus ts ≡ false
  pub positive : sees_keyword word.Not ts ≡ false
  pub some : sees sign.Star ts ≡ false

-- what is read where this stands between two atoms
abbrev pub ReadsPair : Piece → (Expr → Expr → Expr) → Type 0
ReadsPair t node =
    (inner : Reader Expr) (x y : Expr) (ts us rest : List Piece) → Begins ts → Begins us → EndsAll rest
    → atom inner ts ≡ Ok (x, t ∷ us) → atom inner us ≡ Ok (y, rest) → disjunction inner ts ≡ Ok (node x y, rest)

-- what is read where this stands before an atom
abbrev pub ReadsBefore : Piece → (Expr → Expr) → Type 0
ReadsBefore t node =
    (inner : Reader Expr) (x : Expr) (ts rest : List Piece) → Begins ts → EndsAll rest → atom inner ts ≡ Ok (x, rest) → disjunction inner (t ∷ ts) ≡ Ok (node x, rest)

pub or_pair : ReadsPair (key word.Or) (λ x y. e.Or x (y ∷ []))
unfolding sees sees_keyword same_keyword term_ahead test_ahead
or_pair inner x y ts us rest b c ends one two =
    disjunction_of_conjunctions inner x (y ∷ []) ts (key word.Or ∷ us) rest
    (atom_conjunction inner x ts (key word.Or ∷ us) one b.other b.positive (record { star = refl; term = refl; test = refl }) refl)
    (one_link Expr (disjunct inner) (key word.Or) us rest y (rw (atom_conjunction inner y us rest two c.other c.positive ends.comparison ends.conjunct) refl) (rw ends.disjunct refl))

pub and_pair : ReadsPair (key word.And) (λ x y. e.And x (y ∷ []))
unfolding sees sees_keyword same_keyword term_ahead test_ahead
and_pair inner x y ts us rest b c ends one two =
    whole_of_conjunction inner rest ends (e.And x (y ∷ [])) ts
    (conjunction_of_negations inner x (y ∷ []) ts (key word.And ∷ us) rest
    (atom_negation inner x ts (key word.And ∷ us) one b.other b.positive (record { star = refl; term = refl; test = refl }))
    (one_link Expr (conjunct inner) (key word.And) us rest y (rw (atom_negation inner y us rest two c.other c.positive ends.comparison) refl) (rw ends.conjunct refl)))

pub factor_pair : ReadsPair (mark sign.Star) (λ x y. e.Factors x (y ∷ []))
unfolding sees same_sign
factor_pair inner x y ts us rest b c ends one two =
    whole_of_product inner rest ends (e.Factors x (y ∷ [])) ts b.positive
    (product_of_unaries inner x (y ∷ []) ts (mark sign.Star ∷ us) rest (atom_unary inner x ts (mark sign.Star ∷ us) one b.other)
    (one_link Expr (factor inner) (mark sign.Star) us rest y (rw (atom_unary inner y us rest two c.other) refl) (rw ends.comparison.star refl)))

no_more_terms : (inner : Reader Expr) (rest : List Piece) → term_ahead rest ≡ None → grammar.term inner rest ≡ Ok (None, rest)
unfolding grammar.term
no_more_terms inner rest none = rw none refl

-- a term behind its sign
one_term : (t : Term) (inner : Reader Expr) (y : Expr) (us rest : List Piece) → Begins us → EndsAll rest → atom inner us ≡ Ok (y, rest)
    → grammar.term inner (mark (term_sign t) ∷ us) ≡ Ok (Some (t, y), rest)
unfolding grammar.term term_ahead
one_term term.Plus inner y us rest c ends is = rw (atom_product inner y us rest is c.other ends.comparison.star) refl
one_term term.Minus inner y us rest c ends is = rw (atom_product inner y us rest is c.other ends.comparison.star) refl

no_star : (t : Term) (us : List Piece) → sees sign.Star (mark (term_sign t) ∷ us) ≡ false
unfolding sees same_sign
no_star term.Plus us = refl
no_star term.Minus us = refl

pub term_pair : (t : Term) → ReadsPair (mark (term_sign t)) (λ x y. e.Terms x ((t, y) ∷ []))
term_pair t inner x y ts us rest b c ends one two =
    whole_of_sum inner rest ends (e.Terms x ((t, y) ∷ [])) ts b.positive
    (sum_of_products inner x ((t, y) ∷ []) ts (mark (term_sign t) ∷ us) rest (atom_product inner x ts (mark (term_sign t) ∷ us) one b.other (no_star t us))
    (one_link (Term × Expr) (grammar.term inner) (mark (term_sign t)) us rest (t, y) (one_term t inner y us rest c ends two) (no_more_terms inner rest ends.comparison.term)))

-- a comparison, from its first atom and what is tested of it
pub test_of_atom : (inner : Reader Expr) (x y : Expr) (ts mid rest : List Piece) → Begins ts → EndsAll rest → sees sign.Star mid ≡ false → term_ahead mid ≡ None
    → atom inner ts ≡ Ok (x, mid) → tested inner x mid ≡ Ok (y, rest) → disjunction inner ts ≡ Ok (y, rest)
test_of_atom inner x y ts mid rest b ends star none is next =
    whole_of_comparison inner rest ends y ts b.positive (comparison_of_sum inner x y ts mid rest (atom_sum inner x ts mid is b.other star none) next)

pub compare_pair : (o : Comparison) → ReadsPair (mark (comparison_sign o)) (λ x y. e.Compare x o y)
unfolding tested
compare_pair o inner x y ts us rest b c ends one two =
    test_of_atom inner x (e.Compare x o y) ts (mark (comparison_sign o) ∷ us) rest b ends (no_star_ahead o us) (no_term_ahead o us) one
    (rw (comparison_ahead o us, atom_sum inner y us rest two c.other ends.comparison.star ends.comparison.term) refl)

pub not_before : ReadsBefore (key word.Not) (λ x. e.Not x)
not_before inner x ts rest b ends is =
    whole_of_negation inner rest ends (e.Not x) (key word.Not ∷ ts) (negated_comparison inner x ts rest (atom_comparison inner x ts rest is b.other ends.comparison))

pub minus_before : ReadsBefore (mark sign.Minus) (λ x. e.Negate x)
unfolding sees_keyword
minus_before inner x ts rest b ends is = whole_of_unary inner rest ends (e.Negate x) (mark sign.Minus ∷ ts) refl (negative_of_atom inner x ts rest is)
