-- The forms of a canonical text, from the texts of their parts.
use Rattle.std.proofs.Common.{◌≡◌, ◌∙◌, sym, ap, refl, ℕ, List, [], ◌∷◌, ◌++◌, map, codes}
use Rattle.std.specs.List.{AllByRecursion}
use Rattle.std.proofs.lemmas.List.{append_assoc}
use Rattle.sql_ast.specs.declared.expressions.Comparison.{Comparison}
use Rattle.sql_ast.specs.declared.expressions.Comparison.TheVariants as comparison
use Rattle.sql_ast.specs.declared.expressions.Term.{Term}
use Rattle.sql_ast.specs.declared.expressions.Term.TheVariants as term
use Rattle.sql_ast.specs.declared.places.Last.TheVariants.{Other, UnaryMinus}
use Rattle.sql_ast.specs.declared.places.LexerState.TheVariants as place
use Rattle.sql_ast.specs.declared.signs.Sign.TheVariants as sign
use Rattle.sql_ast.specs.declared.words.Keyword.TheVariants as word
use Rattle.sql_ast.specs.declared.pieces.Piece.{Piece}
use Rattle.sql_ast.specs.declared.pieces.Piece.TheVariants as piece
use Rattle.sql_text.specs.Canon.{comparison_word, listed, term_word}
use Rattle.sql_text.specs.Canon as canon
use Rattle.sql_text.proofs.Grouping as grouping
use Rattle.sql_text.proofs.Grouping.{pair, summed}
use Rattle.sql_laws.specs.Spelling.{comparison_sign, each, enclosed, key, led, mark, separated, term_sign}
use Rattle.sql_laws.specs.Canonical.{contained, grouped, operation, ranged, term_operation}
use Rattle.sql_laws.proofs.Lexing.{Any, Lexes, Stops, anywhere, joined, joined_to, nothing, same_pieces, same_text}
use Rattle.sql_laws.proofs.Marks.{AfterExpr}
use Rattle.sql_laws.proofs.Texts.{regrouped, rewrapped}
use Rattle.sql_laws.proofs.Words.{and_, at_least, at_most, blank, blank_to, close, comma, equal, greater, in_open, is_not_null_close, is_null_close, less, minus, minus_to, not_equal, open_, open_not, open_to, or_, plus, spaced, star}

abbrev pub IsText : List ℕ → List Piece → Type 0
IsText s ps = Lexes Any AfterExpr s ps

-- a part that ends in a sign or a space, behind a part
followed : (s t : List ℕ) (ps qs : List Piece) → IsText s ps → Lexes Any Any t qs → ((rest : List ℕ) → AfterExpr (t ++ rest)) → Lexes Any Any (s ++ t) (ps ++ qs)
followed s t ps qs one two fits = joined Any AfterExpr Any s t ps qs one two (λ rest after. fits rest)

-- a text behind a part that ends in a sign or a space
behind : (s t : List ℕ) (ps qs : List Piece) → Lexes Any Any s ps → IsText t qs → IsText (s ++ t) (ps ++ qs)
behind s t ps qs one two = joined Any Any AfterExpr s t ps qs one two (λ rest after. tt)

operator_word : (o : Comparison) → Lexes Any Any (comparison_word o) (mark (comparison_sign o) ∷ [])
operator_word comparison.Equal = spaced Any (codes "=") (mark sign.Equal ∷ []) equal (λ rest. tt)
operator_word comparison.NotEqual = spaced Any (codes "<>") (mark sign.NotEqual ∷ []) not_equal (λ rest. tt)
operator_word comparison.Less = spaced (Stops (place.AfterSign sign.Less)) (codes "<") (mark sign.Less ∷ []) less (λ rest. refl)
operator_word comparison.AtMost = spaced Any (codes "<=") (mark sign.AtMost ∷ []) at_most (λ rest. tt)
operator_word comparison.Greater = spaced (Stops (place.AfterSign sign.Greater)) (codes ">") (mark sign.Greater ∷ []) greater (λ rest. refl)
operator_word comparison.AtLeast = spaced Any (codes ">=") (mark sign.AtLeast ∷ []) at_least (λ rest. tt)

operator_fits : (o : Comparison) (rest : List ℕ) → AfterExpr (comparison_word o ++ rest)
operator_fits comparison.Equal rest = refl
operator_fits comparison.NotEqual rest = refl
operator_fits comparison.Less rest = refl
operator_fits comparison.AtMost rest = refl
operator_fits comparison.Greater rest = refl
operator_fits comparison.AtLeast rest = refl

term_words : (t : Term) → Lexes Any Any (term_word t) (mark (term_sign t) ∷ [])
term_words term.Plus = spaced Any (codes "+") (mark sign.Plus ∷ []) plus (λ rest. tt)
term_words term.Minus = spaced Any (codes "-") (mark sign.Minus ∷ []) minus (λ rest. tt)

term_fits : (t : Term) (rest : List ℕ) → AfterExpr (term_word t ++ rest)
term_fits term.Plus rest = refl
term_fits term.Minus rest = refl

star_word : Lexes Any Any (codes " * ") (mark sign.Star ∷ [])
star_word = spaced Any (codes "*") (mark sign.Star ∷ []) star (λ rest. tt)

-- `(a op b)`
pair_lexes : (word : List ℕ) (t : Piece) → Lexes Any Any word (t ∷ []) → ((rest : List ℕ) → AfterExpr (word ++ rest)) → (a b : List ℕ) (ps qs : List Piece) → IsText a ps → IsText b qs
    → IsText (pair a word b) (operation t ps qs)
pair_lexes word t lexes fits a b ps qs one two =
    let front = followed (codes "(" ++ a) word (mark sign.OpenParenthesis ∷ ps) (t ∷ []) (behind (codes "(") a (mark sign.OpenParenthesis ∷ []) ps open_ one) lexes fits in
    let inside = behind (codes "(" ++ a ++ word) b ((mark sign.OpenParenthesis ∷ ps) ++ t ∷ []) qs front two in
    same_pieces Any AfterExpr (pair a word b) (((mark sign.OpenParenthesis ∷ ps) ++ t ∷ []) ++ qs ++ mark sign.CloseParenthesis ∷ []) (operation t ps qs)
    (ap (λ rs. mark sign.OpenParenthesis ∷ (rs ++ mark sign.CloseParenthesis ∷ [])) (append_assoc ps (t ∷ []) qs))
    (anywhere Any AfterExpr (pair a word b) (((mark sign.OpenParenthesis ∷ ps) ++ t ∷ []) ++ qs ++ mark sign.CloseParenthesis ∷ [])
    (followed (codes "(" ++ a ++ word ++ b) (codes ")") (((mark sign.OpenParenthesis ∷ ps) ++ t ∷ []) ++ qs) (mark sign.CloseParenthesis ∷ []) inside close (λ rest. refl)))

pub compare_lexes : (o : Comparison) (a b : List ℕ) (ps qs : List Piece) → IsText a ps → IsText b qs → IsText (pair a (comparison_word o) b) (operation (mark (comparison_sign o)) ps qs)
compare_lexes o = pair_lexes (comparison_word o) (mark (comparison_sign o)) (operator_word o) (operator_fits o)

-- chains
chain_lexes : (X : Type 0) (word : List ℕ) (t : Piece) → Lexes Any Any word (t ∷ []) → ((rest : List ℕ) → AfterExpr (word ++ rest)) → (f : X → List ℕ) (g : X → List Piece)
    → (a : List ℕ) (ps : List Piece) → IsText a ps → (xs : List X) → AllByRecursion (λ x. IsText (f x) (g x)) xs → IsText (grouping.grouped word a (map f xs)) (grouped (operation t) ps (map g xs))
chain_lexes X word t lexes fits f g a ps one [] all = one
chain_lexes X word t lexes fits f g a ps one (x ∷ xs) all =
    chain_lexes X word t lexes fits f g (pair a word (f x)) (operation t ps (g x)) (pair_lexes word t lexes fits a (f x) ps (g x) one all.0) xs all.1

pub or_lexes : (X : Type 0) (f : X → List ℕ) (g : X → List Piece) (a : List ℕ) (ps : List Piece) → IsText a ps → (xs : List X) → AllByRecursion (λ x. IsText (f x) (g x)) xs
    → IsText (grouping.grouped (codes " OR ") a (map f xs)) (grouped (operation (key word.Or)) ps (map g xs))
or_lexes X = chain_lexes X (codes " OR ") (key word.Or) or_ (λ rest. refl)

pub and_lexes : (X : Type 0) (f : X → List ℕ) (g : X → List Piece) (a : List ℕ) (ps : List Piece) → IsText a ps → (xs : List X) → AllByRecursion (λ x. IsText (f x) (g x)) xs
    → IsText (grouping.grouped (codes " AND ") a (map f xs)) (grouped (operation (key word.And)) ps (map g xs))
and_lexes X = chain_lexes X (codes " AND ") (key word.And) and_ (λ rest. refl)

pub factors_lexes : (X : Type 0) (f : X → List ℕ) (g : X → List Piece) (a : List ℕ) (ps : List Piece) → IsText a ps → (xs : List X) → AllByRecursion (λ x. IsText (f x) (g x)) xs
    → IsText (grouping.grouped (codes " * ") a (map f xs)) (grouped (operation (mark sign.Star)) ps (map g xs))
factors_lexes X = chain_lexes X (codes " * ") (mark sign.Star) star_word (λ rest. refl)

pub sum_lexes : (X : Type 0) (f : X → List ℕ) (g : X → List Piece) (a : List ℕ) (ps : List Piece) → IsText a ps → (xs : List (Term × X))
    → AllByRecursion (λ (x : Term × X). IsText (f x.1) (g x.1)) xs
    → IsText (summed a (map (λ (x : Term × X). let y : Term × List ℕ = (x.0, f x.1) in y) xs)) (grouped term_operation ps (map (λ (x : Term × X). let y : Term × List Piece = (x.0, g x.1) in y) xs))
sum_lexes X f g a ps one [] all = one
sum_lexes X f g a ps one (x ∷ xs) all =
    sum_lexes X f g (pair a (term_word x.0) (f x.1)) (operation (mark (term_sign x.0)) ps (g x.1))
    (pair_lexes (term_word x.0) (mark (term_sign x.0)) (term_words x.0) (term_fits x.0) a (f x.1) ps (g x.1) one all.0) xs all.1

-- `(NOT a)`
pub not_lexes : (a : List ℕ) (ps : List Piece) → IsText a ps → IsText (codes "(NOT " ++ a ++ codes ")") (enclosed (key word.Not ∷ ps))
not_lexes a ps one =
    anywhere Any AfterExpr (codes "(NOT " ++ a ++ codes ")") (enclosed (key word.Not ∷ ps))
    (followed (codes "(NOT " ++ a) (codes ")") (mark sign.OpenParenthesis ∷ key word.Not ∷ ps) (mark sign.CloseParenthesis ∷ [])
    (behind (codes "(NOT ") a (mark sign.OpenParenthesis ∷ key word.Not ∷ []) ps open_not one) close (λ rest. refl))

-- `(- a)`
pub minus_lexes : (a : List ℕ) (ps : List Piece) → Lexes (λ last. last ≡ UnaryMinus) AfterExpr a ps → IsText (codes "(- " ++ a ++ codes ")") (enclosed (mark sign.Minus ∷ ps))
minus_lexes a ps one =
    let after_blank = joined_to (λ last. last ≡ UnaryMinus) (λ last. last ≡ UnaryMinus) Any AfterExpr (codes " ") a [] ps (blank_to (λ last. last ≡ UnaryMinus)) one (λ rest after. tt) in
    let after_minus = joined_to (λ last. last ≡ Other) (λ last. last ≡ UnaryMinus) Any AfterExpr (codes "-") (codes " " ++ a) (mark sign.Minus ∷ []) ps minus_to after_blank (λ rest after. tt) in
    let inside = joined_to Any (λ last. last ≡ Other) Any AfterExpr (codes "(") (codes "- " ++ a) (mark sign.OpenParenthesis ∷ []) (mark sign.Minus ∷ ps) open_to after_minus (λ rest after. tt) in
    anywhere Any AfterExpr (codes "(- " ++ a ++ codes ")") (enclosed (mark sign.Minus ∷ ps))
    (followed (codes "(- " ++ a) (codes ")") (mark sign.OpenParenthesis ∷ mark sign.Minus ∷ ps) (mark sign.CloseParenthesis ∷ []) inside close (λ rest. refl))

-- `(a` and what is tested of it
tested_lexes : (a : List ℕ) (ps : List Piece) (s : List ℕ) (qs : List Piece) → Lexes Any Any s (qs ++ mark sign.CloseParenthesis ∷ []) → ((rest : List ℕ) → AfterExpr (s ++ rest)) → IsText a ps
    → IsText (codes "(" ++ a ++ s) (enclosed (ps ++ qs))
tested_lexes a ps s qs lexes fits one =
    same_pieces Any AfterExpr (codes "(" ++ a ++ s) ((mark sign.OpenParenthesis ∷ ps) ++ (qs ++ mark sign.CloseParenthesis ∷ [])) (enclosed (ps ++ qs))
    (ap (λ rs. mark sign.OpenParenthesis ∷ rs) (sym (append_assoc ps qs (mark sign.CloseParenthesis ∷ []))))
    (anywhere Any AfterExpr (codes "(" ++ a ++ s) ((mark sign.OpenParenthesis ∷ ps) ++ (qs ++ mark sign.CloseParenthesis ∷ []))
    (followed (codes "(" ++ a) s (mark sign.OpenParenthesis ∷ ps) (qs ++ mark sign.CloseParenthesis ∷ []) (behind (codes "(") a (mark sign.OpenParenthesis ∷ []) ps open_ one) lexes fits))

pub is_null_lexes : (a : List ℕ) (ps : List Piece) → IsText a ps → IsText (codes "(" ++ a ++ codes " IS NULL)") (enclosed (ps ++ key word.Is ∷ key word.Null ∷ []))
is_null_lexes a ps = tested_lexes a ps (codes " IS NULL)") (key word.Is ∷ key word.Null ∷ []) is_null_close (λ rest. refl)

pub is_not_null_lexes : (a : List ℕ) (ps : List Piece) → IsText a ps → IsText (codes "(" ++ a ++ codes " IS NOT NULL)") (enclosed (ps ++ key word.Is ∷ key word.Not ∷ key word.Null ∷ []))
is_not_null_lexes a ps = tested_lexes a ps (codes " IS NOT NULL)") (key word.Is ∷ key word.Not ∷ key word.Null ∷ []) is_not_null_close (λ rest. refl)

-- `((a >= low) AND (a <= high))`
pub ranged_lexes : (a low high : List ℕ) (ps qs rs : List Piece) → IsText a ps → IsText low qs → IsText high rs
    → IsText (codes "((" ++ canon.ranged a low high ++ codes "))") (ranged ps qs rs)
ranged_lexes a low high ps qs rs one two three =
    same_text Any AfterExpr (pair (pair a (codes " >= ") low) (codes " AND ") (pair a (codes " <= ") high)) (codes "((" ++ canon.ranged a low high ++ codes "))") (ranged ps qs rs)
    (regrouped (codes "(") (codes ")") (codes " AND ") a (codes " >= ") low (codes " <= ") high)
    (pair_lexes (codes " AND ") (key word.And) and_ (λ rest. refl) (pair a (codes " >= ") low) (pair a (codes " <= ") high) (operation (mark sign.AtLeast) ps qs) (operation (mark sign.AtMost) ps rs)
    (compare_lexes comparison.AtLeast a low ps qs one two) (compare_lexes comparison.AtMost a high ps rs one three))

-- lists
module _ (X : Type 0) (f : X → List ℕ) (g : X → List Piece) where
  abbrev behind_comma : List Piece → List Piece
  behind_comma ps = mark sign.Comma ∷ ps

  comma_blank : Lexes Any Any (codes ", ") (mark sign.Comma ∷ [])
  comma_blank = joined Any Any Any (codes ",") (codes " ") (mark sign.Comma ∷ []) [] comma blank (λ rest after. tt)

  fits_list : (xs : List X) (rest : List ℕ) → AfterExpr rest → AfterExpr (listed (codes ", ") (map f xs) ++ rest)
  fits_list [] rest after = after
  fits_list (x ∷ xs) rest after = refl

  others_lex : (xs : List X) → AllByRecursion (λ x. IsText (f x) (g x)) xs → IsText (listed (codes ", ") (map f xs)) (each behind_comma (map g xs))
  others_lex [] all = anywhere Any AfterExpr [] [] nothing
  others_lex (x ∷ xs) all =
      joined Any AfterExpr AfterExpr (codes ", " ++ f x) (listed (codes ", ") (map f xs)) (mark sign.Comma ∷ g x) (each behind_comma (map g xs))
      (behind (codes ", ") (f x) (mark sign.Comma ∷ []) (g x) comma_blank all.0) (others_lex xs all.1) (fits_list xs)

  list_lexes : (xs : List X) → AllByRecursion (λ x. IsText (f x) (g x)) xs → IsText (listed [] (map f xs)) (separated (map g xs))
  list_lexes [] all = anywhere Any AfterExpr [] [] nothing
  list_lexes (x ∷ xs) all =
      joined Any AfterExpr AfterExpr (f x) (listed (codes ", ") (map f xs)) (g x) (each behind_comma (map g xs)) all.0 (others_lex xs all.1) (fits_list xs)

  -- `(a IN (b, c))`
  pub in_lexes : (a : List ℕ) (ps : List Piece) → IsText a ps → (xs : List X) → AllByRecursion (λ x. IsText (f x) (g x)) xs
      → IsText (codes "(" ++ canon.contained a (map f xs) ++ codes "))") (contained ps (map g xs))
  in_lexes a ps one xs all =
      let items = listed [] (map f xs) in
      let pieces = separated (map g xs) in
      let head = followed a (codes " IN (") ps (key word.In ∷ mark sign.OpenParenthesis ∷ []) one in_open (λ rest. refl) in
      let inside = behind (a ++ codes " IN (") items (ps ++ key word.In ∷ mark sign.OpenParenthesis ∷ []) pieces head (list_lexes xs all) in
      let two_close = joined Any Any Any (codes ")") (codes ")") (mark sign.CloseParenthesis ∷ []) (mark sign.CloseParenthesis ∷ []) close close (λ rest after. tt) in
      let all_of = (mark sign.OpenParenthesis ∷ ((ps ++ key word.In ∷ mark sign.OpenParenthesis ∷ []) ++ pieces)) ++ mark sign.CloseParenthesis ∷ mark sign.CloseParenthesis ∷ [] in
      let one_way : (ps ++ key word.In ∷ mark sign.OpenParenthesis ∷ []) ++ pieces ++ (mark sign.CloseParenthesis ∷ mark sign.CloseParenthesis ∷ [])
      ≡ ps ++ (key word.In ∷ mark sign.OpenParenthesis ∷ (pieces ++ (mark sign.CloseParenthesis ∷ mark sign.CloseParenthesis ∷ []))) =
      append_assoc (ps ++ key word.In ∷ mark sign.OpenParenthesis ∷ []) pieces (mark sign.CloseParenthesis ∷ mark sign.CloseParenthesis ∷ [])
      ∙ append_assoc ps (key word.In ∷ mark sign.OpenParenthesis ∷ []) (pieces ++ (mark sign.CloseParenthesis ∷ mark sign.CloseParenthesis ∷ [])) in
      let other_way : (ps ++ (key word.In ∷ enclosed pieces)) ++ mark sign.CloseParenthesis ∷ []
      ≡ ps ++ (key word.In ∷ mark sign.OpenParenthesis ∷ (pieces ++ (mark sign.CloseParenthesis ∷ mark sign.CloseParenthesis ∷ []))) =
      append_assoc ps (key word.In ∷ enclosed pieces) (mark sign.CloseParenthesis ∷ [])
      ∙ ap (λ rs. ps ++ (key word.In ∷ mark sign.OpenParenthesis ∷ rs)) (append_assoc pieces (mark sign.CloseParenthesis ∷ []) (mark sign.CloseParenthesis ∷ [])) in
      same_pieces Any AfterExpr (codes "(" ++ canon.contained a (map f xs) ++ codes "))") all_of (contained ps (map g xs))
      (ap (λ rs. mark sign.OpenParenthesis ∷ rs) (one_way ∙ sym other_way))
      (anywhere Any AfterExpr (codes "(" ++ canon.contained a (map f xs) ++ codes "))") all_of
      (followed (codes "(" ++ canon.contained a (map f xs)) (codes "))") (mark sign.OpenParenthesis ∷ ((ps ++ key word.In ∷ mark sign.OpenParenthesis ∷ []) ++ pieces))
      (mark sign.CloseParenthesis ∷ mark sign.CloseParenthesis ∷ [])
      (behind (codes "(") (canon.contained a (map f xs)) (mark sign.OpenParenthesis ∷ []) ((ps ++ key word.In ∷ mark sign.OpenParenthesis ∷ []) ++ pieces) open_ inside) two_close (λ rest. refl)))

-- NOT before a form that has its parentheses
pub not_around : (front inside back : List ℕ) (ps : List Piece) → IsText (front ++ inside ++ back) ps → IsText ((codes "(NOT " ++ front) ++ inside ++ (back ++ codes ")")) (enclosed (key word.Not ∷ ps))
not_around front inside back ps lexes =
    same_text Any AfterExpr (codes "(NOT " ++ (front ++ inside ++ back) ++ codes ")") ((codes "(NOT " ++ front) ++ inside ++ (back ++ codes ")")) (enclosed (key word.Not ∷ ps))
    (rewrapped (codes "(NOT ") front inside back (codes ")")) (not_lexes (front ++ inside ++ back) ps lexes)

-- a call, behind the function's word and parenthesis
pub call_lexes : (s : List ℕ) (name : List ℕ) → Lexes Any Any s (piece.Word name ∷ mark sign.OpenParenthesis ∷ []) → (a : List ℕ) (ps : List Piece) → IsText a ps
    → IsText (s ++ a ++ codes ")") (led (piece.Word name) ps)
call_lexes s name lexes a ps one =
    anywhere Any AfterExpr (s ++ a ++ codes ")") (led (piece.Word name) ps)
    (followed (s ++ a) (codes ")") (piece.Word name ∷ mark sign.OpenParenthesis ∷ ps) (mark sign.CloseParenthesis ∷ [])
    (behind s a (piece.Word name ∷ mark sign.OpenParenthesis ∷ []) ps lexes one) close (λ rest. refl))
