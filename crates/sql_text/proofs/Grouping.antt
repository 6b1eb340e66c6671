-- The text of a chain, as the text of operations of two operands that are grouped from the left.
use Rattle.std.proofs.Common.{◌≡◌, ◌∙◌, sym, ap, refl, ℕ, zero, suc, ◌++◌, List, [], ◌∷◌, length, codes}
use Rattle.std.proofs.lemmas.List.{append_assoc, append-nil}
use Rattle.sql_ast.specs.declared.expressions.Term.{Term}
use Rattle.sql_text.specs.Canon.{addends, chain, opened, operands, sum_text, term_word}

-- `(a op b)`
abbrev pub pair : List ℕ → List ℕ → List ℕ → List ℕ
pair a word b = codes "(" ++ a ++ word ++ b ++ codes ")"

abbrev pub grouped : List ℕ → List ℕ → List (List ℕ) → List ℕ
grouped word a [] = a
grouped word a (b ∷ texts) = grouped word (pair a word b) texts

abbrev pub summed : List ℕ → List (Term × List ℕ) → List ℕ
summed a [] = a
summed a (term ∷ terms) = summed (pair a (term_word term.0) term.1) terms

moved : (n : ℕ) (rest : List ℕ) → 40 ∷ (opened n ++ rest) ≡ opened n ++ (40 ∷ rest)
moved zero rest = refl
moved (suc n) rest = ap (λ (ys : List ℕ). 40 ∷ ys) (moved n rest)

-- the first operand and the next, taken as one
joined : (n : ℕ) (a word b rest : List ℕ) → opened (suc n) ++ a ++ (word ++ b ++ codes ")" ++ rest) ≡ opened n ++ pair a word b ++ rest
joined n a word b rest =
    let left : opened n ++ a ++ (word ++ b ++ codes ")" ++ rest) ≡ opened n ++ (a ++ (word ++ (b ++ (codes ")" ++ rest)))) = simp append_assoc refl in
    let right : opened n ++ pair a word b ++ rest ≡ opened n ++ (40 ∷ (a ++ (word ++ (b ++ (codes ")" ++ rest))))) = simp append_assoc refl in
    ap (λ (ys : List ℕ). 40 ∷ ys) left ∙ moved n (a ++ (word ++ (b ++ (codes ")" ++ rest)))) ∙ sym right

pub chain_is_grouped : (word a : List ℕ) (texts : List (List ℕ)) → chain word a texts ≡ grouped word a texts
chain_is_grouped word a [] = append-nil a
chain_is_grouped word a (b ∷ texts) = joined (length texts) a word b (operands word texts) ∙ chain_is_grouped word (pair a word b) texts

pub sum_is_grouped : (a : List ℕ) (terms : List (Term × List ℕ)) → sum_text a terms ≡ summed a terms
sum_is_grouped a [] = append-nil a
sum_is_grouped a (term ∷ terms) = joined (length terms) a (term_word term.0) term.1 (addends terms) ∙ sum_is_grouped (pair a (term_word term.0) term.1) terms
