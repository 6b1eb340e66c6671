-- A chain of links is read link by link: each takes a piece, so that the count of pieces is enough.
use Rattle.std.proofs.Common.{◌≡◌, ◌≤◌, ◌∙◌, sym, ap, refl, subst, ℕ, zero, suc, List, [], ◌∷◌, ◌++◌, length, map, Option, Some, None, Ok, arith}
use Rattle.std.specs.List.{AllByRecursion}
use Rattle.std.proofs.lemmas.List.{append_assoc, append-nil, length-append}
use Rattle.sql_ast.specs.declared.pieces.Piece.{Piece}
use Rattle.sql_grammar.specs.Reading.{Reader, and_then, linked, chain, chain_from}
use Rattle.sql_laws.specs.Spelling.{each}

-- where nothing leads to a link
pub chain_ends : (A : Type 0) (link : Reader (Option A)) (rest : List Piece) (n : ℕ) (found : List A) → link rest ≡ Ok (None, rest)
    → chain_from link n found rest ≡ Ok (found, rest)
unfolding chain_from
chain_ends A link rest zero found none = refl
chain_ends A link rest (suc n) found none = ap (λ o. and_then o (linked (chain_from link n) found)) none

pub no_chain : (A : Type 0) (link : Reader (Option A)) (rest : List Piece) → link rest ≡ Ok (None, rest) → chain link rest ≡ Ok ([], rest)
unfolding chain
no_chain A link rest none = chain_ends A link rest (length rest) [] none

-- one link alone
pub one_link : (A : Type 0) (link : Reader (Option A)) (t : Piece) (ts rest : List Piece) (x : A) → link (t ∷ ts) ≡ Ok (Some x, rest) → link rest ≡ Ok (None, rest)
    → chain link (t ∷ ts) ≡ Ok (x ∷ [], rest)
unfolding chain chain_from
one_link A link t ts rest x is none = ap (λ o. and_then o (linked (chain_from link (length ts)) [])) is ∙ chain_ends A link rest (length ts) (x ∷ []) none

-- a link that is spelled so is read as this where what follows can
abbrev pub Links : (A B : Type 0) → Reader (Option A) → (B → List Piece) → (A → B) → (List Piece → Type 0) → A → Type 0
Links A B link spell f Good x = (more : List Piece) → Good more → link (spell (f x) ++ more) ≡ Ok (Some x, more)

module _ (A B : Type 0) (link : Reader (Option A)) (spell : B → List Piece) (f : A → B) (Good : List Piece → Type 0) (rest : List Piece)
    (none : link rest ≡ Ok (None, rest)) (good_rest : Good rest) (good : (b : B) (more : List Piece) → Good (spell b ++ more)) where
  pub good_each : (xs : List A) → Good (each spell (map f xs) ++ rest)
  good_each [] = good_rest
  good_each (x ∷ xs) = subst Good (sym (append_assoc (spell (f x)) (each spell (map f xs)) rest)) (good (f x) (each spell (map f xs) ++ rest))

  pub chain_from_reads : (xs : List A) → AllByRecursion (Links A B link spell f Good) xs → (n : ℕ) (found : List A) → length xs ≤ n
      → chain_from link n found (each spell (map f xs) ++ rest) ≡ Ok (found ++ xs, rest)
  unfolding chain_from
  chain_from_reads [] all n found few = chain_ends A link rest n found none ∙ ap (λ l. Ok (l, rest)) (sym (append-nil found))
  chain_from_reads (x ∷ xs) all zero found few = absurd (omega arith)
  chain_from_reads (x ∷ xs) all (suc n) found few =
      ap (λ ts. chain_from link (suc n) found ts) (append_assoc (spell (f x)) (each spell (map f xs)) rest)
      ∙ ap (λ o. and_then o (linked (chain_from link n) found)) (all.0 (each spell (map f xs) ++ rest) (good_each xs))
      ∙ chain_from_reads xs all.1 n (found ++ x ∷ []) (omega arith)
      ∙ ap (λ l. Ok (l, rest)) (append_assoc found (x ∷ []) xs)

  pub each_long : ((b : B) → 1 ≤ length (spell b)) → (xs : List A) → length xs ≤ length (each spell (map f xs) ++ rest)
  each_long some [] = omega arith
  each_long some (x ∷ xs) =
      omega (arith, some (f x), each_long some xs, length-append (spell (f x)) (each spell (map f xs)), length-append (spell (f x) ++ each spell (map f xs)) rest, length-append (each spell (map f xs)) rest)

  pub chain_reads : ((b : B) → 1 ≤ length (spell b)) → (xs : List A) → AllByRecursion (Links A B link spell f Good) xs
      → chain link (each spell (map f xs) ++ rest) ≡ Ok (xs, rest)
  unfolding chain
  chain_reads some xs all = chain_from_reads xs all (length (each spell (map f xs) ++ rest)) [] (each_long some xs)
