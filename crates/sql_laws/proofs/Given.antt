-- Whatever is read of pieces that a text gives is written: names, values, lists and operators.
use Rattle.std.proofs.Common.{◌≡◌, refl, subst, ℕ, true, false, Bool, cond, List, [], ◌∷◌, length, Some, Ok, Err}
use Rattle.std.proofs.lemmas.Bool.{and_parts}
use Rattle.sql_ast.specs.Tokens.{after_keyword, after_sign}
use Rattle.sql_ast.specs.declared.places.Last.{Last}
use Rattle.sql_ast.specs.declared.places.Last.TheVariants.{Operand}
use Rattle.sql_ast.specs.declared.signs.Sign.{Sign}
use Rattle.sql_ast.specs.declared.signs.Sign.TheVariants as sign
use Rattle.sql_ast.specs.declared.words.Keyword.{Keyword}
use Rattle.sql_ast.specs.declared.words.Keyword.TheVariants as word
use Rattle.sql_ast.specs.declared.pieces.Piece.{Piece}
use Rattle.sql_ast.specs.declared.pieces.Piece.TheVariants as piece
use Rattle.sql_grammar.specs.Pieces.{is_keyword, is_sign, same_keyword, same_sign}
use Rattle.sql_grammar.specs.Reading.{Outcome, Reader, and_then, eat, eat_keyword, expect, expect_keyword, name, sees, sees_keyword}
use Rattle.sql_laws.specs.Spelling.{key, mark}
use Rattle.sql_laws.specs.Written.{after_piece, are_given, is_given, is_name}

-- what was read is such, and what is left is given behind it
abbrev pub Gave : (A : Type 0) → (A → Type 0) → (A → Last) → Outcome A → Type 0
Gave A P to (Ok read) = P read.0 × (are_given (to read.0) read.1 ≡ true)
Gave A P to (Err left) = Unit {0}

-- a reader that gives such, of pieces that are given
abbrev pub From : Last → (A : Type 0) → (A → Type 0) → (A → Last) → Reader A → Type 0
From last A P to reader = (ts : List Piece) → are_given last ts ≡ true → Gave A P to (reader ts)

abbrev pub AnyOf : (A : Type 0) → A → Type 0
AnyOf A x = Unit {0}

abbrev pub operand : {A : Type 0} → A → Last
operand x = Operand

pub after : (A B : Type 0) (P : A → Type 0) (to : A → Last) (Q : B → Type 0) (then_to : B → Last) (o : Outcome A) (next : A → Reader B) → Gave A P to o
    → ((x : A) → P x → From (to x) B Q then_to (next x)) → Gave B Q then_to (and_then o next)
after A B P to Q then_to (Ok read) next gave goes = goes read.0 gave.0 read.1 gave.1
after A B P to Q then_to (Err left) next gave goes = tt

pub rest_given : (last : Last) (t : Piece) (ts : List Piece) → are_given last (t ∷ ts) ≡ true → are_given (after_piece t last) ts ≡ true
rest_given last t ts given = (and_parts (is_given last t) (are_given (after_piece t last) ts) given).1

-- signs and words that are taken

abbrev IsSign : Sign → Type 0
IsSign s = (t : Piece) → is_sign s t ≡ true → t ≡ mark s

abbrev IsKey : Keyword → Type 0
IsKey w = (t : Piece) → is_keyword w t ≡ true → t ≡ key w

pub is_open : IsSign sign.OpenParenthesis
unfolding same_sign
is_open (piece.Sign sign.OpenParenthesis) is = refl
is_open t is = absurd (cc)

pub is_close : IsSign sign.CloseParenthesis
unfolding same_sign
is_close (piece.Sign sign.CloseParenthesis) is = refl
is_close t is = absurd (cc)

pub is_comma : IsSign sign.Comma
unfolding same_sign
is_comma (piece.Sign sign.Comma) is = refl
is_comma t is = absurd (cc)

pub is_point : IsSign sign.Point
unfolding same_sign
is_point (piece.Sign sign.Point) is = refl
is_point t is = absurd (cc)

pub is_star : IsSign sign.Star
unfolding same_sign
is_star (piece.Sign sign.Star) is = refl
is_star t is = absurd (cc)

pub is_minus : IsSign sign.Minus
unfolding same_sign
is_minus (piece.Sign sign.Minus) is = refl
is_minus t is = absurd (cc)

pub is_at_at : IsSign sign.AtAt
unfolding same_sign
is_at_at (piece.Sign sign.AtAt) is = refl
is_at_at t is = absurd (cc)

pub is_and : IsKey word.And
unfolding same_keyword
is_and (piece.Keyword word.And) is = refl
is_and t is = absurd (cc)

pub is_or : IsKey word.Or
unfolding same_keyword
is_or (piece.Keyword word.Or) is = refl
is_or t is = absurd (cc)

pub is_not : IsKey word.Not
unfolding same_keyword
is_not (piece.Keyword word.Not) is = refl
is_not t is = absurd (cc)

pub is_null : IsKey word.Null
unfolding same_keyword
is_null (piece.Keyword word.Null) is = refl
is_null t is = absurd (cc)

module _ (last : Last) (s : Sign) (exact : IsSign s) where
  pub behind_sign : (t : Piece) (ts : List Piece) → are_given last (t ∷ ts) ≡ true → is_sign s t ≡ true → are_given (after_sign s last) ts ≡ true
  behind_sign t ts given is = subst (λ u. are_given (after_piece u last) ts ≡ true) (exact t is) (rest_given last t ts given)

  pub eats : From last Bool (AnyOf Bool) (λ b. cond b (after_sign s last) last) (eat s)
  unfolding sees
  eats [] given = (tt, refl)
  eats (t ∷ ts) given =
      elim (is_sign s t) as (λ b. is_sign s t ≡ b → Gave Bool (AnyOf Bool) (λ c. cond c (after_sign s last) last) (cond b (Ok (true, ts)) (Ok (false, t ∷ ts)))) [
        | true ↦ λ is. (tt, behind_sign t ts given is)
        | false ↦ λ is. (tt, given)
      ] refl

  pub expects : From last (Unit {0}) (AnyOf (Unit {0})) (λ u. after_sign s last) (expect s)
  unfolding sees
  expects [] given = tt
  expects (t ∷ ts) given =
      elim (is_sign s t) as (λ b. is_sign s t ≡ b → Gave (Unit {0}) (AnyOf (Unit {0})) (λ u. after_sign s last) (cond b (Ok (tt, ts)) (Err (length (t ∷ ts))))) [
        | true ↦ λ is. (tt, behind_sign t ts given is)
        | false ↦ λ is. tt
      ] refl

module _ (last : Last) (w : Keyword) (exact : IsKey w) where
  behind_word : (t : Piece) (ts : List Piece) → are_given last (t ∷ ts) ≡ true → is_keyword w t ≡ true → are_given (after_keyword (Some w)) ts ≡ true
  behind_word t ts given is = subst (λ u. are_given (after_piece u last) ts ≡ true) (exact t is) (rest_given last t ts given)

  pub eats_word : From last Bool (AnyOf Bool) (λ b. cond b (after_keyword (Some w)) last) (eat_keyword w)
  unfolding sees_keyword
  eats_word [] given = (tt, refl)
  eats_word (t ∷ ts) given =
      elim (is_keyword w t) as (λ b. is_keyword w t ≡ b → Gave Bool (AnyOf Bool) (λ c. cond c (after_keyword (Some w)) last) (cond b (Ok (true, ts)) (Ok (false, t ∷ ts)))) [
        | true ↦ λ is. (tt, behind_word t ts given is)
        | false ↦ λ is. (tt, given)
      ] refl

  pub expects_word : From last (Unit {0}) (AnyOf (Unit {0})) (λ u. after_keyword (Some w)) (expect_keyword w)
  unfolding sees_keyword
  expects_word [] given = tt
  expects_word (t ∷ ts) given =
      elim (is_keyword w t) as (λ b. is_keyword w t ≡ b → Gave (Unit {0}) (AnyOf (Unit {0})) (λ u. after_keyword (Some w)) (cond b (Ok (tt, ts)) (Err (length (t ∷ ts))))) [
        | true ↦ λ is. (tt, behind_word t ts given is)
        | false ↦ λ is. tt
      ] refl

pub name_given : (last : Last) → From last (List ℕ) (λ n. is_name n ≡ true) operand name
unfolding name
name_given last [] given = tt
name_given last (piece.Word n ∷ ts) given = and_parts (is_name n) (are_given Operand ts) given
name_given last (piece.Quoted n ∷ ts) given = and_parts (is_name n) (are_given Operand ts) given
name_given last (t ∷ ts) given = tt
