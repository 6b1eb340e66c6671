-- Bytes and the tokens that they begin, end and go on with.
use Rattle.std.proofs.Common.{◌≡◌, ◌∙◌, ◌⊎◌, inl, inr, sym, ap, refl, subst, ℕ, Bool, true, false, ◌==◌, ◌||◌, List, [], ◌∷◌, Some, None}
use Rattle.std.proofs.lemmas.Bool.{eqb-true, false≢true, or_from as or_false}
use Rattle.sql_ast.specs.Bytes.{is_blank, is_word_byte, is_word_start}
use Rattle.sql_ast.specs.Tokens.{first_place, next_place}
use Rattle.sql_ast.specs.declared.places.LexerState.TheVariants as place

-- a byte of a kind is none that isn't
pub differs : (test : ℕ → Bool) (byte other : ℕ) → test byte ≡ true → test other ≡ false → (byte == other) ≡ false
differs test byte other is not_ =
    elim (byte == other) as (λ b. (byte == other) ≡ b → b ≡ false) [
      | true ↦ λ e. absurd (false≢true (sym not_ ∙ ap test (sym (eqb-true byte other e)) ∙ is))
      | false ↦ λ e. refl
    ] refl

-- the places at which a word stands
pub begins_word : (byte : ℕ) → is_word_start byte ≡ true → (is_blank byte ≡ false) × ((first_place byte ≡ Some place.AfterX) ⊎ (first_place byte ≡ Some place.InWord))
begins_word byte start = (
  or_false (byte == 32) (byte == 9) (differs is_word_start byte 32 start refl) (differs is_word_start byte 9 start refl),
  elim (byte == 120 || byte == 88) as (λ b. (byte == 120 || byte == 88) ≡ b → (first_place byte ≡ Some place.AfterX) ⊎ (first_place byte ≡ Some place.InWord)) [
    | true ↦ λ e. inl (rw e refl)
    | false ↦ λ e. inr (rw (e, start) refl)
  ] refl,
)

pub on_word : (byte : ℕ) → is_word_byte byte ≡ true → next_place place.InWord byte ≡ Some place.InWord
on_word byte word = rw word refl

pub after_x : (byte : ℕ) → is_word_byte byte ≡ true → next_place place.AfterX byte ≡ Some place.InWord
after_x byte word = rw (differs is_word_byte byte 39 word refl, word) refl

-- what ends a word
pub record EndsWord (byte : ℕ) : Type 0 where
  pub other : is_word_byte byte ≡ false
  pub quote : (byte == 39) ≡ false

pub ends_word : (byte : ℕ) → EndsWord byte → next_place place.InWord byte ≡ None
ends_word byte ends = rw ends.other refl

pub ends_x : (byte : ℕ) → EndsWord byte → next_place place.AfterX byte ≡ None
ends_x byte ends = rw (ends.quote, ends.other) refl

-- what stands behind an expression: the end, or one of these bytes
abbrev pub is_end : ℕ → Bool
is_end byte = byte == 32 || (byte == 41 || byte == 44)

pub at_end : (P : ℕ → Type 0) → P 32 → P 41 → P 44 → (byte : ℕ) → is_end byte ≡ true → P byte
at_end P blank close comma byte end =
    elim (byte == 32) as (λ b. (byte == 32) ≡ b → P byte) [
      | true ↦ λ e. subst P (sym (eqb-true byte 32 e)) blank
      | false ↦ λ e. elim (byte == 41) as (λ b. (byte == 41) ≡ b → P byte) [
        | true ↦ λ f. subst P (sym (eqb-true byte 41 f)) close
        | false ↦ λ f. subst P (sym (eqb-true byte 44 (sym (rw (e, f) refl) ∙ end))) comma
      ] refl
    ] refl

abbrev pub AfterExpr : List ℕ → Type 0
AfterExpr [] = Unit {0}
AfterExpr (byte ∷ bytes) = is_end byte ≡ true
