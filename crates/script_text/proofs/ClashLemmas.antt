-- What a line tells of a collision is read back: its address, and its two byte strings.
use Rattle.std.proofs.Common.{◌≡◌, refl, sym, ap, ◌∙◌, ℕ, ◌+◌, ◌==◌, Bool, true, List, [], ◌∷◌, ◌++◌, drop, not, append_assoc, arith, nat_lt}
use Rattle.std.proofs.lemmas.Bool.{and_parts, cond_both, ne_eqb}
use Rattle.hex.specs.Hex.{encode_lower}
use Rattle.chunk_store.specs.declared.faults.Clash.{Clash}
use Rattle.tuple_codec.specs.AddressTexts.{address_text, letter}
use Rattle.script_text.specs.Output.{clash_text}
use Rattle.script_text.specs.Shown.{are_bytes, is_one_line, is_shown_reply, is_whole_address}
use Rattle.script_text.specs.declared.replies.Reply.TheVariants.{Collided}
use Rattle.script_text.proofs.ByteLemmas.{all_hex, all_letters, one_address, one_hex}
use Rattle.script_text.proofs.TextParts.{Stops, line_append, until}

abbrev is_in_word : ℕ → Bool
is_in_word byte = not (byte == 32)

-- a letter is a digit or stands behind `W`
letter_in_word : (bits : ℕ) → is_in_word (letter bits) ≡ true
unfolding letter
letter_in_word bits = cond_both (nat_lt bits 10) (48 + bits) (87 + bits) (λ byte. is_in_word byte ≡ true) (λ e. ap not (ne_eqb (48 + bits) 32 (λ same. omega arith))) (λ e. ap not (ne_eqb (87 + bits) 32 (λ same. omega arith)))

letter_in_line : (bits : ℕ) → not (letter bits == 10) ≡ true
unfolding letter
letter_in_line bits = cond_both (nat_lt bits 10) (48 + bits) (87 + bits) (λ byte. not (byte == 10) ≡ true) (λ e. ap not (ne_eqb (48 + bits) 10 (λ same. omega arith))) (λ e. ap not (ne_eqb (87 + bits) 10 (λ same. omega arith)))

at_space : (x : List ℕ) → Stops is_in_word (32 ∷ x)
at_space x = record { byte = 32; rest = x; is = refl; stops = refl }

clash_more : (clash : Clash) → clash_text clash ≡ 32 ∷ (address_text clash.address.0 ++ (32 ∷ (encode_lower clash.first ++ (32 ∷ encode_lower clash.second))))
clash_more clash = simp append_assoc

-- there is some text of it
pub told_clash : (clash : Clash) → [] ≡ clash_text clash → ⊥
told_clash clash e = cc (e, clash_more clash)

-- on one line
pub clash_in_line : (clash : Clash) → is_one_line (clash_text clash) ≡ true
clash_in_line clash =
    let second = all_hex (λ byte. not (byte == 10)) clash.second refl refl in
    let first = line_append (encode_lower clash.first) (32 ∷ encode_lower clash.second) (all_hex (λ byte. not (byte == 10)) clash.first refl refl) second in
    ap is_one_line (clash_more clash)
    ∙ line_append (address_text clash.address.0) (32 ∷ (encode_lower clash.first ++ (32 ∷ encode_lower clash.second))) (all_letters (λ byte. not (byte == 10)) letter_in_line clash.address.0) first

pub same_clash : (a b : Clash) → a.address.0 ≡ b.address.0 → a.first ≡ b.first → a.second ≡ b.second → a ≡ b
same_clash a b p q r = λ i. record { address = record { 0 = p i }; first = q i; second = r i }

pub record IsShownClash (clash : Clash) : Type 0 where
  pub address : is_whole_address clash.address.0 ≡ true
  pub first : are_bytes clash.first ≡ true
  pub second : are_bytes clash.second ≡ true

pub shown_clash : (clash : Clash) → is_shown_reply (Collided clash) ≡ true → IsShownClash clash
shown_clash clash shown =
    let parts = and_parts _ _ shown in
    let fronts = and_parts _ _ parts.0 in
    record { address = fronts.0; first = fronts.1; second = parts.1 }

-- and one collision alone has its text
pub one_clash : (a b : Clash) → IsShownClash a → IsShownClash b → clash_text a ≡ clash_text b → a ≡ b
one_clash a b left right e =
    let after = ap (drop 1) (sym (clash_more a) ∙ e ∙ clash_more b) in
    let addresses = until is_in_word (address_text a.address.0) (address_text b.address.0) (32 ∷ (encode_lower a.first ++ (32 ∷ encode_lower a.second))) (32 ∷ (encode_lower b.first ++ (32 ∷ encode_lower b.second)))
    (all_letters is_in_word letter_in_word a.address.0) (all_letters is_in_word letter_in_word b.address.0) (at_space _) (at_space _) after in
    let firsts = until is_in_word (encode_lower a.first) (encode_lower b.first) (32 ∷ encode_lower a.second) (32 ∷ encode_lower b.second)
    (all_hex is_in_word a.first refl refl) (all_hex is_in_word b.first refl refl) (at_space _) (at_space _) (ap (drop 1) addresses.1) in
    same_clash a b (one_address a.address.0 b.address.0 left.address right.address addresses.0) (one_hex a.first b.first left.first right.first firsts.0)
    (one_hex a.second b.second left.second right.second (ap (drop 1) firsts.1))
