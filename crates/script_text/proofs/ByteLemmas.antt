-- Bytes are told by their hex text, and the bytes of an address by its characters.
use Rattle.std.proofs.Common.{◌≡◌, refl, sym, ap, ◌∙◌, ℕ, suc, zero, ◌/◌, ◌%◌, ◌^◌, ◌<◌, Bool, true, List, [], ◌∷◌, slice_index, Ok, arith, lt-ltb, ltb-true, eqb-true}
use Rattle.std.specs.List.{list_all}
use Rattle.std.proofs.lemmas.Bool.{and_parts, and_from}
use Rattle.hex.specs.Hex.{IsBytes, decode_of, encode_lower, encode_with, lower_digits}
use Rattle.hex.proofs.HexLemmas.{decode_of-encode_lower}
use Rattle.tuple_codec.specs.AddressTexts.{address_text, forty_bits, letter, letters}
use Rattle.tuple_codec.proofs.AddressLemmas.{one_text}
use Rattle.script_text.specs.Shown.{are_bytes, is_whole_address}
use Rattle.script_text.proofs.TextParts.{all_append}

-- what is below 256 at each place
pub are_bytes_from : (bytes : List ℕ) → ((i : ℕ) → slice_index bytes i < 256) → are_bytes bytes ≡ true
are_bytes_from [] fit = refl
are_bytes_from (byte ∷ bytes) fit = and_from _ _ (lt-ltb byte 256 (fit 0)) (are_bytes_from bytes (λ i. fit (suc i)))

below_at : (bytes : List ℕ) → are_bytes bytes ≡ true → IsBytes bytes
below_at [] all i = omega arith
below_at (byte ∷ bytes) all zero = ltb-true byte 256 (and_parts _ _ all).0
below_at (byte ∷ bytes) all (suc i) = below_at bytes (and_parts _ _ all).1 i

-- bytes of one hex text are the same
pub one_hex : (a b : List ℕ) → are_bytes a ≡ true → are_bytes b ≡ true → encode_lower a ≡ encode_lower b → a ≡ b
one_hex a b all each e =
    let same : Ok a ≡ Ok b = sym (decode_of-encode_lower a (below_at a all)) ∙ ap decode_of e ∙ decode_of-encode_lower b (below_at b each) in
    cc

-- what holds of zero and of each byte holds at each place, also behind the last byte
pub passes_at : (p : ℕ → Bool) (bytes : List ℕ) (place : ℕ) → p 0 ≡ true → list_all p bytes ≡ true → p (slice_index bytes place) ≡ true
passes_at p [] place zero_passes all = zero_passes
passes_at p (byte ∷ bytes) zero zero_passes all = (and_parts _ _ all).0
passes_at p (byte ∷ bytes) (suc place) zero_passes all = passes_at p bytes place zero_passes (and_parts _ _ all).1

-- what holds of each digit holds of a hex text
hex_passes : (p : ℕ → Bool) (table bytes : List ℕ) → p 0 ≡ true → list_all p table ≡ true → list_all p (encode_with table bytes) ≡ true
unfolding encode_with
hex_passes p table [] zero_passes all = refl
hex_passes p table (byte ∷ bytes) zero_passes all =
    and_from _ _ (passes_at p table (byte / 16) zero_passes all) (and_from _ _ (passes_at p table (byte % 16) zero_passes all) (hex_passes p table bytes zero_passes all))

pub all_hex : (p : ℕ → Bool) (bytes : List ℕ) → p 0 ≡ true → list_all p lower_digits ≡ true → list_all p (encode_lower bytes) ≡ true
all_hex p bytes zero_passes all = hex_passes p lower_digits bytes zero_passes all

-- whole addresses of one text are the same
pub one_address : (a b : List ℕ) → is_whole_address a ≡ true → is_whole_address b ≡ true → address_text a ≡ address_text b → a ≡ b
one_address a b whole full e =
    let left = and_parts _ _ whole in
    let right = and_parts _ _ full in
    one_text a b (eqb-true _ _ left.0, below_at a left.1) (eqb-true _ _ right.0, below_at b right.1) e

letters_pass : (p : ℕ → Bool) → ((bits : ℕ) → p (letter bits) ≡ true) → (k n : ℕ) → list_all p (letters k n) ≡ true
letters_pass p passes zero n = refl
letters_pass p passes (suc k) n = and_from _ _ (passes (n / 32 ^ k % 32)) (letters_pass p passes k n)

-- what holds of each character holds of an address
pub all_letters : (p : ℕ → Bool) → ((bits : ℕ) → p (letter bits) ≡ true) → (bytes : List ℕ) → list_all p (address_text bytes) ≡ true
all_letters p passes [] = refl
all_letters p passes (a ∷ []) = refl
all_letters p passes (a ∷ b ∷ []) = refl
all_letters p passes (a ∷ b ∷ c ∷ []) = refl
all_letters p passes (a ∷ b ∷ c ∷ d ∷ []) = refl
all_letters p passes (a ∷ b ∷ c ∷ d ∷ e ∷ rest) =
    all_append p (letters 8 (forty_bits a b c d e)) (address_text rest) (letters_pass p passes 8 (forty_bits a b c d e)) (all_letters p passes rest)
