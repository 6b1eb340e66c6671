-- Addresses as text.
use Rattle.std.specs.Prelude.{◌≡◌, ℕ, zero, suc, ◌+◌, ◌-◌, ◌*◌, ◌/◌, ◌%◌, ◌^◌, ◌<◌, ◌&&◌, nat_le, nat_lt, if◌then◌else◌, List, [], ◌∷◌, ◌++◌, length, slice_index, Option, None, Some}
use Rattle.tuple_codec.specs.declared.addresses.Address.{Address}

-- the characters 0 to 9 and a to v stand for five bits each
unfoldable pub letter : ℕ → ℕ
letter bits = if nat_lt bits 10 then 48 + bits else 87 + bits

-- the lowest k times five bits of n, the most significant first
abbrev pub letters : ℕ → ℕ → List ℕ
letters zero n = []
letters (suc k) n = letter (n / 32 ^ k % 32) ∷ letters k n

-- the number of five bytes
abbrev pub forty_bits : ℕ → ℕ → ℕ → ℕ → ℕ → ℕ
forty_bits a b c d e = (((a * 256 + b) * 256 + c) * 256 + d) * 256 + e

-- each five bytes are 40 bits, which are eight characters
abbrev pub address_text : List ℕ → List ℕ
address_text (a ∷ b ∷ c ∷ d ∷ e ∷ rest) = letters 8 (forty_bits a b c d e) ++ address_text rest
address_text rest = []

-- the number of the first five of some bytes
abbrev pub number_of_five : List ℕ → ℕ
number_of_five bytes = forty_bits (slice_index bytes 0) (slice_index bytes 1) (slice_index bytes 2) (slice_index bytes 3) (slice_index bytes 4)

-- twenty bytes
abbrev pub IsAddress : List ℕ → Type 0
IsAddress bytes = (length bytes ≡ 20) × ((i : ℕ) → slice_index bytes i < 256)

-- the address that has the text, or that there is none
abbrev pub ReadsAddress : List ℕ → Option Address → Type 0
ReadsAddress text None = (bytes : List ℕ) → IsAddress bytes → address_text bytes ≡ text → ⊥
ReadsAddress text (Some address) = address_text address.0 ≡ text

-- the bits of a character; of any other byte none
unfoldable pub bits_of_letter : ℕ → ℕ
bits_of_letter byte = if nat_le 48 byte && nat_lt byte 58 then byte - 48 else (if nat_le 97 byte && nat_lt byte 119 then byte - 87 else 0)

-- the number of eight characters
abbrev pub of_letters : ℕ → ℕ → ℕ → ℕ → ℕ → ℕ → ℕ → ℕ → ℕ
of_letters a b c d e f g h = ((((((a * 32 + b) * 32 + c) * 32 + d) * 32 + e) * 32 + f) * 32 + g) * 32 + h

-- the number of the first eight characters of a text
abbrev pub number_of_eight : List ℕ → ℕ
number_of_eight text =
    of_letters (bits_of_letter (slice_index text 0)) (bits_of_letter (slice_index text 1)) (bits_of_letter (slice_index text 2)) (bits_of_letter (slice_index text 3))
    (bits_of_letter (slice_index text 4)) (bits_of_letter (slice_index text 5)) (bits_of_letter (slice_index text 6)) (bits_of_letter (slice_index text 7))

abbrev pub five_bytes : ℕ → List ℕ
five_bytes n = n / 256 ^ 4 % 256 ∷ n / 256 ^ 3 % 256 ∷ n / 256 ^ 2 % 256 ∷ n / 256 % 256 ∷ n % 256 ∷ []

-- each eight characters as five bytes
abbrev pub address_bytes : List ℕ → List ℕ
address_bytes (a ∷ b ∷ c ∷ d ∷ e ∷ f ∷ g ∷ h ∷ rest) = five_bytes (number_of_eight (a ∷ b ∷ c ∷ d ∷ e ∷ f ∷ g ∷ h ∷ [])) ++ address_bytes rest
address_bytes rest = []
