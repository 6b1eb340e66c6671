-- What stands before the blanks at the end, found from the end.
use Rattle.std.proofs.Common.{◌≡◌, ℕ, ◌<◌, ◌+◌, List, [], ◌∷◌, ◌++◌, length, get_or, take, true, false, ap, ◌&&◌}
use Rattle.std.specs.List.{list_all}
use Rattle.std.proofs.lemmas.List.{take_more}
use Rattle.tuple_codec.proofs.Truths.{and_none as and_false}
use Rattle.script_text.specs.Input.{is_blank, without_trailing}

all_blank : (bytes : List ℕ) (byte : ℕ) → is_blank byte ≡ true → list_all is_blank (bytes ++ byte ∷ []) ≡ list_all is_blank bytes
all_blank [] byte blank = rw blank
all_blank (first ∷ bytes) byte blank = ap (λ more. is_blank first && more) (all_blank bytes byte blank)

all_other : (bytes : List ℕ) (byte : ℕ) → is_blank byte ≡ false → list_all is_blank (bytes ++ byte ∷ []) ≡ false
all_other [] byte other = rw other
all_other (first ∷ bytes) byte other = rw (all_other bytes byte other) (and_false (is_blank first))

blank_behind : (bytes : List ℕ) (byte : ℕ) → is_blank byte ≡ true → without_trailing (bytes ++ byte ∷ []) ≡ without_trailing bytes
blank_behind [] byte blank = rw blank
blank_behind (first ∷ bytes) byte blank = rw (all_blank bytes byte blank, blank_behind bytes byte blank)

other_behind : (bytes : List ℕ) (byte : ℕ) → is_blank byte ≡ false → without_trailing (bytes ++ byte ∷ []) ≡ bytes ++ byte ∷ []
other_behind [] byte other = rw other
other_behind (first ∷ bytes) byte other = rw (all_other bytes byte other, and_false (is_blank first), other_behind bytes byte other)

-- a blank right before the end of a piece, or another byte
pub blank_at : (bytes : List ℕ) (end last : ℕ) → end ≡ last + 1 → last < length bytes → is_blank (get_or bytes last 0) ≡ true
    → without_trailing (take last bytes) ≡ without_trailing (take end bytes)
blank_at bytes end last next within blank = rw (next, take_more bytes last 0 within, blank_behind (take last bytes) (get_or bytes last 0) blank)

pub other_at : (bytes : List ℕ) (end last : ℕ) → end ≡ last + 1 → last < length bytes → is_blank (get_or bytes last 0) ≡ false
    → without_trailing (take end bytes) ≡ take end bytes
other_at bytes end last next within other = rw (next, take_more bytes last 0 within, other_behind (take last bytes) (get_or bytes last 0) other)
