-- The first line of bytes, and the lines that follow it.
use Rattle.std.proofs.Common.{◌≡◌, ℕ, ◌==◌, ◌<◌, ◌+◌, List, [], ◌∷◌, length, take, drop, arith, Bool, true, false, refl, ap, ◌∙◌, subst, Some, None, cond, nat_lt, not, suc}
use Rattle.std.specs.List.{position, position_or_len, slice_split, onto_first}
use Rattle.std.proofs.lemmas.List.Splits.{slice_split_first, slice_split-cons_no, length-slice_split}
use Rattle.std.proofs.lemmas.List.Sums.{prefix_len-le-length}
use Rattle.std.proofs.lemmas.Bool.Decides.{nat_tests}
use Rattle.script_text.specs.Input.{lines_from, lines_of, without_return}

found : (test : Bool) (place end : ℕ) → cond test (Some place) None ≡ Some end → (test ≡ true) × (place ≡ end)
found true place end some = (refl, cc some)
found false place end some = absurd (cc some)

missed : (test : Bool) (place : ℕ) → cond test (Some place) None ≡ None → test ≡ false
missed true place none = absurd (cc none)
missed false place none = refl

passed : (test : Bool) (count more : ℕ) → cond (not test) (1 + count) 0 ≡ suc more → (test ≡ false) × (count ≡ more)
passed true count more all = absurd (omega (arith, all))
passed false count more all = (refl, omega (arith, all))

uncut : (p : ℕ → Bool) (bytes : List ℕ) → position_or_len p bytes ≡ length bytes → slice_split p bytes ≡ bytes ∷ []
uncut p [] all = refl
uncut p (byte ∷ bytes) all = let parts = passed (p byte) (position_or_len p bytes) (length bytes) all in
    slice_split-cons_no p byte bytes parts.0 ∙ ap (onto_first byte) (uncut p bytes parts.1)

pub cut_none : (p : ℕ → Bool) (bytes : List ℕ) → position p bytes ≡ None → slice_split p bytes ≡ bytes ∷ []
cut_none p bytes none =
    let not_less = missed (nat_lt (position_or_len p bytes) (length bytes)) (position_or_len p bytes) none in
    let most = prefix_len-le-length (λ byte. not (p byte)) bytes in
    uncut p bytes (grind (arith, nat_tests, not_less, most))

pub cut_some : (p : ℕ → Bool) (bytes : List ℕ) (end : ℕ) → position p bytes ≡ Some end → slice_split p bytes ≡ take end bytes ∷ slice_split p (drop (end + 1) bytes)
cut_some p bytes end some =
    let parts = found (nat_lt (position_or_len p bytes) (length bytes)) (position_or_len p bytes) end some in
    let within : position_or_len p bytes < length bytes = grind (arith, nat_tests, parts.0) in
    let P : ℕ → Type 0 = λ n. slice_split p bytes ≡ take n bytes ∷ slice_split p (drop (n + 1) bytes) in
    subst P parts.1 (slice_split_first p bytes 0 within)

lines_behind : (piece : List ℕ) (pieces : List (List ℕ)) → 0 < length pieces → lines_from (piece ∷ pieces) ≡ without_return piece ∷ lines_from pieces
lines_behind piece [] some = absurd (omega (arith, some))
lines_behind [] (next ∷ pieces) some = refl
lines_behind (byte ∷ bytes) (next ∷ pieces) some = refl

pub line_at : (bytes : List ℕ) (end : ℕ) → position (λ byte. byte == 10) bytes ≡ Some end → lines_of bytes ≡ without_return (take end bytes) ∷ lines_of (drop (end + 1) bytes)
line_at bytes end some =
    let count = length-slice_split (λ (byte : ℕ). byte == 10) (drop (end + 1) bytes) in
    ap lines_from (cut_some (λ byte. byte == 10) bytes end some)
    ∙ lines_behind (take end bytes) (slice_split (λ byte. byte == 10) (drop (end + 1) bytes)) (omega (arith, count))

pub last_line : (bytes : List ℕ) → position (λ byte. byte == 10) bytes ≡ None → 0 < length bytes → lines_of bytes ≡ bytes ∷ []
last_line [] none some = absurd (omega (arith, some))
last_line (byte ∷ bytes) none some = ap lines_from (cut_none (λ byte. byte == 10) (byte ∷ bytes) none)
