-- The boundary rule by its cases, and what stands before a key that is hashed.
use Rattle.std.proofs.Common.{◌≡◌, ℕ, ◌+◌, ◌*◌, ◌/◌, ◌^◌, ◌<◌, ◌≤◌, true, false, List, [], ◌∷◌, length, take, slice_set, refl, sym, ap, ◌∙◌, arith, inl, inr}
use Rattle.std.specs.Prelude.{nat_lt}
use Rattle.std.specs.Int.{w32, from_be_bytes}
use Rattle.std.proofs.lemmas.Bool.{le-leb, lt-leb, ltb-false, le-ltb, both_ways, cases_lt}
use Rattle.std.proofs.lemmas.Slice.{take-put_mid}
use borrow.Rule.Slice.PartMut.{put_mid}
use Rattle.tuple_codec.specs.Nodes.{ends}

module _ (address : List ℕ → List ℕ) (level size count : ℕ) (key : List ℕ) where
  pub one : count < 2 → ends address level size count key ≡ false
  unfolding ends
  one few = rw (lt-leb 2 count few) refl

  pub full : 2 ≤ count → 16384 ≤ size → ends address level size count key ≡ true
  unfolding ends
  full more large = rw (le-leb 2 count more, le-leb 16384 size large) refl

  pub small : 2 ≤ count → size < 512 → ends address level size count key ≡ false
  unfolding ends
  small more little = rw (le-leb 2 count more, lt-leb 16384 size (omega arith), lt-leb 512 size little) refl

  pub between : (number : ℕ) → 2 ≤ count → size < 16384 → 512 ≤ size → number ≡ from_be_bytes w32 (take 4 (address (level ∷ key)))
      → ends address level size count key ≡ nat_lt number ((1 + size / 1024) * 2 ^ 24)
  unfolding ends
  between number more below enough is =
      rw (le-leb 2 count more, lt-leb 16384 size below, le-leb 512 size enough) (ap (λ n. nat_lt n ((1 + size / 1024) * 2 ^ 24)) (sym is))

pub put_front : (bytes ys key : List ℕ) (level k : ℕ) → 1 + length key ≤ length bytes → ys ≡ key → take (1 + length key) (put_mid 1 k (slice_set bytes 0 level) ys) ≡ level ∷ key
put_front [] ys key level k le e = absurd (omega arith)
put_front (b ∷ bs) ys key level k le e =
    take-put_mid 1 k (level ∷ bs) ys (1 + length key) (ap (λ l. 1 + length l) (sym e)) (omega arith) ∙ ap (λ l. level ∷ l) e

-- ---- steps of 1,024 bytes

-- the number by which a key ends a node or not
abbrev draw_of : (List ℕ → List ℕ) → ℕ → List ℕ → ℕ
draw_of address level key = from_be_bytes w32 (take 4 (address (level ∷ key)))

-- an item that didn't end its node stood below 16,384 bytes, and its number is no less than the bound there
pub stayed_small : (address : List ℕ → List ℕ) (level size count : ℕ) (key : List ℕ) → 2 ≤ count → ends address level size count key ≡ false → size < 16384
stayed_small address level size count key second stayed =
    elim (cases_lt size 16384) [
      | inl below ↦ below
      | inr over ↦ absurd (both_ways (ends address level size count key) stayed (full address level size count key second over))
    ]

stayed_number : (address : List ℕ → List ℕ) (level size count : ℕ) (key : List ℕ) → 2 ≤ count → 512 ≤ size → size < 16384 → ends address level size count key ≡ false
    → (1 + size / 1024) * 2 ^ 24 ≤ draw_of address level key
stayed_number address level size count key second enough below stayed =
    ltb-false (draw_of address level key) ((1 + size / 1024) * 2 ^ 24)
    (sym (between address level size count key (draw_of address level key) second below enough refl) ∙ stayed)

stays_small : (address : List ℕ → List ℕ) (level size count : ℕ) (key : List ℕ) → size < 16384 → (1 + size / 1024) * 2 ^ 24 ≤ draw_of address level key
    → ends address level size count key ≡ false
stays_small address level size count key below no_less =
    elim (cases_lt count 2) [
      | inl few ↦ one address level size count key few
      | inr second ↦ elim (cases_lt size 512) [
        | inl little ↦ small address level size count key second little
        | inr enough ↦ between address level size count key (draw_of address level key) second below enough refl
            ∙ le-ltb (draw_of address level key) ((1 + size / 1024) * 2 ^ 24) no_less
      ]
    ]

pub kept : (address : List ℕ → List ℕ) (level old_size old_count : ℕ) (key : List ℕ) → 2 ≤ old_count → 512 ≤ old_size → ends address level old_size old_count key ≡ false
    → (size count : ℕ) → size / 1024 < 1 + old_size / 1024 → ends address level size count key ≡ false
kept address level old_size old_count key second enough stayed size count low =
    let below = stayed_small address level old_size old_count key second stayed in
    let number = stayed_number address level old_size old_count key second enough below stayed in
    stays_small address level size count key (omega arith) (omega (arith, number))
