-- Marks: one more item read keeps them, and they lead to each item.
use Rattle.std.proofs.Common.{◌≡◌, ◌≢◌, ℕ, suc, ◌+◌, ◌-◌, ◌*◌, ◌/◌, ◌%◌, ◌<◌, ◌≤◌, true, false, cond, List, ◌++◌, length, drop, get_or, slice_set, inl, inr, refl, sym, ap, subst, ◌∙◌, arith, eq-eqb}
use Rattle.std.proofs.lemmas.Bool.{cases_lt, eqb-true}
use Rattle.std.specs.Prelude.{◌==◌}
use Rattle.std.proofs.lemmas.List.{get_or-set_same, get_or-set_other, drop-drop, drop_at, length-append, length-set}
use Rattle.std.proofs.Math.Nat.{div-add-mod'}
use Rattle.std.proofs.lemmas.Nat.{div-mul-add}
use Rattle.node_format.specs.Reading.{item_at, rest_of, skip}
use Rattle.node_format.specs.Marks.{AreMarked, IsPlace, noted}

-- a number is a multiple of the stride, with its quotient
times : (k stride number : ℕ) → 0 < stride → number ≡ k * stride → (number / stride ≡ k) × (number % stride ≡ 0)
times k stride number step e =
    let quotient : number / stride ≡ k = ap (λ (n : ℕ). n / stride) e ∙ ap (λ (n : ℕ). n / stride) (omega arith) ∙ div-mul-add k stride 0 step in
    let whole : k * stride + number % stride ≡ k * stride = subst (λ (q : ℕ). q * stride + number % stride ≡ k * stride) quotient (div-add-mod' number stride ∙ e) in
    (quotient, omega arith)

-- the mark of another item stays
kept : (stride number place : ℕ) (places : List ℕ) (k : ℕ) → k * stride < number → get_or (noted stride number place places) k 0 ≡ get_or places k 0
kept stride number place places k below =
    elim (number % stride == 0) as (λ b. (number % stride == 0) ≡ b → get_or (cond b (slice_set places (number / stride) place) places) k 0 ≡ get_or places k 0) [
      | true ↦ λ e.
          let even : number % stride ≡ 0 = eqb-true (number % stride) 0 e in
          let other : k ≢ number / stride = λ same.
          let whole : k * stride + number % stride ≡ number = subst (λ (q : ℕ). q * stride + number % stride ≡ number) (sym same) (div-add-mod' number stride) in
          absurd (omega arith) in
          get_or-set_other places (number / stride) k place 0 other
      | false ↦ λ e. refl
    ] refl

-- the item read last has its mark
new : (stride number place : ℕ) (places : List ℕ) (k : ℕ) → 0 < stride → number / stride < length places → number ≡ k * stride → get_or (noted stride number place places) k 0 ≡ place
new stride number place places k step room e =
    let t = times k stride number step e in
    let even : (number % stride == 0) ≡ true = eq-eqb (number % stride) 0 t.1 in
    rw even (ap (λ (q : ℕ). get_or (slice_set places (number / stride) place) q 0) (sym t.0) ∙ get_or-set_same places (number / stride) place 0 room)

pub noted_length : (stride number place : ℕ) (places : List ℕ) → length (noted stride number place places) ≡ length places
noted_length stride number place places =
    elim (number % stride == 0) as (λ b. length (cond b (slice_set places (number / stride) place) places) ≡ length places) [
      | true ↦ length-set places (number / stride) place
      | false ↦ refl
    ]

pub marked_more : (level : ℕ) (bytes : List ℕ) (stride number place : ℕ) (places : List ℕ) → 0 < stride → number / stride < length places
    → IsPlace level bytes number place → AreMarked level bytes stride places number → AreMarked level bytes stride (noted stride number place places) (number + 1)
marked_more level bytes stride number place places step room is marked k within =
    elim (cases_lt (k * stride) number) [
      | inl below ↦ subst (λ (p : ℕ). IsPlace level bytes (k * stride) p) (sym (kept stride number place places k below)) (marked k below)
      | inr least ↦
          let e : number ≡ k * stride = omega arith in
          let here : IsPlace level bytes (k * stride) place = subst (λ (n : ℕ). IsPlace level bytes n place) e is in
          subst (λ (p : ℕ). IsPlace level bytes (k * stride) p) (sym (new stride number place places k step room e)) here
    ]

-- what is left after a front of what is left
pub left_after : (bytes rest text after : List ℕ) → length rest ≤ length bytes → drop (length bytes - length rest) bytes ≡ rest → rest ≡ text ++ after
    → (length after ≤ length bytes) × (drop (length bytes - length after) bytes ≡ after)
left_after bytes rest text after fits left parts =
    let total : length rest ≡ length text + length after = ap (λ (l : List ℕ). length l) parts ∙ length-append text after in
    let place : length bytes - length after ≡ (length bytes - length rest) + length text = omega arith in
    let further : drop (length bytes - length after) bytes ≡ drop (length text) (drop (length bytes - length rest) bytes) =
    ap (λ (n : ℕ). drop n bytes) place ∙ sym (drop-drop (length text) (length bytes - length rest) bytes) in
    (omega arith, further ∙ ap (λ (l : List ℕ). drop (length text) l) (left ∙ parts) ∙ drop_at text after (length text) refl)

-- one of so many items is left out, and none is left to leave out
pub skip_step : (level count i : ℕ) (bytes : List ℕ) → i < count → skip level (count - i) bytes ≡ skip level (count - (i + 1)) (rest_of (item_at level bytes))
unfolding skip
skip_step level count i bytes below =
    let k : count - i ≡ suc (count - (i + 1)) = omega arith in
    rw k refl

pub skip_done : (level count i : ℕ) (bytes : List ℕ) → count ≤ i → skip level (count - i) bytes ≡ bytes
unfolding skip
skip_done level count i bytes done =
    let k : count - i ≡ 0 = omega arith in
    rw k refl

-- the last mark at or before an item
pub mark_before : (level : ℕ) (bytes : List ℕ) (stride : ℕ) (places : List ℕ) (count i : ℕ) → AreMarked level bytes stride places count → i < count
    → IsPlace level bytes (i / stride * stride) (get_or places (i / stride) 0)
mark_before level bytes stride places count i marked below = marked (i / stride) (omega (arith, div-add-mod' i stride, below))
