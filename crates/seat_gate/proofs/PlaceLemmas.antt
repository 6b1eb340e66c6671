-- Lists of places, of which one changes or one is added.
use Rattle.std.proofs.Common.{◌≡◌, ℕ, zero, suc, ◌+◌, ◌<◌, ◌≤◌, ◌≢◌, Bool, true, false, true≢false, if◌then◌else◌, List, [], ◌∷◌, ◌++◌, length, set, refl, sym, ap, ◌∙◌, subst, arith, ⊎_elim}
use mathlib.Core.Logic.{dite}
use mathlib.Core.Option.{some, some-ne-none, some-injective}
use native.Mathlib.Decide.{ℕ_discrete}
use lib.ListN.{get_elem?}
use Rattle.atomic_table.proofs.Lists.{at_set, set_else}
use Rattle.std.specs.List.{AllByRecursion}
use Rattle.seat_gate.specs.History.{Spelling, Entry, Past, View, OneOpening}
use Rattle.seat_gate.specs.Rule.{waiting, PastFits}
use Rattle.seat_gate.specs.declared.place.SeatState.{SeatState}
use Rattle.seat_gate.proofs.HistoryLemmas.{starts_more, entries_other, all_map}

pub off : {b : Bool} → b ≡ false → b ≡ true → ⊥
off f t = true≢false (sym t ∙ f)

module _ {A : Type 0} where
  pub inside : (l : List A) (i : ℕ) (a : A) → get_elem? l i ≡ some a → i < length l
  inside [] i a e = absurd (some-ne-none a (sym e))
  inside (x ∷ xs) zero a e = omega arith
  inside (x ∷ xs) (suc i) a e = let lt = inside xs i a e in omega arith

  pub one_there : (l : List A) (i : ℕ) (a b : A) → get_elem? l i ≡ some a → get_elem? l i ≡ some b → a ≡ b
  one_there l i a b e f = some-injective a b (sym e ∙ f)

  -- what holds of the one set and of each other holds of all
  pub each_set : (P : ℕ → A → Type 0) (l : List A) (i : ℕ) (a : A) → P i a → ((j : ℕ) (b : A) → j ≢ i → get_elem? l j ≡ some b → P j b)
      → (j : ℕ) (b : A) → get_elem? (set l i a) j ≡ some b → P j b
  each_set P l i a mine others j b e =
      ⊎_elim
      (λ (t : (j ≡ i) × (a ≡ b)). subst (λ (x : ℕ × A). P x.0 x.1) (λ k. (sym t.0 k, t.1 k)) mine)
      (λ (t : (j ≢ i) × (get_elem? l j ≡ some b)). others j b t.0 t.1)
      (at_set l i j a b e)

  -- the last one is at the end
  pub each_snoc : (P : ℕ → A → Type 0) (l : List A) (a : A) → ((j : ℕ) (b : A) → get_elem? l j ≡ some b → P j b) → P (length l) a
      → (j : ℕ) (b : A) → get_elem? (l ++ a ∷ []) j ≡ some b → P j b
  each_snoc P [] a all last zero b e = subst (P 0) (some-injective a b e) last
  each_snoc P [] a all last (suc j) b e = absurd (some-ne-none b (sym e))
  each_snoc P (x ∷ xs) a all last zero b e = all 0 b e
  each_snoc P (x ∷ xs) a all last (suc j) b e = each_snoc (λ k. P (suc k)) xs a (λ k c f. all (suc k) c f) last j b e

abbrev pub one_if : Bool → ℕ
one_if b = if b then 1 else 0

waits_few : (b : Bool) → one_if b ≤ 1
waits_few true = omega arith
waits_few false = omega arith

pub waiting_few : (ps : List SeatState) → waiting ps ≤ length ps
waiting_few [] = omega arith
waiting_few (p ∷ ps) = let a = waits_few p.waits in let b = waiting_few ps in omega arith

pub waiting_set : (ps : List SeatState) (i : ℕ) (p q : SeatState) → get_elem? ps i ≡ some p → waiting (set ps i q) + one_if p.waits ≡ waiting ps + one_if q.waits
waiting_set [] i p q e = absurd (some-ne-none p (sym e))
waiting_set (x ∷ ps) zero p q e = let same : one_if x.waits ≡ one_if p.waits = ap (λ (y : SeatState). one_if y.waits) (some-injective x p e) in omega arith
waiting_set (x ∷ ps) (suc i) p q e = let more = waiting_set ps i p q e in omega arith

pub waiting_snoc : (ps : List SeatState) (q : SeatState) → q.waits ≡ false → waiting (ps ++ q ∷ []) ≡ waiting ps
waiting_snoc [] q rests = let zero_of : one_if q.waits ≡ 0 = ap one_if rests in omega arith
waiting_snoc (p ∷ ps) q rests = ap (λ n. one_if p.waits + n) (waiting_snoc ps q rests)

abbrev pub Apart : List SeatState → Type 0
Apart ps = (i j : ℕ) (p q : SeatState) → get_elem? ps i ≡ some p → get_elem? ps j ≡ some q → p.waits ≡ true → q.waits ≡ true → p.ticket ≡ q.ticket → i ≡ j

-- where no other seat that waits has the ticket of the one set
pub apart_set : (ps : List SeatState) (id : ℕ) (q : SeatState) → Apart ps → (q.waits ≡ true → (j : ℕ) (p : SeatState) → j ≢ id → get_elem? ps j ≡ some p → p.waits ≡ true → q.ticket ≢ p.ticket) → Apart (set ps id q)
apart_set ps id q apart none i j a b ea eb wa wb same =
    each_set (λ k x. x.waits ≡ true → x.ticket ≡ b.ticket → k ≡ j) ps id q
    (λ w t. each_set (λ k x. x.waits ≡ true → q.ticket ≡ x.ticket → id ≡ k) ps id q
    (λ _ _. refl)
    (λ k x ne ex wx tx. absurd (none w k x ne ex wx tx))
    j b eb wb t)
    (λ k x ne ex wx tx. each_set (λ l y. y.waits ≡ true → x.ticket ≡ y.ticket → k ≡ l) ps id q
    (λ wy ty. absurd (none wy k x ne ex wx (sym ty)))
    (λ l y ny ey wy ty. apart k l x y ex ey wx wy ty)
    j b eb wb tx)
    i a ea wa same

pub apart_snoc : (ps : List SeatState) (q : SeatState) → Apart ps → q.waits ≡ false → Apart (ps ++ q ∷ [])
apart_snoc ps q apart rests i j a b ea eb wa wb same =
    each_snoc (λ k x. x.waits ≡ true → x.ticket ≡ b.ticket → k ≡ j) ps q
    (λ k x ex wx tx. each_snoc (λ l y. y.waits ≡ true → x.ticket ≡ y.ticket → k ≡ l) ps q
    (λ l y ey wy ty. apart k l x y ex ey wx wy ty)
    (λ wy ty. absurd (off rests wy))
    j b eb wb tx)
    (λ w t. absurd (off rests w))
    i a ea wa same

-- a seat that was joined away stays so while another place is set
pub past_set : (opened : Spelling) (ps : List SeatState) (id : ℕ) (p q : SeatState) (log : List Entry) (past : Past) → get_elem? ps id ≡ some p → p.spent ≡ false → PastFits opened ps log past → PastFits opened (set ps id q) log past
past_set opened ps id p q log past at live f =
    let g = f.gone in
    let ne : past.number ≢ id = λ is. off live (subst (λ (x : SeatState). x.spent ≡ true) (one_there ps id g.0 p (subst (λ k. get_elem? ps k ≡ some g.0) is g.1) at) g.2) in
    record { opened_as = f.opened_as; prefix = f.prefix; made = f.made; gone = (g.0, set_else ps id past.number q ne ∙ g.1, g.2) }

-- and while a seat that was not joined away makes an entry
pub past_more : (opened : Spelling) (ps : List SeatState) (id : ℕ) (p : SeatState) (log : List Entry) (e : Entry) (past : Past) → get_elem? ps id ≡ some p → p.spent ≡ false → e.seat ≡ id → PastFits opened ps log past → PastFits opened ps (log ++ e ∷ []) past
past_more opened ps id p log e past at live own f =
    let g = f.gone in
    let ne : e.seat ≢ past.number = λ is. off live (subst (λ (x : SeatState). x.spent ≡ true) (one_there ps id g.0 p (subst (λ k. get_elem? ps k ≡ some g.0) (sym is ∙ own) g.1) at) g.2) in
    record { opened_as = f.opened_as; prefix = starts_more log (e ∷ []) past.seen f.prefix; made = entries_other past.number log e ne ∙ f.made; gone = g }

-- all that were joined into a seat are of its opening
pub one_opening : (opened : Spelling) (ps : List SeatState) (log : List Entry) (v : View) → v.opened ≡ opened → AllByRecursion (PastFits opened ps log) v.joined → OneOpening v
one_opening opened ps log v is = all_map (PastFits opened ps log) (λ (a : Past). a.opened ≡ v.opened) (λ a f. f.opened_as ∙ sym is) v.joined

-- where the one set serves as little as before, nobody served before if nobody does now
pub none_before : (ps : List SeatState) (id : ℕ) (p q : SeatState) → get_elem? ps id ≡ some p → p.serves ≡ false → ((i : ℕ) (x : SeatState) → get_elem? (set ps id q) i ≡ some x → x.serves ≡ false)
    → (i : ℕ) (x : SeatState) → get_elem? ps i ≡ some x → x.serves ≡ false
none_before ps id p q at rests none i x e = dite (ℕ_discrete i id)
    (λ is. subst (λ (y : SeatState). y.serves ≡ false) (one_there ps id p x at (subst (λ k. get_elem? ps k ≡ some x) is e)) rests)
    (λ ne. none i x (set_else ps id i q ne ∙ e))
