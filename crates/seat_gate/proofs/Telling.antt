-- The turns of a seat as it sees more of the history.
use Rattle.std.proofs.Common.{◌≡◌, ℕ, suc, ◌+◌, ◌<◌, get_or, Bool, true, false, cond, nat_eq, List, [], ◌∷◌, ◌++◌, length, refl, sym, ap, ◌∙◌, arith, append-nil, eq-eqb, length-append}
use Rattle.std.proofs.lemmas.List.Elements.{filter-append}
use Rattle.seat_gate.specs.History.{Spelling, Entry, View, entries_of, StartsWith, HasMade, gathered}
use Rattle.seat_gate.specs.Told.{turn_from, left_last, told_by, told_of}
use Rattle.seat_gate.specs.Words.{StandsIn, IsWhole}
use Rattle.seat_gate.proofs.Gathering.{whole_each, whole_opened}

pub left_append : (before : Spelling) (a b : List Entry) → left_last before (a ++ b) ≡ left_last (left_last before a) b
left_append before [] b = refl
left_append before (e ∷ a) b = left_append e.left a b

pub told_append : (k : ℕ) (before : Spelling) (a b : List Entry) → told_by k before (a ++ b) ≡ told_by k before a ++ told_by k (left_last before a) b
told_append k before [] b = refl
told_append k before (e ∷ a) b = by_test (nat_eq e.seat k) (told_append k e.left a b)
  where
    by_test : (t : Bool) → told_by k e.left (a ++ b) ≡ told_by k e.left a ++ told_by k (left_last e.left a) b
        → cond t (turn_from before e ∷ told_by k e.left (a ++ b)) (told_by k e.left (a ++ b)) ≡ cond t (turn_from before e ∷ told_by k e.left a) (told_by k e.left a) ++ told_by k (left_last e.left a) b
    by_test true more = ap (λ l. turn_from before e ∷ l) more
    by_test false more = more

-- where there is no entry of the seat, it had no turn
told_none : (k : ℕ) (before : Spelling) (log : List Entry) → entries_of k log ≡ [] → told_by k before log ≡ []
told_none k before [] none = refl
told_none k before (e ∷ log) none = by_test (told_none k e.left log) (nat_eq e.seat k) none
  where
    by_test : (entries_of k log ≡ [] → told_by k e.left log ≡ []) → (t : Bool) → cond t (e ∷ entries_of k log) (entries_of k log) ≡ [] → cond t (turn_from before e ∷ told_by k e.left log) (told_by k e.left log) ≡ []
    by_test more true none = absurd (let long : suc (length (entries_of k log)) ≡ 0 = ap length none in omega arith)
    by_test more false none = more none

-- seeing more, in which are no entries of its own, tells of no more turns
pub told_on_entering : (k : ℕ) (opened : Spelling) (log seen : List Entry) → StartsWith log seen → entries_of k log ≡ entries_of k seen → told_by k opened log ≡ told_by k opened seen
told_on_entering k opened log seen starts same =
    let rest : List Entry = starts.0 in
    let both : entries_of k seen ++ entries_of k rest ≡ entries_of k seen = sym (filter-append (λ (x : Entry). nat_eq x.seat k) seen rest) ∙ (ap (entries_of k) (sym starts.1) ∙ same) in
    let many : length (entries_of k seen) + length (entries_of k rest) ≡ length (entries_of k seen) = sym (length-append (entries_of k seen) (entries_of k rest)) ∙ ap length both in
    ap (told_by k opened) starts.1 ∙ (told_append k opened seen rest
    ∙ (ap (λ l. told_by k opened seen ++ l) (told_none k (left_last opened seen) rest (empty (entries_of k rest) (omega arith))) ∙ append-nil (told_by k opened seen)))
  where
    empty : (l : List Entry) → length l ≡ 0 → l ≡ []
    empty [] h = refl
    empty (e ∷ l) h = absurd (let long : suc (length l) ≡ 0 = h in omega arith)

-- an entry of its own is one turn more
pub told_on_leaving : (k : ℕ) (opened : Spelling) (log : List Entry) (e : Entry) → e.seat ≡ k → told_by k opened (log ++ e ∷ []) ≡ told_by k opened log ++ turn_from (left_last opened log) e ∷ []
told_on_leaving k opened log e is =
    told_append k opened log (e ∷ []) ∙ ap (λ t. told_by k opened log ++ cond t (turn_from (left_last opened log) e ∷ []) []) (eq-eqb e.seat k is)

-- what a seat tells is what the whole history tells of it
pub told_at_close : (log : List Entry) (v : View) → StandsIn log v.number v.seen v.made → HasMade v → told_by v.number v.opened log ≡ told_of v
told_at_close log v stands made = told_on_entering v.number v.opened log v.seen stands.0 (stands.1 ∙ sym made)

-- at the end, of each seat that was taken in; that its opening is the first seat's is what the joins told
pub whole_told : {T : Type 0} (fits : T → Spelling → List Entry → Type 0) (value : T) (v : View) (ws : List View) (log : List Entry) → IsWhole fits value (gathered v ws) log
    → (k : ℕ) (d : View) → k < length ws → HasMade (get_or ws k d) → told_by (get_or ws k d).number v.opened log ≡ told_of (get_or ws k d)
whole_told fits value v ws log whole k d lt made =
    ap (λ o. told_by (get_or ws k d).number o log) (sym (whole_opened fits value v ws log whole k d lt)) ∙ told_at_close log (get_or ws k d) (whole_each fits value v ws log whole k d lt) made
