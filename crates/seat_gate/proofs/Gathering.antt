-- What a seat knows that took others in, one after another.
use Rattle.std.proofs.Common.{◌≡◌, ◌≢◌, ℕ, zero, suc, ◌+◌, ◌<◌, Bool, true, false, cond, nat_eq, ◌==◌, length, get_or, map, List, [], ◌∷◌, ◌++◌, refl, sym, ap, ◌∙◌, subst, arith, eq-eqb, inl, inr}
use Rattle.std.specs.List.{filter, AllByRecursion}
use Rattle.seat_gate.specs.History.{Spelling, Entry, Past, View, entries_of, past_of, joined_with, gathered}
use Rattle.seat_gate.specs.Words.{HasJoined, HasJoinedBelow, StandsIn, IsWhole, shown}
use Rattle.seat_gate.specs.Working.{AreAllGivenOut}
use Rattle.seat_gate.specs.declared.entry.Entry.{Entry as Shown}
use Rattle.seat_gate.proofs.Meetings.{joined_kept}
use Rattle.seat_gate.proofs.PlaceLemmas.{off}

-- its number and its opening are its own
pub gathered_number : (v : View) (ws : List View) → (gathered v ws).number ≡ v.number
gathered_number v [] = refl
gathered_number v (w ∷ ws) = gathered_number (joined_with v w) ws

pub gathered_opened : (v : View) (ws : List View) → (gathered v ws).opened ≡ v.opened
gathered_opened v [] = refl
gathered_opened v (w ∷ ws) = gathered_opened (joined_with v w) ws

pub gathered_made : (v : View) (ws : List View) → (gathered v ws).made ≡ v.made
gathered_made v [] = refl
gathered_made v (w ∷ ws) = gathered_made (joined_with v w) ws

-- where those taken in know of no number given out
pub gathered_given : (v : View) (ws : List View) → ((k : ℕ) (d : View) → k < length ws → (get_or ws k d).given ≡ 0) → (gathered v ws).given ≡ v.given
gathered_given v [] none = refl
gathered_given v (w ∷ ws) none =
    let more = gathered_given (joined_with v w) ws (λ k d lt. none (suc k) d (omega arith)) in
    let zero_of : w.given ≡ 0 = none 0 v (omega arith) in
    let sum : (gathered (joined_with v w) ws).given ≡ v.given + w.given = more in
    omega arith

-- what it had joined stays
pub gathered_kept : (v : View) (ws : List View) (k : ℕ) → HasJoined k v → HasJoined k (gathered v ws)
gathered_kept v [] k h = h
gathered_kept v (w ∷ ws) k h = gathered_kept (joined_with v w) ws k (joined_kept v w k (inr (inl h)))

-- and it has joined each of them
pub gathered_each : (v : View) (ws : List View) (k : ℕ) (d : View) → k < length ws → HasJoined (get_or ws k d).number (gathered v ws)
gathered_each v [] k d lt = absurd (omega arith)
gathered_each v (w ∷ ws) zero d lt = gathered_kept (joined_with v w) ws w.number (joined_kept v w w.number (inl refl))
gathered_each v (w ∷ ws) (suc k) d lt = gathered_each (joined_with v w) ws k d (omega arith)

-- the first seat took in those of numbers 1, 2 and so on
pub gathered_below : (v : View) (ws : List View) → v.number ≡ 0 → ((k : ℕ) (d : View) → k < length ws → (get_or ws k d).number ≡ k + 1) → HasJoinedBelow (length ws + 1) (gathered v ws)
gathered_below v ws first numbered k lt ne = by_place k lt (λ is. ne (is ∙ sym (gathered_number v ws ∙ first)))
  where
    by_place : (k : ℕ) → k < length ws + 1 → k ≢ 0 → HasJoined k (gathered v ws)
    by_place zero lt ne = absurd (ne refl)
    by_place (suc k) lt ne =
        let within : k < length ws = omega arith in
        let is : k + 1 ≡ suc k = omega arith in
        subst (λ n. HasJoined n (gathered v ws)) (numbered k v within ∙ is) (gathered_each v ws k v within)

-- where these are all seats that the first gave out, it knows how many there are, and has joined each
pub all_gathered : (v : View) (ws : List View) → AreAllGivenOut v ws → ((gathered v ws).given ≡ length ws + 1) × HasJoinedBelow (gathered v ws).given (gathered v ws)
all_gathered v ws all =
    let counted : (gathered v ws).given ≡ length ws + 1 = gathered_given v ws all.givens ∙ all.counted in
    (counted, subst (λ n. HasJoinedBelow n (gathered v ws)) (sym counted) (gathered_below v ws all.number all.numbers))

-- a past that is kept, of each of them
past_kept : (v : View) (ws : List View) (P : Past → Type 0) → AllByRecursion P (gathered v ws).joined → AllByRecursion P v.joined
past_kept v [] P h = h
past_kept v (w ∷ ws) P h = all_front P v.joined (past_of w ∷ w.joined) (past_kept (joined_with v w) ws P h)
  where
    all_front : (P : Past → Type 0) (xs ys : List Past) → AllByRecursion P (xs ++ ys) → AllByRecursion P xs
    all_front P [] ys h = tt
    all_front P (x ∷ xs) ys h = (h.0, all_front P xs ys h.1)

past_behind : (P : Past → Type 0) (xs : List Past) (y : Past) (ys : List Past) → AllByRecursion P (xs ++ (y ∷ ys)) → P y
past_behind P [] y ys h = h.0
past_behind P (x ∷ xs) y ys h = past_behind P xs y ys h.1

-- what holds of all that were joined in holds of each of them
pub gathered_past : (P : Past → Type 0) (v : View) (ws : List View) → AllByRecursion P (gathered v ws).joined → (k : ℕ) (d : View) → k < length ws → P (past_of (get_or ws k d))
gathered_past P v [] h k d lt = absurd (omega arith)
gathered_past P v (w ∷ ws) h zero d lt = past_behind P v.joined (past_of w) w.joined (past_kept (joined_with v w) ws P h)
gathered_past P v (w ∷ ws) h (suc k) d lt = gathered_past P (joined_with v w) ws h k d (omega arith)

-- so, at the end, of each: what it had seen begins the history, and the entries of its number are those that it made
pub whole_each : {T : Type 0} (fits : T → Spelling → List Entry → Type 0) (value : T) (v : View) (ws : List View) (log : List Entry) → IsWhole fits value (gathered v ws) log
    → (k : ℕ) (d : View) → k < length ws → StandsIn log (get_or ws k d).number (get_or ws k d).seen (get_or ws k d).made
whole_each fits value v ws log whole k d lt = gathered_past (λ p. StandsIn log p.number p.seen p.made) v ws whole.joined k d lt

pub whole_opened : {T : Type 0} (fits : T → Spelling → List Entry → Type 0) (value : T) (v : View) (ws : List View) (log : List Entry) → IsWhole fits value (gathered v ws) log
    → (k : ℕ) (d : View) → k < length ws → (get_or ws k d).opened ≡ v.opened
whole_opened fits value v ws log whole k d lt = gathered_past (λ p. p.opened ≡ (gathered v ws).opened) v ws whole.opened_as k d lt ∙ gathered_opened v ws

-- the entries of a number, as running code can keep them
pub shown_entries : (k : ℕ) (log : List Entry) → filter (λ (e : Shown). e.seat == k) (map shown log) ≡ map shown (entries_of k log)
shown_entries k [] = refl
shown_entries k (e ∷ log) = by_test (nat_eq e.seat k) (shown_entries k log)
  where
    by_test : (b : Bool) → filter (λ (e : Shown). e.seat == k) (map shown log) ≡ map shown (entries_of k log)
        → cond b (shown e ∷ filter (λ (e : Shown). e.seat == k) (map shown log)) (filter (λ (e : Shown). e.seat == k) (map shown log)) ≡ map shown (cond b (e ∷ entries_of k log) (entries_of k log))
    by_test true more = ap (λ l. shown e ∷ l) more
    by_test false more = more

-- a seat that made no entries has none
pub none_made : (k : ℕ) (log : List Entry) → entries_of k log ≡ [] → AllByRecursion (λ e. e.seat ≢ k) log
none_made k [] none = tt
none_made k (e ∷ log) none = by_test (none_made k log) (nat_eq e.seat k) refl none
  where
    by_test : (entries_of k log ≡ [] → AllByRecursion (λ e. e.seat ≢ k) log) → (b : Bool) → nat_eq e.seat k ≡ b → cond b (e ∷ entries_of k log) (entries_of k log) ≡ [] → (e.seat ≢ k) × AllByRecursion (λ e. e.seat ≢ k) log
    by_test more true is none = absurd (let long : suc (length (entries_of k log)) ≡ 0 = ap length none in omega arith)
    by_test more false is none = ((λ same. off is (eq-eqb e.seat k same)), more none)

-- at the end of a gate whose first seat made no entries, each entry is of another seat that was given out
pub whole_known : {T : Type 0} (fits : T → Spelling → List Entry → Type 0) (value : T) (v : View) (log : List Entry) → IsWhole fits value v log → v.number ≡ 0 → v.made ≡ []
    → AllByRecursion (λ e. (e.seat ≢ 0) × (e.seat < v.given)) log
whole_known fits value v log whole first none = both log (none_made 0 log (ap (λ n. entries_of n log) (sym first) ∙ (whole.own.1 ∙ none))) whole.known
  where
    both : (log : List Entry) → AllByRecursion (λ e. e.seat ≢ 0) log → AllByRecursion (λ e. e.seat < v.given) log → AllByRecursion (λ e. (e.seat ≢ 0) × (e.seat < v.given)) log
    both [] h k = tt
    both (e ∷ log) h k = ((h.0, k.0), both log h.1 k.1)
