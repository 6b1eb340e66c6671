-- A session's own moments.
use Rattle.std.proofs.Common.{◌≡◌, ◌≢◌, refl, sym, ◌∙◌, ap, ℕ, suc, ◌+◌, ◌-◌, ◌<◌, ◌^◌, Bool, true, false, nat_eq, List, [], ◌∷◌, ◌++◌, length, map, arith, append-nil, eq-eqb, if◌then◌else◌}
use Rattle.std.specs.List.{AllByRecursion, filter}
use Rattle.std.proofs.lemmas.List.Elements.{filter-append}
use Rattle.std.proofs.lemmas.Bool.Decides.{nat_tests}
use Rattle.script_text.specs.declared.scripts.Moment.{Moment}
use Rattle.session_state.specs.Changes.{Parts}
use Rattle.seat_gate.specs.History.{Entry, entries_of}
use Rattle.shared_history.specs.Fitting.{Chain, moment_of, seat_of}
use Rattle.shared_history.specs.Meeting.{moments_by}

-- a moment of another session is none of its own
moments_other : (session other statement : ℕ) (ms : List Moment) → other ≢ session → moments_by session (ms ++ record { session = other; statement = statement } ∷ []) ≡ moments_by session ms
moments_other session other statement ms apart =
    let test : nat_eq other session ≡ false = grind (arith, nat_tests) in
    let m : Moment = record { session = other; statement = statement } in
    let last : filter (λ (x : Moment). nat_eq x.session session) (m ∷ []) ≡ [] = ap (λ b. if b then m ∷ [] else []) test in
    ap length (filter-append (λ (x : Moment). nat_eq x.session session) ms (m ∷ []) ∙ ap (λ l. filter (λ (x : Moment). nat_eq x.session session) ms ++ l) last
    ∙ append-nil (filter (λ (x : Moment). nat_eq x.session session) ms))

-- where only others had turns it has made as many as before
pub own_others : (session : ℕ) (first last : Parts) (log : List Entry) → Chain first log last → entries_of (seat_of session) log ≡ [] → moments_by session last.moments ≡ moments_by session first.moments
own_others session first last [] chain none = ap (λ (p : Parts). moments_by session p.moments) (sym chain)
own_others session first last (e ∷ log) chain none = by (λ left. own_others session chain.0 last log chain.2 left) (nat_eq e.seat (seat_of session)) refl none where
  by : (entries_of (seat_of session) log ≡ [] → moments_by session last.moments ≡ moments_by session chain.0.moments) → (t : Bool) → nat_eq e.seat (seat_of session) ≡ t
      → (if t then e ∷ entries_of (seat_of session) log else entries_of (seat_of session) log) ≡ [] → moments_by session last.moments ≡ moments_by session first.moments
  by more true test left = absurd (let long : suc (length (entries_of (seat_of session) log)) ≡ 0 = ap length left in omega (arith, long))
  by more false test left =
      let seated : e.seat ≡ chain.1.session + 1 = chain.1.seated in
      let apart : chain.1.session ≢ session = grind (arith, nat_tests) in
      more left ∙ (ap (moments_by session) chain.1.turned.moments ∙ moments_other session chain.1.session e.note first.moments apart)

test_same : (seat s session : ℕ) → seat ≡ s + 1 → nat_eq (seat - 1) session ≡ nat_eq seat (session + 1)
test_same seat s session is = by (nat_eq seat (session + 1)) refl where
  by : (t : Bool) → nat_eq seat (session + 1) ≡ t → nat_eq (seat - 1) session ≡ t
  by true test = let same : seat ≡ session + 1 = grind (arith, nat_tests) in eq-eqb (seat - 1) session (omega (arith, same))
  by false test = let apart : seat ≢ session + 1 = grind (arith, nat_tests) in grind (arith, nat_tests)

counted : {X Y : Type 0} (b : Bool) (x : X) (y : Y) (xs : List X) (ys : List Y) → length xs ≡ length ys → length (if b then x ∷ xs else xs) ≡ length (if b then y ∷ ys else ys)
counted true x y xs ys same = ap suc same
counted false x y xs ys same = same

-- its moments are as many as its entries
pub moments_count : (session bound : ℕ) (log : List Entry) → AllByRecursion (λ e. (session : ℕ) × (e.seat ≡ seat_of session) × (session < bound) × (e.note < 2 ^ 32)) log
    → moments_by session (map moment_of log) ≡ length (entries_of (seat_of session) log)
moments_count session bound [] within = refl
moments_count session bound (e ∷ log) within =
    let rest : List Moment = filter (λ (m : Moment). nat_eq m.session session) (map moment_of log) in
    ap (λ b. length (if b then moment_of e ∷ rest else rest)) (test_same e.seat within.0.0 session within.0.1)
    ∙ counted (nat_eq e.seat (seat_of session)) (moment_of e) e rest (entries_of (seat_of session) log) (moments_count session bound log within.1)
