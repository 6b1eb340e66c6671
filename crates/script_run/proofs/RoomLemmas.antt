-- How many moments a session has made, and for how many there is room.
use Rattle.std.proofs.Common.{◌≡◌, ◌≢◌, refl, sym, ◌∙◌, ap, subst, ℕ, suc, ◌+◌, ◌-◌, ◌*◌, ◌<◌, ◌≤◌, Bool, true, false, nat_eq, List, [], ◌∷◌, ◌++◌, length, slice_index_or, if◌then◌else◌, arith}
use Rattle.std.specs.List.{filter}
use Rattle.std.proofs.lemmas.List.{length-append}
use Rattle.std.proofs.lemmas.List.Elements.{filter-append}
use Rattle.std.proofs.lemmas.Bool.Decides.{nat_tests}
use Rattle.script_text.specs.declared.scripts.Moment.{Moment}
use Rattle.run_laws.specs.Turns.{Turn, moment_of_turn, moments_of}
use Rattle.session_state.specs.Changes.{Parts}
use Rattle.shared_history.specs.Meeting.{moments_by}
use Rattle.script_run.specs.Seats.{room_at}

moments_more : (session : ℕ) (ms more : List Moment) → moments_by session (ms ++ more) ≡ moments_by session ms + moments_by session more
moments_more session ms more =
    ap length (filter-append (λ (m : Moment). nat_eq m.session session) ms more)
    ∙ length-append (filter (λ (m : Moment). nat_eq m.session session) ms) (filter (λ (m : Moment). nat_eq m.session session) more)

-- one more moment is the session's own or another's
module _ (session statement : ℕ) (ms : List Moment) where
  pub moments_own : moments_by session (ms ++ record { session = session; statement = statement } ∷ []) ≡ moments_by session ms + 1
  moments_own =
      let m : Moment = record { session = session; statement = statement } in
      let test : nat_eq session session ≡ true = grind (arith, nat_tests) in
      moments_more session ms (m ∷ []) ∙ ap (λ (b : Bool). moments_by session ms + length (if b then m ∷ [] else [])) test

  pub moments_other : (other : ℕ) → session ≢ other → moments_by other (ms ++ record { session = session; statement = statement } ∷ []) ≡ moments_by other ms
  moments_other other apart =
      let m : Moment = record { session = session; statement = statement } in
      let test : nat_eq session other ≡ false = grind (arith, nat_tests) in
      let count : moments_by other (m ∷ []) ≡ 0 = ap (λ (b : Bool). length (if b then m ∷ [] else [])) test in
      let all : moments_by other (ms ++ m ∷ []) ≡ moments_by other ms + moments_by other (m ∷ []) = moments_more other ms (m ∷ []) in
      omega (arith, count, all)

-- a statement makes no more moments than it has turns, and none for another session
by_turns : (place number : ℕ) (turns : List Turn) → moments_by place (moments_of number turns) ≤ length turns
by_turns place number [] = omega arith
by_turns place number (turn ∷ turns) = by (nat_eq number place) (by_turns place number turns) where
  by : (t : Bool) → moments_by place (moments_of number turns) ≤ length turns
      → length (if t then moment_of_turn number turn ∷ filter (λ (m : Moment). nat_eq m.session place) (moments_of number turns) else filter (λ (m : Moment). nat_eq m.session place) (moments_of number turns)) ≤ suc (length turns)
  by true rest = omega (arith, rest)
  by false rest = omega (arith, rest)

no_turns : (place number : ℕ) (turns : List Turn) → number ≢ place → moments_by place (moments_of number turns) ≡ 0
no_turns place number [] apart = refl
no_turns place number (turn ∷ turns) apart =
    let test : nat_eq number place ≡ false = grind (arith, nat_tests) in
    ap (λ (t : Bool). length (if t then moment_of_turn number turn ∷ filter (λ (m : Moment). nat_eq m.session place) (moments_of number turns) else filter (λ (m : Moment). nat_eq m.session place) (moments_of number turns))) test
    ∙ no_turns place number turns apart

pub served_own : (place number : ℕ) (turns : List Turn) (ms : List Moment) → length turns ≤ 2 → moments_by place (ms ++ moments_of number turns) ≤ moments_by place ms + 2
served_own place number turns ms few =
    let all : moments_by place (ms ++ moments_of number turns) ≡ moments_by place ms + moments_by place (moments_of number turns) = moments_more place ms (moments_of number turns) in
    let more : moments_by place (moments_of number turns) ≤ length turns = by_turns place number turns in
    omega (arith, all, more, few)

pub served_other : (place number : ℕ) (turns : List Turn) (ms : List Moment) → number ≢ place → moments_by place (ms ++ moments_of number turns) ≡ moments_by place ms
served_other place number turns ms apart =
    let all : moments_by place (ms ++ moments_of number turns) ≡ moments_by place ms + moments_by place (moments_of number turns) = moments_more place ms (moments_of number turns) in
    let none : moments_by place (moments_of number turns) ≡ 0 = no_turns place number turns apart in
    omega (arith, all, none)

-- ---- room

module _ (old new : Parts) (session statement : ℕ) (moments : new.moments ≡ old.moments ++ record { session = session; statement = statement } ∷ []) (numbers : new.numbers ≡ old.numbers) where
  pub one_less_room : (left more : ℕ) → left + 1 ≤ more → more ≤ room_at old session → left ≤ room_at new session
  one_less_room left more less room =
      let made : moments_by session new.moments ≡ moments_by session old.moments + 1 = ap (moments_by session) moments ∙ moments_own session statement old.moments in
      let number : slice_index_or new.numbers session 0 ≡ slice_index_or old.numbers session 0 = ap (λ (ns : List ℕ). slice_index_or ns session 0) numbers in
      let was : more ≤ 2 * slice_index_or old.numbers session 0 - moments_by session old.moments = room in
      let is : left ≤ 2 * slice_index_or new.numbers session 0 - moments_by session new.moments = omega (arith, less, was, made, number) in
      is

  pub same_room : (other : ℕ) → session ≢ other → room_at new other ≡ room_at old other
  same_room other apart =
      ap (λ (ns : List ℕ). 2 * slice_index_or ns other 0 - moments_by other new.moments) numbers
      ∙ ap (λ n. 2 * slice_index_or old.numbers other 0 - n) (ap (moments_by other) moments ∙ moments_other session statement old.moments other apart)
