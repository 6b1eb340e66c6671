-- For how many more moments a meeting has room, as its calls go on.
use Rattle.std.proofs.Common.{◌≡◌, ◌∙◌, ap, ℕ, ◌+◌, ◌*◌, ◌-◌, ◌<◌, nat_eq, List, [], ◌∷◌, ◌++◌, length, arith, eq-eqb, refl, if◌then◌else◌}
use Rattle.std.specs.Prelude.{slice_index_or}
use Rattle.std.specs.List.{filter}
use Rattle.std.proofs.lemmas.List.{length_push}
use Rattle.std.proofs.lemmas.List.Elements.{filter-append}
use Rattle.script_text.specs.declared.scripts.Moment.{Moment}
use Rattle.session_state.specs.Changes.{Parts}
use Rattle.shared_history.specs.Fitting.{HasTurned}
use Rattle.shared_history.specs.Meeting.{Found, Tells, called, moments_by, room_of, turned}

moments_own : (session statement : ℕ) (ms : List Moment) → moments_by session (ms ++ record { session = session; statement = statement } ∷ []) ≡ moments_by session ms + 1
moments_own session statement ms =
    let m : Moment = record { session = session; statement = statement } in
    let last : filter (λ (x : Moment). nat_eq x.session session) (m ∷ []) ≡ m ∷ [] = ap (λ b. if b then m ∷ [] else []) (eq-eqb session session refl) in
    ap length (filter-append (λ (x : Moment). nat_eq x.session session) ms (m ∷ []) ∙ ap (λ l. filter (λ (x : Moment). nat_eq x.session session) ms ++ l) last)
    ∙ length_push (filter (λ (x : Moment). nat_eq x.session session) ms) m

-- others' moments take none of it
pub room_found : (address : List ℕ → List ℕ) (m : Tells) (found : Parts) → Found address m found → room_of (called found m) ≡ room_of m
room_found address m found is = λ i. 2 * slice_index_or (is.come.numbers i) m.session 0 - is.own i

-- each of its own takes one
pub room_turned : (address : List ℕ → List ℕ) (m : Tells) (found left : Parts) (statement : ℕ) → Found address m found → HasTurned m.session statement found left → 0 < room_of m
    → room_of (turned found left m) + 1 ≡ room_of m
room_turned address m found left statement is moves room =
    let more : moments_by m.session left.moments ≡ moments_by m.session found.moments + 1 = ap (moments_by m.session) moves.moments ∙ moments_own m.session statement found.moments in
    let own : moments_by m.session found.moments ≡ moments_by m.session m.seen.moments = is.own in
    let cap : slice_index_or left.numbers m.session 0 ≡ slice_index_or m.seen.numbers m.session 0 = ap (λ ns. slice_index_or ns m.session 0) (moves.numbers ∙ is.come.numbers) in
    omega (arith, more, own, cap, room)
