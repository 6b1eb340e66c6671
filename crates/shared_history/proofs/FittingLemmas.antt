-- What follows of a shared database that fits a history.
use Rattle.std.proofs.Common.{◌≡◌, ◌≢◌, refl, sym, ◌∙◌, ap, subst, ℕ, zero, suc, ◌+◌, ◌-◌, ◌*◌, ◌<◌, ◌≤◌, ◌^◌, true, false, nat_eq, List, [], ◌∷◌, ◌++◌, length, map, slice_set, arith, eq-eqb, if◌then◌else◌}
use Rattle.std.specs.Prelude.{sum, slice_index_or}
use Rattle.std.specs.List.{AllByRecursion}
use Rattle.std.proofs.lemmas.List.{get_or-set_other, get_or-set_same, length-append, length_push, map_push, nil_from_length}
use Rattle.std.proofs.lemmas.List.Sums.{sum_by-cons, sum_by-set}
use Rattle.std.proofs.lemmas.List.Elements.{filter-append}
use Rattle.std.proofs.lemmas.Bool.Decides.{nat_tests}
use Rattle.script_text.specs.declared.scripts.Moment.{Moment}
use Rattle.plain_sessions.specs.Records.{Shared}
use Rattle.session_state.specs.Changes.{Parts, StateStands}
use Rattle.seat_gate.specs.History.{Spelling, Entry, StartsWith, entry, entries_of}
use Rattle.seat_gate.specs.Told.{left_last}
use Rattle.shared_db.specs.Shared.{Db, KeepsRoom}
use Rattle.shared_history.specs.Spelling.{spelling_of}
use Rattle.shared_history.specs.Fitting.{Chain, Fits, HasCome, HasTurned, HasTurnLeft, IsNextBy, moment_of, seat_of}
use Rattle.shared_history.proofs.SpellingLemmas.{spelled_one}

-- ---- chains

chain_join : (first middle last : Parts) (a b : List Entry) → Chain first a middle → Chain middle b last → Chain first (a ++ b) last
chain_join first middle last [] b chain more = subst (λ parts. Chain parts b last) (sym chain) more
chain_join first middle last (e ∷ a) b chain more = (chain.0, chain.1, chain_join chain.0 middle last a b chain.2 more)

pub chain_split : (first last : Parts) (a b : List Entry) → Chain first (a ++ b) last → (middle : Parts) × Chain first a middle × Chain middle b last
chain_split first last [] b chain = (first, refl, chain)
chain_split first last (e ∷ a) b chain = let rest = chain_split chain.0 last a b chain.2 in (rest.0, (chain.0, chain.1, rest.1), rest.2)

pub chain_left : (first last : Parts) (log : List Entry) → Chain first log last → spelling_of last ≡ left_last (spelling_of first) log
chain_left first last [] chain = ap spelling_of (sym chain)
chain_left first last (e ∷ log) chain = chain_left chain.0 last log chain.2 ∙ ap (λ before. left_last before log) chain.1.left

chain_numbers : (first last : Parts) (log : List Entry) → Chain first log last → last.numbers ≡ first.numbers
chain_numbers first last [] chain = ap (λ (parts : Parts). parts.numbers) (sym chain)
chain_numbers first last (e ∷ log) chain = chain_numbers chain.0 last log chain.2 ∙ chain.1.turned.numbers

chain_within : (first last : Parts) (log : List Entry) → Chain first log last
    → AllByRecursion (λ e. (session : ℕ) × (e.seat ≡ seat_of session) × (session < length last.numbers) × (e.note < 2 ^ 32)) log
chain_within first last [] chain = tt
chain_within first last (e ∷ log) chain =
    let numbers : last.numbers ≡ first.numbers = chain_numbers first last (e ∷ log) chain in (
      (chain.1.session, chain.1.seated, subst (λ ns. chain.1.session < length ns) (sym numbers) chain.1.there, chain.1.noted),
      chain_within chain.0 last log chain.2,
    )

-- ---- entries

-- a first entry of this seat, and of another
own_first : (e : Entry) (log : List Entry) (session : ℕ) → e.seat ≡ seat_of session → entries_of (seat_of session) (e ∷ log) ≡ e ∷ entries_of (seat_of session) log
own_first e log session own = ap (λ test. if test then e ∷ entries_of (seat_of session) log else entries_of (seat_of session) log) (eq-eqb e.seat (seat_of session) own)

other_first : (e : Entry) (log : List Entry) (session : ℕ) → e.seat ≢ seat_of session → entries_of (seat_of session) (e ∷ log) ≡ entries_of (seat_of session) log
other_first e log session other =
    let test : nat_eq e.seat (seat_of session) ≡ false = grind (arith, nat_tests) in
    ap (λ b. if b then e ∷ entries_of (seat_of session) log else entries_of (seat_of session) log) test

-- in these entries none is of the seat
chain_of_others : (session : ℕ) (first last : Parts) (log : List Entry) → Chain first log last → entries_of (seat_of session) log ≡ [] → HasCome session first last
chain_of_others session first last [] chain none = subst (λ parts. HasCome session first parts) chain (record { numbers = refl; place = refl; grown = λ k bytes listed. listed })
chain_of_others session first last (e ∷ log) chain none =
    let turned = chain.1.turned in
    let other : e.seat ≢ seat_of session = λ own. absurd (let long : suc (length (entries_of (seat_of session) log)) ≡ 0 = ap length (sym (own_first e log session own) ∙ none) in omega (arith, long)) in
    let apart : session ≢ chain.1.session = λ same. other (chain.1.seated ∙ ap (λ n. n + 1) (sym same)) in
    let more = chain_of_others session chain.0 last log chain.2 (sym (other_first e log session other) ∙ none) in
    record {
      numbers = more.numbers ∙ turned.numbers;
      place = more.place ∙ turned.others session apart;
      grown = λ k bytes listed. more.grown k bytes (turned.grown k bytes listed);
    }

-- ---- counts

-- a number that isn't the default stands in the list
below : (numbers : List ℕ) (place : ℕ) → 0 < slice_index_or numbers place 0 → place < length numbers
below [] place some = absurd (omega (arith, some))
below (n ∷ numbers) zero some = omega arith
below (n ∷ numbers) (suc place) some = let less : place < length numbers = below numbers place some in omega (arith, less)

-- one less at a place
less_one : (caps : List ℕ) (place : ℕ) → 0 < slice_index_or caps place 0
    → (less : List ℕ) × (sum less + 1 ≡ sum caps) × (slice_index_or less place 0 + 1 ≡ slice_index_or caps place 0) × ((j : ℕ) → j ≢ place → slice_index_or less j 0 ≡ slice_index_or caps j 0)
less_one caps place some =
    let there : place < length caps = below caps place some in
    let fewer : ℕ = slice_index_or caps place 0 - 1 in
    let total : sum (slice_set caps place fewer) + slice_index_or caps place 0 ≡ sum caps + fewer = sum_by-set (λ n. n) caps place fewer 0 there in
    let here : slice_index_or (slice_set caps place fewer) place 0 ≡ fewer = get_or-set_same caps place fewer 0 there in
    (slice_set caps place fewer, omega (arith, total, some), omega (arith, here, some), λ j apart. get_or-set_other caps place j fewer 0 apart)

-- where each session has no more entries than it may, all have no more than all may
all_few : (log : List Entry) (caps : List ℕ) → AllByRecursion (λ e. (session : ℕ) × (e.seat ≡ seat_of session)) log
    → ((session : ℕ) → length (entries_of (seat_of session) log) ≤ slice_index_or caps session 0) → length log ≤ sum caps
all_few [] caps within few = omega arith
all_few (e ∷ log) caps within few =
    let session : ℕ = within.0.0 in
    let own : length (entries_of (seat_of session) (e ∷ log)) ≡ suc (length (entries_of (seat_of session) log)) = ap length (own_first e log session within.0.1) in
    let bound : length (entries_of (seat_of session) (e ∷ log)) ≤ slice_index_or caps session 0 = few session in
    let less = less_one caps session (omega (arith, own, bound)) in
    let total : sum less.0 + 1 ≡ sum caps = less.1 in
    let here : slice_index_or less.0 session 0 + 1 ≡ slice_index_or caps session 0 = less.2 in
    let rest : length log ≤ sum less.0 = all_few log less.0 within.1
    (λ j. elim (nat_eq e.seat (seat_of j)) as (λ test. nat_eq e.seat (seat_of j) ≡ test → length (entries_of (seat_of j) log) ≤ slice_index_or less.0 j 0) [
      | true ↦ λ test.
          let seated : e.seat ≡ session + 1 = within.0.1 in
          let same : session ≡ j = grind (arith, nat_tests) in
          subst (λ n. length (entries_of (seat_of n) log) ≤ slice_index_or less.0 n 0) same (omega (arith, own, bound, here))
      | false ↦ λ test.
          let seated : e.seat ≡ session + 1 = within.0.1 in
          let apart : j ≢ session = grind (arith, nat_tests) in
          let other : e.seat ≢ seat_of j = grind (arith, nat_tests) in
          let as_before : length (entries_of (seat_of j) (e ∷ log)) ≡ length (entries_of (seat_of j) log) = ap length (other_first e log j other) in
          let allowed : length (entries_of (seat_of j) (e ∷ log)) ≤ slice_index_or caps j 0 = few j in
          let kept : slice_index_or less.0 j 0 ≡ slice_index_or caps j 0 = less.3 j apart in
          omega (arith, as_before, allowed, kept)
    ] refl) in
    omega (arith, total, rest)

doubled : (numbers : List ℕ) → sum (map (λ n. 2 * n) numbers) ≡ 2 * sum numbers
doubled [] = refl
doubled (n ∷ numbers) =
    let more : sum (map (λ n. 2 * n) numbers) ≡ 2 * sum numbers = doubled numbers in
    let all : sum (map (λ n. 2 * n) (n ∷ numbers)) ≡ 2 * n + sum (map (λ n. 2 * n) numbers) = sum_by-cons (λ n. n) (2 * n) (map (λ n. 2 * n) numbers) in
    let both : sum (n ∷ numbers) ≡ n + sum numbers = sum_by-cons (λ n. n) n numbers in
    omega (arith, more, all, both)

doubled_at : (numbers : List ℕ) (place : ℕ) → slice_index_or (map (λ n. 2 * n) numbers) place 0 ≡ 2 * slice_index_or numbers place 0
doubled_at [] place = refl
doubled_at (n ∷ numbers) zero = refl
doubled_at (n ∷ numbers) (suc place) = doubled_at numbers place

-- and where one has fewer, all have fewer
all_fewer : (log : List Entry) (numbers : List ℕ) (session : ℕ) → AllByRecursion (λ e. (session : ℕ) × (e.seat ≡ seat_of session)) log
    → ((other : ℕ) → length (entries_of (seat_of other) log) ≤ 2 * slice_index_or numbers other 0)
    → length (entries_of (seat_of session) log) < 2 * slice_index_or numbers session 0 → length log < 2 * sum numbers
all_fewer log numbers session within few fewer =
    let caps : List ℕ = map (λ n. 2 * n) numbers in
    let at : slice_index_or caps session 0 ≡ 2 * slice_index_or numbers session 0 = doubled_at numbers session in
    let less = less_one caps session (omega (arith, at, fewer)) in
    let total : sum less.0 + 1 ≡ sum caps = less.1 in
    let here : slice_index_or less.0 session 0 + 1 ≡ slice_index_or caps session 0 = less.2 in
    let rest : length log ≤ sum less.0 = all_few log less.0 within
    (λ j. elim (nat_eq j session) as (λ test. nat_eq j session ≡ test → length (entries_of (seat_of j) log) ≤ slice_index_or less.0 j 0) [
      | true ↦ λ test.
          let same : session ≡ j = grind (arith, nat_tests) in
          subst (λ n. length (entries_of (seat_of n) log) ≤ slice_index_or less.0 n 0) same (omega (arith, at, fewer, here))
      | false ↦ λ test.
          let apart : j ≢ session = grind (arith, nat_tests) in
          let allowed : length (entries_of (seat_of j) log) ≤ 2 * slice_index_or numbers j 0 = few j in
          let kept : slice_index_or less.0 j 0 ≡ slice_index_or caps j 0 = less.3 j apart in
          let twice : slice_index_or caps j 0 ≡ 2 * slice_index_or numbers j 0 = doubled_at numbers j in
          omega (arith, allowed, kept, twice)
    ] refl) in
    let double : sum caps ≡ 2 * sum numbers = doubled numbers in
    omega (arith, total, rest, double)

-- ---- what fits

-- a database before any moment
pub fits_first : (address : List ℕ → List ℕ) (db : Db) (shared : Shared) → StateStands address db.parts shared → db.parts.moments ≡ [] → 2 * sum db.parts.numbers ≤ db.moments_room → 2 * sum db.parts.numbers ≤ db.segments_room
    → Fits address db (spelling_of db.parts) []
fits_first address db shared stands none moments segments = record {
  shared = shared;
  stands = stands;
  first = db.parts;
  opened_as = refl;
  chain = refl;
  moments = none;
  few = λ session. omega arith;
  moments_room = omega (arith, moments);
  segments_room = omega (arith, segments);
}

-- the spelling is the one left last
pub fits_left : (address : List ℕ → List ℕ) (db : Db) (opened : Spelling) (log : List Entry) → Fits address db opened log → spelling_of db.parts ≡ left_last opened log
fits_left address db opened log fits = chain_left fits.first db.parts log fits.chain ∙ ap (λ before. left_last before log) fits.opened_as

-- the same parts with no less room
pub fits_still : (address : List ℕ → List ℕ) (old new : Db) (opened : Spelling) (log : List Entry) → new.parts ≡ old.parts → old.moments_room ≤ new.moments_room → old.segments_room ≤ new.segments_room
    → Fits address old opened log → Fits address new opened log
fits_still address old new opened log same moments segments fits = record {
  shared = fits.shared;
  stands = subst (λ parts. StateStands address parts fits.shared) (sym same) fits.stands;
  first = fits.first;
  opened_as = fits.opened_as;
  chain = subst (λ parts. Chain fits.first log parts) (sym same) fits.chain;
  moments = ap (λ (parts : Parts). parts.moments) same ∙ fits.moments;
  few = fits.few;
  moments_room = let before : 2 * sum fits.first.numbers ≤ old.moments_room + length log = fits.moments_room in omega (arith, before, moments);
  segments_room = let before : 2 * sum fits.first.numbers ≤ old.segments_room + length log = fits.segments_room in omega (arith, before, segments);
}

-- one moment more
pub fits_on : (address : List ℕ → List ℕ) (old new : Db) (opened : Spelling) (log : List Entry) (session statement : ℕ) (left : Shared) → HasTurnLeft session old.parts log → statement < 2 ^ 32
    → HasTurned session statement old.parts new.parts → StateStands address new.parts left → KeepsRoom 1 old new → Fits address old opened log
    → Fits address new opened (log ++ entry (seat_of session) statement (spelling_of new.parts) ∷ [])
fits_on address old new opened log session statement left turn_left noted turned stands keeps fits =
    let e : Entry = entry (seat_of session) statement (spelling_of new.parts) in
    let some : 0 < slice_index_or old.parts.numbers session 0 = omega (arith, turn_left) in
    let next : IsNextBy e old.parts new.parts = record {
      session = session;
      seated = refl;
      there = below old.parts.numbers session some;
      noted = noted;
      left = refl;
      turned = turned;
    } in
    let numbers : old.parts.numbers ≡ fits.first.numbers = chain_numbers fits.first old.parts log fits.chain in
    let more : length (log ++ e ∷ []) ≡ length log + 1 = length_push log e in
    let number : session ≡ seat_of session - 1 = omega arith in
    let moment : ◌≡◌ {A = Moment} (record { session = session; statement = statement }) (moment_of e) = ap (λ n. let m : Moment = (record { session = n; statement = statement }) in m) number in
    record {
      shared = left;
      stands = stands;
      first = fits.first;
      opened_as = fits.opened_as;
      chain = chain_join fits.first old.parts new.parts log (e ∷ []) fits.chain (new.parts, next, refl);
      moments = turned.moments ∙ ap (λ moments. moments ++ record { session = session; statement = statement } ∷ []) fits.moments
          ∙ ap (λ m. map moment_of log ++ m ∷ []) moment ∙ sym (map_push moment_of log e);
      few = λ j.
          let before : length (entries_of (seat_of j) log) ≤ 2 * slice_index_or fits.first.numbers j 0 = fits.few j in
          let split : length (entries_of (seat_of j) (log ++ e ∷ [])) ≡ length (entries_of (seat_of j) log) + length (entries_of (seat_of j) (e ∷ []))
          = ap length (filter-append (λ (x : Entry). nat_eq x.seat (seat_of j)) log (e ∷ [])) ∙ length-append (entries_of (seat_of j) log) (entries_of (seat_of j) (e ∷ [])) in
          elim (nat_eq j session) as (λ test. nat_eq j session ≡ test → length (entries_of (seat_of j) (log ++ e ∷ [])) ≤ 2 * slice_index_or fits.first.numbers j 0) [
            | true ↦ λ test.
                let same : session ≡ j = grind (arith, nat_tests) in
                let one : length (entries_of (seat_of j) (e ∷ [])) ≡ 1 = ap length (own_first e [] j (ap (λ n. n + 1) same)) in
                let fewer : length (entries_of (seat_of j) log) < 2 * slice_index_or fits.first.numbers j 0
                = subst (λ ns. length (entries_of (seat_of j) log) < 2 * slice_index_or ns j 0) numbers (subst (λ n. HasTurnLeft n old.parts log) same turn_left) in
                omega (arith, split, one, fewer)
            | false ↦ λ test.
                let other : e.seat ≢ seat_of j = grind (arith, nat_tests) in
                let none : length (entries_of (seat_of j) (e ∷ [])) ≡ 0 = ap length (other_first e [] j other) in
                omega (arith, split, none, before)
          ] refl;
      moments_room =
          let before : 2 * sum fits.first.numbers ≤ old.moments_room + length log = fits.moments_room in
          let kept : old.moments_room ≤ new.moments_room + 1 = keeps.moments in
          omega (arith, before, kept, more);
      segments_room =
          let before : 2 * sum fits.first.numbers ≤ old.segments_room + length log = fits.segments_room in
          let kept : old.segments_room ≤ new.segments_room + 1 = keeps.segments in
          omega (arith, before, kept, more);
    }

-- a session that may make a moment finds room for it
pub has_room : (address : List ℕ → List ℕ) (db : Db) (opened : Spelling) (log : List Entry) (session : ℕ) → HasTurnLeft session db.parts log → Fits address db opened log → (0 < db.moments_room) × (0 < db.segments_room)
has_room address db opened log session turn_left fits =
    let numbers : db.parts.numbers ≡ fits.first.numbers = chain_numbers fits.first db.parts log fits.chain in
    let fewer : length log < 2 * sum fits.first.numbers
    = all_fewer log fits.first.numbers session (seated fits.first db.parts log fits.chain) fits.few
    (subst (λ ns. length (entries_of (seat_of session) log) < 2 * slice_index_or ns session 0) numbers turn_left) in
    let moments : 2 * sum fits.first.numbers ≤ db.moments_room + length log = fits.moments_room in
    let segments : 2 * sum fits.first.numbers ≤ db.segments_room + length log = fits.segments_room in
    (omega (arith, fewer, moments), omega (arith, fewer, segments))
  where
    seated : (first last : Parts) (es : List Entry) → Chain first es last → AllByRecursion (λ e. (session : ℕ) × (e.seat ≡ seat_of session)) es
    seated first last [] chain = tt
    seated first last (e ∷ es) chain = ((chain.1.session, chain.1.seated), seated chain.0 last es chain.2)

-- where a session saw this much, in which all its entries are, only others had turns since
pub has_come : (address : List ℕ → List ℕ) (db : Db) (opened : Spelling) (log seen : List Entry) (session : ℕ) (parts : Parts) → Fits address db opened log → StartsWith log seen
    → spelling_of parts ≡ left_last opened seen → entries_of (seat_of session) log ≡ entries_of (seat_of session) seen → HasCome session parts db.parts
has_come address db opened log seen session parts fits starts spelled same =
    let rest : List Entry = starts.0 in
    let ways = chain_split fits.first db.parts seen rest (subst (λ es. Chain fits.first es db.parts) starts.1 fits.chain) in
    let then_left : spelling_of ways.0 ≡ left_last opened seen = chain_left fits.first ways.0 seen ways.1 ∙ ap (λ before. left_last before seen) fits.opened_as in
    let there : ways.0 ≡ parts = spelled_one ways.0 parts (then_left ∙ sym spelled) in
    let both : entries_of (seat_of session) seen ++ entries_of (seat_of session) rest ≡ entries_of (seat_of session) seen
    = sym (filter-append (λ (x : Entry). nat_eq x.seat (seat_of session)) seen rest) ∙ (ap (entries_of (seat_of session)) (sym starts.1) ∙ same) in
    let many : length (entries_of (seat_of session) seen) + length (entries_of (seat_of session) rest) ≡ length (entries_of (seat_of session) seen)
    = sym (length-append (entries_of (seat_of session) seen) (entries_of (seat_of session) rest)) ∙ ap length both in
    let none : entries_of (seat_of session) rest ≡ [] = nil_from_length (entries_of (seat_of session) rest) (omega (arith, many)) in
    subst (λ old. HasCome session old db.parts) there (chain_of_others session ways.0 db.parts rest ways.2 none)

-- each entry is of one of the sessions, with a statement's number
pub fits_within : (address : List ℕ → List ℕ) (db : Db) (opened : Spelling) (log : List Entry) → Fits address db opened log
    → AllByRecursion (λ e. (session : ℕ) × (e.seat ≡ seat_of session) × (session < length db.parts.numbers) × (e.note < 2 ^ 32)) log
fits_within address db opened log fits = chain_within fits.first db.parts log fits.chain
