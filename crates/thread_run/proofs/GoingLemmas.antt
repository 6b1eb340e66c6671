-- A session goes on through its meeting at the gate, and stands in the database that the gate gives back.
use Rattle.std.proofs.Common.{◌≡◌, refl, sym, ◌∙◌, ap, subst, ℕ, ℤ, ◌+◌, ◌-◌, ◌*◌, ◌<◌, ◌≤◌, Bool, true, false, List, [], ◌∷◌, ◌++◌, slice_get, arith, Some}
use Rattle.std.specs.Prelude.{slice_index_or}
use Rattle.std.proofs.lemmas.Option.{same_Some}
use Rattle.plain_sessions.specs.Sessions as plain
use Rattle.plain_sessions.specs.declared.commands.Command.{Command}
use Rattle.run_laws.specs.Histories.{ToldTurn, Way}
use Rattle.session_state.specs.Changes.{Parts, StateStands}
use Rattle.shared_db.specs.Shared.{Db}
use Rattle.seat_gate.specs.History.{Entry, HasMade, Spelling, StartsWith, View, entries_of, having_seen}
use Rattle.seat_gate.specs.Told.{left_last}
use Rattle.shared_history.specs.Fitting.{Fits, HasCome, seat_of}
use Rattle.shared_history.specs.Meeting.{moments_by, room_of}
use Rattle.shared_history.specs.Spelling.{SpellsState, spelling_of}
use Rattle.shared_history.proofs.FittingLemmas.{has_come}
use Rattle.serving.specs.Meetings.{InOneMoment, WaitsFree}
use Rattle.serving.specs.Steps.{number_at}
use Rattle.script_run.specs.Following.{IsFurther, IsLed, IsPlayer, is_free, moments_left}
use Rattle.script_run.specs.Seats.{IsSeatOf, room_at}
use Rattle.script_run.specs.declared.players.Player.{Player}
use Rattle.script_run.proofs.FollowLemmas.{player_stays}
use Rattle.script_run.proofs.GoingLemmas.{more_left, stands_of, state_of}
use Rattle.script_run.proofs.RoomLemmas.{one_less_room}
use Rattle.thread_run.specs.Gate.{IsFrom, tells_at, view_at}
use Rattle.thread_run.specs.Going.{IsGoing, IsThere}
use Rattle.thread_run.specs.Turns.{turns_of}
use Rattle.thread_run.specs.declared.at_gate.AtGate.{AtGate}
use Rattle.thread_run.proofs.AtGateLemmas.{read_as, seen_spelled}
use Rattle.thread_run.proofs.SeatLemmas.{turns_on_entering}
use Rattle.thread_run.proofs.WayLemmas.{way_on, way_turns}

-- what the epoch and the view are told as makes no difference
pub goes_as : {D : Type 0} {address : List ℕ → List ℕ} {epoch other : ℤ} {place : ℕ} {first : plain.Session} {all : List Command} {v w : View} {player : Player D} → epoch ≡ other → v ≡ w
    → IsGoing address epoch place first all v player → IsGoing address other place first all w player
goes_as {address = address} {epoch = epoch} {place = place} {first = first} {all = all} {w = w} {player = player} as_other as_w going =
    subst (λ (e : ℤ). IsGoing address e place first all w player) as_other (subst (λ (view : View). IsGoing address epoch place first all view player) as_w going)

module _ {D : Type 0} (address : List ℕ → List ℕ) (epoch : ℤ) (place : ℕ) (first : plain.Session) (all : List Command) where
  -- statements without a moment
  pub goes_further : (view : View) (player next : Player D) (going : IsGoing address epoch place first all view player)
      → IsFurther address going.parts going.shared place going.runner next → moments_left next ≤ moments_left player → IsGoing address epoch place first all view next
  goes_further view player next going further less = record {
    number = going.number;
    parts = going.parts;
    spelled = going.spelled;
    shared = going.shared;
    runner = further.next;
    is = further.is;
    way = way_on (SpellsState address) address epoch first all (turns_of view) going.runner further.next further.goes going.way;
    counted = let counted = going.counted in omega (arith, counted, less);
  }

  -- it stands in a database that fits what was seen, where its own entries are those that it made
  pub stands_there : (v : View) (seen : List Entry) (db : Db) (player : Player D) → HasMade v → Fits address db v.opened seen → StartsWith seen v.seen → entries_of v.number seen ≡ v.made
      → IsGoing address epoch place first all v player → IsThere address epoch place first all (having_seen seen v) db player
  stands_there v seen db player made fits starts own going =
      let same : entries_of (seat_of place) seen ≡ entries_of (seat_of place) v.seen
      = subst (λ n. entries_of n seen ≡ entries_of n v.seen) going.number (own ∙ sym made) in
      let come : HasCome place going.parts db.parts = has_come address db v.opened seen v.seen place going.parts fits starts going.spelled same in
      record {
        fits = fits;
        runner = going.runner;
        is = player_stays address going.parts db.parts going.shared fits.shared fits.stands come.grown place going.runner player
            (ap (λ (places : List (List ℕ)). slice_get places place) (sym fits.stands.places) ∙ (come.place
            ∙ ap (λ (places : List (List ℕ)). slice_get places place) (state_of going.is).places)) going.is;
        way = subst (λ (turns : List (ToldTurn Spelling)). Way (SpellsState address) address epoch first all turns going.runner) (sym (turns_on_entering v seen made starts own)) going.way;
      }

  -- ---- through its meeting

  -- the meeting is the session's, which is on its way
  module _ {R : Type 0} (begun at : AtGate R D) (origin : IsFrom address begun at) (player : Player D) (going : IsGoing address epoch place first all (view_at at) player) where
    seen_is : (tells_at at).seen ≡ going.parts
    seen_is = read_as going.parts (left_last (view_at at).opened (view_at at).seen) going.spelled

    whose : at.notes.session ≡ place
    whose =
        let seat : (view_at at).number ≡ at.notes.session + 1 = origin.numbered in
        let number : (view_at at).number ≡ place + 1 = going.number in
        omega (arith, seat, number)

    -- it stands in what the meeting saw last
    pub player_seen : IsPlayer address (tells_at at).seen going.shared place going.runner player
    player_seen = subst (λ (p : Parts). IsPlayer address p going.shared place going.runner player) (sym seen_is) going.is

    pub seat_is : (tells_at at).statement ≡ number_at player.session.position → (tells_at at).held ≡ false → IsSeatOf (tells_at at) player.session
    seat_is told free = record { number = whose ∙ (sym going.is.number ∙ sym (stands_of going.is).number); statement = told; free = free }

    pub room_there : is_free player.stage ≡ false → 0 < room_of (tells_at at)
    room_there waits =
        let some : 0 < moments_left player = (more_left going.is waits).1 in
        let counted : moments_left player ≤ room_at going.parts place = going.counted in
        let there : 0 < room_at going.parts place = omega (arith, some, counted) in
        subst (λ n. 0 < n) (λ i. room_at (sym seen_is i) (sym whose i)) there

    -- there is as much room in parts to which only others' moments led
    room_kept : (found : Parts) → found.numbers ≡ (tells_at at).seen.numbers → moments_by at.notes.session found.moments ≡ moments_by at.notes.session (tells_at at).seen.moments
        → room_at found place ≡ room_at going.parts place
    room_kept found numbers own =
        subst (λ n. room_at found n ≡ room_at (tells_at at).seen n) whose (λ i. 2 * slice_index_or (numbers i) at.notes.session 0 - own i) ∙ ap (λ (p : Parts). room_at p place) seen_is

    module _ (now : AtGate R D) (from : IsFrom address begun now) (next : Player D) (less : moments_left next + 1 ≤ moments_left player) where
      stands_now : StateStands address (tells_at now).seen from.shared
      stands_now = subst (λ (p : Parts). StateStands address p from.shared) (sym (read_as from.parts (left_last (view_at now).opened (view_at now).seen) from.spelled)) from.stands

      -- no moment was made
      missed_goes : IsFurther address (tells_at at).seen going.shared place going.runner next → WaitsFree (tells_at at) (tells_at now) → IsGoing address epoch place first all (view_at now) next
      missed_goes further free = record {
        number = from.numbered ∙ ap seat_of (free.waits.session ∙ whose);
        parts = (tells_at now).seen;
        spelled = seen_spelled address begun now from;
        shared = from.shared;
        runner = further.next;
        is = player_stays address (tells_at at).seen (tells_at now).seen going.shared from.shared stands_now free.waits.come.grown place further.next next
            (ap (λ (places : List (List ℕ)). slice_get places place) (sym stands_now.places)
            ∙ (subst (λ n. slice_get (tells_at now).seen.places n ≡ slice_get (tells_at at).seen.places n) whose free.waits.come.place
            ∙ ap (λ (places : List (List ℕ)). slice_get places place) (state_of player_seen).places)) further.is;
        way = subst (λ (turns : List (ToldTurn Spelling)). Way (SpellsState address) address epoch first all turns further.next) (sym (same_Some _ _ free.waits.made))
            (way_on (SpellsState address) address epoch first all (turns_of (view_at at)) going.runner further.next further.goes going.way);
        counted =
            let counted : moments_left player ≤ room_at going.parts place = going.counted in
            let fewer : moments_left next ≤ room_at going.parts place = omega (arith, counted, less) in
            subst (λ n. moments_left next ≤ n) (sym (room_kept (tells_at now).seen free.waits.come.numbers free.waits.own)) fewer;
      }

      -- a moment was made
      made_goes : (tells_at at).statement ≡ going.runner.session.statement
          → InOneMoment address (λ found shared left. IsLed address epoch place going.runner shared found left next) (tells_at at) (tells_at now) → IsGoing address epoch place first all (view_at now) next
      made_goes told moment =
          let led : IsLed address epoch place going.runner moment.is.shared moment.found moment.left next = moment.leaves moment.is.shared moment.is.stands in
          record {
            number = from.numbered ∙ ap seat_of (moment.turned.session ∙ whose);
            parts = moment.left;
            spelled = ap spelling_of (sym moment.turned.seen) ∙ seen_spelled address begun now from;
            shared = led.left;
            runner = led.next;
            is = led.is;
            way = subst (λ (turns : List (ToldTurn Spelling)). Way (SpellsState address) address epoch first all turns led.next) (sym (same_Some _ _ moment.turned.made))
                (subst (λ n. Way (SpellsState address) address epoch first all (turns_of (view_at at) ++ record { statement = n; found = spelling_of moment.found; left = spelling_of moment.left } ∷ []) led.next) (sym told)
                (way_turns (SpellsState address) address epoch first all (turns_of (view_at at)) (spelling_of moment.found) (spelling_of moment.left) moment.is.shared led.left going.runner led.next
                (record { parts = moment.found; spelled = refl; stands = moment.is.stands })
                (record { parts = moment.left; spelled = refl; stands = led.state_stands }) led.turns going.way));
            counted = one_less_room moment.found moment.left place going.runner.session.statement led.passes.moments led.passes.numbers (moments_left next) (moments_left player) less
                (subst (λ n. moments_left player ≤ n) (sym (room_kept moment.found moment.is.come.numbers moment.is.own)) going.counted);
          }

      -- it was led on
      pub led_goes : (made : Bool) → (tells_at at).statement ≡ going.runner.session.statement
          → (made ≡ true → InOneMoment address (λ found shared left. IsLed address epoch place going.runner shared found left next) (tells_at at) (tells_at now))
          → (made ≡ false → IsFurther address (tells_at at).seen going.shared place going.runner next) → (made ≡ false → WaitsFree (tells_at at) (tells_at now))
          → IsGoing address epoch place first all (view_at now) next
      led_goes true told led missed waits = made_goes told (led refl)
      led_goes false told led missed waits = missed_goes (missed refl) (waits refl)

      -- and nothing is held
      pub led_free : (made : Bool) → (made ≡ true → InOneMoment address (λ found shared left. IsLed address epoch place going.runner shared found left next) (tells_at at) (tells_at now))
          → (made ≡ false → WaitsFree (tells_at at) (tells_at now)) → (tells_at now).held ≡ false
      led_free true led waits = (led refl).turned.free
      led_free false led waits = (waits refl).free
