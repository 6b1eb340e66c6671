-- The sessions of a run along a given order, when one of them goes on.
use Rattle.std.proofs.Common.{◌≡◌, ◌≢◌, refl, sym, ◌∙◌, ap, subst, ℕ, ℤ, zero, suc, ◌+◌, ◌<◌, ◌≤◌, ◌==◌, ◌^◌, Bool, true, false, nat_lt, List, [], ◌∷◌, ◌++◌, length, map, option_map, Option, None, Some, slice_get, slice_set, arith}
use Rattle.std.specs.Prelude.{unwrap_or}
use Rattle.std.specs.List.{list_all}
use Rattle.std.proofs.lemmas.List.{length-set}
use Rattle.std.proofs.lemmas.List.Quantifiers.{position-Some}
use Rattle.std.proofs.lemmas.Bool.Decides.{nat_tests}
use Rattle.std.proofs.lemmas.Option.{same_Some, slice_get-map, slice_get_within}
use Rattle.std.proofs.lemmas.Bool.{and_from as join}
use Rattle.tuple_codec.proofs.Lists.{all_append, there_at}
use Rattle.chunk_store.specs.Chunks.{Lists}
use Rattle.script_text.specs.Input.{place_of}
use Rattle.script_text.specs.Shown.{is_shown_moment}
use Rattle.script_text.specs.declared.scripts.Moment.{Moment}
use Rattle.script_text.specs.declared.scripts.OrderItem.{OrderItem}
use Rattle.script_text.specs.declared.scripts.Script.{Script}
use Rattle.plain_sessions.specs.Commands.{command}
use Rattle.plain_sessions.specs.Records.{Shared}
use Rattle.plain_sessions.specs.Runs.{Runner}
use Rattle.run_laws.specs.Laws.{OrdersAreFollowed}
use Rattle.run_laws.specs.Orders.{asked_moment, asked_order}
use Rattle.run_laws.specs.Replaying.{Along, dropped, reply_of}
use Rattle.run_laws.proofs.ListLemmas.{get_put, get_put_other, put_same}
use Rattle.session_state.specs.Changes.{Parts, StateStands}
use Rattle.script_run.specs.Following.{ArePlayers, AreSettledTo, CantFollow, GoesOn, Stays, Answers, Drops, HasFollowed, IsFurther, IsPlayer, IsPlayingAt, StandsAt, Turns, Meets, Starts, Decides, is_next_at, is_settled, moments_left}
use Rattle.script_run.specs.Seats.{IsAtRest, room_at}
use Rattle.script_run.specs.declared.players.Player.{Player}
use Rattle.script_run.specs.declared.players.Playing.{Playing}
use Rattle.script_run.specs.declared.players.Stage.{Stage}
use Rattle.script_run.specs.declared.players.Stage.TheVariants as stage
use Rattle.script_run.proofs.RoomLemmas.{one_less_room, same_room}

-- ---- lists

pub put_twice : {X : Type 0} (xs : List X) (i : ℕ) (x y : X) → slice_set (slice_set xs i x) i y ≡ slice_set xs i y
put_twice [] i x y = refl
put_twice (z ∷ xs) zero x y = refl
put_twice (z ∷ xs) (suc i) x y = ap (λ (more : List _). z ∷ more) (put_twice xs i x y)

-- ---- the machine goes on with the session

module _ (address : List ℕ → List ℕ) (epoch : ℤ) (script : Script) (laws : OrdersAreFollowed) where
  abbrev Runs : List Moment → Shared → List Runner → Type 0
  Runs order shared runners = Along command address epoch script order shared runners

  pub along_goes : (order : List Moment) (shared : Shared) (runners : List Runner) (place : ℕ) (first next : Runner) → slice_get runners place ≡ Some first → GoesOn first next
      → Runs order shared runners → Runs order shared (slice_set runners place next)
  along_goes order shared runners place _ _ there (Stays runner) along =
      subst (λ (all : List Runner). Runs order shared all) (sym (put_same runners place runner there)) along
  along_goes order shared runners place _ _ there (Answers first session replies asked todo said goes counted before answer) along =
      let middle : Runner = record { session = session; replies = replies; todo = asked ∷ todo } in
      let next : Runner = record { session = said.0; replies = replies ++ said.1 ∷ []; todo = todo } in
      subst (λ (all : List Runner). Runs order shared all) (put_twice runners place middle next)
      (laws.local command address epoch script order shared (slice_set runners place middle) place session replies asked todo said
      (get_put runners place first middle there) counted before answer (along_goes order shared runners place first middle there goes along))
  along_goes order shared runners place _ _ there (Drops first session replies asked todo short goes counted before later) along =
      let middle : Runner = record { session = session; replies = replies; todo = asked ∷ todo } in
      let next : Runner = record { session = dropped session; replies = replies ++ reply_of short ∷ []; todo = todo } in
      subst (λ (all : List Runner). Runs order shared all) (put_twice runners place middle next)
      (laws.dropping command address epoch script order shared (slice_set runners place middle) place session replies asked todo short
      (get_put runners place first middle there) counted before later (along_goes order shared runners place first middle there goes along))

  along_turns : (order : List Moment) (shared left : Shared) (runners : List Runner) (place : ℕ) (first next : Runner) → slice_get runners place ≡ Some first
      → Turns address epoch shared first left next → Runs order shared runners
      → Runs (order ++ record { session = place; statement = first.session.statement } ∷ []) left (slice_set runners place next)
  along_turns order shared _ runners place _ _ there (Meets session replies asked todo left said counted before waits is) along =
      laws.moment command address epoch script order shared left runners place session replies asked todo said there counted before waits is along
  along_turns order shared _ runners place _ _ there (Starts session replies work todo transaction at before outside is between) along =
      laws.start command address epoch script order shared runners place session replies work todo transaction at there before outside is between along
  along_turns order shared _ runners place _ _ there (Decides session replies asked todo left said counted before well is) along =
      laws.decision command address epoch script order shared left runners place session replies asked todo said there counted before well is along

  -- on to its moment, at it, and on to the next
  pub along_followed : (order : List Moment) (shared left : Shared) (runners : List Runner) (place : ℕ) (first here next last : Runner) → slice_get runners place ≡ Some first
      → GoesOn first here → Turns address epoch shared here left next → GoesOn next last → Runs order shared runners
      → Runs (order ++ record { session = place; statement = here.session.statement } ∷ []) left (slice_set runners place last)
  along_followed order shared left runners place first here next last there comes turns goes along =
      let moment : Moment = record { session = place; statement = here.session.statement } in
      let at_here = get_put runners place first here there in
      let came : Runs order shared (slice_set runners place here) = along_goes order shared runners place first here there comes along in
      let turned : Runs (order ++ moment ∷ []) left (slice_set runners place next)
      = subst (λ (all : List Runner). Runs (order ++ moment ∷ []) left all) (put_twice runners place here next)
      (along_turns order shared left (slice_set runners place here) place here next at_here turns came) in
      subst (λ (all : List Runner). Runs (order ++ moment ∷ []) left all) (put_twice runners place next last)
      (along_goes (order ++ moment ∷ []) left (slice_set runners place next) place next last (get_put runners place first next there) goes turned)

-- ---- the other sessions stand where they stood

-- on its branch, where all chunks that were there are there
module _ {D : Type 0} (address : List ℕ → List ℕ) (old new : Parts) (shared left : Shared) (stands : StateStands address new left) (grown : Lists old.chunks new.chunks) where
  stands_still : (s : Stage) (player : Player D) (runner : Runner) → slice_get left.places runner.session.number ≡ slice_get shared.places runner.session.number
      → StandsAt address player old runner shared s → StandsAt address player new runner left s
  stands_still stage.Free player runner placed is = record {
    session_stands = is.session_stands;
    before = is.before;
    state_stands = stands;
    placed = placed ∙ is.placed;
    later = λ k bytes listed. grown k bytes (is.later k bytes listed);
  }
  stands_still (stage.Waits asked) player runner placed is = (
    record {
      session_stands = is.0.session_stands;
      before = is.0.before;
      state_stands = stands;
      placed = placed ∙ is.0.placed;
      later = λ k bytes listed. grown k bytes (is.0.later k bytes listed);
    },
    is.1,
    is.2,
    is.3,
  )
  stands_still (stage.Between asked wanted) player runner placed is = (
    record {
      here = record {
        session_stands = is.0.here.session_stands;
        state_stands = stands;
        placed = placed ∙ is.0.here.placed;
        later = λ k bytes listed. grown k bytes (is.0.here.later k bytes listed);
      };
      work = is.0.work;
      asked_is = is.0.asked_is;
      transaction = is.0.transaction;
      has = is.0.has;
      awaits = is.0.awaits;
    },
    is.1,
    is.2,
  )

  pub player_stays : (place : ℕ) (runner : Runner) (player : Player D) → slice_get left.places place ≡ slice_get shared.places place
      → IsPlayer address old shared place runner player → IsPlayer address new left place runner player
  player_stays place runner player placed is = record {
    stands = stands_still player.stage player runner (subst (λ n. slice_get left.places n ≡ slice_get shared.places n) (sym is.number) placed) is.stands;
    number = is.number;
    said = is.said;
    counted = is.counted;
    todo = is.todo;
    within = is.within;
    few = is.few;
    spelled = is.spelled;
    room = is.room;
    sound = is.sound;
    truly = is.truly;
  }

-- ---- all sessions, when one of them has gone on

module _ {D : Type 0} (address : List ℕ → List ℕ) (old new : Parts) (shared left : Shared) (runners : List Runner) (players : List (Player D))
    (place : ℕ) (first last : Runner) (player next : Player D) where
  pub players_next : ArePlayers address old shared runners players → slice_get runners place ≡ Some first → slice_get players place ≡ Some player
      → IsPlayer address new left place last next
      → ((other : ℕ) (runner : Runner) (one : Player D) → other ≢ place → IsPlayer address old shared other runner one → IsPlayer address new left other runner one)
      → ArePlayers address new left (slice_set runners place last) (slice_set players place next)
  players_next all there at own others = record {
    lists = length-set players place next ∙ all.lists ∙ sym (length-set runners place last);
    each = λ other runner one runner_there one_at.
        elim (other == place) as (λ test. (other == place) ≡ test → IsPlayer address new left other runner one) [
          | true ↦ λ test.
              let same : place ≡ other = grind (arith, nat_tests) in
              let is_runner : last ≡ runner = same_Some _ _ (sym (get_put runners place first last there) ∙ ap (slice_get (slice_set runners place last)) same ∙ runner_there) in
              let is_one : next ≡ one = same_Some _ _ (sym (get_put players place player next at) ∙ ap (slice_get (slice_set players place next)) same ∙ one_at) in
              subst (λ (o : Player D). IsPlayer address new left other runner o) is_one
              (subst (λ (r : Runner). IsPlayer address new left other r next) is_runner
              (subst (λ n. IsPlayer address new left n last next) same own))
          | false ↦ λ test.
              let apart : other ≢ place = grind (arith, nat_tests) in
              others other runner one apart (all.each other runner one (sym (get_put_other runners place other last apart) ∙ runner_there)
              (sym (get_put_other players place other next apart) ∙ one_at))
        ] refl;
  }

-- there is room for the moments that each may still take
room_next : {D : Type 0} (parts : Parts) (players : List (Player D)) (place : ℕ) (player next : Player D) → slice_get players place ≡ Some player → moments_left next ≤ room_at parts place
    → ((at : ℕ) (one : Player D) → at ≢ place → slice_get players at ≡ Some one → moments_left one ≤ room_at parts at)
    → (at : ℕ) (one : Player D) → slice_get (slice_set players place next) at ≡ Some one → moments_left one ≤ room_at parts at
room_next parts players place player next found own others at one there =
    elim (at == place) as (λ test. (at == place) ≡ test → moments_left one ≤ room_at parts at) [
      | true ↦ λ test.
          let same : place ≡ at = grind (arith, nat_tests) in
          let is_one : next ≡ one = same_Some _ _ (sym (get_put players place player next found) ∙ ap (slice_get (slice_set players place next)) same ∙ there) in
          subst (λ (o : Player _). moments_left o ≤ room_at parts at) is_one (subst (λ n. moments_left next ≤ room_at parts n) same own)
      | false ↦ λ test.
          let apart : at ≢ place = grind (arith, nat_tests) in
          others at one apart (sym (get_put_other players place at next apart) ∙ there)
    ] refl

le_trans : {a b c : ℕ} → a ≤ b → b ≤ c → a ≤ c
le_trans one more = omega (arith, one, more)

-- the session at a place, in the machine and in the program
pub record IsFound {D : Type 0} (address : List ℕ → List ℕ) (epoch : ℤ) (script : Script) (moments : List Moment) (playing : Playing D) (place : ℕ) (player : Player D)
    (now : IsPlayingAt address epoch script moments playing) : Type 0 where
  pub runner : Runner
  pub there : slice_get now.runners place ≡ Some runner
  pub is : IsPlayer address playing.lone.db.parts now.shared place runner player

module _ {D : Type 0} (address : List ℕ → List ℕ) (epoch : ℤ) (script : Script) (moments : List Moment) (playing : Playing D) (place : ℕ) (player : Player D)
    (now : IsPlayingAt address epoch script moments playing) (found : slice_get playing.players.items place ≡ Some player) where
  pub found_there : IsFound address epoch script moments playing place player now
  found_there =
      let one = there_at now.runners place (subst (λ n. place < n) now.players.lists (slice_get_within playing.players.items place player found)) in
      record { runner = one.0; there = one.1; is = now.players.each place one.0 player one.1 found }

  -- without a moment
  pub went_on : (after : Playing D) (next : Player D) → OrdersAreFollowed
      → ((runner : Runner) → IsPlayer address playing.lone.db.parts now.shared place runner player → IsFurther address playing.lone.db.parts now.shared place runner next)
      → after.players.items ≡ slice_set playing.players.items place next → after.lone.db.parts ≡ playing.lone.db.parts → IsAtRest address after.lone → moments_left next ≤ moments_left player
      → IsPlayingAt address epoch script moments after
  went_on after next laws further put same rest fewer =
      let one = found_there in
      let on = further one.runner one.is in
      record {
        shared = now.shared;
        runners = slice_set now.runners place on.next;
        along = along_goes address epoch script laws moments now.shared now.runners place one.runner on.next one.there on.goes now.along;
        made = ap (λ (p : Parts). p.moments) same ∙ now.made;
        all = length-set now.runners place on.next ∙ now.all;
        within = now.within;
        stands = subst (λ (p : Parts). StateStands address p now.shared) (sym same) now.stands;
        players = subst (λ (ps : List (Player D)). ArePlayers address after.lone.db.parts now.shared (slice_set now.runners place on.next) ps) (sym put)
            (subst (λ (p : Parts). ArePlayers address p now.shared (slice_set now.runners place on.next) (slice_set playing.players.items place next)) (sym same)
            (players_next address playing.lone.db.parts playing.lone.db.parts now.shared now.shared now.runners playing.players.items place one.runner on.next player next now.players one.there found on.is
            (λ other runner another apart is. is)));
        rest = rest;
        room = λ other another there.
            subst (λ (p : Parts). moments_left another ≤ room_at p other) (sym same)
            (room_next playing.lone.db.parts playing.players.items place player next found (le_trans fewer (now.room place player found)) (λ at one apart was. now.room at one was) other another
            (ap (λ (ps : List (Player D)). slice_get ps other) (sym put) ∙ there));
      }

  -- at its next moment
  pub followed : (after : Playing D) (next : Player D) (statement : ℕ) → OrdersAreFollowed → place < length script.names → statement < 2 ^ 32
      → ((runner : Runner) → IsPlayer address playing.lone.db.parts now.shared place runner player
      → HasFollowed address epoch place statement runner now.shared playing.lone.db.parts after.lone.db.parts next)
      → after.players.items ≡ slice_set playing.players.items place next → IsAtRest address after.lone → moments_left next + 1 ≤ moments_left player
      → IsPlayingAt address epoch script (moments ++ record { session = place; statement = statement } ∷ []) after
  followed after next statement laws below small has put rest fewer =
      let one = found_there in
      let on = has one.runner one.is in
      let named : nat_lt place (length script.names) ≡ true = grind (arith, nat_tests) in
      let numbered : nat_lt statement (2 ^ 32) ≡ true = grind (arith, nat_tests) in
      let moment : Moment = record { session = place; statement = statement } in
      let shown : is_shown_moment (length script.names) moment ≡ true = join (nat_lt place (length script.names)) (nat_lt statement (2 ^ 32)) named numbered in
      record {
        shared = on.left;
        runners = slice_set now.runners place on.last;
        along = subst (λ n. Along command address epoch script (moments ++ record { session = place; statement = n } ∷ []) on.left (slice_set now.runners place on.last)) on.at
            (along_followed address epoch script laws moments now.shared on.left now.runners place one.runner on.here on.next on.last one.there on.comes on.turns on.goes now.along);
        made = on.passes.moments ∙ ap (λ (ms : List Moment). ms ++ moment ∷ []) now.made;
        all = length-set now.runners place on.last ∙ now.all;
        within = all_append (is_shown_moment (length script.names)) moments (moment ∷ []) now.within
            (join (is_shown_moment (length script.names) moment) true shown refl);
        stands = on.state_stands;
        players = subst (λ (ps : List (Player D)). ArePlayers address after.lone.db.parts on.left (slice_set now.runners place on.last) ps) (sym put)
            (players_next address playing.lone.db.parts after.lone.db.parts now.shared on.left now.runners playing.players.items place one.runner on.last player next now.players one.there found on.is
            (λ other runner another apart is. player_stays address playing.lone.db.parts after.lone.db.parts now.shared on.left on.state_stands on.passes.grown other runner another (on.passes.others other apart) is));
        rest = rest;
        room = λ other another there.
            room_next after.lone.db.parts playing.players.items place player next found
            (one_less_room playing.lone.db.parts after.lone.db.parts place statement on.passes.moments on.passes.numbers (moments_left next) (moments_left player) fewer (now.room place player found))
            (λ at one apart was. subst (λ n. moments_left one ≤ n)
            (sym (same_room playing.lone.db.parts after.lone.db.parts place statement on.passes.moments on.passes.numbers at (λ same. apart (sym same)))) (now.room at one was)) other another
            (ap (λ (ps : List (Player D)). slice_get ps other) (sym put) ∙ there);
      }

-- ---- items

pub asked_at : (script : Script) (items all : List OrderItem) (at : ℕ) (item : OrderItem) → asked_order script ≡ map (asked_moment script.names) items → all ≡ items → slice_get all at ≡ Some item
    → slice_get (asked_order script) at ≡ Some (asked_moment script.names item)
asked_at script items all at item asked same there =
    ap (λ (order : List Moment). slice_get order at) asked ∙ slice_get-map (asked_moment script.names) items at
    ∙ ap (option_map (asked_moment script.names)) (sym (ap (λ (is : List OrderItem). slice_get is at) same) ∙ there)

-- ---- all sessions go on

module _ {D : Type 0} (players : List (Player D)) (place : ℕ) (player next : Player D) (found : slice_get players place ≡ Some player) where
  pub cant_still : (moment : Moment) → (is_settled player ≡ true → next ≡ player) → CantFollow moment players → CantFollow moment (slice_set players place next)
  cant_still moment same cant one there =
      elim (moment.session == place) as (λ test. (moment.session == place) ≡ test → (is_settled one ≡ true) × (is_next_at moment.statement one ≡ false)) [
        | true ↦ λ test.
            let here : place ≡ moment.session = grind (arith, nat_tests) in
            let was = cant player (ap (slice_get players) (sym here) ∙ found) in
            let is_one : next ≡ one = same_Some _ _ (sym (get_put players place player next found) ∙ ap (slice_get (slice_set players place next)) here ∙ there) in
            subst (λ (o : Player D). (is_settled o ≡ true) × (is_next_at moment.statement o ≡ false)) (sym (same was.0) ∙ is_one) was
        | false ↦ λ test.
            let apart : moment.session ≢ place = grind (arith, nat_tests) in
            cant one (sym (get_put_other players place moment.session next apart) ∙ there)
      ] refl

  pub settled_next : AreSettledTo place players → is_settled next ≡ true → AreSettledTo (place + 1) (slice_set players place next)
  settled_next before settled at one below there =
      elim (at == place) as (λ test. (at == place) ≡ test → is_settled one ≡ true) [
        | true ↦ λ test.
            let here : place ≡ at = grind (arith, nat_tests) in
            let is_one : next ≡ one = same_Some _ _ (sym (get_put players place player next found) ∙ ap (slice_get (slice_set players place next)) here ∙ there) in
            subst (λ (o : Player D). is_settled o ≡ true) is_one settled
        | false ↦ λ test.
            let apart : at ≢ place = grind (arith, nat_tests) in
            let less : at < place = grind (arith, nat_tests) in
            before at one less (sym (get_put_other players place at next apart) ∙ there)
      ] refl

pub all_settled : {D : Type 0} (players : List (Player D)) (count : ℕ) → length players ≤ count → AreSettledTo count players → list_all is_settled players ≡ true
all_settled [] count many each = refl
all_settled (player ∷ players) zero many each = absurd (omega arith)
all_settled (player ∷ players) (suc count) many each =
    let rest : length players ≤ count = omega arith in
    let first : 0 < suc count = omega arith in
    join (is_settled player) (list_all is_settled players) (each 0 player first refl)
    (all_settled players count rest (λ at one below there. let next : suc at < suc count = omega arith in each (suc at) one next there))

-- ---- one item

pub item_at : (names : List (List ℕ)) (item : OrderItem) (place : ℕ) → place_of names item.name ≡ Some place → record { session = place; statement = item.statement } ≡ asked_moment names item
item_at names item place found = ap (λ (o : Option ℕ). record { session = unwrap_or o (length names); statement = item.statement }) (sym found)

pub name_within : (names : List (List ℕ)) (name : List ℕ) (place : ℕ) → place_of names name ≡ Some place → place < length names
name_within names name place found = (position-Some _ names place [] found).0

pub cant_now : {D : Type 0} (players : List (Player D)) (place statement : ℕ) (player next : Player D) → slice_get players place ≡ Some player → is_settled next ≡ true → is_next_at statement next ≡ false
    → CantFollow (record { session = place; statement = statement }) (slice_set players place next)
cant_now players place statement player next found settled other one there =
    let is_one : next ≡ one = same_Some _ _ (sym (get_put players place player next found) ∙ there) in
    subst (λ (o : Player _). (is_settled o ≡ true) × (is_next_at statement o ≡ false)) is_one (settled, other)

pub cant_name : {D : Type 0} (names : List (List ℕ)) (item : OrderItem) (players : List (Player D)) → length players ≡ length names → place_of names item.name ≡ None
    → CantFollow (asked_moment names item) players
cant_name names item players many none one there =
    let nowhere : unwrap_or (place_of names item.name) (length names) ≡ length names = ap (λ (o : Option ℕ). unwrap_or o (length names)) none in
    let within : unwrap_or (place_of names item.name) (length names) < length players = slice_get_within players (unwrap_or (place_of names item.name) (length names)) one there in
    absurd (omega arith)
