-- A run in threads at its end.
use Rattle.std.proofs.Common.{◌≡◌, ◌≢◌, refl, sym, ◌∙◌, ap, subst, ℕ, ℤ, zero, suc, ◌+◌, ◌-◌, ◌<◌, ◌^◌, ◌==◌, Bool, true, false, cond, nat_lt, List, [], ◌∷◌, get_or, length, map, Some, slice_get, arith}
use Rattle.std.specs.List.{AllByRecursion, list_all}
use Rattle.std.specs.Prelude.{All}
use Rattle.std.proofs.lemmas.Bool.Decides.{nat_tests}
use Rattle.std.proofs.lemmas.List.{get_or-map, length-map}
use Rattle.std.proofs.lemmas.Option.{get_or_from_slice_get, slice_get_within}
use Rattle.std.proofs.lemmas.Bool.{and_from as join}
use Rattle.tuple_codec.proofs.Lists.{there_at as found_there}
use Rattle.script_text.specs.Collisions.{AllTellTruly}
use Rattle.script_text.specs.Output.{shortages_in}
use Rattle.script_text.specs.Shown.{IsPrintable, IsShown, is_shown_moment}
use Rattle.script_text.specs.declared.outputs.BranchLine.{BranchLine}
use Rattle.script_text.specs.declared.outputs.RunText.{RunText}
use Rattle.script_text.specs.declared.replies.Reply.{Reply}
use Rattle.script_text.specs.declared.scripts.Moment.{Moment}
use Rattle.script_text.specs.declared.scripts.Script.{Script}
use Rattle.plain_sessions.specs.Commands.{command}
use Rattle.plain_sessions.specs.Output.{IsPlainRun}
use Rattle.plain_sessions.specs.Records.{Shared, opening}
use Rattle.plain_sessions.specs.Runs.{Runner, commands_of, plain_run}
use Rattle.plain_sessions.specs.Sessions.{new_session}
use Rattle.run_laws.specs.Laws.{shown_of}
use Rattle.run_laws.specs.Histories as laws
use Rattle.run_laws.specs.Histories.{ToldTurn, Way, moment_of_entry}
use Rattle.run_laws.proofs.HistoryLemmas.{ways_run}
use Rattle.run_laws.specs.Replaying.{all_replies}
use Rattle.run_laws.proofs.ReplayLemmas.{shown_by_machine}
use Rattle.session_state.specs.Changes.{Parts, StateStands}
use Rattle.session_state.specs.Laws.{StatesFollow}
use Rattle.shared_db.specs.Shared.{Db}
use Rattle.seat_gate.specs.History.{Entry, HasMade, Spelling, View, first_view, gathered, having_seen, newcomer}
use Rattle.seat_gate.specs.Told.{left_last, told_by}
use Rattle.seat_gate.specs.Words.{GateId, IsWhole, StandsIn, gate_id}
use Rattle.seat_gate.specs.Working.{AreAllGivenOut, AreNewcomers, IsNewcomer, IsSeated, giving_out, view_in, views_of, works_of}
use Rattle.seat_gate.specs.declared.workers.Worker.{Worker}
use Rattle.seat_gate.proofs.Gathering.{all_gathered, gathered_made, gathered_number, gathered_opened, whole_each, whole_known}
use Rattle.seat_gate.proofs.WorkerLemmas.{all_given_out}
use Rattle.shared_history.specs.Fitting.{Fits, moment_of, seat_of}
use Rattle.shared_history.specs.Spelling.{SpellsState, spelling_of}
use Rattle.shared_history.proofs.FittingLemmas.{fits_left, fits_within}
use Rattle.shared_history.proofs.SpellingLemmas.{spells_one}
use Rattle.script_run.specs.Following.{AreAlong, IsPlayer, is_free, is_settled, is_through}
use Rattle.script_run.specs.Scripts.{IsSoundScript}
use Rattle.script_run.specs.declared.players.Player.{Player}
use Rattle.script_run.proofs.ReplayLemmas.{are_over, are_printable, are_shown, are_truly, are_waiting, as_many_test, shown_is}
use Rattle.shared_history.specs.declared.gated.GatedDb.{GatedDb}
use Rattle.thread_run.specs.Ending.{HasEnded, HaveWorked}
use Rattle.thread_run.specs.Going.{HasWorked, IsAtWork, IsGoing, IsThere}
use Rattle.thread_run.specs.Opening.{IsOpenAtGate}
use Rattle.thread_run.specs.Turns.{told_turn}
use Rattle.thread_run.specs.declared.opening.OpenedGate.{OpenedGate}
use Rattle.thread_run.proofs.GoingLemmas.{stands_there}

-- ---- the gate's history and the machine's

abbrev pub entry_of : Entry → laws.ToldMoment Spelling
entry_of e = record { session = e.seat - 1; statement = e.note; left = e.left }

same_test : (seat place : ℕ) → seat ≢ 0 → (seat - 1 == place) ≡ (seat == place + 1)
same_test seat place other =
    elim (seat == place + 1) as (λ test. (seat == place + 1) ≡ test → (seat - 1 == place) ≡ test) [
      | true ↦ λ test.
          let at : seat ≡ place + 1 = grind (arith, nat_tests) in
          as_many_test (seat - 1) place (let less : seat - 1 ≡ place = omega arith in less)
      | false ↦ λ test.
          let apart : seat ≢ place + 1 = grind (arith, nat_tests) in
          let off : seat - 1 ≢ place = λ same. apart (omega (arith, other)) in
          grind (arith, nat_tests)
    ] refl

told_same : (place : ℕ) (before : Spelling) (log : List Entry) → AllByRecursion (λ e. e.seat ≢ 0) log → laws.told_by place before (map entry_of log) ≡ map told_turn (told_by (seat_of place) before log)
told_same place before [] others = refl
told_same place before (e ∷ log) others = by_test (e.seat - 1 == place) (e.seat == place + 1) (same_test e.seat place others.0) (told_same place e.left log others.1)
  where
    by_test : (b c : Bool) → b ≡ c → laws.told_by place e.left (map entry_of log) ≡ map told_turn (told_by (seat_of place) e.left log)
        → cond b (record { statement = e.note; found = before; left = e.left } ∷ laws.told_by place e.left (map entry_of log)) (laws.told_by place e.left (map entry_of log))
        ≡ map told_turn (cond c (record { note = e.note; found = before; left = e.left } ∷ told_by (seat_of place) e.left log) (told_by (seat_of place) e.left log))
    by_test true true same more = ap (λ turns. record { statement = e.note; found = before; left = e.left } ∷ turns) more
    by_test false false same more = more
    by_test true false same more = absurd (cc)
    by_test false true same more = absurd (cc)

left_same : (before : Spelling) (log : List Entry) → laws.left_last before (map entry_of log) ≡ left_last before log
left_same before [] = refl
left_same before (e ∷ log) = left_same e.left log

moments_same : (log : List Entry) → map moment_of_entry (map entry_of log) ≡ map moment_of log
moments_same [] = refl
moments_same (e ∷ log) = ap (λ ms. moment_of e ∷ ms) (moments_same log)

seats_of : (n : ℕ) (log : List Entry) → AllByRecursion (λ e. (e.seat ≢ 0) × (e.seat < n + 1)) log → AllByRecursion (λ e. e.seat ≢ 0) log
seats_of n [] known = tt
seats_of n (e ∷ log) known = (known.0.0, seats_of n log known.1)

within_of : (n : ℕ) (log : List Entry) → AllByRecursion (λ e. (e.seat ≢ 0) × (e.seat < n + 1)) log → AllByRecursion (λ (entry : laws.ToldMoment Spelling). entry.session < n) (map entry_of log)
within_of n [] known = tt
within_of n (e ∷ log) known = (let k = known.0 in let other = k.0 in let below = k.1 in omega (arith, other, below), within_of n log known.1)

shown_of_log : (n m : ℕ) (log : List Entry) → AllByRecursion (λ e. (e.seat ≢ 0) × (e.seat < n + 1)) log
    → AllByRecursion (λ e. (session : ℕ) × (e.seat ≡ seat_of session) × (session < m) × (e.note < 2 ^ 32)) log → list_all (is_shown_moment n) (map moment_of log) ≡ true
shown_of_log n m [] known noted = refl
shown_of_log n m (e ∷ log) known noted =
    let other = known.0.0 in
    let below = known.0.1 in
    let small = noted.0.3 in
    let session : e.seat - 1 < n = omega (arith, other, below) in
    let named : nat_lt (e.seat - 1) n ≡ true = grind (arith, nat_tests) in
    let numbered : nat_lt e.note (2 ^ 32) ≡ true = grind (arith, nat_tests) in
    join (is_shown_moment n (moment_of e)) (list_all (is_shown_moment n) (map moment_of log)) (join (nat_lt (e.seat - 1) n) (nat_lt e.note (2 ^ 32)) named numbered)
    (shown_of_log n m log known.1 noted.1)

-- ---- lists

-- one of each is a list of them
collected : (P : ℕ → Runner → Type 0) (n : ℕ) → ((k : ℕ) → k < n → (r : Runner) × P k r)
    → (rs : List Runner) × (length rs ≡ n) × ((k : ℕ) (r : Runner) → slice_get rs k ≡ Some r → P k r)
collected P zero each = ([], refl, λ k r h. absurd (cc))
collected P (suc n) each =
    let first = each 0 (omega arith) in
    let rest = collected (λ k r. P (suc k) r) n (λ k below. each (suc k) (omega arith)) in
    (first.0 ∷ rest.0, ap suc rest.1, at first.0 rest.0 first.1 rest.2)
  where
    at : (first : Runner) (rest : List Runner) → P 0 first → ((k : ℕ) (r : Runner) → slice_get rest k ≡ Some r → P (suc k) r) → (k : ℕ) (r : Runner) → slice_get (first ∷ rest) k ≡ Some r → P k r
    at first rest here more zero r h = let same : first ≡ r = cc in subst (λ x. P 0 x) same here
    at first rest here more (suc k) r h = more k r h

all_at : {X : Type 0} (p : X → Bool) (xs : List X) → ((k : ℕ) (x : X) → slice_get xs k ≡ Some x → p x ≡ true) → list_all p xs ≡ true
all_at p [] each = refl
all_at p (x ∷ xs) each = join (p x) (list_all p xs) (each 0 x refl) (all_at p xs (λ k y h. each (suc k) y h))

work_at : {D : Type 0} (ws : List (Worker (Player D))) (k : ℕ) (player : Player D) → slice_get (works_of ws) k ≡ Some player → (w : Worker (Player D)) × (slice_get ws k ≡ Some w) × (w.work ≡ player)
work_at [] k player h = absurd (cc)
work_at (w ∷ ws) zero player h = let same : w.work ≡ player = cc in (w, refl, same)
work_at (w ∷ ws) (suc k) player h = work_at ws k player h

settled_through : {D : Type 0} (player : Player D) → is_through player ≡ true → is_settled player ≡ true
settled_through player through =
    elim (is_free player.stage) as (λ b. cond b (length player.replies.items == length player.texts) true ≡ true) [
      | true ↦ through
      | false ↦ refl
    ]

-- ---- the end

-- what is known of each session once its thread was joined
pub record IsOver {D : Type 0} (address : List ℕ → List ℕ) (epoch : ℤ) (script : Script) (opened : Spelling) (place : ℕ) (name : List ℕ) (worker : Worker (Player D)) : Type 0 where
  pub number : (view_in worker.seat).number ≡ seat_of place
  pub opened_as : (view_in worker.seat).opened ≡ opened
  pub own : HasMade (view_in worker.seat)
  pub going : IsGoing address epoch place (new_session place name) (commands_of command place script.lines) (view_in worker.seat) worker.work
  pub through : is_through worker.work ≡ true

module _ {D : Type 0} (address : List ℕ → List ℕ) (epoch : ℤ) (script : Script) (db : Db) (opened : Spelling) (log : List Entry) (workers : List (Worker (Player D)))
    (states : StatesFollow) (fits : Fits address db opened log) (many : length workers ≡ length script.names)
    (over : (place : ℕ) (name : List ℕ) (worker : Worker (Player D)) → slice_get script.names place ≡ Some name → slice_get workers place ≡ Some worker → IsOver address epoch script opened place name worker)
    (stands_in : (place : ℕ) (worker : Worker (Player D)) → slice_get workers place ≡ Some worker → StandsIn log (view_in worker.seat).number (view_in worker.seat).seen (view_in worker.seat).made)
    (known : AllByRecursion (λ e. (e.seat ≢ 0) × (e.seat < length script.names + 1)) log) where
  -- the machine's session at the end, which came there its own way
  abbrev IsLast : ℕ → Runner → Type 0
  IsLast place runner = (name : List ℕ) (worker : Worker (Player D)) → slice_get script.names place ≡ Some name → slice_get workers place ≡ Some worker
      → IsPlayer address db.parts fits.shared place runner worker.work
      × Way (SpellsState address) address epoch (new_session place name) (commands_of command place script.lines) (laws.told_by place opened (map entry_of log)) runner

  there_at : (place : ℕ) (name : List ℕ) (worker : Worker (Player D)) → slice_get script.names place ≡ Some name → slice_get workers place ≡ Some worker
      → IsThere address epoch place (new_session place name) (commands_of command place script.lines) (having_seen log (view_in worker.seat)) db worker.work
  there_at place name worker named there =
      let one = over place name worker named there in
      let within = stands_in place worker there in
      stands_there address epoch place (new_session place name) (commands_of command place script.lines) (view_in worker.seat) log db worker.work one.own
      (subst (λ o. Fits address db o log) (sym one.opened_as) fits) within.0 within.1 one.going

  last_at : (place : ℕ) → place < length script.names → (runner : Runner) × IsLast place runner
  last_at place below =
      let named = found_there script.names place below in
      let there = found_there workers place (omega (arith, many, below)) in
      let one = over place named.0 there.0 named.1 there.1 in
      let stood = there_at place named.0 there.0 named.1 there.1 in (
        stood.runner,
        λ name worker h g.
            let is_name : named.0 ≡ name = let n = named.1 in cc in
            let is_worker : there.0 ≡ worker = let t = there.1 in cc in
            subst (λ (n : List ℕ). IsPlayer address db.parts fits.shared place stood.runner worker.work
            × Way (SpellsState address) address epoch (new_session place n) (commands_of command place script.lines) (laws.told_by place opened (map entry_of log)) stood.runner) is_name
            (subst (λ (w : Worker (Player D)). IsPlayer address db.parts fits.shared place stood.runner w.work
            × Way (SpellsState address) address epoch (new_session place named.0) (commands_of command place script.lines) (laws.told_by place opened (map entry_of log)) stood.runner) is_worker (
              subst (λ (s : Shared). IsPlayer address db.parts s place stood.runner there.0.work) (states.one address db.parts stood.fits.shared fits.shared stood.fits.stands fits.stands) stood.is,
              subst (λ (turns : List (ToldTurn Spelling)). Way (SpellsState address) address epoch (new_session place named.0) (commands_of command place script.lines) turns stood.runner)
                  (ap (λ n. map told_turn (told_by n (view_in there.0.seat).opened log)) one.number
                  ∙ (ap (λ o. map told_turn (told_by (seat_of place) o log)) one.opened_as
                  ∙ sym (told_same place opened log (seats_of (length script.names) log known)))) stood.way,
            )),
      )

  pub ended : SpellsState address opened (opening address epoch script.names) → HasEnded address epoch script db.parts (works_of workers)
  ended opens =
      let all = collected IsLast (length script.names) last_at in
      let runners : List Runner = all.0 in
      let is_at : (place : ℕ) (runner : Runner) (player : Player D) → slice_get runners place ≡ Some runner → slice_get (works_of workers) place ≡ Some player → IsPlayer address db.parts fits.shared place runner player
      = λ place runner player h g.
      let below : place < length script.names = subst (λ n. place < n) all.1 (slice_get_within runners place runner h) in
      let named = found_there script.names place below in
      let there = work_at workers place player g in
      subst (λ (p : Player D). IsPlayer address db.parts fits.shared place runner p) there.2 (all.2 place runner h named.0 there.0 named.1 there.1).0 in
      let along : AreAlong address script db.parts.moments db.parts (works_of workers) = record {
        shared = fits.shared;
        runners = runners;
        made = refl;
        all = all.1;
        within = subst (λ ms. list_all (is_shown_moment (length script.names)) ms ≡ true) (sym fits.moments)
            (shown_of_log (length script.names) (length db.parts.numbers) log known (fits_within address db opened log fits));
        stands = fits.stands;
        players = record { lists = length-map workers (λ (w : Worker (Player D)). w.work) ∙ (many ∙ sym all.1); each = is_at };
      } in
      let through : (place : ℕ) (player : Player D) → slice_get (works_of workers) place ≡ Some player → is_through player ≡ true
      = λ place player g.
      let there = work_at workers place player g in
      let named = found_there script.names place (subst (λ n. place < n) many (slice_get_within workers place there.0 there.1)) in
      subst (λ (p : Player D). is_through p ≡ true) there.2 (over place named.0 there.0 named.1 there.1).through in
      let settled : list_all is_settled (works_of workers) ≡ true = all_at is_settled (works_of workers) (λ place player g. settled_through player (through place player g)) in
      let run = ways_run command address epoch script (SpellsState address) (λ words s t. spells_one states address words s t) (map entry_of log) opened runners opens all.1
      (are_waiting address script db.parts.moments db.parts (works_of workers) along settled)
      (are_over address script db.parts.moments db.parts (works_of workers) along ∙ all_at is_through (works_of workers) through)
      (within_of (length script.names) log known)
      (λ place name runner named h.
      let there = found_there workers place (let below = slice_get_within script.names place name named in omega (arith, many, below)) in
      (all.2 place runner h name there.0 named there.1).1) in
      let spelled : SpellsState address (laws.left_last opened (map entry_of log)) fits.shared
      = record { parts = db.parts; spelled = fits_left address db opened log fits ∙ sym (left_same opened log); stands = fits.stands } in
      let same : run.0 ≡ fits.shared = spells_one states address (laws.left_last opened (map entry_of log)) run.0 fits.shared run.1 spelled in
      record {
        along = along;
        machine = subst (λ (s : Shared). plain_run command address script db.parts.moments (shortages_in (all_replies runners)) epoch ≡ Some (record { shared = s; runners = runners })) same
            (subst (λ (ms : List Moment). plain_run command address script ms (shortages_in (all_replies runners)) epoch ≡ Some (record { shared = run.0; runners = runners }))
            (moments_same log ∙ sym fits.moments) run.2);
      }

-- ---- the gate was closed

-- each worker has its seat, and its session is before its first statement
pub all_at_work : {D : Type 0} (address : List ℕ → List ℕ) (epoch : ℤ) (script : Script) (at : OpenedGate D) → IsOpenAtGate address epoch script at → All (IsAtWork address epoch (gate_id at.gate)) at.workers.items
all_at_work address epoch script at begun k d below =
    let workers : List (Worker (Player _)) = at.workers.items in
    let first : View = first_view (spelling_of begun.parts) in
    let there = found_there workers k below in
    let lists : length workers ≡ length begun.players = begun.seated.many in
    let many = begun.many in
    let given = found_there begun.players k (omega (arith, lists, below)) in
    let named = found_there script.names k (omega (arith, lists, many, below)) in
    let was : IsNewcomer (gate_id at.gate) (giving_out k first) (get_or begun.players k given.0) there.0
    = subst (λ (w : Worker (Player _)). IsNewcomer (gate_id at.gate) (giving_out k first) (get_or begun.players k given.0) w) (get_or_from_slice_get workers k there.0 there.0 there.1)
    (begun.seated.each k given.0 there.0 (omega (arith, lists, below))) in
    subst (λ (w : Worker (Player _)). IsAtWork address epoch (gate_id at.gate) w) (sym (get_or_from_slice_get workers k there.0 d there.1)) (record {
      seated = was.seated;
      own = subst HasMade (sym was.view) refl;
      place = k;
      first = new_session k named.0;
      all = commands_of command k script.lines;
      going = begun.going k named.0 there.0 named.1 there.1;
    })

module _ {D : Type 0} (address : List ℕ → List ℕ) (epoch : ℤ) (script : Script) (states : StatesFollow) (parts : Parts) (stands : StateStands address parts (opening address epoch script.names))
    (players : List (Player D)) (id : GateId) (first : View) (old new : List (Worker (Player D)))
    (many : length players ≡ length script.names)
    (view : first ≡ giving_out (length players) (first_view (spelling_of parts)))
    (seated : AreNewcomers id (first_view (spelling_of parts)) players old)
    (going : (place : ℕ) (name : List ℕ) (worker : Worker (Player D)) → slice_get script.names place ≡ Some name → slice_get old place ≡ Some worker
    → IsGoing address epoch place (new_session place name) (commands_of command place script.lines) (view_in worker.seat) worker.work)
    (worked : HaveWorked address epoch id old new) where
  pub all_seated : All (λ (w : Worker (Player D)). IsSeated id w.seat) new
  all_seated k d below = (worked.each k d (subst (λ n. k < n) worked.many below)).seated

  -- these are all seats that were given out
  pub all_back : AreAllGivenOut first (views_of new)
  all_back = all_given_out id (spelling_of parts) (first_view (spelling_of parts)) first players old new refl view seated worked.many (λ k d below. (worked.each k d below).keeps)

  worked_at : (place : ℕ) (before worker : Worker (Player D)) → slice_get old place ≡ Some before → slice_get new place ≡ Some worker → HasWorked address epoch id before worker
  worked_at place before worker was there =
      subst (λ (w : Worker (Player D)). HasWorked address epoch id w worker) (get_or_from_slice_get old place before before was)
      (subst (λ (w : Worker (Player D)). HasWorked address epoch id (get_or old place before) w) (get_or_from_slice_get new place worker before there)
      (worked.each place before (slice_get_within old place before was)))

  over_at : (place : ℕ) (name : List ℕ) (worker : Worker (Player D)) → slice_get script.names place ≡ Some name → slice_get new place ≡ Some worker
      → IsOver address epoch script (spelling_of parts) place name worker
  over_at place name worker named there =
      let below : place < length old = subst (λ n. place < n) worked.many (slice_get_within new place worker there) in
      let before = found_there old place below in
      let given = found_there players place (let m = seated.many in omega (arith, m, below)) in
      let was = seated.each place given.0 before.0 (let m = seated.many in omega (arith, m, below)) in
      let here = worked_at place before.0 worker before.1 there in
      let seat : view_in before.0.seat ≡ newcomer (giving_out place (first_view (spelling_of parts)))
      = subst (λ (w : Worker (Player D)). view_in w.seat ≡ newcomer (giving_out place (first_view (spelling_of parts)))) (get_or_from_slice_get old place before.0 before.0 before.1) was.view in
      let number : 1 + place ≡ place + 1 = omega arith in
      record {
        number = here.keeps.number ∙ (ap (λ (v : View). v.number) seat ∙ number);
        opened_as = here.keeps.opened ∙ ap (λ (v : View). v.opened) seat;
        own = here.own;
        going = here.going place (new_session place name) (commands_of command place script.lines) (going place name before.0 named before.1);
        through = here.through;
      }

  -- the value that the gate gave back fits the whole history
  pub has_ended : (value : GatedDb D) (log : List Entry) → IsWhole (λ (gated : GatedDb D) opened entries. Fits address gated.db opened entries) value (gathered first (views_of new)) log
      → HasEnded address epoch script value.db.parts (works_of new)
  has_ended value log whole =
      let kept : GatedDb D → Spelling → List Entry → Type 0 = λ gated o entries. Fits address gated.db o entries in
      let many_new : length new ≡ length script.names = worked.many ∙ (seated.many ∙ many) in
      let all = all_gathered first (views_of new) all_back in
      let views : length (views_of new) ≡ length new = length-map new (λ (w : Worker (Player D)). view_in w.seat) in
      let opened_is : (gathered first (views_of new)).opened ≡ spelling_of parts = gathered_opened first (views_of new) ∙ ap (λ (v : View). v.opened) view in
      let fits : Fits address value.db (spelling_of parts) log = subst (λ o. Fits address value.db o log) opened_is whole.fit in
      let given : (gathered first (views_of new)).given ≡ length script.names + 1 = all.0 ∙ ap (λ n. n + 1) (views ∙ many_new) in
      let known : AllByRecursion (λ e. (e.seat ≢ 0) × (e.seat < length script.names + 1)) log
      = subst (λ n. AllByRecursion (λ e. (e.seat ≢ 0) × (e.seat < n)) log) given
      (whole_known kept value (gathered first (views_of new)) log whole (gathered_number first (views_of new) ∙ ap (λ (v : View). v.number) view)
      (gathered_made first (views_of new) ∙ ap (λ (v : View). v.made) view)) in
      ended address epoch script value.db (spelling_of parts) log new states fits many_new over_at
      (λ place worker there.
      let below : place < length new = slice_get_within new place worker there in
      let seen = whole_each kept value first (views_of new) log whole place (view_in worker.seat) (subst (λ n. place < n) (sym views) below) in
      let is : get_or (views_of new) place (view_in worker.seat) ≡ view_in worker.seat
      = get_or-map (λ (w : Worker (Player D)). view_in w.seat) new place worker (view_in worker.seat) below
      ∙ ap (λ (w : Worker (Player D)). view_in w.seat) (get_or_from_slice_get new place worker worker there) in
      subst (λ (v : View). StandsIn log v.number v.seen v.made) is seen)
      known (record { parts = parts; spelled = refl; stands = stands })

-- ---- what the run shows

said_by : {D : Type 0} (ws : List (Worker (Player D))) → map (λ (w : Worker (Player D)). w.work.replies.items) ws ≡ map (λ (player : Player D). player.replies.items) (works_of ws)
said_by [] = refl
said_by (w ∷ ws) = ap (λ (more : List (List Reply)). w.work.replies.items ∷ more) (said_by ws)

module _ {D : Type 0} (address : List ℕ → List ℕ) (epoch : ℤ) (script : Script) (parts : Parts) (workers : List (Worker (Player D))) (sound : IsSoundScript script)
    (over : HasEnded address epoch script parts (works_of workers)) (replies : List (List Reply)) (order : List Moment) (branches : List BranchLine)
    (said : replies ≡ map (λ (w : Worker (Player D)). w.work.replies.items) workers) (in_order : order ≡ parts.moments) (lines : branches ≡ parts.branches) where
  abbrev pub run : RunText
  run = record { names = script.names; replies = replies; order = order; branches = branches }

  pub same_run : run ≡ shown_of address script parts.moments over.along.shared over.along.runners
  same_run = shown_is address script parts.moments parts (works_of workers) over.along replies order branches (said ∙ said_by workers) in_order lines

  pub run_plain : IsPlainRun command address epoch script run
  run_plain = subst (λ (r : RunText). IsPlainRun command address epoch script r) (sym same_run)
      (shown_by_machine command address epoch script parts.moments over.along.shared over.along.runners over.machine)

  pub run_truly : AllTellTruly address replies
  run_truly = subst (λ (r : RunText). AllTellTruly address r.replies) (sym same_run) (are_truly address script parts.moments parts (works_of workers) over.along)

  pub run_printable : IsPrintable run
  run_printable = subst IsPrintable (sym same_run) (are_printable address script parts.moments parts (works_of workers) over.along)

  pub run_shown : IsShown run
  run_shown = subst IsShown (sym same_run) (are_shown address script parts.moments parts (works_of workers) over.along sound)
