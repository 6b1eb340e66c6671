-- A given order followed item by item.
use Rattle.std.proofs.Common.{◌≡◌, ◌≢◌, refl, sym, ◌∙◌, ap, subst, ℕ, ℤ, zero, suc, ◌+◌, ◌-◌, ◌<◌, ◌≤◌, Bool, true, false, not, ◌&&◌, ◌==◌, List, [], ◌∷◌, ◌++◌, length, take, Option, Some, None, slice_get, slice_set, arith, append_assoc, if◌then◌else◌}
use Rattle.std.specs.Option.{option_map, option_map_or, option_and_then}
use Rattle.std.specs.List.{list_all}
use Rattle.std.specs.Prelude.{slice_index_or}
use Rattle.std.proofs.lemmas.List.{append-nil, length_push}
use Rattle.std.proofs.lemmas.Option.{get_or_from_slice_get, slice_get_past}
use Rattle.std.proofs.lemmas.Bool.Decides.{nat_tests}
use Rattle.script_text.specs.Output.{Shortage, AtOnce, AfterStart, Clashes, shortage, shortages_in}
use Rattle.script_text.specs.declared.replies.Reply.{Reply}
use Rattle.script_text.specs.declared.scripts.Moment.{Moment}
use Rattle.script_text.specs.declared.scripts.Script.{Script}
use Rattle.plain_sessions.specs.Output.{IsPlainRun, shown}
use Rattle.plain_sessions.specs.Records.{Shared, opening}
use Rattle.plain_sessions.specs.Sessions.{Place, Said, Session, Transaction, is_before_statement, new_session}
use Rattle.plain_sessions.specs.declared.commands.Command.{Command}
use Rattle.plain_sessions.specs.declared.commands.Command.TheVariants.{Data}
use Rattle.plain_sessions.specs.declared.commands.Work.{Work}
use Rattle.plain_sessions.specs.Moments.{After, Past, Still, alone, moment_at, past}
use Rattle.plain_sessions.specs.Runs.{Runner, Shortages, State, advance, awaiting, commands_of, has_none_left, is_over, needs_moment, opened, plain_run, put_runner, runners_of, step, step_of, steps_along, went_on}
use Rattle.run_laws.specs.Replaying.{AgreesWith, AgreesWithAll, Along, AreWaiting, CantGoOn, IsStopped, WaitsAt, all_replies, dropped, first_runners, is_at, is_next, pending_by, reply_of, seen, seen_all, seen_at}
use Rattle.run_laws.specs.Laws.{shown_of}
use Rattle.run_laws.proofs.ListLemmas.{get_put, get_put_other, if_false, put_same}
use Rattle.run_laws.proofs.SeenLemmas.{seen_found, seen_put}
use Rattle.run_laws.proofs.SessionLemmas.{Comes, agrees_unstarted, decision_back, decision_waits, dropped_back, dropped_stays, local_stays, moment_comes, moment_needed, moment_waits, start_back, start_comes, start_is_waited, start_needed}
use Rattle.run_laws.proofs.Steps.{behind_waits, step_here}

-- ---- who agrees with more replies agrees with fewer

agrees_put : (answers : Shortages) (runners : List Runner) (place : ℕ) (runner next : Runner) → slice_get runners place ≡ Some runner
    → (AgreesWith (answers place) next → AgreesWith (answers place) runner) → AgreesWithAll answers (slice_set runners place next) → AgreesWithAll answers runners
agrees_put answers runners place runner next h back agrees at other there =
    elim (at == place) as (λ test. (at == place) ≡ test → AgreesWith (answers at) other) [
      | true ↦ λ test.
          let same : place ≡ at = grind (arith, nat_tests) in
          let it : runner ≡ other = cc (ap (slice_get runners) same) in
          subst (λ (r : Runner). AgreesWith (answers at) r) it
          (subst (λ n. AgreesWith (answers n) runner) same (back (agrees place next (get_put runners place runner next h))))
      | false ↦ λ test.
          let apart : at ≢ place = grind (arith, nat_tests) in
          agrees at other (get_put_other runners place at next apart ∙ there)
    ] refl

-- ---- one session goes on

seen_here : (answers : Shortages) (runners : List Runner) (place : ℕ) (runner : Runner) → slice_get runners place ≡ Some runner → slice_get (seen_all answers 0 runners) place ≡ Some (seen (answers place) runner)
seen_here answers runners place runner h =
    let zeroth : 0 + place ≡ place = omega arith in
    seen_found answers 0 place runners runner h ∙ ap (λ n. Some (seen (answers n) runner)) zeroth

seen_put_here : (answers : Shortages) (runners : List Runner) (place : ℕ) (next : Runner) → slice_set (seen_all answers 0 runners) place (seen (answers place) next) ≡ seen_all answers 0 (slice_set runners place next)
seen_put_here answers runners place next =
    let zeroth : place ≡ 0 + place = omega arith in
    ap (λ n. slice_set (seen_all answers 0 runners) place (seen (answers n) next)) zeroth ∙ seen_put answers 0 place runners next

-- ---- sessions that wait

replies_at : (runners : List Runner) (place : ℕ) (runner : Runner) → slice_get runners place ≡ Some runner → slice_get (all_replies runners) place ≡ Some runner.replies
replies_at [] place runner h = absurd (cc)
replies_at (first ∷ runners) zero runner h = let same : first ≡ runner = cc in ap (λ (r : Runner). Some r.replies) same
replies_at (first ∷ runners) (suc place) runner h = replies_at runners place runner h

-- a statement to come is in no reply
pub unanswered : (runners : List Runner) (place : ℕ) (runner : Runner) → slice_get runners place ≡ Some runner → runner.session.statement ≡ length runner.replies + 1
    → shortages_in (all_replies runners) place runner.session.statement ≡ None
unanswered runners place runner h number =
    let e : length runner.replies + 1 - 1 ≡ length runner.replies = omega arith in
    ap (λ n. option_and_then shortage (slice_get (slice_index_or (all_replies runners) place []) (n - 1))) number
    ∙ ap (λ n. option_and_then shortage (slice_get (slice_index_or (all_replies runners) place []) n)) e
    ∙ ap (λ (rs : List Reply). option_and_then shortage (slice_get rs (length runner.replies))) (get_or_from_slice_get (all_replies runners) place runner.replies [] (replies_at runners place runner h))
    ∙ ap (option_and_then shortage) (slice_get_past runner.replies (length runner.replies) (omega arith))

pub agrees_self : (runners : List Runner) → AreWaiting runners → AgreesWithAll (shortages_in (all_replies runners)) runners
agrees_self runners waiting place runner h = record {
  told = λ at below. let e : at + 1 - 1 ≡ at = omega arith in
      ap (λ n. option_and_then shortage (slice_get (slice_index_or (all_replies runners) place []) n)) e
      ∙ ap (λ (rs : List Reply). option_and_then shortage (slice_get rs at)) (get_or_from_slice_get (all_replies runners) place runner.replies [] (replies_at runners place runner h));
  started = λ between at_once. let apart : ◌≡◌ {A = Option Shortage} None (Some AtOnce) = sym (unanswered runners place runner h (waiting place runner h).numbered) ∙ at_once in absurd (cc);
}

pub still_seen : (answers : ℕ → Option Shortage) (session : Session) (replies : List Reply) (before : Bool) (todo : List Command) → WaitsAt session before todo → answers session.statement ≡ None
    → seen_at answers session replies before todo ≡ record { session = session; replies = replies; todo = todo }
still_seen answers session replies true [] waits none = refl
still_seen answers session replies false [] waits none = absurd (cc)
still_seen answers session replies true (command ∷ todo) waits none =
    ap (λ (answer : Option Said). option_map_or (λ (s : Said). advance answers todo (replies ++ s.1 ∷ []) s.0)
    answer (record { session = session; replies = replies; todo = command ∷ todo })) (ap (λ answer. alone answer session command) none ∙ waits)
still_seen answers session replies false (command ∷ todo) waits none = ap (pending_by answers session replies command todo) none

all_still : (answers : Shortages) (place : ℕ) (runners : List Runner) → AreWaiting runners → ((i : ℕ) (runner : Runner) → slice_get runners i ≡ Some runner → answers (place + i) runner.session.statement ≡ None)
    → seen_all answers place runners ≡ runners
all_still answers place [] waiting none = refl
all_still answers place (runner ∷ runners) waiting none =
    let here : place ≡ place + 0 = omega arith in
    ap (λ r. r ∷ seen_all answers (place + 1) runners)
    (still_seen (answers place) runner.session runner.replies (is_before_statement runner.session.place) runner.todo (waiting 0 runner refl).waits (ap (λ n. answers n runner.session.statement) here ∙ none 0 runner refl))
    ∙ ap (λ more. runner ∷ more) (all_still answers (place + 1) runners (λ i other h. waiting (suc i) other h)
    (λ i other h. let e : place + 1 + i ≡ place + suc i = omega arith in ap (λ n. answers n other.session.statement) e ∙ none (suc i) other h))

-- an item whose session doesn't stand there
step_of_other : (address : List ℕ → List ℕ) (epoch : ℤ) (answers : ℕ → Option Shortage) (number : ℕ) (shared : Shared) (session : Session) (replies : List Reply) (todo : List Command)
    → (not (has_none_left todo) && session.statement == number) ≡ false → step_of address epoch answers number shared session replies todo ≡ None
step_of_other address epoch answers number shared session replies [] other = refl
step_of_other address epoch answers number shared session replies (command ∷ todo) other =
    if_false (session.statement == number && needs_moment (answers session.statement) session command)
    (option_map (λ (made : Shared × After). (made.0, went_on answers session command todo replies made.1)) (moment_at address epoch (answers session.statement) shared session command)) None
    (ap (λ (here : Bool). here && needs_moment (answers session.statement) session command) other)

pub step_refused : (address : List ℕ → List ℕ) (epoch : ℤ) (answers : Shortages) (shared : Shared) (runners : List Runner) (moment : Moment)
    → is_next runners moment ≡ false → step address epoch answers moment (record { shared = shared; runners = runners }) ≡ None
step_refused address epoch answers shared runners moment other =
    elim (slice_get runners moment.session) as (λ found. option_map_or (is_at moment) found false ≡ false
    → option_and_then (λ (runner : Runner). option_map (put_runner moment.session runners) (step_of address epoch (answers moment.session) moment.statement shared runner.session runner.replies runner.todo)) found ≡ None) [
      | None ↦ λ absent. refl
      | Some runner ↦ λ there. ap (option_map (put_runner moment.session runners))
          (step_of_other address epoch (answers moment.session) moment.statement shared runner.session runner.replies runner.todo there)
    ] other

module _ (reads : List ℕ → Command) (address : List ℕ → List ℕ) (epoch : ℤ) (script : Script) where
  -- with the moments that the machine steps along
  keeps : (order moments : List Moment) (shared left : Shared) (runners : List Runner) (place : ℕ) (runner next : Runner) → slice_get runners place ≡ Some runner
      → ((answers : Shortages) → AgreesWith (answers place) next → AgreesWith (answers place) runner)
      → ((answers : Shortages) (more : List Moment) → AgreesWith (answers place) next → steps_along address epoch answers (moments ++ more) (record { shared = shared; runners = seen_all answers 0 runners })
      ≡ steps_along address epoch answers more (record { shared = left; runners = slice_set (seen_all answers 0 runners) place (seen (answers place) next) }))
      → Along reads address epoch script order shared runners → Along reads address epoch script (order ++ moments) left (slice_set runners place next)
  keeps order moments shared left runners place runner next h back goes along answers more agrees =
      ap (λ items. steps_along address epoch answers items (opened reads address epoch answers script)) (append_assoc order moments more)
      ∙ along answers (moments ++ more) (agrees_put answers runners place runner next h (back answers) agrees)
      ∙ goes answers more (agrees place next (get_put runners place runner next h))
      ∙ ap (λ all. steps_along address epoch answers more (record { shared = left; runners = all })) (seen_put_here answers runners place next)

  -- without a moment, where the machine's view stays
  keeps_still : (order : List Moment) (shared : Shared) (runners : List Runner) (place : ℕ) (runner next : Runner) → slice_get runners place ≡ Some runner
      → ((answers : Shortages) → AgreesWith (answers place) next → AgreesWith (answers place) runner)
      → ((answers : Shortages) → AgreesWith (answers place) next → seen (answers place) runner ≡ seen (answers place) next)
      → Along reads address epoch script order shared runners → Along reads address epoch script order shared (slice_set runners place next)
  keeps_still order shared runners place runner next h back stays along =
      subst (λ items. Along reads address epoch script items shared (slice_set runners place next)) (append-nil order)
      (keeps order [] shared shared runners place runner next h back
      (λ answers more agrees. ap (λ all. steps_along address epoch answers more (record { shared = shared; runners = all }))
      (sym (put_same (seen_all answers 0 runners) place (seen (answers place) next) (seen_here answers runners place runner h ∙ ap (λ (r : Runner). Some r) (stays answers agrees)))))
      along)

  -- with one moment of a session that waits for it
  keeps_moment : (order : List Moment) (shared left : Shared) (runners : List Runner) (place : ℕ) (session : Session) (replies : List Reply) (command : Command) (todo : List Command) (next : Runner)
      → slice_get runners place ≡ Some (record { session = session; replies = replies; todo = command ∷ todo })
      → ((answers : Shortages) → AgreesWith (answers place) next → AgreesWith (answers place) (record { session = session; replies = replies; todo = command ∷ todo }))
      → ((answers : Shortages) → AgreesWith (answers place) next → seen (answers place) (record { session = session; replies = replies; todo = command ∷ todo }) ≡ record { session = session; replies = replies; todo = command ∷ todo })
      → ((answers : Shortages) → AgreesWith (answers place) next → alone (answers place session.statement) session command ≡ None)
      → ((answers : Shortages) → AgreesWith (answers place) next → Comes address epoch (answers place) shared session replies command todo left next)
      → Along reads address epoch script order shared runners
      → Along reads address epoch script (order ++ record { session = place; statement = session.statement } ∷ []) left (slice_set runners place next)
  keeps_moment order shared left runners place session replies command todo next h back waits needs goes =
      keeps order (record { session = place; statement = session.statement } ∷ []) shared left runners place (record { session = session; replies = replies; todo = command ∷ todo }) next h back
      (λ answers more agrees. let went = goes answers agrees in
      ap (option_and_then (steps_along address epoch answers more))
      (step_here address epoch answers (record { session = place; statement = session.statement }) shared (seen_all answers 0 runners) session replies command todo (left, went.0)
      (seen_here answers runners place (record { session = session; replies = replies; todo = command ∷ todo }) h ∙ ap (λ (r : Runner). Some r) (waits answers agrees)) refl (needs answers agrees) went.1
      ∙ ap (λ (r : Runner). Some (record { shared = left; runners = slice_set (seen_all answers 0 runners) place r })) went.2))

  -- ---- the four ways on

  pub replay_local : (order : List Moment) (shared : Shared) (runners : List Runner) (place : ℕ) (session : Session) (replies : List Reply) (command : Command) (todo : List Command) (said : Said)
      → slice_get runners place ≡ Some (record { session = session; replies = replies; todo = command ∷ todo }) → session.statement ≡ length replies + 1 → is_before_statement session.place ≡ true
      → alone (shortage said.1) session command ≡ Some said
      → Along reads address epoch script order shared runners
      → Along reads address epoch script order shared (slice_set runners place (record { session = said.0; replies = replies ++ said.1 ∷ []; todo = todo }))
  replay_local order shared runners place session replies command todo said h number before is =
      keeps_still order shared runners place (record { session = session; replies = replies; todo = command ∷ todo }) (record { session = said.0; replies = replies ++ said.1 ∷ []; todo = todo }) h
      (λ answers agrees. agrees_unstarted (answers place) session said.0 replies said.1 command todo before agrees)
      (λ answers agrees. local_stays (answers place) session replies command todo said number before is agrees)

  pub replay_moment : (order : List Moment) (shared left : Shared) (runners : List Runner) (place : ℕ) (session : Session) (replies : List Reply) (command : Command) (todo : List Command) (said : Said)
      → slice_get runners place ≡ Some (record { session = session; replies = replies; todo = command ∷ todo }) → session.statement ≡ length replies + 1 → is_before_statement session.place ≡ true
      → alone (shortage said.1) session command ≡ None → moment_at address epoch (shortage said.1) shared session command ≡ Some (left, Past said)
      → Along reads address epoch script order shared runners
      → Along reads address epoch script (order ++ record { session = place; statement = session.statement } ∷ []) left (slice_set runners place (record { session = said.0; replies = replies ++ said.1 ∷ []; todo = todo }))
  replay_moment order shared left runners place session replies command todo said h number before waits is =
      keeps_moment order shared left runners place session replies command todo (record { session = said.0; replies = replies ++ said.1 ∷ []; todo = todo }) h
      (λ answers agrees. agrees_unstarted (answers place) session said.0 replies said.1 command todo before agrees)
      (λ answers agrees. moment_waits (answers place) session replies command todo said number before waits agrees)
      (λ answers agrees. moment_needed (answers place) session replies command todo said number waits agrees)
      (λ answers agrees. moment_comes (answers place) session replies command todo address epoch shared left said number is agrees)

  -- the decision behind a start
  pub replay_decision : (order : List Moment) (shared left : Shared) (runners : List Runner) (place : ℕ) (session : Session) (replies : List Reply) (command : Command) (todo : List Command) (said : Said)
      → slice_get runners place ≡ Some (record { session = session; replies = replies; todo = command ∷ todo }) → session.statement ≡ length replies + 1 → is_before_statement session.place ≡ false
      → shortage said.1 ≡ None → moment_at address epoch None shared session command ≡ Some (left, Past said)
      → Along reads address epoch script order shared runners
      → Along reads address epoch script (order ++ record { session = place; statement = session.statement } ∷ []) left (slice_set runners place (record { session = said.0; replies = replies ++ said.1 ∷ []; todo = todo }))
  replay_decision order shared left runners place session replies command todo said h number between well is =
      keeps_moment order shared left runners place session replies command todo (record { session = said.0; replies = replies ++ said.1 ∷ []; todo = todo }) h
      (λ answers agrees. decision_back (answers place) session replies command todo said number well agrees)
      (λ answers agrees. decision_waits (answers place) session replies command todo said number between well agrees)
      (λ answers agrees. behind_waits (answers place session.statement) session command between)
      (λ answers agrees. moment_comes (answers place) session replies command todo address epoch shared left said number
      (subst (λ answer. moment_at address epoch answer shared session command ≡ Some (left, Past said)) (sym well) is) agrees)

  -- the start of a database statement whose decision is to come
  pub replay_start : (order : List Moment) (shared : Shared) (runners : List Runner) (at : ℕ) (session : Session) (replies : List Reply) (work : Work) (todo : List Command) (transaction : Transaction) (place : Place)
      → slice_get runners at ≡ Some (record { session = session; replies = replies; todo = Data work ∷ todo }) → is_before_statement session.place ≡ true → session.transaction ≡ None
      → moment_at address epoch None shared session (Data work) ≡ Some (shared, Still transaction place) → is_before_statement place ≡ false
      → Along reads address epoch script order shared runners
      → Along reads address epoch script (order ++ record { session = at; statement = session.statement } ∷ []) shared (slice_set runners at (record { session = awaiting session transaction place; replies = replies; todo = Data work ∷ todo }))
  replay_start order shared runners at session replies work todo transaction place h before none is between =
      let next : Runner = record { session = awaiting session transaction place; replies = replies; todo = Data work ∷ todo } in
      keeps_moment order shared shared runners at session replies (Data work) todo next h
      (λ answers agrees. start_back (answers at) session replies work todo transaction place before agrees)
      (λ answers agrees. start_is_waited (answers at) session replies work todo transaction place before none between agrees)
      (λ answers agrees. start_needed (answers at) session replies work todo transaction place none between agrees)
      (λ answers agrees. start_comes (answers at) session replies work todo transaction place address epoch shared before none is between agrees)

  -- an answer 2 or 3 in place of the decision
  pub replay_dropped : (order : List Moment) (shared : Shared) (runners : List Runner) (place : ℕ) (session : Session) (replies : List Reply) (command : Command) (todo : List Command) (short : Shortage)
      → slice_get runners place ≡ Some (record { session = session; replies = replies; todo = command ∷ todo }) → session.statement ≡ length replies + 1 → is_before_statement session.place ≡ false
      → short ≢ AtOnce
      → Along reads address epoch script order shared runners
      → Along reads address epoch script order shared (slice_set runners place (record { session = dropped session; replies = replies ++ reply_of short ∷ []; todo = todo }))
  replay_dropped order shared runners place session replies command todo short h number between other =
      keeps_still order shared runners place (record { session = session; replies = replies; todo = command ∷ todo }) (record { session = dropped session; replies = replies ++ reply_of short ∷ []; todo = todo }) h
      (λ answers agrees. dropped_back (answers place) session replies command todo short number other agrees)
      (λ answers agrees. dropped_stays (answers place) session replies command todo short number between agrees)

  -- ---- the beginning

  pub replay_first : Along reads address epoch script [] (opening address epoch script.names) (first_runners reads script 0 script.names)
  replay_first answers more agrees =
      ap (λ all. steps_along address epoch answers more (record { shared = opening address epoch script.names; runners = all })) (sym (seen_first answers 0 script.names))
    where
      seen_first : (answers : Shortages) (place : ℕ) (names : List (List ℕ)) → seen_all answers place (first_runners reads script place names) ≡ runners_of reads answers script.lines place names
      seen_first answers place [] = refl
      seen_first answers place (name ∷ names) =
          ap (λ more. advance (answers place) (commands_of reads place script.lines) [] (new_session place name) ∷ more) (seen_first answers (place + 1) names)

  -- ---- the machine stands there itself

  pub replay_state : (order : List Moment) (shared : Shared) (runners : List Runner) → AreWaiting runners → Along reads address epoch script order shared runners
      → steps_along address epoch (shortages_in (all_replies runners)) order (opened reads address epoch (shortages_in (all_replies runners)) script) ≡ Some (record { shared = shared; runners = runners })
  replay_state order shared runners waiting along =
      let answers : Shortages = shortages_in (all_replies runners) in
      ap (λ items. steps_along address epoch answers items (opened reads address epoch answers script)) (sym (append-nil order))
      ∙ along answers [] (agrees_self runners waiting)
      ∙ ap (λ all. Some (record { shared = shared; runners = all })) (all_still answers 0 runners waiting (λ place runner h. let zeroth : 0 + place ≡ place = omega arith in
      ap (λ n. answers n runner.session.statement) zeroth ∙ unanswered runners place runner h (waiting place runner h).numbered))

  pub machine_by : (order : List Moment) (shared : Shared) (runners : List Runner) → list_all is_over runners ≡ true
      → steps_along address epoch (shortages_in (all_replies runners)) order (opened reads address epoch (shortages_in (all_replies runners)) script) ≡ Some (record { shared = shared; runners = runners })
      → plain_run reads address script order (shortages_in (all_replies runners)) epoch ≡ Some (record { shared = shared; runners = runners })
  unfolding plain_run
  machine_by order shared runners over stepped =
      ap (option_and_then (λ (last : State). if list_all is_over last.runners then Some last else None)) stepped
      ∙ ap (λ test. if test then Some (record { shared = shared; runners = runners }) else None) over

  -- the machine's run shows itself
  pub shown_by_machine : (order : List Moment) (shared : Shared) (runners : List Runner)
      → plain_run reads address script order (shortages_in (all_replies runners)) epoch ≡ Some (record { shared = shared; runners = runners })
      → IsPlainRun reads address epoch script (shown_of address script order shared runners)
  shown_by_machine order shared runners ran = ap (option_map (shown address script order)) ran

  pub replay_end : (order : List Moment) (shared : Shared) (runners : List Runner) → AreWaiting runners → list_all is_over runners ≡ true → Along reads address epoch script order shared runners
      → IsPlainRun reads address epoch script (shown_of address script order shared runners)
  replay_end order shared runners waiting over along = shown_by_machine order shared runners (machine_by order shared runners over (replay_state order shared runners waiting along))

  pub replay_stopped : (order : List Moment) (count : ℕ) (shared : Shared) (runners : List Runner) → AreWaiting runners → Along reads address epoch script (take count order) shared runners → count ≤ length order
      → CantGoOn address epoch (shortages_in (all_replies runners)) (record { shared = shared; runners = runners }) (slice_get order count)
      → (stop : IsStopped reads address epoch script order count (shortages_in (all_replies runners))) × (all_replies stop.state.runners ≡ all_replies runners)
  replay_stopped order count shared runners waiting along within stopped = (
    record {
      state = record { shared = shared; runners = runners };
      within = within;
      followed = replay_state (take count order) shared runners waiting along;
      stopped = stopped;
    },
    refl,
  )
