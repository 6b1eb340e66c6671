-- The workload's run along an order, from what its statements do.
use Rattle.std.proofs.Common.{◌≡◌, ◌≢◌, refl, sym, ◌∙◌, ap, subst, ℕ, ℤ, zero, suc, ◌+◌, ◌<◌, Bool, true, false, List, [], ◌∷◌, length, Option, Some, None, inl, inr, ◌⊎◌, arith, codes, if◌then◌else◌, slice_get, slice_set}
use Rattle.std.specs.List.{AllByRecursion, list_all}
use Rattle.std.specs.Option.{option_and_then, option_map}
use Rattle.std.proofs.lemmas.Bool.{cases_eq}
use Rattle.std.proofs.lemmas.List.{length-set}
use Rattle.std.proofs.lemmas.Option.{slice_get_within}
use Rattle.tuple_codec.proofs.Lists.{all_at, there_at}
use Rattle.script_text.specs.declared.scripts.Line.{Line}
use Rattle.script_text.specs.declared.scripts.Moment.{Moment}
use Rattle.script_text.specs.declared.scripts.Script.{Script}
use Rattle.schema_model.specs.PlainCommits.{commit_address}
use Rattle.plain_sessions.specs.Commands.{command}
use Rattle.plain_sessions.specs.Records.{BranchState, Shared, first_commit, state_of}
use Rattle.plain_sessions.specs.Runs.{Runner, Shortages, State, advance, commands_of, has_none_left, is_over, nothing_refused, opened, plain_run, put_runner, runners_of, step, step_of, steps_along}
use Rattle.plain_sessions.specs.Sessions.{new_session}
use Rattle.plain_sessions.specs.declared.commands.Command.{Command}
use Rattle.run_laws.proofs.ListLemmas.{get_put, get_put_other}
use Rattle.workload.specs.declared.steps.Pair.{Pair}
use Rattle.workload.specs.Workload.{all_lines, names, workload}
use Rattle.load_laws.specs.Batches.{AreBatches, Batch, after_all}
use Rattle.load_laws.specs.Laws.{IsLoadedState, LoadEnds, is_answered}
use Rattle.load_laws.specs.Loaded.{all_steps, last_rows, load_table, loaded}
use Rattle.load_laws.specs.Parts.{RowsAreChanged, RowsAreInserted, RowsMeet, ScriptIsBatches, ScriptsAreBatches, TablesAreMade}
use Rattle.load_laws.specs.Steps.{table_name}
use Rattle.load_laws.specs.Tables.{holding, rows_in, working}
use Rattle.load_laws.proofs.RunningMoments.{Goes, Moved, main_at, moves, still_goes}
use Rattle.load_laws.proofs.RunningRows.{AreBlocks, all_of_eight, no_block, nothing_whole, whole, whole_alike}
use Rattle.load_laws.proofs.RunningSessions.{Rests, batch_first, rest_stays, some_in, standing, todo_of}
use Rattle.tuple_codec.proofs.Options.{chosen_so, mapped_so}

-- ---- options

kept_if : {X : Type 0} (test : Bool) (x y : X) → (if test then Some x else None) ≡ Some y → (test ≡ true) × (x ≡ y)
kept_if true x y h = let is : x ≡ y = cc in (refl, is)
kept_if false x y h = absurd (cc)

all_from : {X : Type 0} (P : X → Type 0) (xs : List X) → ((i : ℕ) (x : X) → slice_get xs i ≡ Some x → P x) → AllByRecursion P xs
all_from P [] all = tt
all_from P (x ∷ xs) all = (all 0 x refl, all_from P xs (λ i y at. all (suc i) y at))

-- ---- the state between moments

record Going (batches : ℕ → List Batch) (state : State) : Type 0 where
  head : List ℕ
  found : Option (List Pair)
  blocks : ℕ → List Pair
  branches : state.shared.branches ≡ main_at (working head found)
  rows : rows_in found ≡ whole blocks 0 8
  are : AreBlocks blocks
  many : length state.runners ≡ 8
  goes : (place : ℕ) (runner : Runner) → slice_get state.runners place ≡ Some runner → Goes (batches place) head found (blocks place) place runner

-- the session that took its moment goes on, and the others stand as before
put_goes : (batches : ℕ → List Batch) (state : State) (place : ℕ) (runner : Runner) (next : Shared × Runner) → slice_get state.runners place ≡ Some runner → (g : Going batches state)
    → Moved (batches place) g.head g.found g.blocks place next → Going batches (put_runner place state.runners next)
put_goes batches state place runner next at g moved = record {
  head = g.head;
  found = moved.left;
  blocks = moved.left_blocks;
  branches = moved.branches;
  rows = moved.rows;
  are = moved.are;
  many = length-set state.runners place next.1 ∙ g.many;
  goes = λ j r there. by j r there (cases_eq j place);
} where
  by : (j : ℕ) (r : Runner) → slice_get (slice_set state.runners place next.1) j ≡ Some r → (j ≡ place) ⊎ (j ≡ place → ⊥) → Goes (batches j) g.head moved.left (moved.left_blocks j) j r
  by j r there (inl same) =
      let own : Some next.1 ≡ Some r = sym (get_put state.runners place runner next.1 at) ∙ ap (slice_get (slice_set state.runners place next.1)) (sym same) ∙ there in
      let is : next.1 ≡ r = cc in
      subst (λ n. Goes (batches n) g.head moved.left (moved.left_blocks n) n r) (sym same) (subst (Goes (batches place) g.head moved.left (moved.left_blocks place) place) is moved.goes)
  by j r there (inr apart) =
      subst (λ block. Goes (batches j) g.head moved.left block j r) (sym (moved.others j apart))
      (still_goes (batches j) g.head g.found moved.left (g.blocks j) j r moved.stays (g.goes j r (sym (get_put_other state.runners place j next.1 apart) ∙ there)))

module _ (made : TablesAreMade) (inserted : RowsAreInserted) (rewritten : RowsAreChanged) (meets : RowsMeet) (address : List ℕ → List ℕ) (epoch : ℤ)
    (batches : ℕ → List Batch) (keep : (place : ℕ) → place < 8 → AreBatches place (batches place)) where
  step_goes : (moment : Moment) (state next : State) → Going batches state → step address epoch nothing_refused moment state ≡ Some next → Going batches next
  step_goes moment state next g h =
      let place : ℕ = moment.session in
      let found = chosen_so (λ (runner : Runner). option_map (put_runner place state.runners)
      (step_of address epoch (nothing_refused place) moment.statement state.shared runner.session runner.replies runner.todo)) (slice_get state.runners place) next h in
      let runner : Runner = found.0 in
      let stepped = mapped_so (put_runner place state.runners) (step_of address epoch (nothing_refused place) moment.statement state.shared runner.session runner.replies runner.todo) next found.2 in
      let inside : place < 8 = subst (λ n. place < n) g.many (slice_get_within state.runners place runner found.1) in
      subst (Going batches) stepped.2
      (put_goes batches state place runner stepped.0 found.1 g
      (moves made inserted rewritten meets address epoch (batches place) place inside (keep place inside).begin g.head g.found g.blocks state.shared g.branches g.rows g.are
      moment.statement stepped.0 runner (g.goes place runner found.1) stepped.1))

  along : (order : List Moment) (state last : State) → Going batches state → steps_along address epoch nothing_refused order state ≡ Some last → Going batches last
  along [] state last g h = let is : state ≡ last = cc in subst (Going batches) is g
  along (moment ∷ order) state last g h =
      let first = chosen_so (steps_along address epoch nothing_refused order) (step address epoch nothing_refused moment state) last h in
      along order first.0 last (step_goes moment state first.0 g first.1) first.2

-- ---- the beginning

as_many : (reads : List ℕ → Command) (answers : Shortages) (lines : List Line) (place : ℕ) (some : List (List ℕ)) → length (runners_of reads answers lines place some) ≡ length some
as_many reads answers lines place [] = refl
as_many reads answers lines place (name ∷ some) = ap suc (as_many reads answers lines (place + 1) some)

first_runner : (reads : List ℕ → Command) (answers : Shortages) (lines : List Line) (place i : ℕ) (some : List (List ℕ)) (runner : Runner) → slice_get (runners_of reads answers lines place some) i ≡ Some runner
    → (name : List ℕ) × (advance (answers (place + i)) (commands_of reads (place + i) lines) [] (new_session (place + i) name) ≡ runner)
first_runner reads answers lines place i [] runner h = absurd (cc)
first_runner reads answers lines place zero (name ∷ some) runner h =
    let zeroth : place + 0 ≡ place = omega arith in
    let is : advance (answers place) (commands_of reads place lines) [] (new_session place name) ≡ runner = cc in
    (name, ap (λ n. advance (answers n) (commands_of reads n lines) [] (new_session n name)) zeroth ∙ is)
first_runner reads answers lines place (suc i) (name ∷ some) runner h =
    let e : place + suc i ≡ place + 1 + i = omega arith in
    let more = first_runner reads answers lines (place + 1) i some runner h in
    (more.0, ap (λ n. advance (answers n) (commands_of reads n lines) [] (new_session n more.0)) e ∙ more.1)

eight : length names ≡ 8
eight = refl

module _ (address : List ℕ → List ℕ) (epoch : ℤ) (seed : ℕ) (batches : ℕ → List Batch) (is : ScriptIsBatches seed batches) where
  first_rests : (place : ℕ) (runner : Runner) → place < 8 → slice_get (runners_of command nothing_refused (all_lines seed) 0 names) place ≡ Some runner → Rests (batches place) None [] place runner
  first_rests place runner inside at =
      let zeroth : 0 + place ≡ place = omega arith in
      let first = first_runner command nothing_refused (all_lines seed) 0 place names runner at in
      let stands : runner ≡ record { session = standing first.0 place 1 None; replies = []; todo = todo_of (batches place) }
      = sym first.1
      ∙ ap (λ n. advance (nothing_refused n) (commands_of command n (all_lines seed)) [] (new_session n first.0)) zeroth
      ∙ ap (λ todo. advance (nothing_refused place) todo [] (new_session place first.0)) (is.asks place inside)
      ∙ rest_stays place first.0 place 1 [] (batches place) in
      let keeps = is.keep place inside in
      record {
        name = first.0;
        number = place;
        statement = 1;
        replies = [];
        left = batches place;
        is = stands;
        answered = refl;
        fits = record { rising = keeps.rising; small = keeps.small; own = keeps.own; few = keeps.few };
        later = record { small = keeps.small_changes; own = keeps.own_changes; full = keeps.full };
        leads = refl;
        ready = inl refl;
      }

  first_goes : Going batches (opened command address epoch nothing_refused (workload seed))
  first_goes =
      let many : length (runners_of command nothing_refused (all_lines seed) 0 names) ≡ 8 = as_many command nothing_refused (all_lines seed) 0 names ∙ eight in
      record {
        head = commit_address address (first_commit epoch);
        found = None;
        blocks = λ p. [];
        branches = refl;
        rows = sym (nothing_whole 0 8);
        are = no_block;
        many = many;
        goes = λ place runner at. inl (first_rests place runner (subst (λ n. place < n) many (slice_get_within (runners_of command nothing_refused (all_lines seed) 0 names) place runner at)) at);
      }

-- ---- the end

-- a session without statements left
record HasEnded (batches : List Batch) (found : Option (List Pair)) (block : List Pair) : Type 0 where
  leads : block ≡ after_all batches []
  ready : ([] ≡ batches) ⊎ (found ≢ None)

rests_over : (batches : List Batch) (found : Option (List Pair)) (block : List Pair) (left : List Batch) → has_none_left (todo_of left) ≡ true
    → after_all left block ≡ after_all batches [] → (left ≡ batches) ⊎ (found ≢ None) → HasEnded batches found block
rests_over batches found block [] over leads ready = record { leads = leads; ready = ready }
rests_over batches found block (batch ∷ left) over leads ready = let never : true ≡ false = sym over ∙ ap has_none_left (batch_first batch left) in absurd (cc)

goes_over : (batches : List Batch) (head : List ℕ) (found : Option (List Pair)) (block : List Pair) (place : ℕ) (runner : Runner) → is_over runner ≡ true → Goes batches head found block place runner → HasEnded batches found block
goes_over batches head found block place runner over (inl r) = rests_over batches found block r.left (sym (ap is_over r.is) ∙ over) r.leads r.ready
goes_over batches head found block place runner over (inr w) = let never : true ≡ false = sym over ∙ ap is_over w.is in absurd (cc)

goes_answered : (batches : List Batch) (head : List ℕ) (found : Option (List Pair)) (block : List Pair) (place : ℕ) (runner : Runner) → Goes batches head found block place runner → list_all is_answered runner.replies ≡ true
goes_answered batches head found block place runner (inl r) = ap (λ (one : Runner). list_all is_answered one.replies) r.is ∙ r.answered
goes_answered batches head found block place runner (inr w) = ap (λ (one : Runner). list_all is_answered one.replies) w.is ∙ w.answered

loaded_is : (seed : ℕ) → loaded seed ≡ load_table (last_rows (all_steps seed))
unfolding loaded
loaded_is seed = refl

module _ (seed : ℕ) (batches : ℕ → List Batch) (is : ScriptIsBatches seed batches) (state : State) (g : Going batches state) (over : list_all is_over state.runners ≡ true) where
  over_at : (place : ℕ) → place < 8 → HasEnded (batches place) g.found (g.blocks place)
  over_at place inside =
      let one = there_at state.runners place (subst (λ n. place < n) (sym g.many) inside) in
      goes_over (batches place) g.head g.found (g.blocks place) place one.0 (all_at is_over state.runners place one.0 one.1 over) (g.goes place one.0 one.1)

  there : g.found ≢ None
  there = by (over_at 0 (omega arith)).ready where
    by : ([] ≡ batches 0) ⊎ (g.found ≢ None) → g.found ≢ None
    by (inl none) = absurd (is.some (sym none))
    by (inr found) = found

  rows_are : rows_in g.found ≡ last_rows (all_steps seed)
  rows_are =
      g.rows ∙ whole_alike g.blocks (λ place. after_all (batches place) []) 0 8 (λ place inside. (over_at place (omega arith)).leads)
      ∙ all_of_eight (λ place. after_all (batches place) []) ∙ is.leave

  ends : IsLoadedState seed state
  ends = record {
    answered = all_from (λ (runner : Runner). list_all is_answered runner.replies ≡ true) state.runners (λ i runner at. goes_answered (batches i) g.head g.found (g.blocks i) i runner (g.goes i runner at));
    table =
        ap (λ branches. option_map (λ (branch : BranchState). branch.working) (state_of branches (codes "main"))) g.branches
        ∙ ap (λ found. Some (holding found)) (some_in g.found there ∙ ap (λ rows. Some rows) rows_are)
        ∙ ap (λ table. Some (record { name = table_name; table = table } ∷ [])) (sym (loaded_is seed));
  }

-- ---- the law

run_parts : (reads : List ℕ → Command) (address : List ℕ → List ℕ) (script : Script) (order : List Moment) (answers : Shortages) (epoch : ℤ) (state : State) → plain_run reads address script order answers epoch ≡ Some state
    → (steps_along address epoch answers order (opened reads address epoch answers script) ≡ Some state) × (list_all is_over state.runners ≡ true)
unfolding plain_run
run_parts reads address script order answers epoch state h =
    let start : State = opened reads address epoch answers script in
    let found = chosen_so (λ (last : State). if list_all is_over last.runners then Some last else None) (steps_along address epoch answers order start) state h in
    let kept = kept_if (list_all is_over found.0.runners) found.0 state found.2 in (
      subst (λ (last : State). steps_along address epoch answers order start ≡ Some last) kept.1 found.1,
      subst (λ (last : State). list_all is_over last.runners ≡ true) kept.1 kept.0,
    )

pub load_ends : ScriptsAreBatches → TablesAreMade → RowsAreInserted → RowsAreChanged → RowsMeet → LoadEnds
load_ends scripts made inserted rewritten meets address epoch seed order state runs =
    let has = scripts seed in
    let parts = run_parts command address (workload seed) order nothing_refused epoch state runs in
    ends seed has.batches has.are state
    (along made inserted rewritten meets address epoch has.batches has.are.keep order (opened command address epoch nothing_refused (workload seed)) state (first_goes address epoch seed has.batches has.are) parts.0)
    parts.1
