-- No session answers more statements than it has, so the number of each is told by its line.
use Rattle.std.proofs.Common.{◌≡◌, refl, sym, ap, subst, ◌∙◌, ℕ, ℤ, zero, suc, ◌+◌, ◌<◌, ◌≤◌, ◌==◌, ◌&&◌, ◌^◌, Bool, true, false, nat_lt, List, [], ◌∷◌, ◌++◌, length, map, Option, Some, None, slice_get, slice_set, IfSome, option_map, option_and_then, arith, if◌then◌else◌}
use Rattle.std.specs.List.{AllByRecursion, list_all}
use Rattle.std.specs.Option.{option_map_or}
use Rattle.std.proofs.lemmas.Bool.{and_from}
use Rattle.std.proofs.lemmas.Bool.Decides.{nat_tests}
use Rattle.std.proofs.lemmas.List.{length_push}
use Rattle.tuple_codec.proofs.Lists.{have_at}
use Rattle.script_text.specs.Output.{Shortage, shortages_in}
use Rattle.script_text.specs.Shown.{IsShown}
use Rattle.script_text.specs.declared.outputs.RunText.{RunText}
use Rattle.script_text.specs.declared.replies.Reply.{Reply}
use Rattle.script_text.specs.declared.scripts.Line.{Line}
use Rattle.script_text.specs.declared.scripts.Moment.{Moment}
use Rattle.script_text.specs.declared.scripts.Script.{Script}
use Rattle.plain_sessions.specs.Commands.{command}
use Rattle.plain_sessions.specs.Moments.{After, Past, Still, alone, moment_at}
use Rattle.plain_sessions.specs.Records.{Shared}
use Rattle.plain_sessions.specs.Runs.{Runner, Shortages, State, advance, commands_of, is_over, needs_moment, opened, plain_run, put_runner, runners_of, step, step_of, steps_along, went_on}
use Rattle.plain_sessions.specs.Sessions.{Session, new_session}
use Rattle.plain_sessions.specs.declared.commands.Command.{Command}
use Rattle.run_laws.proofs.OrderLemmas.{count_fits}
use Rattle.run_laws.proofs.RunLemmas.{commands_counted}
use Rattle.workload.proofs.WorkloadLemmas.{line_count}
use Rattle.workload.specs.Workload.{all_lines, workload}
use Rattle.program_run.specs.Loading.{IsLoaded}
use Rattle.program_run.specs.Loads.{IsShownLoad}

-- how many statements a session has answered or has before it
abbrev statements_of : Runner → ℕ
statements_of runner = length runner.replies + length runner.todo

advanced : (answers : ℕ → Option Shortage) (todo : List Command) (replies : List Reply) (session : Session) → statements_of (advance answers todo replies session) ≡ length replies + length todo
advanced answers [] replies session = refl
advanced answers (asked ∷ todo) replies session =
    elim (alone (answers session.statement) session asked) as (λ found. statements_of (option_map_or (λ said. advance answers todo (replies ++ said.1 ∷ []) said.0) found
    (record { session = session; replies = replies; todo = asked ∷ todo })) ≡ length replies + length (asked ∷ todo)) [
      | None ↦ refl
      | Some said ↦ let more = advanced answers todo (replies ++ said.1 ∷ []) said.0 in omega (arith, length_push replies said.1, more)
    ]

went : (answers : ℕ → Option Shortage) (session : Session) (asked : Command) (todo : List Command) (replies : List Reply) (after : After)
    → statements_of (went_on answers session asked todo replies after) ≡ length replies + length (asked ∷ todo)
went answers session asked todo replies (Past said) = let more = advanced answers todo (replies ++ said.1 ∷ []) said.0 in omega (arith, length_push replies said.1, more)
went answers session asked todo replies (Still transaction place) = refl

-- a moment leaves a session as many
stepped : (address : List ℕ → List ℕ) (epoch : ℤ) (answers : ℕ → Option Shortage) (number : ℕ) (shared : Shared) (session : Session) (replies : List Reply) (todo : List Command)
    → IfSome (step_of address epoch answers number shared session replies todo) (λ (next : Shared × Runner). statements_of next.1 ≡ length replies + length todo)
stepped address epoch answers number shared session replies [] = tt
stepped address epoch answers number shared session replies (asked ∷ todo) = by_number (session.statement == number && needs_moment (answers session.statement) session asked) (moment_at address epoch (answers session.statement) shared session asked)
  where
    by_number : (test : Bool) (found : Option (Shared × After))
        → IfSome (if test then option_map (λ (after : Shared × After). (after.0, went_on answers session asked todo replies after.1)) found else None)
        (λ (next : Shared × Runner). statements_of next.1 ≡ length replies + length (asked ∷ todo))
    by_number true None = tt
    by_number true (Some after) = went answers session asked todo replies after.1
    by_number false found = tt

-- no session has more
abbrev AtMost : ℕ → List Runner → Type 0
AtMost most runners = AllByRecursion (λ runner. statements_of runner ≤ most) runners

put_at : (most : ℕ) (runners : List Runner) (place : ℕ) (next : Runner) → AtMost most runners → statements_of next ≤ most → AtMost most (slice_set runners place next)
put_at most [] place next each small = tt
put_at most (runner ∷ runners) zero next each small = (small, each.1)
put_at most (runner ∷ runners) (suc place) next each small = (each.0, put_at most runners place next each.1 small)

module _ (most : ℕ) (address : List ℕ → List ℕ) (epoch : ℤ) (answers : Shortages) where
  put : (runners : List Runner) (place count : ℕ) (found : Option (Shared × Runner)) → AtMost most runners → count ≤ most → IfSome found (λ (next : Shared × Runner). statements_of next.1 ≡ count)
      → IfSome (option_map (put_runner place runners) found) (λ (next : State). AtMost most next.runners)
  put runners place count None each small is = tt
  put runners place count (Some next) each small is = put_at most runners place next.1 each (let same : statements_of next.1 ≡ count = is in omega (arith, small, same))

  taken : (moment : Moment) (shared : Shared) (runners : List Runner) (found : Option Runner) → slice_get runners moment.session ≡ found → AtMost most runners
      → IfSome (option_and_then (λ (runner : Runner). option_map (put_runner moment.session runners)
      (step_of address epoch (answers moment.session) moment.statement shared runner.session runner.replies runner.todo)) found) (λ (next : State). AtMost most next.runners)
  taken moment shared runners None is each = tt
  taken moment shared runners (Some runner) is each =
      put runners moment.session (statements_of runner) _ each (have_at (λ (one : Runner). statements_of one ≤ most) runners moment.session runner each is)
      (stepped address epoch (answers moment.session) moment.statement shared runner.session runner.replies runner.todo)

  onward : (order : List Moment) (found : Option State) → ((next : State) → AtMost most next.runners → IfSome (steps_along address epoch answers order next) (λ (last : State). AtMost most last.runners))
      → IfSome found (λ (next : State). AtMost most next.runners)
      → IfSome (option_and_then (steps_along address epoch answers order) found) (λ (last : State). AtMost most last.runners)
  onward order None keeps is = tt
  onward order (Some next) keeps is = keeps next is

  along : (order : List Moment) (state : State) → AtMost most state.runners → IfSome (steps_along address epoch answers order state) (λ (last : State). AtMost most last.runners)
  along [] state each = each
  along (moment ∷ order) state each =
      onward order (step address epoch answers moment state) (λ next is. along order next is) (taken moment state.shared state.runners (slice_get state.runners moment.session) refl each)

  over : (found : Option State) → IfSome found (λ (last : State). AtMost most last.runners)
      → IfSome (option_and_then (λ (last : State). if list_all is_over last.runners then Some last else None) found) (λ (last : State). AtMost most last.runners)
  over None each = tt
  over (Some last) each = by_test (list_all is_over last.runners)
    where
      by_test : (test : Bool) → IfSome (if test then Some last else None) (λ (last : State). AtMost most last.runners)
      by_test true = each
      by_test false = tt

first_at_most : (answers : Shortages) (lines : List Line) (place : ℕ) (names : List (List ℕ)) → AtMost (length lines) (runners_of command answers lines place names)
first_at_most answers lines place [] = tt
first_at_most answers lines place (name ∷ names) = (
  let all = advanced (answers place) (commands_of command place lines) [] (new_session place name) in
      omega (arith, all, commands_counted command place lines, count_fits place lines),
  first_at_most answers lines (place + 1) names,
)

run_at_most : (address : List ℕ → List ℕ) (epoch : ℤ) (script : Script) (order : List Moment) (answers : Shortages)
    → IfSome (plain_run command address script order answers epoch) (λ (last : State). AtMost (length script.lines) last.runners)
unfolding plain_run
run_at_most address epoch script order answers =
    over (length script.lines) address epoch answers (steps_along address epoch answers order (opened command address epoch answers script))
    (along (length script.lines) address epoch answers order (opened command address epoch answers script) (first_at_most answers script.lines 0 script.names))

all_few : (most : ℕ) (runners : List Runner) → most < 2 ^ 32 → AtMost most runners
    → list_all (λ (session : List Reply). nat_lt (length session) (2 ^ 32)) (map (λ (runner : Runner). runner.replies) runners) ≡ true
all_few most [] small each = refl
all_few most (runner ∷ runners) small each =
    let here : length runner.replies + length runner.todo ≤ most = each.0 in
    let below : length runner.replies < 2 ^ 32 = omega (arith, small, here) in
    let first : nat_lt (length runner.replies) (2 ^ 32) ≡ true = grind (arith, nat_tests) in
    and_from (nat_lt (length runner.replies) (2 ^ 32)) _ first (all_few most runners small each.1)

pub shown_load : (address : List ℕ → List ℕ) (seed : ℕ) (epoch : ℤ) (run : RunText) (rows : ℕ) → IsLoaded address seed epoch run rows → IsShown run → IsShownLoad run
shown_load address seed epoch run rows loaded shown =
    let most : AtMost (length (all_lines seed)) loaded.state.runners
    = subst (λ (found : Option State). IfSome found (λ (last : State). AtMost (length (all_lines seed)) last.runners)) loaded.ran
    (run_at_most address epoch (workload seed) run.order (shortages_in run.replies)) in
    let small : length (all_lines seed) < 2 ^ 32 = let count = line_count seed in omega (arith, count) in
    record {
      is_shown = shown;
      few =
          ap (λ (r : RunText). list_all (λ (session : List Reply). nat_lt (length session) (2 ^ 32)) r.replies) (sym loaded.shows)
          ∙ all_few (length (all_lines seed)) loaded.state.runners small most;
    }
