-- Moment after moment all stays sound, and so within the limits.
use Rattle.std.proofs.Common.{◌≡◌, refl, sym, ap, ◌∙◌, ℕ, zero, suc, ℤ, true, false, cond, ◌==◌, ◌&&◌, ◌+◌, List, [], ◌∷◌, ◌++◌, length, codes, slice_get, slice_set, Option, None, Some, bytes_eq}
use Rattle.std.specs.Option.{option_map, option_and_then}
use Rattle.std.specs.Cmp.Lexicographic.{bytes_decides}
use Rattle.std.specs.List.{AllByRecursion, list_all}
use Rattle.std.proofs.lemmas.Bool.{and_parts, leb-true}
use Rattle.schema_model.specs.PlainCommits.{Commits, commit_address, is_known, with_commit}
use Rattle.schema_model.specs.PlainTables.{PlainDatabase}
use Rattle.script_text.specs.Output.{Shortage, shortages_in}
use Rattle.script_text.specs.declared.replies.Reply.{Reply}
use Rattle.script_text.specs.declared.outputs.RunText.{RunText}
use Rattle.script_text.specs.declared.scripts.Line.{Line}
use Rattle.script_text.specs.declared.scripts.Moment.{Moment}
use Rattle.script_text.specs.declared.scripts.Script.{Script}
use Rattle.plain_sessions.specs.declared.commands.Command.{Command}
use Rattle.plain_sessions.specs.Fitness.{IsFitCommand}
use Rattle.plain_sessions.specs.Moments.{After, Past, Still, alone, moment_at}
use Rattle.plain_sessions.specs.Output.{IsPlainRun, shown}
use Rattle.plain_sessions.specs.Records.{Branch, BranchState, Shared, first_commit, no_commits, opening}
use Rattle.plain_sessions.specs.Runs.{Runner, Shortages, State, advance, commands_of, is_over, needs_moment, opened, plain_run, put_runner, runners_of, step, step_of, steps_along, went_on}
use Rattle.plain_sessions.specs.Sessions.{Said, Session, Transaction, new_session}
use Rattle.plain_sessions.specs.StateLimits.{IsFirst, IsStateWithinLimits, is_committer, is_date, is_state_within, is_transaction_within, is_within}
use Rattle.plain_writes.specs.WriteLaws.{IsKept}
use Rattle.plain_writes.proofs.RowOrderLemmas.{both_so, two}
use Rattle.tuple_codec.proofs.Lists.{have_at}
use Rattle.keep_laws.specs.StateLaws.{IsKeptState}
use Rattle.check_laws.specs.Meant.{AreMeant, IsMeantState}
use Rattle.check_laws.specs.Runs.{IsFitScript, IsMeantIfOpen, IsMeantSession, KeepsLimits, RunsKeepLimits}
use Rattle.check_laws.proofs.Deciding.{Laws}
use Rattle.check_laws.proofs.Grown.{AreAmong, with_each}
use Rattle.check_laws.proofs.Meaning.{checks_are_meant}
use Rattle.check_laws.proofs.Outcomes.{IfSome, map_or_has, map_some, then_some, is_some_of}
use Rattle.check_laws.proofs.Sharing.{EachState, shared_keeps}
use Rattle.check_laws.proofs.Sound.{IsSmall, IsSoundIfOpen, IsSoundSession, IsSoundShared, session_grown}
use Rattle.check_laws.proofs.Turning.{IsSoundAfter, IsSoundMoment, IsSoundSaid, alone_sound, moment_sound}

record IsSoundRunner (commits : Commits) (runner : Runner) : Type 0 where
  session : IsSoundSession commits runner.session
  todo : AllByRecursion IsFitCommand runner.todo

record IsSoundState (epoch : ℤ) (state : State) : Type 0 where
  shared : IsSoundShared epoch state.shared
  runners : AllByRecursion (IsSoundRunner state.shared.commits) state.runners

-- ---- lists of sessions

set_have : {A : Type 0} (P : A → Type 0) (xs : List A) (place : ℕ) (x : A) → P x → AllByRecursion P xs → AllByRecursion P (slice_set xs place x)
set_have P [] place x p are = tt
set_have P (y ∷ xs) zero x p are = (p, are.1)
set_have P (y ∷ xs) (suc place) x p are = (are.0, set_have P xs place x p are.1)

runners_grown : (commits after : Commits) (runners : List Runner) → AreAmong commits after → AllByRecursion (IsSoundRunner commits) runners → AllByRecursion (IsSoundRunner after) runners
runners_grown commits after [] among are = tt
runners_grown commits after (runner ∷ runners) among are = let one = are.0 in (
  record { session = session_grown commits after runner.session among one.session; todo = one.todo },
  runners_grown commits after runners among are.1,
)

-- ---- on to the next moment, and one moment

module _ (laws : Laws) (commits : Commits) (answers : ℕ → Option Shortage) where
  advance_sound : (todo : List Command) (replies : List Reply) (session : Session) → IsSoundSession commits session → AllByRecursion IsFitCommand todo → IsSoundRunner commits (advance answers todo replies session)
  advance_sound [] replies session is fit = record { session = is; todo = tt }
  advance_sound (command ∷ todo) replies session is fit =
      let go : Said → Runner = λ said. advance answers todo (replies ++ said.1 ∷ []) said.0 in
      map_or_has (IsSoundRunner commits) (IsSoundSaid commits) go (alone (answers session.statement) session command) (record { session = session; replies = replies; todo = command ∷ todo })
      (alone_sound laws commits session is (answers session.statement) command fit.0)
      (λ said sound. advance_sound todo (replies ++ said.1 ∷ []) said.0 sound fit.1)
      (record { session = is; todo = fit })

  went_on_sound : (session : Session) (command : Command) (todo : List Command) (replies : List Reply) (after : After) → IsSoundSession commits session → IsFitCommand command → AllByRecursion IsFitCommand todo
      → IsSoundAfter commits after → IsSoundRunner commits (went_on answers session command todo replies after)
  went_on_sound session command todo replies (Past said) is fit fits sound = advance_sound todo (replies ++ said.1 ∷ []) said.0 sound fits
  went_on_sound session command todo replies (Still t place) is fit fits sound = record { session = record { name = is.name; branch = is.branch; transaction = sound }; todo = (fit, fits) }

record IsSoundStep (epoch : ℤ) (before : Shared) (made : Shared × Runner) : Type 0 where
  shared : IsSoundShared epoch made.0
  among : AreAmong before.commits made.0.commits
  runner : IsSoundRunner made.0.commits made.1

module _ (laws : Laws) (address : List ℕ → List ℕ) (epoch : ℤ) where
  step_of_sound : (answers : ℕ → Option Shortage) (number : ℕ) (shared : Shared) (session : Session) (replies : List Reply) (todo : List Command) → IsSoundShared epoch shared
      → IsSoundSession shared.commits session → AllByRecursion IsFitCommand todo → IfSome (step_of address epoch answers number shared session replies todo) (IsSoundStep epoch shared)
  step_of_sound answers number shared session replies [] sound is fit = tt
  step_of_sound answers number shared session replies (command ∷ todo) sound is fit =
      let moment = moment_at address epoch (answers session.statement) shared session command in
      let on : Shared × After → Shared × Runner = λ after. (after.0, went_on answers session command todo replies after.1) in
      let here : IfSome (option_map on moment) (IsSoundStep epoch shared) = map_some (IsSoundStep epoch shared) on moment (λ after e.
      let made = is_some_of (IsSoundMoment epoch shared) moment after e (moment_sound laws address epoch shared sound session is (answers session.statement) command fit.0) in
      let move = made.move in record {
        shared = move.shared;
        among = move.among;
        runner = went_on_sound laws after.0.commits answers session command todo replies after.1 (session_grown shared.commits after.0.commits session move.among is) fit.0 fit.1 made.after;
      }) in
      elim (session.statement == number && needs_moment (answers session.statement) session command) as (λ b. IfSome (cond b (option_map on moment) None) (IsSoundStep epoch shared)) [ true ↦ here | false ↦ tt ]

  step_sound : (answers : Shortages) (moment : Moment) (state : State) → IsSoundState epoch state → IfSome (step address epoch answers moment state) (IsSoundState epoch)
  step_sound answers moment state sound =
      let on : Runner → Option State = λ runner. option_map (put_runner moment.session state.runners)
      (step_of address epoch (answers moment.session) moment.statement state.shared runner.session runner.replies runner.todo) in
      then_some (IsSoundState epoch) on (slice_get state.runners moment.session) (λ runner e.
      let one = have_at (IsSoundRunner state.shared.commits) state.runners moment.session runner sound.runners e in
      let next = step_of address epoch (answers moment.session) moment.statement state.shared runner.session runner.replies runner.todo in
      map_some (IsSoundState epoch) (put_runner moment.session state.runners) next (λ made f.
      let is = is_some_of (IsSoundStep epoch state.shared) next made f (step_of_sound (answers moment.session) moment.statement state.shared runner.session runner.replies runner.todo sound.shared one.session one.todo) in
      record {
        shared = is.shared;
        runners = set_have (IsSoundRunner made.0.commits) state.runners moment.session made.1 is.runner (runners_grown state.shared.commits made.0.commits state.runners is.among sound.runners);
      }))

  along_sound : (answers : Shortages) (order : List Moment) (state : State) → IsSoundState epoch state → IfSome (steps_along address epoch answers order state) (IsSoundState epoch)
  along_sound answers [] state sound = sound
  along_sound answers (moment ∷ order) state sound =
      then_some (IsSoundState epoch) (steps_along address epoch answers order) (step address epoch answers moment state) (λ next e.
      along_sound answers order next (is_some_of (IsSoundState epoch) (step address epoch answers moment state) next e (step_sound answers moment state sound)))

  -- ---- the opening

  first_small : IsSmall epoch (first_commit epoch)
  first_small = record { parents = refl; date = refl; committer = refl; message = refl }

  first_is : (k : List ℕ) → IsFirst (with_commit k (first_commit epoch) no_commits) k
  first_is k j known = two (bytes_eq j k)
      (λ t. (zero, (known, (bytes_decides j k).0 t)))
      (λ t. let none : false ≡ true = sym (ap (λ b. is_known (λ other. cond b (Some (first_commit epoch)) None) j) t) ∙ known in absurd (cc))

  opening_sound : (names : List (List ℕ)) → IsSoundShared epoch (opening address epoch names)
  opening_sound names = let k = commit_address address (first_commit epoch) in record {
    kept = laws.shared.first address epoch names;
    meant = shared_keeps.first address epoch names;
    few = refl;
    heads = (ap (λ b. is_known (λ other. cond b (Some (first_commit epoch)) None) k) ((bytes_decides k k).1 refl), tt);
    small = with_each no_commits k (first_commit epoch) (IsSmall epoch) first_small (λ j commit e. cc);
    first = (k, first_is k);
  }

  module _ (reads : List ℕ → Command) where
    commands_fit : (place : ℕ) (lines : List Line) → AllByRecursion (λ (line : Line). IsFitCommand (reads line.statement)) lines → AllByRecursion IsFitCommand (commands_of reads place lines)
    commands_fit place [] fit = tt
    commands_fit place (line ∷ lines) fit =
        let later = commands_fit place lines fit.1 in
        elim (line.session == place) as (λ b. AllByRecursion IsFitCommand (cond b (reads line.statement ∷ commands_of reads place lines) (commands_of reads place lines))) [
          | true ↦ (fit.0, later)
          | false ↦ later
        ]

    runners_sound : (commits : Commits) (answers : Shortages) (lines : List Line) (place : ℕ) (names : List (List ℕ)) → AllByRecursion (λ (line : Line). IsFitCommand (reads line.statement)) lines
        → list_all is_committer names ≡ true → AllByRecursion (IsSoundRunner commits) (runners_of reads answers lines place names)
    runners_sound commits answers lines place [] fit short = tt
    runners_sound commits answers lines place (name ∷ names) fit short = let parts = and_parts (is_committer name) (list_all is_committer names) short in (
      advance_sound laws commits (answers place) (commands_of reads place lines) [] (new_session place name) (record { name = parts.0; branch = leb-true (length (codes "main")) 64 refl; transaction = tt }) (commands_fit place lines fit),
      runners_sound commits answers lines (place + 1) names fit parts.1,
    )

    opened_sound : (answers : Shortages) (script : Script) → IsFitScript reads epoch script → IsSoundState epoch (opened reads address epoch answers script)
    opened_sound answers script fit = let shared = opening address epoch script.names in record {
      shared = opening_sound script.names;
      runners = runners_sound shared.commits answers script.lines 0 script.names fit.lines fit.names;
    }

-- ---- within the limits

database_within : (database : PlainDatabase) → IsKept database → AreMeant database → is_within database ≡ true
database_within database kept meant = both_so kept.within (checks_are_meant.limits database meant)

state_within : (state : BranchState) → IsKeptState state → IsMeantState state → is_state_within state ≡ true
state_within state kept meant = both_so (database_within state.working kept.working meant.working) (database_within state.staged kept.staged meant.staged)

branches_within : (branches : List Branch) → EachState IsKeptState branches → EachState IsMeantState branches → list_all (λ (branch : Branch). is_state_within branch.state) branches ≡ true
branches_within [] kept meant = refl
branches_within (branch ∷ branches) kept meant = both_so (state_within branch.state kept.0 meant.0) (branches_within branches kept.1 meant.1)

shared_within : (epoch : ℤ) (shared : Shared) → is_date epoch ≡ true → IsSoundShared epoch shared → IsStateWithinLimits shared
shared_within epoch shared date sound = let kept = sound.kept in let meant = sound.meant in record {
  branches = sound.few;
  records = branches_within shared.branches kept.branches meant.branches;
  commits = λ k commit e. let small = sound.small k commit e in
      both_so (both_so (both_so (both_so (database_within commit.database (kept.commits k commit e) (meant.commits k commit e)) small.parents) (ap is_date small.date ∙ date)) small.committer) small.message;
  history = sound.first;
}

open_within : (commits : Commits) (o : Option Transaction) → IsSoundIfOpen commits o → (is_transaction_within o ≡ true) × IsMeantIfOpen o
open_within commits None sound = (refl, tt)
open_within commits (Some t) sound = let kept = sound.kept in let meant = sound.meant in
    (both_so (state_within t.start kept.start meant.start) (state_within t.own kept.own meant.own), (kept, meant))

session_within : (commits : Commits) (session : Session) → IsSoundSession commits session → IsMeantSession session
session_within commits session is = let inside = open_within commits session.transaction is.transaction in record { within = both_so is.name inside.0; transaction = inside.1 }

sessions_within : (commits : Commits) (runners : List Runner) → AllByRecursion (IsSoundRunner commits) runners → AllByRecursion (λ (runner : Runner). IsMeantSession runner.session) runners
sessions_within commits [] are = tt
sessions_within commits (runner ∷ runners) are = let one = are.0 in (session_within commits runner.session one.session, sessions_within commits runners are.1)

keeps_limits : (epoch : ℤ) (state : State) → is_date epoch ≡ true → IsSoundState epoch state → KeepsLimits state
keeps_limits epoch state date sound = let shared = sound.shared in record {
  within = shared_within epoch state.shared date shared;
  kept = shared.kept;
  meant = shared.meant;
  sessions = sessions_within state.shared.commits state.runners sound.runners;
}

-- ---- the law

module _ (laws : Laws) where
  reached : (reads : List ℕ → Command) (address : List ℕ → List ℕ) (epoch : ℤ) (script : Script) (answers : Shortages) (order : List Moment) (state : State)
      → IsFitScript reads epoch script → steps_along address epoch answers order (opened reads address epoch answers script) ≡ Some state → KeepsLimits state
  reached reads address epoch script answers order state fit e =
      let first = opened reads address epoch answers script in
      keeps_limits epoch state fit.date
      (is_some_of (IsSoundState epoch) (steps_along address epoch answers order first) state e (along_sound laws address epoch answers order first (opened_sound laws address epoch reads answers script fit)))

  -- what is left at the end was reached
  whole : (o : Option State) (state : State) → option_and_then (λ (last : State). cond (list_all is_over last.runners) (Some last) None) o ≡ Some state → o ≡ Some state
  whole None state e = cc
  whole (Some last) state e = two (list_all is_over last.runners)
      (λ t. sym (ap (λ b. cond b (Some last) None) t) ∙ e)
      (λ t. let none : ◌≡◌ {A = Option State} None (Some state) = sym (ap (λ b. cond b (Some last) None) t) ∙ e in absurd (cc))

  ended : (reads : List ℕ → Command) (address : List ℕ → List ℕ) (epoch : ℤ) (script : Script) (answers : Shortages) (order : List Moment) (state : State)
      → IsFitScript reads epoch script → plain_run reads address script order answers epoch ≡ Some state → KeepsLimits state
  unfolding plain_run
  ended reads address epoch script answers order state fit e =
      reached reads address epoch script answers order state fit (whole (steps_along address epoch answers order (opened reads address epoch answers script)) state e)

  map_of : {A B : Type 0} (f : A → B) (o : Option A) (y : B) → option_map f o ≡ Some y → (x : A) × (o ≡ Some x) × (f x ≡ y)
  map_of f None y e = absurd (cc)
  map_of f (Some x) y e = let same : f x ≡ y = cc in (x, refl, same)

  told : (reads : List ℕ → Command) (address : List ℕ → List ℕ) (epoch : ℤ) (script : Script) (run : RunText) → IsFitScript reads epoch script → IsPlainRun reads address epoch script run
      → (state : State) × (shown address script run.order state ≡ run) × KeepsLimits state
  told reads address epoch script run fit is =
      let answers = shortages_in run.replies in
      let last = map_of (shown address script run.order) (plain_run reads address script run.order answers epoch) run is in
      (last.0, last.2, ended reads address epoch script answers run.order last.0 fit last.1)

  pub runs_keep : RunsKeepLimits
  runs_keep = record { reached = reached; ended = ended; told = told }
