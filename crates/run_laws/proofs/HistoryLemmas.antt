-- Sessions that each went their own way through one history are the machine's run along it.
use Rattle.std.proofs.Common.{◌≡◌, ◌≢◌, refl, sym, ◌∙◌, ap, subst, ℕ, ℤ, zero, suc, ◌+◌, ◌<◌, true, false, ◌==◌, List, [], ◌∷◌, length, map, Some, slice_get, slice_set, arith}
use Rattle.std.specs.List.{AllByRecursion, list_all}
use Rattle.std.specs.Option.{option_map, option_and_then}
use Rattle.std.proofs.lemmas.List.{length-set}
use Rattle.std.proofs.lemmas.Bool.Decides.{nat_tests}
use Rattle.tuple_codec.proofs.Truths.{if_true}
use Rattle.tuple_codec.proofs.Lists.{there_at as there}
use Rattle.script_text.specs.Output.{Shortage, shortages_in}
use Rattle.script_text.specs.declared.scripts.Script.{Script}
use Rattle.plain_sessions.specs.Records.{Shared, opening}
use Rattle.plain_sessions.specs.Sessions.{is_before_statement, new_session}
use Rattle.plain_sessions.specs.declared.commands.Command.{Command}
use Rattle.plain_sessions.specs.Runs.{Runner, Shortages, advance, commands_of, is_over, plain_run, put_runner, runners_of, step, step_of, steps_along}
use Rattle.run_laws.specs.Histories.{GoesTold, ToldMoment, Way, left_last, moment_of_entry, told_by}
use Rattle.run_laws.specs.Replaying.{AreWaiting, all_replies, seen}
use Rattle.run_laws.proofs.ListLemmas.{get_put, get_put_other, if_false}
use Rattle.run_laws.proofs.ReplayLemmas.{agrees_self, machine_by, still_seen, unanswered}

same_lists : {X : Type 0} (xs ys : List X) → length xs ≡ length ys → ((i : ℕ) (x y : X) → slice_get xs i ≡ Some x → slice_get ys i ≡ Some y → x ≡ y) → xs ≡ ys
same_lists [] [] h same = refl
same_lists [] (y ∷ ys) h same = absurd (omega arith)
same_lists (x ∷ xs) [] h same = absurd (omega arith)
same_lists (x ∷ xs) (y ∷ ys) h same =
    ap (λ z. z ∷ xs) (same 0 x y refl refl) ∙ ap (λ more. y ∷ more) (same_lists xs ys (omega arith) (λ i a b. same (suc i) a b))

module _ {Words : Type 0} (Stands : Words → Shared → Type 0) (address : List ℕ → List ℕ) (epoch : ℤ) (answers : Shortages) (one : (words : Words) (s t : Shared) → Stands words s → Stands words t → s ≡ t) where
  pub along_history : (log : List (ToldMoment Words)) (before : Words) (found : Shared) (runners finals : List Runner) → Stands before found → length runners ≡ length finals
      → AllByRecursion (λ (entry : ToldMoment Words). entry.session < length finals) log
      → ((j : ℕ) (r q : Runner) → slice_get runners j ≡ Some r → slice_get finals j ≡ Some q → GoesTold Stands address epoch (answers j) r (told_by j before log) q)
      → (last : Shared) × Stands (left_last before log) last
      × (steps_along address epoch answers (map moment_of_entry log) (record { shared = found; runners = runners }) ≡ Some (record { shared = last; runners = finals }))
  along_history [] before found runners finals stands lengths within goes =
      (found, stands, ap (λ rs. Some (record { shared = found; runners = rs })) (same_lists runners finals lengths goes))
  along_history (entry ∷ log) before found runners finals stands lengths within goes =
      let place : ℕ = entry.session in
      let inside : place < length finals = within.0 in
      let own = there runners place (omega arith) in
      let final = there finals place inside in
      let test : (place == place) ≡ true = grind (arith, nat_tests) in
      let way = subst (λ told. GoesTold Stands address epoch (answers place) own.0 told final.0) (if_true (place == place) _ _ test) (goes place own.0 final.0 own.1 final.1) in
      let same : way.0 ≡ found = one before way.0 found way.3 stands in
      let next : Runner = way.2 in
      let stepped : step address epoch answers (moment_of_entry entry) (record { shared = found; runners = runners }) ≡ Some (record { shared = way.1; runners = slice_set runners place next })
      = ap (option_and_then (λ (r : Runner). option_map (put_runner place runners) (step_of address epoch (answers place) entry.statement found r.session r.replies r.todo))) own.1
      ∙ ap (option_map (put_runner place runners)) (ap (λ s. step_of address epoch (answers place) entry.statement s own.0.session own.0.replies own.0.todo) (sym same) ∙ way.5) in
      let rest = along_history log entry.left way.1 (slice_set runners place next) finals way.4 (length-set runners place next ∙ lengths) within.1
      (λ j r q h1 h2. elim (place == j) as (λ test. (place == j) ≡ test → GoesTold Stands address epoch (answers j) r (told_by j entry.left log) q) [
        | true ↦ λ test.
            let at : place ≡ j = grind (arith, nat_tests) in
            let r_is : next ≡ r = cc (ap (slice_get (slice_set runners place next)) at, get_put runners place own.0 next own.1) in
            let q_is : final.0 ≡ q = cc (ap (slice_get finals) at, final.1) in
            subst (λ n. GoesTold Stands address epoch (answers n) r (told_by n entry.left log) q) at
            (subst (λ (x : Runner). GoesTold Stands address epoch (answers place) x (told_by place entry.left log) q) r_is
            (subst (λ (x : Runner). GoesTold Stands address epoch (answers place) next (told_by place entry.left log) x) q_is way.6))
        | false ↦ λ test.
            let apart : j ≢ place = grind (arith, nat_tests) in
            subst (λ told. GoesTold Stands address epoch (answers j) r told q) (if_false (place == j) _ _ test)
            (goes j r q (sym (get_put_other runners place j next apart) ∙ h1) h2)
      ] refl) in
      (rest.0, rest.1, ap (option_and_then (steps_along address epoch answers (map moment_of_entry log))) stepped ∙ rest.2)

-- one session for each name, before its first moment
runner_at : (reads : List ℕ → Command) (answers : Shortages) (script : Script) (place i : ℕ) (names : List (List ℕ)) (r : Runner) → slice_get (runners_of reads answers script.lines place names) i ≡ Some r
    → (name : List ℕ) × (slice_get names i ≡ Some name) × (advance (answers (place + i)) (commands_of reads (place + i) script.lines) [] (new_session (place + i) name) ≡ r)
runner_at reads answers script place i [] r h = absurd (cc)
runner_at reads answers script place zero (name ∷ names) r h =
    let zeroth : place + 0 ≡ place = omega arith in
    (name, refl, ap (λ n. advance (answers n) (commands_of reads n script.lines) [] (new_session n name)) zeroth ∙ cc)
runner_at reads answers script place (suc i) (name ∷ names) r h =
    let e : place + suc i ≡ place + 1 + i = omega arith in
    let more = runner_at reads answers script (place + 1) i names r h in
    (more.0, more.1, ap (λ n. advance (answers n) (commands_of reads n script.lines) [] (new_session n more.0)) e ∙ more.2)

pub as_many_runners : (reads : List ℕ → Command) (answers : Shortages) (script : Script) (place : ℕ) (names : List (List ℕ)) → length (runners_of reads answers script.lines place names) ≡ length names
as_many_runners reads answers script place [] = refl
as_many_runners reads answers script place (name ∷ names) = ap suc (as_many_runners reads answers script (place + 1) names)

-- sessions that have each gone their own way to the end make the machine's run along the history that they share
module _ (reads : List ℕ → Command) (address : List ℕ → List ℕ) (epoch : ℤ) (script : Script) {Words : Type 0} (Stands : Words → Shared → Type 0) (one : (words : Words) (s t : Shared) → Stands words s → Stands words t → s ≡ t) where
  pub ways_run : (log : List (ToldMoment Words)) (before : Words) (runners : List Runner) → Stands before (opening address epoch script.names)
      → length runners ≡ length script.names → AreWaiting runners → list_all is_over runners ≡ true
      → AllByRecursion (λ (entry : ToldMoment Words). entry.session < length script.names) log
      → ((place : ℕ) (name : List ℕ) (runner : Runner) → slice_get script.names place ≡ Some name → slice_get runners place ≡ Some runner
      → Way Stands address epoch (new_session place name) (commands_of reads place script.lines) (told_by place before log) runner)
      → (last : Shared) × Stands (left_last before log) last
      × (plain_run reads address script (map moment_of_entry log) (shortages_in (all_replies runners)) epoch ≡ Some (record { shared = last; runners = runners }))
  ways_run log before runners stands lengths waiting over within ways =
      let answers : Shortages = shortages_in (all_replies runners) in
      let firsts : List Runner = runners_of reads answers script.lines 0 script.names in
      let along = along_history Stands address epoch answers one log before (opening address epoch script.names) firsts runners stands
      (as_many_runners reads answers script 0 script.names ∙ sym lengths)
      (subst (λ n. AllByRecursion (λ (entry : ToldMoment Words). entry.session < n) log) (sym lengths) within)
      (λ j r q h1 h2.
      let first = runner_at reads answers script 0 j script.names r h1 in
      let zeroth : 0 + j ≡ j = omega arith in
      let begins : advance (answers j) (commands_of reads j script.lines) [] (new_session j first.0) ≡ r
      = sym (ap (λ n. advance (answers n) (commands_of reads n script.lines) [] (new_session n first.0)) zeroth) ∙ first.2 in
      let ends : seen (answers j) q ≡ q
      = still_seen (answers j) q.session q.replies (is_before_statement q.session.place) q.todo (waiting j q h2).waits (unanswered runners j q h2 (waiting j q h2).numbered) in
      subst (λ (x : Runner). GoesTold Stands address epoch (answers j) x (told_by j before log) q) begins
      (subst (λ (x : Runner). GoesTold Stands address epoch (answers j) (advance (answers j) (commands_of reads j script.lines) [] (new_session j first.0)) (told_by j before log) x) ends
      (ways j first.0 q first.1 h2 (answers j) (agrees_self runners waiting j q h2)))) in
      (along.0, along.1, machine_by reads address epoch script (map moment_of_entry log) along.0 runners over along.2)
