-- What the run of a workload comes to.
use Rattle.std.proofs.Common.{◌≡◌, sym, ap, ◌∙◌, subst, ℕ, ℤ, ◌≤◌, List, length, Some, arith}
use Rattle.script_text.specs.Input.{most_statements}
use Rattle.script_text.specs.Output.{shortages_in}
use Rattle.script_text.specs.declared.outputs.RunText.{RunText}
use Rattle.script_text.specs.declared.scripts.Moment.{Moment}
use Rattle.script_text.specs.declared.scripts.Script.{Script}
use Rattle.plain_sessions.specs.Commands.{command}
use Rattle.plain_sessions.specs.Output.{shown}
use Rattle.plain_sessions.specs.Runs.{State, plain_run}
use Rattle.run_laws.specs.Laws.{shown_of}
use Rattle.run_laws.specs.Replaying.{all_replies}
use Rattle.session_state.specs.Changes.{Parts}
use Rattle.script_run.specs.Scripts.{IsSoundScript}
use Rattle.script_run.specs.declared.players.Player.{Player}
use Rattle.thread_run.specs.Ending.{HasEnded}
use Rattle.workload.specs.Workload.{workload}
use Rattle.workload.proofs.WorkloadLemmas.{line_count, lines_within, names_distinct, names_shown}
use Rattle.load_laws.specs.Laws.{LoadEnds, TableIsFull}
use Rattle.program_run.specs.Loading.{IsLoaded, rows_in}
use Rattle.program_run.proofs.FullLemmas.{all_is_there, refused_by_cause}
use Rattle.program_run.proofs.SpelledLemmas.{lines_spelled}

-- ---- the script

sound_workload : (seed : ℕ) → IsSoundScript (workload seed)
sound_workload seed =
    let many : length (workload seed).lines ≡ 4968 = line_count seed in
    record {
      names = names_shown;
      distinct = names_distinct;
      sessions = lines_within seed;
      statements = lines_spelled seed;
      spoken = subst (λ (n : ℕ). 8 ≤ n) (sym many) (omega arith);
      few = subst (λ (n : ℕ). n ≤ most_statements) (sym many) (omega arith);
    }

pub sound_script : (seed : ℕ) (script : Script) → script ≡ workload seed → IsSoundScript script
sound_script seed script is = subst IsSoundScript (sym is) (sound_workload seed)

-- ---- the run

module _ {D : Type 0} (address : List ℕ → List ℕ) (epoch : ℤ) (seed : ℕ) (script : Script) (is : script ≡ workload seed) (parts : Parts) (players : List (Player D))
    (over : HasEnded address epoch script parts players) (run : RunText) (as_shown : run ≡ shown_of address script parts.moments over.along.shared over.along.runners) (rows : ℕ)
    (counted : rows ≡ rows_in over.along.shared) (ends : LoadEnds) (full : TableIsFull) where
  abbrev last : State
  last = record { shared = over.along.shared; runners = over.along.runners }

  last_ran : plain_run command address (workload seed) run.order (shortages_in run.replies) epoch ≡ Some last
  last_ran =
      subst (λ (r : RunText). plain_run command address (workload seed) r.order (shortages_in r.replies) epoch ≡ Some last) (sym as_shown)
      (subst (λ (s : Script). plain_run command address s parts.moments (shortages_in (all_replies over.along.runners)) epoch ≡ Some last) is over.machine)

  last_shows : shown address (workload seed) run.order last ≡ run
  last_shows =
      ap (λ (order : List Moment). shown address (workload seed) order last) (ap (λ (r : RunText). r.order) as_shown)
      ∙ ap (λ (s : Script). shown_of address s parts.moments over.along.shared over.along.runners) (sym is)
      ∙ sym as_shown

  pub loaded : IsLoaded address seed epoch run rows
  loaded = record {
    state = last;
    ran = last_ran;
    shows = last_shows;
    rows_are = counted;
    caused = refused_by_cause ends address epoch seed run last last_ran last_shows;
    full = all_is_there ends address epoch seed run last last_ran last_shows full rows counted;
  }
