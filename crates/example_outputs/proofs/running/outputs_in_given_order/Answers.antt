use Rattle.std.proofs.Common.{◌≡◌, refl, subst, true, ℕ, ℤ, List}
use Rattle.script_text.specs.Shown.{IsPrintable}
use Rattle.script_text.specs.declared.outputs.RunText.{RunText}
use Rattle.script_text.specs.declared.scripts.Script.{Script}
use Rattle.script_run.specs.Following.{ReplaysAs}
use Rattle.script_run.specs.declared.following.Replayed.{Replayed}
use Rattle.script_run.specs.declared.following.Replayed.TheVariants as replayed
use Rattle.example_outputs.proofs.running.outputs_in_given_order.Goals as goal

pub replay_script-requires-clause-sound : goal.replay_script-requires-clause-sound
replay_script-requires-clause-sound c κs = c.law_of_read_scripts.ensures.sound c.args.bytes.now true c.in_ok-script.script c.in_ok-script.ensures

pub replay_script-requires-clause-ordered : goal.replay_script-requires-clause-ordered
replay_script-requires-clause-ordered c κs = c.law_of_read_scripts.ensures.ordered c.args.bytes.now true c.in_ok-script.script refl c.in_ok-script.ensures

pub outputs_of_run-requires-clause-sound : goal.outputs_of_run-requires-clause-sound
outputs_of_run-requires-clause-sound c = c.law_of_read_scripts.ensures.sound c.args.bytes.now true c.in_ok-again.again c.in_ok-again.ensures

printable_of : (address : List ℕ → List ℕ) (epoch : ℤ) (script : Script) (answer : Replayed) (run : RunText) → answer ≡ replayed.Run run
    → ReplaysAs address epoch script answer → IsPrintable run
printable_of address epoch script answer run is replays = (subst (ReplaysAs address epoch script) is replays).printable

pub outputs_of_run-requires-clause-printable : goal.outputs_of_run-requires-clause-printable
outputs_of_run-requires-clause-printable c = printable_of _ _ _ _ _ c.in-Run.is c.in_ok-run.ensures.replays
