use Rattle.std.proofs.Common.{false}
use Rattle.example_outputs.proofs.running.outputs_in_text_order.Goals as goal

pub run_script-requires-clause-sound : goal.run_script-requires-clause-sound
run_script-requires-clause-sound c κs = c.law_of_read_scripts.ensures.sound c.args.bytes.now false c.in_ok-script.script c.in_ok-script.ensures

pub outputs_of_run-requires-clause-sound : goal.outputs_of_run-requires-clause-sound
outputs_of_run-requires-clause-sound c = c.law_of_read_scripts.ensures.sound c.args.bytes.now false c.in_ok-again.again c.in_ok-again.ensures

pub outputs_of_run-requires-clause-printable : goal.outputs_of_run-requires-clause-printable
outputs_of_run-requires-clause-printable c = c.in_ok-run.ensures.printable
