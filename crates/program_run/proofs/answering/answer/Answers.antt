use Rattle.std.proofs.Common.{◌∙◌, ap}
use Rattle.program_run.specs.Words.{is_given}
use Rattle.script_run.proofs.ScriptLemmas.{script_ordered, script_sound}
use Rattle.program_run.proofs.answering.answer.Goals as goal

pub answer_in_text_order-requires-clause-sound : goal.answer_in_text_order-requires-clause-sound
answer_in_text_order-requires-clause-sound g c κs within = script_sound c.args.bytes.now c.is_given.result c.in_ok-script.script c.in_ok-script.ensures

pub answer_in_given_order-requires-clause-sound : goal.answer_in_given_order-requires-clause-sound
answer_in_given_order-requires-clause-sound g c κs within = script_sound c.args.bytes.now c.is_given.result c.in_ok-script.script c.in_ok-script.ensures

pub answer_in_given_order-requires-clause-ordered : goal.answer_in_given_order-requires-clause-ordered
answer_in_given_order-requires-clause-ordered g c κs within =
    script_ordered c.args.bytes.now c.is_given.result c.in_ok-script.script (c.is_given.ensures ∙ ap is_given c.in-Given.is) c.in_ok-script.ensures

pub answer_in_threads-requires-clause-sound : goal.answer_in_threads-requires-clause-sound
answer_in_threads-requires-clause-sound g c κs within = script_sound c.args.bytes.now c.is_given.result c.in_ok-script.script c.in_ok-script.ensures
