use Rattle.plain_machine.proofs.answering.answer_bytes.Goals as goal

pub answer_script-requires-clause-sound : goal.answer_script-requires-clause-sound
answer_script-requires-clause-sound c = c.law_of_read_scripts.ensures.sound c.args.bytes.now c.is_given.result c.in-Ok.script c.in-Ok.ensures
