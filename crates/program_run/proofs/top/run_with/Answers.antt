use Rattle.std.proofs.Common.{◌∙◌, sym}
use Rattle.program_run.specs.Words.{spelled, task_asked}
use Rattle.program_run.proofs.EndingLemmas.{without_memory}
use Rattle.program_run.proofs.EpochLemmas.{asked_dated}
use Rattle.program_run.proofs.top.run_with.Goals as goal

pub run_task-requires-after_bounds : goal.run_task-requires-after_bounds
run_task-requires-after_bounds g c κs within = asked_dated (spelled c.args.words.now) c.in-Ok-Some.task (sym c.in-Ok-Some.field-0-is ∙ c.in-Ok-Some.ensures)

pub returns-in-Err : goal.returns-in-Err
returns-in-Err g c = without_memory (task_asked (spelled c.args.words.now)) g.D.Digester.address _ _ c.args.input.now c.args.output.now
