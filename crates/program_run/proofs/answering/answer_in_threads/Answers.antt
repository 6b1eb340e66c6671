use Rattle.std.proofs.Common.{ℤ, refl, subst, w64}
use Rattle.std.proofs.lemmas.Int.{to_z-of_z}
use Rattle.std.proofs.lemmas.Result.{err_from_is_err_and}
use Rattle.shared_db.specs.Opening.{IsOpeningFault}
use Rattle.plain_sessions.specs.Commands.{command}
use Rattle.plain_sessions.specs.Output.{IsPlainRun}
use Rattle.program_run.specs.declared.words.MomentOrder.TheVariants.{OfThreads}
use Rattle.program_run.proofs.AnswerLemmas.{alone_by, comes_put}
use Rattle.program_run.proofs.answering.answer_in_threads.Goals as goal

pub returns-in_err-run : goal.returns-in_err-run
returns-in_err-run g c =
    let p = err_from_is_err_and c.from_residual.result c.from_residual.ensures.1 in
    let opens = subst (λ (date : ℤ). IsOpeningFault g.D.Digester.address date c.in_err-run.field-0.0) (to_z-of_z w64 c.args.epoch c.ranges.epoch) c.in_err-run.ensures.fault in
    rw (p.1, p.2) (comes_put g.D.Digester.address (record { order = OfThreads; epoch = c.args.epoch }) c.args.script c.in_err-run.field-0.0 opens)

pub returns : goal.returns
returns g c = record {
  script = c.args.script;
  run = c.in_ok-run.run';
  reads = refl;
  runs = subst (λ (date : ℤ). IsPlainRun command g.D.Digester.address date c.args.script c.in_ok-run.run') (to_z-of_z w64 c.args.epoch c.ranges.epoch) c.in_ok-run.ensures.plain;
  truly = c.in_ok-run.ensures.truly;
  ordered = tt;
  shown = c.in_ok-run.ensures.shown;
  prints = c.in_ok-print_output.ensures;
  alone = λ other shown same. alone_by c.one_reading.ensures c.in_ok-run.run' other c.in_ok-print_output.field-0 c.in_ok-run.ensures.shown c.in_ok-print_output.ensures shown same;
}
