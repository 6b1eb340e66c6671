use Rattle.std.proofs.Common.{ℤ, of_z, subst, to_z, w64}
use Rattle.std.proofs.lemmas.Int.{to_z-of_z}
use Rattle.std.proofs.lemmas.Result.{err_from_is_err_and}
use Rattle.shared_db.specs.Opening.{IsOpeningFault}
use Rattle.program_run.specs.declared.words.MomentOrder.TheVariants.{Given}
use Rattle.program_run.proofs.AnswerLemmas.{comes_put, run_comes, stop_comes}
use Rattle.program_run.proofs.answering.answer_in_given_order.Goals as goal

pub returns-in_err-run : goal.returns-in_err-run
returns-in_err-run g c =
    let p = err_from_is_err_and c.from_residual.result c.from_residual.ensures.1 in
    let opens = subst (λ (date : ℤ). IsOpeningFault g.D.Digester.address date c.in_err-run.field-0.0) (to_z-of_z w64 c.args.epoch c.ranges.epoch) c.in_err-run.ensures.fault in
    rw (p.1, p.2) (comes_put g.D.Digester.address (record { order = Given; epoch = c.args.epoch }) c.args.script c.in_err-run.field-0.0 opens)

pub returns-in_ok-print_output-in-Run : goal.returns-in_ok-print_output-in-Run
returns-in_ok-print_output-in-Run g c =
    run_comes g.D.Digester.address c.args.epoch (to_z w64 (of_z w64 c.args.epoch)) c.args.script _ _ _ c.one_reading.ensures (to_z-of_z w64 c.args.epoch c.ranges.epoch)
    c.in-Run.is c.in_ok-run.ensures.replays c.in_ok-print_output-in-Run.ensures

pub returns-in_ok-print_stop-in-Stop : goal.returns-in_ok-print_stop-in-Stop
returns-in_ok-print_stop-in-Stop g c =
    stop_comes g.D.Digester.address c.args.epoch (to_z w64 (of_z w64 c.args.epoch)) c.args.script _ _ _ c.one_stop.ensures (to_z-of_z w64 c.args.epoch c.ranges.epoch)
    c.in-Stop.is c.in_ok-run.ensures.replays c.in_ok-print_stop-in-Stop.ensures
