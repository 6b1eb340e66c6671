use Rattle.std.proofs.Common.{List, of_z, subst, sym, to_z, w64}
use Rattle.std.proofs.lemmas.Int.{to_z-of_z}
use Rattle.chunk_store.specs.Digests.{cut_address}
use Rattle.script_text.specs.Collisions.{AllTellTruly, IsFault}
use Rattle.script_text.specs.declared.replies.Reply.{Reply}
use Rattle.plain_run.proofs.PlainLemmas.{same_fault, truly_run, truly_stop, went_run, went_stop}
use Rattle.plain_run.proofs.following.plain_output_in_given_order.Goals as goal

pub returns-in_err-find_shortage-in-Run-clause-fault : goal.returns-in_err-find_shortage-in-Run-clause-fault
returns-in_err-find_shortage-in-Run-clause-fault c =
    let truly = truly_run cut_address (to_z w64 (of_z w64 c.args.epoch)) c.args.script c.in_ok-run.field-0 c.in-Run.run' c.in_ok-run.ensures.replays c.in-Run.is in
    same_fault (IsFault cut_address) c.from_residual-in_err-find_shortage-in-Run.result c.in_err-find_shortage-in-Run.field-0.0
    (c.in_err-find_shortage-in-Run.ensures.fault cut_address (subst (λ (lists : List (List Reply)). AllTellTruly cut_address lists) (sym c.as_slice.ensures) truly))
    c.from_residual-in_err-find_shortage-in-Run.ensures

pub returns-in_err-find_shortage-in-Stop-clause-fault : goal.returns-in_err-find_shortage-in-Stop-clause-fault
returns-in_err-find_shortage-in-Stop-clause-fault c =
    let truly = truly_stop cut_address (to_z w64 (of_z w64 c.args.epoch)) c.args.script c.in_ok-run.field-0 c.in-Stop.stop c.in_ok-run.ensures.replays c.in-Stop.is in
    same_fault (IsFault cut_address) c.from_residual-in_err-find_shortage-in-Stop.result c.in_err-find_shortage-in-Stop.field-0.0
    (c.in_err-find_shortage-in-Stop.ensures.fault cut_address (subst (λ (lists : List (List Reply)). AllTellTruly cut_address lists) (sym c.as_slice-in-Stop.ensures) truly))
    c.from_residual-in_err-find_shortage-in-Stop.ensures

pub returns-in_ok-print_output-in-Run-clause-follows : goal.returns-in_ok-print_output-in-Run-clause-follows
returns-in_ok-print_output-in-Run-clause-follows c =
    went_run cut_address c.args.epoch (to_z w64 (of_z w64 c.args.epoch)) c.args.script c.as_slice.result.now (to_z-of_z w64 c.args.epoch c.ranges.epoch)
    c.in_ok-find_shortage-in-Run.ensures.none c.in_ok-run.field-0 c.in_ok-run.ensures.replays c.in-Run.run' c.in_ok-print_output-in-Run.field-0 c.in-Run.is
    c.as_slice.ensures c.in_ok-print_output-in-Run.ensures

pub returns-in_ok-print_stop-in-Stop-clause-follows : goal.returns-in_ok-print_stop-in-Stop-clause-follows
returns-in_ok-print_stop-in-Stop-clause-follows c =
    went_stop cut_address c.args.epoch (to_z w64 (of_z w64 c.args.epoch)) c.args.script c.as_slice-in-Stop.result.now (to_z-of_z w64 c.args.epoch c.ranges.epoch)
    c.in_ok-find_shortage-in-Stop.ensures.none c.in_ok-run.field-0 c.in_ok-run.ensures.replays c.in-Stop.stop c.in_ok-print_stop-in-Stop.field-0 c.in-Stop.is
    c.as_slice-in-Stop.ensures c.in_ok-print_stop-in-Stop.ensures
