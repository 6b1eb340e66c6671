use Rattle.std.proofs.Common.{List, of_z, subst, sym, to_z, w64}
use Rattle.std.proofs.lemmas.Int.{to_z-of_z}
use Rattle.chunk_store.specs.Digests.{cut_address}
use Rattle.script_text.specs.Collisions.{AllTellTruly, IsFault}
use Rattle.script_text.specs.declared.replies.Reply.{Reply}
use Rattle.plain_run.proofs.PlainLemmas.{same_fault, went_by_lines}
use Rattle.plain_run.proofs.lines.plain_output_in_text_order.Goals as goal

pub returns-in_err-find_shortage-clause-fault : goal.returns-in_err-find_shortage-clause-fault
returns-in_err-find_shortage-clause-fault c =
    same_fault (IsFault cut_address) c.from_residual-in_err-find_shortage.result c.in_err-find_shortage.field-0.0
    (c.in_err-find_shortage.ensures.fault cut_address (subst (λ (lists : List (List Reply)). AllTellTruly cut_address lists) (sym c.as_slice.ensures) c.in_ok-run.ensures.truly))
    c.from_residual-in_err-find_shortage.ensures

pub returns-clause-told : goal.returns-clause-told
returns-clause-told c =
    went_by_lines cut_address c.args.epoch (to_z w64 (of_z w64 c.args.epoch)) c.args.script c.as_slice.result.now (to_z-of_z w64 c.args.epoch c.ranges.epoch)
    c.in_ok-find_shortage.ensures.none c.in_ok-run.run' c.in_ok-print_output.field-0 c.in_ok-run.ensures.plain c.in_ok-run.ensures.order c.as_slice.ensures c.in_ok-print_output.ensures
