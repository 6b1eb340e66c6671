use Rattle.std.proofs.Common.{◌∙◌, ap, find, is_some, sym, List}
use Rattle.script_text.specs.declared.outputs.BranchLine.{BranchLine}
use Rattle.program_run.specs.Loading.{is_main}
use Rattle.program_run.proofs.CountLemmas.{some_same}
use Rattle.program_run.proofs.counting.is_main_there.Goals as goal

pub returns : goal.returns
returns c =
    c.is_some.ensures ∙ sym (some_same _ c.main_in.result) ∙ ap is_some c.main_in.ensures
    ∙ ap (λ (lines : List BranchLine). is_some (find is_main lines)) (c.as_slice.ensures ∙ c.in_ok-lines.ensures)
