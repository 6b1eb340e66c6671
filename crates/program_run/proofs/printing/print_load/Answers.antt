use Rattle.std.proofs.Common.{◌∙◌, ◌++◌, ap, List, ℕ}
use Rattle.script_text.specs.Output.{newline}
use Rattle.script_text.specs.declared.replies.Reply.{Reply}
use Rattle.script_text.specs.declared.outputs.BranchLine.{BranchLine}
use Rattle.program_run.specs.Loading.{number_lines, refusals_in, trouble_of, working_in}
use Rattle.program_run.proofs.TextLemmas.{behind}
use Rattle.program_run.proofs.printing.print_load.Goals as goal

pub returns : goal.returns
returns c =
    let load = c.args.load.now in
    let told = c.in_ok-refusals.refusals in
    let lines = c.as_slice-2.result.now in
    let refusals = c.in_ok-refusals.ensures ∙ ap (λ (replies : List (List Reply)). refusals_in replies) c.as_slice.ensures in
    let working = ap (λ (there : List BranchLine). working_in there) c.as_slice-2.ensures in
    c.from_vec.ensures
    ∙ behind _ _ ((number_lines load.seed told load.rows ++ working_in lines) ++ newline) (trouble_of told load.run) _
    (behind _ _ (number_lines load.seed told load.rows ++ working_in lines) newline _
    (behind _ _ (number_lines load.seed told load.rows) (working_in lines) _ c.in_ok-push_numbers.ensures c.in_ok-push_working.ensures) c.in_ok-extend_from_slice.ensures.items)
    c.in_ok-push_if_trouble.ensures
    ∙ ap (λ (before : List ℕ). before ++ (((number_lines load.seed told load.rows ++ working_in lines) ++ newline) ++ trouble_of told load.run)) c.new-out.ensures.items
    ∙ (λ i. ((number_lines load.seed (refusals i) load.rows ++ working i) ++ newline) ++ trouble_of (refusals i) load.run)
