use Rattle.std.proofs.Common.{◌∙◌, ℤ, length, sym, subst, w64}
use Rattle.std.proofs.lemmas.Int.{to_z-of_z}
use Rattle.script_text.specs.Collisions.{AllTellTruly}
use Rattle.script_text.specs.Shown.{IsPrintable, IsShown}
use Rattle.script_text.specs.declared.outputs.RunText.{RunText}
use Rattle.plain_sessions.specs.Commands.{command}
use Rattle.plain_sessions.specs.Output.{IsPlainRun}
use Rattle.run_laws.specs.Orders.{IsTextOrder}
use Rattle.script_run.specs.Running.{IsRunningAt}
use Rattle.script_run.proofs.EndLemmas.{is_in_order, is_plain, is_printable, is_shown, is_truly, shown_is}
use Rattle.script_run.proofs.lines.run_script.Goals as goal

pub run_lines-requires-clause-opened : goal.run_lines-requires-clause-opened
run_lines-requires-clause-opened g c κs within = c.in_ok-running.ensures.opened

pub returns-clause-plain : goal.returns-clause-plain
returns-clause-plain g c =
    let ended = subst (λ (e : ℤ). IsRunningAt g.D.Digester.address e c.args.script (length c.args.script.lines) c.run_lines.new.running) (to_z-of_z w64 c.args.epoch c.ranges.epoch) c.run_lines.ensures in
    let shown = shown_is g.D.Digester.address c.args.epoch c.args.script c.run_lines.new.running ended c.in_ok-replies.replies c.from_vec.result c.in_ok-branches.branches
    c.in_ok-replies.ensures (c.from_vec.ensures ∙ c.in_ok-order.ensures.items ∙ c.moments.ensures) c.in_ok-branches.ensures in
    subst (λ (run : RunText). IsPlainRun command g.D.Digester.address c.args.epoch c.args.script run) (sym shown)
    (is_plain g.D.Digester.address c.args.epoch c.args.script c.run_lines.new.running ended c.law_of_lines.ensures)

pub returns-clause-truly : goal.returns-clause-truly
returns-clause-truly g c =
    let ended = subst (λ (e : ℤ). IsRunningAt g.D.Digester.address e c.args.script (length c.args.script.lines) c.run_lines.new.running) (to_z-of_z w64 c.args.epoch c.ranges.epoch) c.run_lines.ensures in
    let shown = shown_is g.D.Digester.address c.args.epoch c.args.script c.run_lines.new.running ended c.in_ok-replies.replies c.from_vec.result c.in_ok-branches.branches
    c.in_ok-replies.ensures (c.from_vec.ensures ∙ c.in_ok-order.ensures.items ∙ c.moments.ensures) c.in_ok-branches.ensures in
    subst (λ (run : RunText). AllTellTruly g.D.Digester.address run.replies) (sym shown)
    (is_truly g.D.Digester.address c.args.epoch c.args.script c.run_lines.new.running ended)

pub returns-clause-order : goal.returns-clause-order
returns-clause-order g c =
    let ended = subst (λ (e : ℤ). IsRunningAt g.D.Digester.address e c.args.script (length c.args.script.lines) c.run_lines.new.running) (to_z-of_z w64 c.args.epoch c.ranges.epoch) c.run_lines.ensures in
    let shown = shown_is g.D.Digester.address c.args.epoch c.args.script c.run_lines.new.running ended c.in_ok-replies.replies c.from_vec.result c.in_ok-branches.branches
    c.in_ok-replies.ensures (c.from_vec.ensures ∙ c.in_ok-order.ensures.items ∙ c.moments.ensures) c.in_ok-branches.ensures in
    subst (λ (run : RunText). IsTextOrder c.args.script run.order) (sym shown)
    (is_in_order g.D.Digester.address c.args.epoch c.args.script c.run_lines.new.running ended)

pub returns-clause-printable : goal.returns-clause-printable
returns-clause-printable g c =
    let ended = subst (λ (e : ℤ). IsRunningAt g.D.Digester.address e c.args.script (length c.args.script.lines) c.run_lines.new.running) (to_z-of_z w64 c.args.epoch c.ranges.epoch) c.run_lines.ensures in
    let shown = shown_is g.D.Digester.address c.args.epoch c.args.script c.run_lines.new.running ended c.in_ok-replies.replies c.from_vec.result c.in_ok-branches.branches
    c.in_ok-replies.ensures (c.from_vec.ensures ∙ c.in_ok-order.ensures.items ∙ c.moments.ensures) c.in_ok-branches.ensures in
    subst (λ (run : RunText). IsPrintable run) (sym shown) (is_printable g.D.Digester.address c.args.epoch c.args.script c.run_lines.new.running ended)

pub returns-clause-shown : goal.returns-clause-shown
returns-clause-shown g c =
    let ended = subst (λ (e : ℤ). IsRunningAt g.D.Digester.address e c.args.script (length c.args.script.lines) c.run_lines.new.running) (to_z-of_z w64 c.args.epoch c.ranges.epoch) c.run_lines.ensures in
    let shown = shown_is g.D.Digester.address c.args.epoch c.args.script c.run_lines.new.running ended c.in_ok-replies.replies c.from_vec.result c.in_ok-branches.branches
    c.in_ok-replies.ensures (c.from_vec.ensures ∙ c.in_ok-order.ensures.items ∙ c.moments.ensures) c.in_ok-branches.ensures in
    subst (λ (run : RunText). IsShown run) (sym shown) (is_shown g.D.Digester.address c.args.epoch c.args.script c.run_lines.new.running ended c.requires.sound)
