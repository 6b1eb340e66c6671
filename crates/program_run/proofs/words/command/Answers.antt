use Rattle.std.proofs.Common.{rules, ap, ap₂, codes, true, ◌≡◌, ◌∙◌}
use Rattle.std.proofs.lemmas.Result.{IfOk-weaker}
use Rattle.clap.specs.Words.{App, app_of, new_app, rule_of, with_rule}
use Rattle.clap.specs.Simple.{app_of_fields, on_top}
use Rattle.program_run.specs.Words.{mode_rule, option_rule}
use Rattle.program_run.proofs.words.command.Goals as goal

without_name : App → App
without_name = on_top (λ s. record s { no_binary_name = true })

without_help : App → App
without_help = on_top (λ s. record s { disable_help_flag = true })

without_version : App → App
without_version = on_top (λ s. record s { disable_version_flag = true })

pub returns : goal.returns
unfolding without_name without_help without_version
returns c =
    let mode_is : rule_of c.required-mode.result ≡ mode_rule = search rules in
    let epoch_is : rule_of c.long-epoch.result ≡ option_rule (codes "epoch") = search rules in
    let seed_is : rule_of c.long-seed.result ≡ option_rule (codes "seed") = search rules in
    let named : app_of c.no_binary_name.result ≡ without_name (new_app (codes "doltrun"))
    = ap app_of_fields c.no_binary_name.ensures ∙ ap without_name c.new-4.ensures.app in
    let helpless : app_of c.disable_help_flag.result ≡ without_help (without_name (new_app (codes "doltrun")))
    = ap app_of_fields c.disable_help_flag.ensures ∙ ap without_help named in
    let empty : app_of c.disable_version_flag.result ≡ without_version (without_help (without_name (new_app (codes "doltrun"))))
    = ap app_of_fields c.disable_version_flag.ensures ∙ ap without_version helpless in
    let one = c.in_ok-arg.ensures.shape (search rules) ∙ ap₂ with_rule empty mode_is in
    let two = c.in_ok-arg-2.ensures.shape (search rules) ∙ ap₂ with_rule one epoch_is in
    IfOk-weaker c.arg-3.result _ _ (λ r h. h.shape (search rules) ∙ ap₂ with_rule two seed_is) c.arg-3.ensures
