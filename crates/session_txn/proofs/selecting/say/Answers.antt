use Rattle.std.proofs.Common.{◌∙◌, ap, sym}
use Rattle.sql_ast.specs.declared.selects.Select.TheVariants as select
use Rattle.plain_sessions.specs.Statements.{select_with_values}
use Rattle.session_txn.proofs.SelectLemmas.{says_due}
use Rattle.session_txn.proofs.selecting.say.Goals as goal

pub returns-in-From-clause-due : goal.returns-in-From-clause-due
returns-in-From-clause-due g c = λ p stands.
    says_due p c.args.select.now c.args.select.now c.show_alone.result (c.in-From.is ∙ sym (ap (select_with_values p) c.in-From.is)) c.show_alone.ensures.due

pub returns-in-Ok-clause-due : goal.returns-in-Ok-clause-due
returns-in-Ok-clause-due g c = λ p stands.
    says_due p c.args.select.now c.get.result.now c.show_alone-in-Ok.result
    (c.get.ensures ∙ c.in-Ok.ensures p stands ∙ ap (select_with_values p) (ap select.Alone c.as_slice.ensures ∙ sym c.in-Alone.is)) c.show_alone-in-Ok.ensures.due
