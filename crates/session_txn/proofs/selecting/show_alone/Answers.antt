use Rattle.std.proofs.Common.{Err, Ok, [], subst}
use Rattle.plain_sql.specs.Gives.{Gives}
use Rattle.plain_sql.specs.Plans.{answer}
use Rattle.plain_sql.specs.declared.faults.Refused as faults
use Rattle.script_text.specs.declared.replies.Reply.TheVariants.{Refused}
use Rattle.tuple_codec.specs.declared.answers.Answer.{Answer}
use Rattle.session_plan.specs.Showing.{IsDue}
use Rattle.session_txn.proofs.SelectLemmas.{shows_alone}
use Rattle.session_txn.proofs.selecting.show_alone.Goals as goal

pub returns-in-Ok-clause-due : goal.returns-in-Ok-clause-due
returns-in-Ok-clause-due c = shows_alone c.args.select.now (Ok c.in-Ok.answer) c.due.result c.in-Ok.ensures c.due.ensures.due

pub returns-in-Err-By-clause-due : goal.returns-in-Err-By-clause-due
returns-in-Err-By-clause-due c =
    shows_alone c.args.select.now (Err c.in-Err-By.number) c.due-in-Err-By.result
    (subst (λ (f : faults.Refused). Gives {A = Answer} (Err f) (answer [] c.args.select.now)) c.in-Err-By.field-0-is c.in-Err-By.ensures)
    (subst (λ n. IsDue 1 (Refused n) c.due-in-Err-By.result) c.in-Err-By.number-is c.due-in-Err-By.ensures.due)
