use Rattle.std.proofs.Common.{Err, Ok, inr, refl, subst}
use Rattle.chunk_store.specs.Drafts.{chunks_of}
use Rattle.script_text.specs.declared.replies.Reply.TheVariants.{Refused, Rows}
use Rattle.plain_sql.specs.Plans.{answer}
use Rattle.sql_select.specs.Gives.{Answers}
use Rattle.sql_select.specs.Sources.{known}
use Rattle.sql_select.specs.declared.faults.AskFault.{AskFault}
use Rattle.tuple_codec.specs.declared.answers.Answer.{Answer}
use Rattle.session_plan.specs.Showing.{IsDue}
use Rattle.session_txn.proofs.SelectLemmas.{kept_reads, shows_due}
use Rattle.session_plan.proofs.ShowLemmas.{due_truly}
use Rattle.session_txn.proofs.selecting.show.Goals as goal

pub returns-in-Ok-clause-due : goal.returns-in-Ok-clause-due
returns-in-Ok-clause-due g c = λ t stands same.
    shows_due c.law_of_reading.ensures t c.args.select.now c.args.system (Ok c.in-Ok.answer) c.due.result same
    (c.in-Ok.ensures t.own.working (kept_reads g.D.Digester.address (chunks_of c.args.draft.now.chunks) c.args.database.now.0 t.own.working stands)) c.due.ensures.due

pub returns-in-Ok-clause-truly : goal.returns-in-Ok-clause-truly
returns-in-Ok-clause-truly g c = due_truly g.D.Digester.address 1 (Rows c.in-Ok.answer) c.due.result c.due.ensures.due

pub returns-in-Err-Refused-clause-due : goal.returns-in-Err-Refused-clause-due
returns-in-Err-Refused-clause-due g c = λ t stands same.
    shows_due c.law_of_reading.ensures t c.args.select.now c.args.system (Err c.in-Err-Refused.number) c.due-in-Err-Refused.result same
    (subst (λ (f : AskFault). Answers {A = Answer} (Err f) (answer (known t.own.working c.args.system) c.args.select.now)) c.in-Err-Refused.field-0-is
    (c.in-Err-Refused.ensures t.own.working (kept_reads g.D.Digester.address (chunks_of c.args.draft.now.chunks) c.args.database.now.0 t.own.working stands)))
    (subst (λ n. IsDue 1 (Refused n) c.due-in-Err-Refused.result) c.in-Err-Refused.number-is c.due-in-Err-Refused.ensures.due)

pub returns-in-Err-Refused-clause-truly : goal.returns-in-Err-Refused-clause-truly
returns-in-Err-Refused-clause-truly g c =
    due_truly g.D.Digester.address 1 (Refused c.in-Err-Refused.number) c.due-in-Err-Refused.result
    (subst (λ n. IsDue 1 (Refused n) c.due-in-Err-Refused.result) c.in-Err-Refused.number-is c.due-in-Err-Refused.ensures.due)

pub returns-clause-due : goal.returns-clause-due
returns-clause-due g c = λ t stands same. inr refl
