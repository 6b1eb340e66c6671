use Rattle.std.proofs.Common.{subst, sym}
use Rattle.std.specs.Prelude.{IfOk}
use Rattle.chunk_store.specs.Drafts.{chunks_of}
use Rattle.plain_sessions.specs.Statements.{worked}
use Rattle.plain_sessions.specs.declared.commands.Work.TheVariants as work
use Rattle.sql_procedures.specs.declared.requests.MergeRequest.{MergeRequest}
use Rattle.merge_procs.specs.Courses.{IsMergeCourse}
use Rattle.merge_procs.specs.Steps.{IsStep}
use Rattle.merge_procs.proofs.courses.find_course.Goals as goal

pub returns-in_ok-aborted-in-Abort-clause-course : goal.returns-in_ok-aborted-in-Abort-clause-course
unfolding worked
returns-in_ok-aborted-in-Abort-clause-course g c = λ p t stands there.
    subst (λ (r : MergeRequest). IsStep g.D.Digester.address (chunks_of c.args.session.now.draft.chunks) t.commits c.in_ok-aborted-in-Abort.field-0 (worked p t (work.Merge r))) (sym c.in-Abort.is)
    (c.in_ok-aborted-in-Abort.ensures p t stands there)

pub returns-in-Merge-clause-course : goal.returns-in-Merge-clause-course
unfolding worked
returns-in-Merge-clause-course g c = λ p t stands there.
    subst (λ (r : MergeRequest). IfOk c.named_course.result (λ found. IsMergeCourse g.D.Digester.address (chunks_of c.named_course.new.session.draft.chunks) t.commits found (worked p t (work.Merge r))))
    (sym c.in-Merge.is) (c.named_course.ensures.course p t stands there)
