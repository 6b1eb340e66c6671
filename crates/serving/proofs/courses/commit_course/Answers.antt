use Rattle.std.proofs.Common.{◌≡◌, None, Option, ℕ, subst}
use Rattle.chunk_store.specs.Drafts.{chunks_of}
use Rattle.plain_sessions.specs.Statements.{worked}
use Rattle.plain_sessions.specs.declared.commands.Work.TheVariants as work
use Rattle.branch_procs.specs.Closing.{IsVerdict}
use Rattle.serving.proofs.ClosingLemmas.{course_closes}
use Rattle.serving.proofs.courses.commit_course.Goals as goal

pub returns-in-None-clause-course : goal.returns-in-None-clause-course
returns-in-None-clause-course g c = λ p t stands transaction.
    course_closes g.D.Digester.address (chunks_of c.args.session.now.draft.chunks) t.commits c.args.request.now (worked p t (work.Commit c.args.request.now))
    (subst (λ (found : Option ℕ). IsVerdict found (worked p t (work.Commit c.args.request.now))) c.in-None.is (c.in_ok-commit_closes.ensures.verdict p t stands transaction))
