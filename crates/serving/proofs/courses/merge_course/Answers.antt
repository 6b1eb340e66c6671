use Rattle.std.proofs.Common.{subst}
use Rattle.chunk_store.specs.Drafts.{chunks_of}
use Rattle.plain_sessions.specs.Statements.{worked}
use Rattle.plain_sessions.specs.declared.commands.Work.TheVariants as work
use Rattle.merge_procs.specs.Courses.{IsMergeCourse, IsShortCourse}
use Rattle.merge_procs.specs.declared.courses.MergeCourse.{MergeCourse}
use Rattle.serving.proofs.courses.merge_course.Goals as goal

pub returns-in-Closes-clause-course : goal.returns-in-Closes-clause-course
returns-in-Closes-clause-course g c = λ p t stands transaction.
    let so = subst (λ (led : MergeCourse). IsMergeCourse g.D.Digester.address (chunks_of c.merge_course.new.session.draft.chunks) t.commits led (worked p t (work.Merge c.args.request.now))) c.in-Closes.is
    (c.in_ok-closing.ensures.course p t stands transaction) in
    (so.0, so.1, (so.2, subst IsShortCourse c.in-Closes.is (c.in_ok-closing.ensures.short c.requires.fit)))
