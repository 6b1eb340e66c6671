use Rattle.std.proofs.Common.{subst}
use Rattle.chunk_store.specs.Drafts.{chunks_of}
use Rattle.plain_sessions.specs.Statements.{worked}
use Rattle.plain_sessions.specs.declared.commands.Work.TheVariants as work
use Rattle.merge_procs.specs.Courses.{IsMergeCourse}
use Rattle.merge_procs.specs.declared.courses.MergeCourse.{MergeCourse}
use Rattle.merge_procs.proofs.local.merged.Goals as goal

pub returns-in-Stays-clause-is : goal.returns-in-Stays-clause-is
returns-in-Stays-clause-is g c = λ p t stands there.
    subst (λ (found : MergeCourse). IsMergeCourse g.D.Digester.address (chunks_of c.find_course.new.session.draft.chunks) t.commits found (worked p t (work.Merge c.args.request.now))) c.in-Stays.is
    (c.in_ok-step.ensures.course p t stands there)
