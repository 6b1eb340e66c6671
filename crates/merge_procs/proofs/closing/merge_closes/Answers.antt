use Rattle.std.proofs.Common.{◌≤◌, ◌∙◌, subst, sym}
use Rattle.chunk_store.specs.Drafts.{chunks_of, pages_in}
use Rattle.plain_sessions.specs.Statements.{worked}
use Rattle.plain_sessions.specs.declared.commands.Work.TheVariants as work
use Rattle.merge_procs.proofs.BackLemmas.{same_but}
use Rattle.merge_procs.proofs.ClosingLemmas.{comes_back, course_told, fails_truly}
use Rattle.merge_procs.proofs.closing.merge_closes.Goals as goal

pub returns-in-Ok-clause-closes : goal.returns-in-Ok-clause-closes
returns-in-Ok-clause-closes g c = λ p t stands there.
    c.is_decided.ensures ∙ course_told g.D.Digester.address (chunks_of c.find_course-course.new.session.draft.chunks) t.commits c.in-Ok.course (worked p t (work.Merge c.args.request.now))
    (c.in-Ok.ensures.course p t stands there)

pub returns-in-Ok-clause-same : goal.returns-in-Ok-clause-same
returns-in-Ok-clause-same g c = record {
  same = same_but c.args.session.now c.find_course-course.new.session c.back_to.new.self c.find_course-course.ensures.same;
  chunks = comes_back c.args.session.now.draft c.find_course-course.new.session.draft c.back_to.new.self c.mark-mark.result.own c.laws.ensures.drafts c.laws.ensures.growth c.mark-mark.ensures.own
      c.find_course-course.ensures.grows c.back_to.ensures.chunks;
  segments = c.back_to.ensures.segments ∙ c.find_course-course.ensures.grows.segments;
}

pub returns-in-Err-clause-same : goal.returns-in-Err-clause-same
returns-in-Err-clause-same g c = record {
  same = same_but c.args.session.now c.find_course-course.new.session c.back_to.new.self c.find_course-course.ensures.same;
  chunks = comes_back c.args.session.now.draft c.find_course-course.new.session.draft c.back_to.new.self c.mark-mark.result.own c.laws.ensures.drafts c.laws.ensures.growth c.mark-mark.ensures.own
      c.find_course-course.ensures.grows c.back_to.ensures.chunks;
  segments = c.back_to.ensures.segments ∙ c.find_course-course.ensures.grows.segments;
}

pub returns-in-Err-clause-fault : goal.returns-in-Err-clause-fault
returns-in-Err-clause-fault g c =
    let (p, t, stands, there) = c.requires in
    fails_truly g.D.Digester.address c.args.session.now.draft c.find_course-course.new.session.draft c.in-Err.fault c.laws.ensures.chunks c.laws.ensures.drafts c.laws.ensures.growth stands.named
    c.tell.ensures c.in-Err.ensures.grows c.in-Err.ensures.cause

pub returns-in-Ok-clause-pages : goal.returns-in-Ok-clause-pages
returns-in-Ok-clause-pages g c = subst (λ n. pages_in c.args.session.now.draft ≤ n) (sym c.back_to.ensures.pages) c.find_course-course.ensures.grows.pages

pub returns-in-Err-clause-pages : goal.returns-in-Err-clause-pages
returns-in-Err-clause-pages g c = subst (λ n. pages_in c.args.session.now.draft ≤ n) (sym c.back_to.ensures.pages) c.find_course-course.ensures.grows.pages
