use Rattle.std.proofs.Common.{◌∙◌}
use Rattle.std.proofs.lemmas.Result.{IfErr-weaker}
use Rattle.chunk_store.specs.Clashes.{IsReason}
use Rattle.chunk_store.specs.Drafts.{chunks_of}
use Rattle.plain_sessions.specs.Statements.{worked}
use Rattle.plain_sessions.specs.declared.commands.Work.TheVariants as work
use Rattle.script_text.specs.Collisions.{IsFault}
use Rattle.merge_procs.specs.Courses.{IsReasonOver}
use Rattle.merge_procs.proofs.BackLemmas.{course_back, grown_stands, same_but, still_grows, undone, with_draft}
use Rattle.merge_procs.proofs.ClosingLemmas.{fails_truly}
use Rattle.merge_procs.proofs.courses.merge_course.Goals as goal

pub returns-clause-course : goal.returns-clause-course
returns-clause-course g c = λ p t stands there.
    course_back g.D.Digester.address c.find_course-course.new.session.draft c.go_back.new.draft c.mark-mark.result.own c.keeps_put.result t.commits (worked p t (work.Merge c.args.request.now))
    c.find_course-course.result c.go_back.ensures c.keeps_put.ensures (c.find_course-course.ensures.course p t stands there)

pub returns-clause-stands : goal.returns-clause-stands
returns-clause-stands g c = λ p stands.
    let laws = c.laws.ensures in
    grown_stands g.D.Digester.address c.args.session.now (with_draft c.find_course-course.new.session c.go_back.new.draft) p laws.chunks laws.drafts laws.growth laws.records laws.transactions
    (same_but c.args.session.now c.find_course-course.new.session c.go_back.new.draft c.find_course-course.ensures.same)
    (still_grows laws.drafts laws.growth c.args.session.now.draft c.find_course-course.new.session.draft c.go_back.new.draft c.mark-mark.result.own c.keeps_put.result c.mark-mark.ensures.own
    c.find_course-course.ensures.grows c.go_back.ensures)
    stands

pub returns-clause-same : goal.returns-clause-same
returns-clause-same g c = same_but c.args.session.now c.find_course-course.new.session c.go_back.new.draft c.find_course-course.ensures.same

pub returns-clause-grows : goal.returns-clause-grows
returns-clause-grows g c =
    let laws = c.laws.ensures in
    still_grows laws.drafts laws.growth c.args.session.now.draft c.find_course-course.new.session.draft c.go_back.new.draft c.mark-mark.result.own c.keeps_put.result c.mark-mark.ensures.own
    c.find_course-course.ensures.grows c.go_back.ensures

pub returns-clause-back : goal.returns-clause-back
returns-clause-back g c = λ none.
    let laws = c.laws.ensures in
    undone laws.drafts laws.growth c.args.session.now.draft c.find_course-course.new.session.draft c.go_back.new.draft c.mark-mark.result.own c.keeps_put.result c.mark-mark.ensures.own
    c.find_course-course.ensures.grows c.go_back.ensures (c.keeps_put.ensures ∙ none)

pub returns-clause-cause : goal.returns-clause-cause
returns-clause-cause g c =
    IfErr-weaker c.find_course-course.result (IsReason g.D.Digester.address (chunks_of c.find_course-course.new.session.draft.chunks)) (IsReasonOver g.D.Digester.address c.args.session.now.draft)
    (λ fault reason. record { then_held = c.find_course-course.new.session.draft; grown = c.find_course-course.ensures.grows; reason = reason }) c.find_course-course.ensures.cause

pub returns-clause-fault : goal.returns-clause-fault
returns-clause-fault g c =
    let laws = c.laws.ensures in
    let (p, t, stands, there) = c.requires.stands in
    IfErr-weaker c.find_course-course.result (IsReason g.D.Digester.address (chunks_of c.find_course-course.new.session.draft.chunks)) (IsFault g.D.Digester.address)
    (λ fault reason. fails_truly g.D.Digester.address c.args.session.now.draft c.find_course-course.new.session.draft fault laws.chunks laws.drafts laws.growth stands.named c.tell.ensures
    c.find_course-course.ensures.grows reason)
    c.find_course-course.ensures.cause

pub returns-clause-pages : goal.returns-clause-pages
returns-clause-pages g c =
    let laws = c.laws.ensures in
    (still_grows laws.drafts laws.growth c.args.session.now.draft c.find_course-course.new.session.draft c.go_back.new.draft c.mark-mark.result.own c.keeps_put.result c.mark-mark.ensures.own
    c.find_course-course.ensures.grows c.go_back.ensures).pages
