use Rattle.std.proofs.Common.{refl, subst}
use Rattle.chunk_store.specs.Drafts.{chunks_of}
use Rattle.plain_sessions.specs.Merging.{Forwarding, merge}
use Rattle.sql_procedures.specs.declared.requests.MergeRequest.TheVariants as merging
use Rattle.merge_procs.specs.Ways.{IsWay}
use Rattle.merge_procs.specs.declared.ways.Way.{Way}
use Rattle.merge_procs.proofs.StepLemmas.{stays}
use Rattle.merge_procs.proofs.courses.named_course.Goals as goal

pub returns-in-Refused-clause-course : goal.returns-in-Refused-clause-course
returns-in-Refused-clause-course g c = λ p t stands there.
    subst (λ (w : Way). IsWay g.D.Digester.address (chunks_of c.args.session.now.draft.chunks) t c.args.request.now w) c.in-Refused.is (c.in_ok-number.ensures p t stands there) p

pub returns-in_ok-answered-in-UpToDate-clause-course : goal.returns-in_ok-answered-in-UpToDate-clause-course
returns-in_ok-answered-in-UpToDate-clause-course g c = λ p t stands there.
    let address = g.D.Digester.address in
    let session = c.args.session.now in
    stays address session p t c.in_ok-answered-in-UpToDate.field-0 (merge p t (merging.Merge c.args.request.now)) stands there
    (subst (λ (w : Way). IsWay address (chunks_of session.draft.chunks) t c.args.request.now w) c.in-UpToDate.is (c.in_ok-number.ensures p t stands there) p)
    c.in_ok-answered-in-UpToDate.ensures

pub returns-in-Forward-clause-course : goal.returns-in-Forward-clause-course
returns-in-Forward-clause-course g c = λ p t stands there.
    let way = subst (λ (w : Way). IsWay g.D.Digester.address (chunks_of c.args.session.now.draft.chunks) t c.args.request.now w) c.in-Forward.is (c.in_ok-number.ensures p t stands there) in
    (Forwarding c.in-Forward.other.0, way.1 p, (refl, way.0))

pub merged-requires-after_bounds : goal.merged-requires-after_bounds
merged-requires-after_bounds g c κs within =
    let (p, t, stands, there) = c.requires in
    let way = subst (λ (w : Way). IsWay g.D.Digester.address (chunks_of c.args.session.now.draft.chunks) t c.args.request.now w) c.in-Merge.is (c.in_ok-number.ensures p t stands there) in
    (p, t, stands, there, way)

pub returns-in-Merge-clause-course : goal.returns-in-Merge-clause-course
returns-in-Merge-clause-course g c = λ p t stands there.
    c.merged.ensures.course p t stands there
    (subst (λ (w : Way). IsWay g.D.Digester.address (chunks_of c.args.session.now.draft.chunks) t c.args.request.now w) c.in-Merge.is (c.in_ok-number.ensures p t stands there))
