use Rattle.chunk_store.specs.Drafts.{chunks_of}
use Rattle.merge_procs.proofs.JudgeLemmas.{before_at, made_so, many_so, violated_so}
use Rattle.merge_procs.proofs.resolving.judged.Goals as goal

pub first_violation-requires-clause-old : goal.first_violation-requires-clause-old
first_violation-requires-clause-old g c κs within =
    let (commits, request, state, after, can) = c.requires in
    (state.working, before_at g.D.Digester.address (chunks_of c.args.draft.now.chunks) commits c.args.own.now c.args.made.now c.args.root request state after can)

pub first_violation-requires-clause-new : goal.first_violation-requires-clause-new
first_violation-requires-clause-new g c κs within =
    let (commits, request, state, after, can) = c.requires in (after, can.at)

pub have_too_many-requires-after_bounds : goal.have_too_many-requires-after_bounds
have_too_many-requires-after_bounds g c κs within =
    let (commits, request, state, after, can) = c.requires in (after, can.there)

pub returns-in-Some : goal.returns-in-Some
returns-in-Some g c = λ commits request state after can.
    let address = g.D.Digester.address in
    let chunks = chunks_of c.args.draft.now.chunks in
    let told = c.in_ok-violated.ensures state.working after (before_at address chunks commits c.args.own.now c.args.made.now c.args.root request state after can) can.at in
    violated_so address chunks commits c.args.own.now c.args.made.now c.args.root request state after can c.in_ok-violated.violated c.in-Some.number told c.in-Some.is

pub returns-then-many : goal.returns-then-many
returns-then-many g c = λ commits request state after can.
    let address = g.D.Digester.address in
    let chunks = chunks_of c.args.draft.now.chunks in
    let told = c.in_ok-violated.ensures state.working after (before_at address chunks commits c.args.own.now c.args.made.now c.args.root request state after can) can.at in
    many_so address chunks commits c.args.own.now c.args.made.now c.args.root request state after can c.in_ok-violated.violated c.in_ok-many-in-None.many told c.in-None.is
    (c.in_ok-many-in-None.ensures after can.there) c.if-many.true

pub returns-in_ok-reply-in-None : goal.returns-in_ok-reply-in-None
returns-in_ok-reply-in-None g c = λ commits request state after can.
    let address = g.D.Digester.address in
    let chunks = chunks_of c.args.draft.now.chunks in
    let told = c.in_ok-violated.ensures state.working after (before_at address chunks commits c.args.own.now c.args.made.now c.args.root request state after can) can.at in
    made_so address chunks commits c.args.own.now c.args.made.now c.args.root request state after can c.in_ok-violated.violated c.in_ok-many-in-None.many c.with_working-rec.result c.in_ok-reply-in-None.reply
    told c.in-None.is (c.in_ok-many-in-None.ensures after can.there) c.if-many.false c.with_working-rec.ensures c.in_ok-reply-in-None.ensures
