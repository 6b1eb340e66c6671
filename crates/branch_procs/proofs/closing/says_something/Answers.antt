use Rattle.std.proofs.Common.{◌∙◌, sym}
use Rattle.chunk_store.specs.Drafts.{chunks_of}
use Rattle.plain_sessions.specs.Branching.{staged_first}
use Rattle.branch_procs.proofs.ClosingLemmas.{same_told, says_allowed, says_merging, says_told}
use Rattle.branch_procs.proofs.closing.says_something.Goals as goal

pub read_tables-requires-after_bounds : goal.read_tables-requires-after_bounds
read_tables-requires-after_bounds g c κs within = let (state, database, on) = c.requires in (database, on.root_stands)

pub returns-then-merging : goal.returns-then-merging
returns-then-merging g c = λ state database on.
    let stands = on.stands in says_merging database c.args.request.now c.args.own.now state stands.merging (sym c.is_merging-merging.ensures ∙ c.if-merging.true)

pub returns-then-allowed : goal.returns-then-allowed
returns-then-allowed g c = λ state database on.
    let stands = on.stands in says_allowed database c.args.request.now c.args.own.now state stands.merging c.if-allowed.true

pub returns : goal.returns
returns g c = λ state database on.
    let stands = on.stands in
    let address = g.D.Digester.address in
    let chunks = chunks_of c.args.draft.now.chunks in
    says_told database c.args.request.now c.args.own.now state stands.merging c.are_same.result (sym c.is_merging-merging.ensures ∙ c.if-merging.false) c.if-allowed.false
    (c.are_same.ensures
    ∙ same_told address chunks c.laws_of_growth.ensures.tables c.law_of_sameness.ensures.tables c.in_ok-staged.staged.items c.in_ok-head.head.items c.as_slice.result.now c.as_slice-2.result.now
    (staged_first database c.args.request.now.staging state) database c.as_slice.ensures.value c.as_slice-2.ensures.value (c.in_ok-staged.ensures state database on)
    (c.in_ok-head.ensures database on.root_stands))
