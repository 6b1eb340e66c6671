use Rattle.std.proofs.Common.{◌≤◌, ℕ, sym, subst}
use Rattle.std.proofs.lemmas.Result.{IfOk-weaker}
use Rattle.chunk_store.specs.Drafts.{chunks_of}
use Rattle.root_merge.specs.Merging.{IsBecome, of_table}
use Rattle.root_merge.proofs.ChoiceLemmas.{conflicts_bound}
use Rattle.root_merge.proofs.TableLemmas.{sides_can}
use Rattle.root_merge.proofs.tables.merge_rows.Goals as goal

pub merge_sides-requires-after_bounds : goal.merge_sides-requires-after_bounds
merge_sides-requires-after_bounds g c κs within =
    let can = c.requires.2 in
    (c.requires.0, c.requires.1, sides_can g.D.Digester.address (chunks_of c.args.draft.now.chunks) c.args.base c.args.ours.now c.args.theirs.now c.in_ok-sides.sides c.requires.0 c.requires.1 can (c.in_ok-sides.ensures c.requires.0 can.kept))

pub returns-clause-made : goal.returns-clause-made
returns-clause-made g c = λ contents table can.
    c.merge_sides.ensures.made contents table (sides_can g.D.Digester.address (chunks_of c.args.draft.now.chunks) c.args.base c.args.ours.now c.args.theirs.now c.in_ok-sides.sides contents table can (c.in_ok-sides.ensures contents can.kept))

pub returns-clause-fault : goal.returns-clause-fault
returns-clause-fault g c = λ contents table can.
    c.merge_sides.ensures.fault contents table (sides_can g.D.Digester.address (chunks_of c.args.draft.now.chunks) c.args.base c.args.ours.now c.args.theirs.now c.in_ok-sides.sides contents table can (c.in_ok-sides.ensures contents can.kept))

pub returns-clause-bound : goal.returns-clause-bound
returns-clause-bound g c =
    let address = g.D.Digester.address in
    let contents = c.requires.0 in
    let table = c.requires.1 in
    let can = c.requires.2 in
    let few = conflicts_bound address (chunks_of c.args.draft.now.chunks) c.args.base c.args.ours.now c.args.theirs.now contents table can.kept can.comes in
    IfOk-weaker c.merge_sides.result (λ became. IsBecome address (chunks_of c.merge_sides.new.draft.chunks) became (of_table table)) (λ became. became.conflicts ≤ 30000000)
    (λ became is. subst (λ (n : ℕ). n ≤ 30000000) (sym is.conflicts) few)
    (c.merge_sides.ensures.made contents table (sides_can g.D.Digester.address (chunks_of c.args.draft.now.chunks) c.args.base c.args.ours.now c.args.theirs.now c.in_ok-sides.sides contents table can (c.in_ok-sides.ensures contents can.kept)))
