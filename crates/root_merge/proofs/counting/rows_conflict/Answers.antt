use Rattle.std.proofs.Common.{Option, ℕ, not, ◌==◌, ap, sym, subst}
use Rattle.chunk_store.specs.Drafts.{chunks_of}
use Rattle.table_root.specs.declared.records.StoredTable.{StoredTable}
use Rattle.table_merge.specs.Merging.{AreSides}
use Rattle.root_merge.proofs.counting.rows_conflict.Goals as goal

pub count_conflicts-requires-after_bounds : goal.count_conflicts-requires-after_bounds
count_conflicts-requires-after_bounds g c κs within =
    let sides = c.in_ok-sides.sides in
    let can = c.requires.2 in
    let stand = subst (λ (base : Option StoredTable). AreSides g.D.Digester.address (chunks_of c.args.draft.now.chunks) base sides.ours sides.theirs c.requires.0) (sym c.as_ref.ensures.value)
    (c.in_ok-sides.ensures c.requires.0 can.kept) in
    (c.requires.0, stand, c.requires.1, can.comes)

pub returns : goal.returns
returns g c = λ contents table can.
    let sides = c.in_ok-sides.sides in
    let stand = subst (λ (base : Option StoredTable). AreSides g.D.Digester.address (chunks_of c.args.draft.now.chunks) base sides.ours sides.theirs contents) (sym c.as_ref.ensures.value)
    (c.in_ok-sides.ensures contents can.kept) in
    ap (λ (n : ℕ). not (n == 0)) (c.in_ok-count.ensures contents stand table can.comes)
