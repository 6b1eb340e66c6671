use Rattle.std.proofs.Common.{refl, sym, ap, subst, ◌∙◌, ◌++◌, ◌∷◌, [], List}
use Rattle.chunk_store.specs.Drafts.{chunks_of}
use Rattle.table_root.specs.declared.heads.BranchHead.{BranchHead}
use Rattle.system_tables.specs.Rows.{AreKnown, branch_rows}
use Rattle.system_tables.proofs.RowLemmas.{one_more, one_of}
use Rattle.system_tables.proofs.branches.branch_rows.Goals as goal

pub push_branch-requires-after_bounds : goal.push_branch-requires-after_bounds
push_branch-requires-after_bounds g c κs within =
    let one = c.head-item.result in
    let commits = c.requires.0 in (
      commits,
      subst (λ (head : BranchHead). AreKnown g.D.Digester.address (chunks_of c.args.draft.now.chunks) commits (head.head.0 ∷ [])) (sym c.head-item.is)
          (one_of (λ (head : BranchHead). head.head.0) g.D.Digester.address (chunks_of c.args.draft.now.chunks) commits c.args.heads.now c.loop-head.head-index one c.loop-head-test.true c.requires.1),
    )

pub loop-head-preserved : goal.loop-head-preserved
loop-head-preserved g c = λ commits are.
    let one = c.head-item.result in
    let known = subst (λ (head : BranchHead). AreKnown g.D.Digester.address (chunks_of c.args.draft.now.chunks) commits (head.head.0 ∷ [])) (sym c.head-item.is)
    (one_of (λ (head : BranchHead). head.head.0) g.D.Digester.address (chunks_of c.args.draft.now.chunks) commits c.args.heads.now c.loop-head.head-index one c.loop-head-test.true are) in
    one_more (λ (xs : List BranchHead). branch_rows commits xs) (λ x xs. refl) c.args.heads.now c.loop-head.head-index one c.loop-head-test.true c.loop-head.rows c.push_branch.new.rows
    (branch_rows commits c.args.heads.now) (c.loop-head.invariant commits are)
    (c.in_ok-push_branch.ensures commits known ∙ ap (λ (head : BranchHead). c.loop-head.rows ++ branch_rows commits (head ∷ [])) c.head-item.is)
