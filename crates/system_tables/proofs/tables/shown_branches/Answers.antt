use Rattle.std.proofs.Common.{sym, subst, List}
use Rattle.chunk_store.specs.Drafts.{chunks_of}
use Rattle.table_root.specs.declared.heads.BranchHead.{BranchHead}
use Rattle.system_tables.specs.Rows.{AreHeadsOf}
use Rattle.system_tables.proofs.SessionLemmas.{begun, heads_are}
use Rattle.system_tables.proofs.tables.shown_branches.Goals as goal

pub branches-requires-after_bounds : goal.branches-requires-after_bounds
branches-requires-after_bounds g c κs within =
    let (p, t, stands, there) = c.requires in (
      t,
      subst (λ (heads : List BranchHead). AreHeadsOf g.D.Digester.address (chunks_of c.args.session.now.draft.chunks) heads t) (sym c.as_slice.ensures.heads)
          (heads_are g.D.Digester.address c.args.session.now p t stands there c.law_of_chunks.ensures c.law_of_standing_commits.ensures c.in-Some.look c.in-Some.is),
    )

pub unreachable-requires : goal.unreachable-requires
unreachable-requires g c =
    let (p, t, stands, there) = c.requires in
    let b = begun g.D.Digester.address c.args.session.now p t stands there in absurd (cc)

pub returns : goal.returns
returns g c = λ p t stands there.
    c.branches.ensures t
    (subst (λ (heads : List BranchHead). AreHeadsOf g.D.Digester.address (chunks_of c.args.session.now.draft.chunks) heads t) (sym c.as_slice.ensures.heads)
    (heads_are g.D.Digester.address c.args.session.now p t stands there c.law_of_chunks.ensures c.law_of_standing_commits.ensures c.in-Some.look c.in-Some.is))
