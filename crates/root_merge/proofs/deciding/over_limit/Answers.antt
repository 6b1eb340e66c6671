use Rattle.chunk_store.specs.Drafts.{chunks_of}
use Rattle.schema_merge.specs.RootMerge.{root3}
use Rattle.root_merge.proofs.DecideLemmas.{limit_conflict, limit_side}
use Rattle.root_merge.proofs.deciding.over_limit.Goals as goal

pub roots_conflict-requires-after_bounds : goal.roots_conflict-requires-after_bounds
roots_conflict-requires-after_bounds g c κs within =
    let at = c.requires.3 in
    (c.requires.0, c.requires.1, c.requires.2, at.passes.merged, at.roots, at.passes.is)

pub returns-then-found : goal.returns-then-found
returns-then-found g c = λ b o t at.
    limit_conflict (root3 b o t) at.passes c.in_ok-found.found (c.in_ok-found.ensures b o t at.passes.merged at.roots at.passes.is) c.if-found.true

pub returns-else-found : goal.returns-else-found
returns-else-found g c = λ b o t at.
    limit_side g.D.Digester.address (chunks_of c.args.draft.now.chunks) (root3 b o t) at.passes c.in_ok-found.found (c.in_ok-found.ensures b o t at.passes.merged at.roots at.passes.is) c.if-found.false
