use Rattle.std.proofs.Common.{sym, subst}
use Rattle.chunk_store.specs.Drafts.{chunks_of}
use Rattle.prolly_tree.specs.Walks.{CanWalk}
use Rattle.prolly_tree.proofs.WalkLemmas.{skip_can}
use Rattle.prolly_tree.proofs.scans.Scan.next.Goals as goal

pub invariant_of-self-in-Some-Row : goal.invariant_of-self-in-Some-Row
invariant_of-self-in-Some-Row g c =
    let chunks = chunks_of c.self.inside.draft.now.chunks in
    subst (CanWalk chunks) (sym c.skip.ensures) (skip_can chunks c.to_row.new.self c.to_row.ensures.can)
