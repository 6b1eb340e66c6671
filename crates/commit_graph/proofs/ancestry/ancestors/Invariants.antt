use Rattle.std.proofs.Common.{◌≡◌, ◌++◌, true, map}
use Rattle.schema_model.specs.PlainCommits.{Commits, ancestors, is_known}
use Rattle.chunk_store.specs.Drafts.{chunks_of}
use Rattle.tuple_codec.specs.declared.addresses.Address.{Address}
use Rattle.commit_graph.specs.Standing.{CommitsStand}
use Rattle.commit_graph.specs.Walks.{AreRanks, left, weight_of}
use Rattle.commit_graph.proofs.ancestry.ancestors.Given as goal

abbrev pub invariant-walk : goal.invariant-walk
invariant-walk g l = record {
  ranks : (commits : Commits) → CommitsStand g.D.Digester.address (chunks_of l.draft.chunks) commits → is_known commits l.address.0 ≡ true → AreRanks commits l.walk;
  rest : (commits : Commits) → CommitsStand g.D.Digester.address (chunks_of l.draft.chunks) commits → is_known commits l.address.0 ≡ true
      → map (λ (k : Address). k.0) l.ancestors.items ++ left commits l.walk ≡ ancestors commits l.address.0;
}

abbrev pub decreases-walk : goal.decreases-walk
decreases-walk g l = weight_of l.walk
