use Rattle.std.proofs.Common.{◌≡◌, true, map, take}
use Rattle.std.specs.List.{list_all}
use Rattle.schema_model.specs.PlainCommits.{Commits, is_known}
use Rattle.chunk_store.specs.Drafts.{chunks_of}
use Rattle.tuple_codec.specs.declared.addresses.Address.{Address}
use Rattle.commit_graph.specs.Standing.{CommitsStand}
use Rattle.commit_graph.specs.Walks.{AreRanks, Waits}
use Rattle.commit_graph.proofs.walks.AncestorWalk.put_all.Given as goal

abbrev pub invariant-loop-address : goal.invariant-loop-address
invariant-loop-address g l =
    (commits : Commits) → CommitsStand g.D.Digester.address (chunks_of l.draft.chunks) commits → AreRanks commits l.fn.self
    → list_all (is_known commits) (map (λ (k : Address). k.0) l.addresses) ≡ true
    → Waits commits (map (λ (k : Address). k.0) (take l.address-index l.addresses)) l.fn.self l.self
