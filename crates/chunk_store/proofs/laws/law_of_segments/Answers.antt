use Rattle.std.proofs.Common.{inl, inr}
use Rattle.chunk_store.specs.Stores.{joined}
use Rattle.chunk_store.proofs.ChunkLemmas.{listed_left, listed_right}
use Rattle.chunk_store.proofs.FewLemmas.{stays_few}
use Rattle.chunk_store.proofs.JoinLemmas.{joins_fewer}
use Rattle.chunk_store.proofs.laws.law_of_segments.Goals as goal

pub returns : goal.returns
returns c = record {
  few = stays_few;
  union_lists = λ xs ys zs union k bytes listed. elim (union.only k bytes listed) [ inl x ↦ listed_left xs ys k bytes x | inr y ↦ listed_right xs ys k bytes y ];
  sealed_lists = λ segments own sealed is k bytes listed. elim (is.union.only k bytes listed) [
    | inl x ↦ listed_right (joined segments) own k bytes x
    | inr y ↦ listed_left (joined segments) own k bytes (joins_fewer _ segments k bytes y)
  ];
}
