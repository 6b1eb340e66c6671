-- What follows from the definitions of chunks and drafts, for proofs above.
use Rattle.std.specs.Prelude.{◌≡◌, ℕ, Bool, true, List, ◌++◌, Some, Result, length}
use Rattle.tuple_codec.specs.declared.addresses.Address.{Address}
use Rattle.chunk_store.specs.declared.faults.PutFault.{PutFault}
use Rattle.chunk_store.specs.Chunks.{Chunk, chunk_bytes, Listed, Lists, IsSingle, Extends, Agree, AreNamed}
use Rattle.chunk_store.specs.Drafts.{Drafting, DraftParts, Grows, IsNamed, IsSound, Longer, Puts, chunks_of, cut_to, put_in}
use Rattle.chunk_store.specs.Kinds.{is_either}
use Rattle.chunk_store.specs.Stores.{IsSealed, IsUnion, StaysFew, joined}

-- what is found and what is listed, in lists and in joined lists
pub record ChunksFollow : Type 0 where
  pub is_listed : (cs : List Chunk) (k bytes : List ℕ) → chunk_bytes cs k ≡ Some bytes → Listed cs k bytes
  pub is_found : (cs : List Chunk) (k bytes : List ℕ) → IsSingle cs → Listed cs k bytes → chunk_bytes cs k ≡ Some bytes
  pub is_named : (a : List ℕ → List ℕ) (cs : List Chunk) (k bytes : List ℕ) → AreNamed a cs → chunk_bytes cs k ≡ Some bytes → a bytes ≡ k
  pub named_join : (a : List ℕ → List ℕ) (xs ys : List Chunk) → AreNamed a xs → AreNamed a ys → AreNamed a (xs ++ ys)
  pub named_fewer : (a : List ℕ → List ℕ) (xs ys : List Chunk) → Lists xs ys → AreNamed a ys → AreNamed a xs
  pub listed_either : (xs ys : List Chunk) → Lists xs (xs ++ ys) × Lists ys (xs ++ ys)
  pub lists_extends : (xs ys : List Chunk) → IsSingle ys → Lists xs ys → Extends (chunk_bytes xs) (chunk_bytes ys)
  pub extends_left : (xs ys : List Chunk) → Extends (chunk_bytes xs) (chunk_bytes (xs ++ ys))
  pub extends_right : (xs ys : List Chunk) → Agree (chunk_bytes xs) (chunk_bytes ys) → Extends (chunk_bytes ys) (chunk_bytes (xs ++ ys))
  pub joined_extends : (xs more ys : List Chunk) → Extends (chunk_bytes xs) (chunk_bytes more) → Agree (chunk_bytes more) (chunk_bytes ys)
      → Extends (chunk_bytes (xs ++ ys)) (chunk_bytes (more ++ ys))
  pub single_join : (xs ys : List Chunk) → IsSingle xs → IsSingle ys → Agree (chunk_bytes xs) (chunk_bytes ys) → IsSingle (xs ++ ys)
  pub single_agrees : (xs ys : List Chunk) → IsSingle (xs ++ ys) → Agree (chunk_bytes xs) (chunk_bytes ys)

-- putting bytes makes a draft longer, a longer draft holds what was held, and a mark leads back
pub record DraftsFollow : Type 0 where
  pub longer_itself : (d : DraftParts) → Longer d d
  pub in_steps : (c d e : DraftParts) → Longer c d → Longer d e → Longer c e
  pub longer_put : (a : List ℕ → List ℕ) (bytes : List ℕ) (d : DraftParts) → Longer d (put_in a bytes d)
  pub longer_extends : (d e : DraftParts) → Longer d e → Extends (chunks_of d) (chunks_of e)
  pub comes_back : (d e : DraftParts) → Longer d e → cut_to (length d.own) e ≡ d
  pub still_named : (a : List ℕ → List ℕ) (d e : DraftParts) → Longer d e → IsNamed a d → IsNamed a e
  pub all_named : (a : List ℕ → List ℕ) (d : DraftParts) → IsNamed a d → IsSound a d → AreNamed a (d.base ++ d.own)

-- growing goes in steps; what grew by one kind grew by every wider one, and is longer; and putting bytes makes a draft grow by their kind
pub record DraftsGrow : Type 0 where
  pub itself : (kind : List ℕ → Bool) (d : Drafting) → Grows kind d d
  pub in_steps : (kind : List ℕ → Bool) (c d e : Drafting) → Grows kind c d → Grows kind d e → Grows kind c e
  pub wider : (kind more : List ℕ → Bool) (d e : Drafting) → ((bytes : List ℕ) → kind bytes ≡ true → more bytes ≡ true) → Grows kind d e → Grows more d e
  pub either_left : (kind other : List ℕ → Bool) (d e : Drafting) → Grows kind d e → Grows (is_either kind other) d e
  pub either_right : (kind other : List ℕ → Bool) (d e : Drafting) → Grows other d e → Grows (is_either kind other) d e
  pub is_longer : (kind : List ℕ → Bool) (d e : Drafting) → Grows kind d e → Longer d.chunks e.chunks
  pub by_put : (kind : List ℕ → Bool) (a : List ℕ → List ℕ) (bytes : List ℕ) (d e : Drafting) (result : Result Address PutFault) → kind bytes ≡ true
      → Puts a bytes d e result → Grows kind d e

-- few segments stay where sealed ones are appended, and what is joined or sealed lists nothing new
pub record SegmentsFollow : Type 0 where
  pub few : StaysFew
  pub union_lists : (xs ys zs : List Chunk) → IsUnion xs ys zs → Lists zs (xs ++ ys)
  pub sealed_lists : (segments : List (List Chunk)) (own sealed : List Chunk) → IsSealed segments own sealed → Lists sealed (joined segments ++ own)
