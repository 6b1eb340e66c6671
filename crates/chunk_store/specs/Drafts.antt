-- Drafts: a store, and chunks of the draft's own over it.
use Rattle.std.specs.Prelude.{◌≡◌, ℕ, ◌+◌, ◌<◌, ◌≤◌, Bool, true, List, [], ◌∷◌, ◌++◌, if◌then◌else◌, is_some, length, take, Result, IfOk, IfErr, OnOk, OnErr}
use Rattle.std.specs.List.{AllByRecursion}
use Rattle.tuple_codec.specs.declared.addresses.Address.{Address}
use Rattle.chunk_region.specs.Pages.{Pages, place_on}
use Rattle.chunk_store.specs.declared.faults.PutFault.{PutFault}
use Rattle.chunk_store.specs.Chunks.{Chunk, Chunks, AreNamed, IsHeld, IsSingle, chunk_bytes}
use Rattle.chunk_store.specs.Clashes.{IsBroughtClash, IsReason}

-- the chunks of the store below, and those of the draft's own, in the order in which they came
pub record DraftParts : Type 0 where
  pub base : List Chunk
  pub own : List Chunk

-- what a draft has: its chunks, how those of the store lie in segments, and how many pages of its pool are free and how many are taken
pub record Drafting : Type 0 where
  pub chunks : DraftParts
  pub segments : List (List Chunk)
  pub free : ℕ
  pub taken : ℕ

-- what is found in a draft
abbrev pub chunks_of : DraftParts → Chunks
chunks_of d = chunk_bytes (d.base ++ d.own)

-- all pages that belong to the draft's pool, free or taken
abbrev pub pages_in : Drafting → ℕ
pages_in draft = draft.free + draft.taken

-- the pages after chunks were placed on them, one behind another
abbrev pub place_chunks : Pages → List Chunk → Pages
place_chunks pages [] = pages
place_chunks pages (c ∷ cs) = place_chunks (place_on c.1 pages) cs

-- how many pages such own chunks take
abbrev pub pages_for : List Chunk → ℕ
pages_for own = length (place_chunks [] own)

-- the bytes are put: where their address is found nothing changes, else they are the last own chunk
abbrev pub put_in : (List ℕ → List ℕ) → List ℕ → DraftParts → DraftParts
put_in address bytes d =
    if is_some (chunks_of d (address bytes)) then d
    else record { base = d.base; own = d.own ++ (address bytes, bytes) ∷ [] }

-- so many of its own chunks, from the first on
abbrev pub cut_to : ℕ → DraftParts → DraftParts
cut_to count d = record { base = d.base; own = take count d.own }

-- more chunks of its own came after those that were there
pub record Longer (old new : DraftParts) : Type 0 where
  pub more : List Chunk
  pub base : new.base ≡ old.base
  pub own : new.own ≡ old.own ++ more

-- no page is lost, none is made while the pool had a free one, and at most one otherwise
pub record TakesAtMostOnePage (old new : Drafting) : Type 0 where
  pub none_lost : pages_in old ≤ pages_in new
  pub none_made : 0 < old.free → pages_in new ≡ pages_in old
  pub one_made : pages_in new ≤ pages_in old + 1

-- what every draft has: one address has one byte string, in the store and among its own chunks, and these are named
pub record IsSound (address : List ℕ → List ℕ) (d : DraftParts) : Type 0 where
  pub single : IsSingle (d.base ++ d.own)
  pub named : AreNamed address d.own

-- all chunks of the store below stand under the addresses of their bytes, as the draft's own always do
abbrev pub IsNamed : (List ℕ → List ℕ) → DraftParts → Type 0
IsNamed address d = AreNamed address d.base

-- all these chunks are of one kind
abbrev pub AreOfKind : (List ℕ → Bool) → List Chunk → Type 0
AreOfKind is_kind chunks = AllByRecursion (λ c. is_kind c.1 ≡ true) chunks

-- chunks of one kind came after those that were there, and no page of the pool was lost
pub record Grows (is_kind : List ℕ → Bool) (old new : Drafting) : Type 0 where
  pub more : List Chunk
  pub base : new.chunks.base ≡ old.chunks.base
  pub own : new.chunks.own ≡ old.chunks.own ++ more
  pub segments : new.segments ≡ old.segments
  pub kinds : AreOfKind is_kind more
  pub pages : pages_in old ≤ pages_in new

-- bytes were put. Where they are taken their address is the answer, and they are held under it: as they were before, or as the last own
-- chunk. Else nothing has changed, for want of memory or since other bytes stand at their address.
pub record Puts (address_of : List ℕ → List ℕ) (bytes : List ℕ) (old new : Drafting) (result : Result Address PutFault) : Type 0 where
  pub address : IfOk result (λ k. k.0 ≡ address_of bytes)
  pub exact : OnOk result (new.chunks ≡ put_in address_of bytes old.chunks)
  pub held : OnOk result (IsHeld address_of (chunks_of new.chunks) (address_of bytes) bytes)
  pub cause : IfErr result (IsReason address_of (chunks_of new.chunks))
  pub brought : IfErr result (IsBroughtClash bytes)
  pub same : OnErr result (new ≡ old)
  pub segments : new.segments ≡ old.segments
  pub pages : TakesAtMostOnePage old new
