-- Chunks placed on pages, found by address.
use Rattle.std.specs.Prelude.{◌≡◌, ◌≤◌, ◌++◌, ℕ, Bool, true, length, List, [], ◌∷◌, Option, Some, None, map, if◌then◌else◌, bytes_eq, is_some, unwrap_or}
use Rattle.std.specs.List.{AllByRecursion}
use Rattle.chunk_region.specs.declared.span.Span.{Span}
use Rattle.chunk_region.specs.Pages as region
use Rattle.chunk_region.specs.Pages.{Pages, IsWritten, IsBeforeMark, behind, mark_of, place_on}
use Rattle.chunk_store.specs.declared.index.Placed.{Placed}
use Rattle.chunk_store.specs.Chunks.{Chunk, AreNamed, IsSingle}
use Rattle.chunk_store.specs.Drafts.{place_chunks}

-- what an index has: where each chunk lies, in the order in which they came, for how many more it has room, and whether it has a table
pub record Indexed : Type 0 where
  pub placed : List Placed
  pub room : ℕ
  pub has_table : Bool

-- where the first chunk of an address lies
abbrev pub span_at : List Placed → List ℕ → Option Span
span_at [] k = None
span_at (c ∷ cs) k = if bytes_eq c.address.0 k then Some c.span else span_at cs k

-- a chunk that lies so many pages further on
abbrev pub placed_behind : ℕ → Placed → Placed
placed_behind pages c = record { address = c.address; span = behind pages c.span; before = c.before }

-- a chunk more, where none of its address is there
abbrev pub with_placed : List Placed → Placed → List Placed
with_placed placed c = if is_some (span_at placed c.address.0) then placed else placed ++ c ∷ []

-- chunks, and of others those whose addresses aren't there
abbrev pub gather_placed : List Placed → List Placed → List Placed
gather_placed placed [] = placed
gather_placed placed (c ∷ more) = gather_placed (with_placed placed c) more

-- no two chunks have one address
abbrev pub AreApart : List Placed → Type 0
AreApart [] = Unit {0}
AreApart (c ∷ cs) = (span_at cs c.address.0 ≡ None) × AreApart cs

-- a table, where there is one, finds by address just where each chunk lies
pub record IsIndex (placed : List Placed) (has_table : Bool) (found : List ℕ → Option Span) : Type 0 where
  pub finds : has_table ≡ true → (k : List ℕ) → found k ≡ span_at placed k
  pub apart : AreApart placed

-- the bytes that a span names
abbrev pub written : Pages → Span → List ℕ
written pages span = unwrap_or (region.span_bytes pages span) []

-- the chunk that was placed
abbrev pub chunk_of : Pages → Placed → Chunk
chunk_of pages c = (c.address.0, written pages c.span)

-- the chunks that were placed
abbrev pub chunks_in : Pages → List Placed → List Chunk
chunks_in pages placed = map (chunk_of pages) placed

-- the bytes of each chunk are on the pages
abbrev pub AllWritten : Pages → List Placed → Type 0
AllWritten pages placed = AllByRecursion (λ c. IsWritten pages c.span) placed

-- each chunk lies before the marks taken at those that came later
abbrev pub InOrder : List Placed → Type 0
InOrder [] = Unit {0}
InOrder (c ∷ cs) = AllByRecursion (λ later. IsBeforeMark later.before c.span) cs × InOrder cs

-- the mark of each chunk was taken where the chunks before it had been placed on pages
abbrev pub AreMarked : Pages → List Placed → List Chunk → Type 0
AreMarked before [] [] = Unit {0}
AreMarked before [] (chunk ∷ chunks) = ⊥
AreMarked before (c ∷ cs) [] = ⊥
AreMarked before (c ∷ cs) (chunk ∷ chunks) = (c.before ≡ mark_of before) × AreMarked (place_on chunk.1 before) cs chunks

-- no chunk is longer than a page
abbrev pub AllFit : List Chunk → Type 0
AllFit chunks = AllByRecursion (λ c. length c.1 ≤ 65536) chunks

-- chunks that lie on pages: each is there and no longer than a page, and one address has one byte string
pub record ArePlaced (pages : Pages) (placed : List Placed) : Type 0 where
  pub all_written : AllWritten pages placed
  pub fit : AllFit (chunks_in pages placed)
  pub single : IsSingle (chunks_in pages placed)

-- chunks over a store: each is on the pages, in order, under its address and no longer than a page, one address has one byte string,
-- in the store and here, and nothing else was placed on the pages
pub record AreOver (address : List ℕ → List ℕ) (base : List Chunk) (pages : Pages) (placed : List Placed) : Type 0 where
  pub all_written : AllWritten pages placed
  pub in_order : InOrder placed
  pub named : AreNamed address (chunks_in pages placed)
  pub fit : AllFit (chunks_in pages placed)
  pub single : IsSingle (base ++ chunks_in pages placed)
  pub marked : AreMarked [] placed (chunks_in pages placed)
  pub laid : pages ≡ place_chunks [] (chunks_in pages placed)
