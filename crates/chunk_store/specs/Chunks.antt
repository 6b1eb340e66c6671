-- Chunks: a byte string under its address, and lists of them, as stores and drafts keep them.
use Rattle.std.specs.Prelude.{◌≡◌, ℕ, List, [], ◌∷◌, ◌⊎◌, Option, Some, None, if◌then◌else◌, bytes_eq}

-- an address, and the bytes that it names
abbrev pub Chunk : Type 0
Chunk = List ℕ × List ℕ

-- what is found by address
abbrev pub Chunks : Type 0
Chunks = List ℕ → Option (List ℕ)

-- the bytes at an address: those of the first chunk there
abbrev pub chunk_bytes : List Chunk → Chunks
chunk_bytes [] k = None
chunk_bytes (c ∷ cs) k = if bytes_eq c.0 k then Some c.1 else chunk_bytes cs k

-- the chunk of this address and these bytes is in the list
abbrev pub Listed : List Chunk → List ℕ → List ℕ → Type 0
Listed [] k bytes = ⊥
Listed (c ∷ cs) k bytes = ((c.0 ≡ k) × (c.1 ≡ bytes)) ⊎ Listed cs k bytes

-- each chunk of the first list is in the second
abbrev pub Lists : List Chunk → List Chunk → Type 0
Lists xs ys = (k bytes : List ℕ) → Listed xs k bytes → Listed ys k bytes

-- chunks of one address have the same bytes
abbrev pub IsSingle : List Chunk → Type 0
IsSingle cs = (k bytes others : List ℕ) → Listed cs k bytes → Listed cs k others → bytes ≡ others

-- what is found in the old is found in the new
abbrev pub Extends : Chunks → Chunks → Type 0
Extends old new = (k bytes : List ℕ) → old k ≡ Some bytes → new k ≡ Some bytes

-- what is found in both is the same
abbrev pub Agree : Chunks → Chunks → Type 0
Agree some others = (k bytes more : List ℕ) → some k ≡ Some bytes → others k ≡ Some more → bytes ≡ more

-- each chunk stands under the address of its bytes
abbrev pub AreNamed : (List ℕ → List ℕ) → List Chunk → Type 0
AreNamed address [] = Unit {0}
AreNamed address (c ∷ cs) = (address c.1 ≡ c.0) × AreNamed address cs

-- these bytes are found, under their own address
pub record IsHeld (address : List ℕ → List ℕ) (chunks : Chunks) (k bytes : List ℕ) : Type 0 where
  pub named : address bytes ≡ k
  pub held : chunks k ≡ Some bytes
