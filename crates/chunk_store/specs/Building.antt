-- Chunks gathered into a segment: one of each address.
use Rattle.std.specs.Prelude.{List, [], ◌∷◌, ◌++◌, if◌then◌else◌, is_some}
use Rattle.chunk_store.specs.Chunks.{Chunk, chunk_bytes}

-- a chunk more, where none of its address is there
abbrev pub with_chunk : List Chunk → Chunk → List Chunk
with_chunk chunks c = if is_some (chunk_bytes chunks c.0) then chunks else chunks ++ c ∷ []

-- chunks, and of others those whose addresses aren't there
abbrev pub gather : List Chunk → List Chunk → List Chunk
gather chunks [] = chunks
gather chunks (c ∷ more) = gather (with_chunk chunks c) more
