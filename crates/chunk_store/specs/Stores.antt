-- Stores: the chunks of several segments, one segment after another; and how segments are joined and dropped.
use Rattle.std.specs.Prelude.{◌≡◌, ◌⊎◌, ℕ, ◌+◌, ◌*◌, ◌^◌, ◌-◌, ◌<◌, ◌≤◌, nat_lt, Bool, true, false, ◌&&◌, List, [], ◌∷◌, ◌++◌, length, drop, if◌then◌else◌, is_some}
use Rattle.std.specs.List.{AllByRecursion, list_all}
use Rattle.chunk_store.specs.Building.{gather}
use Rattle.chunk_store.specs.Chunks.{Chunk, Listed, Lists, chunk_bytes}

-- what a store has: its segments, each the list of its chunks, and for how many segments more it has room
pub record Stored : Type 0 where
  pub segments : List (List Chunk)
  pub room : ℕ

-- segments, one after another
abbrev pub joined : List (List Chunk) → List Chunk
joined [] = []
joined (segment ∷ segments) = segment ++ joined segments

-- all chunks of a store
abbrev pub all_chunks : Stored → List Chunk
all_chunks store = joined store.segments

-- no segment is empty
abbrev pub AreSome : List (List Chunk) → Type 0
AreSome segments = AllByRecursion (λ segment. 0 < length segment) segments

-- the one list and the other together list what the third does
pub record IsUnion (some others both : List Chunk) : Type 0 where
  pub left : Lists some both
  pub right : Lists others both
  pub only : (k bytes : List ℕ) → Listed both k bytes → Listed some k bytes ⊎ Listed others k bytes

-- each address of the first list is one of the second
abbrev pub is_within : List Chunk → List Chunk → Bool
is_within segment other = list_all (λ c. is_some (chunk_bytes other c.0)) segment

abbrev pub has_none : List (List Chunk) → Bool
has_none [] = true
has_none (segment ∷ segments) = false

-- the segments without those at the end whose chunks another one has, too
abbrev pub drop_held : List Chunk → List (List Chunk) → List (List Chunk)
drop_held other [] = []
drop_held other (segment ∷ segments) =
    if has_none (drop_held other segments) && is_within segment other then [] else segment ∷ drop_held other segments

-- the segments of a store after one was appended: it takes the place of those at the end whose chunks it has, unless it is empty
abbrev pub with_segment : List Chunk → List (List Chunk) → List (List Chunk)
with_segment [] segments = segments
with_segment (c ∷ segment) segments = drop_held (c ∷ segment) segments ++ (c ∷ segment) ∷ []

-- behind its first chunks, the own ones, a segment has those of the segments from one on, and no other
pub record IsMatched (segment : List Chunk) (segments : List (List Chunk)) (own from : ℕ) : Type 0 where
  pub same : drop own segment ≡ joined (drop from segments)
  pub own_within : own ≤ length segment
  pub from_within : from ≤ length segments

-- the segments from the first one on that has less than twice as many chunks as those after it and so many more
abbrev pub joins : ℕ → List (List Chunk) → List (List Chunk)
joins more [] = []
joins more (segment ∷ segments) =
    if nat_lt (length segment) (2 * (more + length (joined segments))) then segment ∷ segments else joins more segments

-- the segments after the last ones became one: those from the first one on that has less than twice as many chunks as those after it
abbrev pub tidied : List (List Chunk) → List (List Chunk)
tidied [] = []
tidied (segment ∷ segments) =
    if nat_lt (length segment) (2 * length (joined segments)) then gather [] (segment ++ joined segments) ∷ [] else segment ∷ tidied segments

-- k segments have 2 ^ (k - 1) chunks or more
abbrev pub AreFew : List (List Chunk) → Type 0
AreFew segments = 0 < length segments → 2 ^ (length segments - 1) ≤ length (joined segments)

-- what chunks over the segments of a store are sealed to: it has these chunks and those of the segments that are joined to them
pub record IsSealed (segments : List (List Chunk)) (own sealed : List Chunk) : Type 0 where
  pub union : IsUnion own (joined (joins (length own) segments)) sealed
  pub size : length sealed ≤ length own + length (joined (joins (length own) segments))

-- what is brought to a store of chunks over its segments: it has these chunks, and no other but what the segments have
pub record IsBrought (segments : List (List Chunk)) (own sealed : List Chunk) : Type 0 where
  pub all : Lists own sealed
  pub only : Lists sealed (joined segments ++ own)

-- where what was sealed over a store is appended to that store, there are few segments
abbrev pub StaysFew : Type 0
StaysFew = (segments : List (List Chunk)) (own sealed : List Chunk) → AreSome segments → IsSealed segments own sealed → AreFew (with_segment sealed segments)
