-- The shared database written down as a list of lists of numbers, as the entries of a gate's history have it.
use Rattle.std.specs.Prelude.{◌≡◌, ℕ, List, [], ◌∷◌, ◌++◌, length, map, Option, None, Some}
use Rattle.tuple_codec.specs.declared.addresses.Address.{Address}
use Rattle.chunk_store.specs.Chunks.{Chunk}
use Rattle.script_text.specs.declared.outputs.BranchLine.{BranchLine}
use Rattle.script_text.specs.declared.scripts.Moment.{Moment}
use Rattle.plain_sessions.specs.Records.{Shared}
use Rattle.session_state.specs.Changes.{Parts, StateStands}

-- an address, or none
abbrev pub spelled_merging : Option Address → List ℕ
spelled_merging None = []
spelled_merging (Some address) = 1 ∷ address.0

abbrev pub spelled_branches : List BranchLine → List (List ℕ)
spelled_branches [] = []
spelled_branches (line ∷ lines) =
    line.name ∷ line.rec.head.0 ∷ line.rec.working.0 ∷ line.rec.staged.0 ∷ spelled_merging line.rec.merging ∷ spelled_branches lines

abbrev pub spelled_moment : Moment → List ℕ
spelled_moment moment = moment.session ∷ moment.statement ∷ []

abbrev pub spelled_chunks : List Chunk → List (List ℕ)
spelled_chunks [] = []
spelled_chunks (chunk ∷ chunks) = chunk.0 ∷ chunk.1 ∷ spelled_chunks chunks

-- how many branches, sessions, moments and chunks there are, by which the parts behind are read back; the numbers of statements; then each part,
-- item by item
abbrev pub spelling_of : Parts → List (List ℕ)
spelling_of parts =
    (length parts.branches ∷ length parts.places ∷ length parts.moments ∷ length parts.chunks ∷ []) ∷ parts.numbers
    ∷ (spelled_branches parts.branches ++ (parts.places ++ (map spelled_moment parts.moments ++ spelled_chunks parts.chunks)))

-- this is the spelling of parts that stand for the state
pub record SpellsState (address : List ℕ → List ℕ) (spelling : List (List ℕ)) (shared : Shared) : Type 0 where
  pub parts : Parts
  pub spelled : spelling_of parts ≡ spelling
  pub stands : StateStands address parts shared
