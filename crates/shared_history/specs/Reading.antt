-- Parts as they are read back from their spelling.
use Rattle.std.specs.Prelude.{ℕ, zero, suc, ◌*◌, List, [], ◌∷◌, take, drop, map, slice_index_or, Option, None, Some}
use Rattle.tuple_codec.specs.declared.addresses.Address.{Address}
use Rattle.chunk_store.specs.Chunks.{Chunk}
use Rattle.script_text.specs.declared.outputs.BranchLine.{BranchLine}
use Rattle.script_text.specs.declared.scripts.Moment.{Moment}
use Rattle.session_state.specs.Changes.{Parts}

abbrev pub address_at : List ℕ → Address
address_at bytes = record { 0 = bytes }

abbrev pub merging_from : List ℕ → Option Address
merging_from [] = None
merging_from (n ∷ bytes) = Some (address_at bytes)

abbrev pub line_from : List ℕ → List ℕ → List ℕ → List ℕ → List ℕ → BranchLine
line_from name head working staged merging =
    record { name = name; rec = record { head = address_at head; working = address_at working; staged = address_at staged; merging = merging_from merging } }

abbrev pub branches_from : ℕ → List (List ℕ) → List BranchLine
branches_from zero ws = []
branches_from (suc n) (name ∷ head ∷ working ∷ staged ∷ merging ∷ ws) = line_from name head working staged merging ∷ branches_from n ws
branches_from (suc n) ws = []

abbrev pub moment_from : List ℕ → Moment
moment_from word = record { session = slice_index_or word 0 0; statement = slice_index_or word 1 0 }

abbrev pub chunks_from : ℕ → List (List ℕ) → List Chunk
chunks_from zero ws = []
chunks_from (suc n) (k ∷ bytes ∷ ws) = (k, bytes) ∷ chunks_from n ws
chunks_from (suc n) ws = []

abbrev pub parts_in : List ℕ → List ℕ → List (List ℕ) → Parts
parts_in counts numbers ws =
    let behind : List (List ℕ) = drop (5 * slice_index_or counts 0 0) ws in
    let later : List (List ℕ) = drop (slice_index_or counts 1 0) behind in
    record {
      branches = branches_from (slice_index_or counts 0 0) ws;
      places = take (slice_index_or counts 1 0) behind;
      numbers = numbers;
      moments = map moment_from (take (slice_index_or counts 2 0) later);
      chunks = chunks_from (slice_index_or counts 3 0) (drop (slice_index_or counts 2 0) later);
    }

-- the parts that a spelling is of
unfoldable pub parts_of : List (List ℕ) → Parts
parts_of (counts ∷ numbers ∷ ws) = parts_in counts numbers ws
parts_of ws = record { branches = []; places = []; numbers = []; moments = []; chunks = [] }
