-- Lists of rows by rising key: the rest from a key on.
use Rattle.std.specs.Prelude.{ℕ, suc, Bool, if◌then◌else◌, List, [], ◌∷◌, Option, None, Some, is_some, bytes_eq}
use Rattle.std.specs.List.{list_any}
use Rattle.std.specs.Ordering.{nat_cmp, is_lt}
use Rattle.std.specs.Cmp.Lexicographic.{slice_cmp}
use Rattle.tuple_codec.specs.Edits.{value_at}
use Rattle.tuple_codec.specs.Nodes.{Item}
use Rattle.tuple_codec.specs.declared.edits.Edit.{Edit}
use Rattle.chunk_store.specs.Chunks.{Chunks}
use Rattle.chunk_store.specs.Standing.{IsTree}

-- the address stands for some list of rows
abbrev pub StandsForRows : (List ℕ → List ℕ) → Chunks → List ℕ → Type 0
StandsForRows address chunks k = (rows : List Item) × IsTree address chunks k rows

-- the rest of a list from its first item whose key isn't below this one
abbrev pub from_key : List ℕ → List Item → List Item
from_key key [] = []
from_key key (item ∷ items) = if is_lt (slice_cmp nat_cmp item.key key) then from_key key items else item ∷ items

-- how many items come before it
abbrev pub place_of : List ℕ → List Item → ℕ
place_of key [] = 0
place_of key (item ∷ items) = if is_lt (slice_cmp nat_cmp item.key key) then suc (place_of key items) else 0

-- the value of the first row, if it has this key
abbrev pub first_of : List ℕ → List Item → Option (List ℕ)
first_of key [] = None
first_of key (row ∷ rows) = if bytes_eq row.key key then Some row.body else None

-- a row as its key and its value
abbrev pub pair_of : Item → List ℕ × List ℕ
pair_of row = (row.key, row.body)

-- whether a row has the key of an edit
abbrev pub has_any : List Item → List Edit → Bool
has_any rows edits = list_any (λ edit. is_some (value_at edit.key rows)) edits
