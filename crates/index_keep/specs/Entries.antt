-- The entries of indexes, by rows that come, go or change.
use Rattle.std.specs.Prelude.{ℕ, Bool, if◌then◌else◌, List, [], ◌∷◌, ◌++◌, map, Option, None, Some, bytes_eq}
use Rattle.std.specs.List.{flat_map}
use Rattle.std.specs.List.Sorted.{IsSortedBy, IsStableBy}
use Rattle.std.specs.Option.{option_map}
use Rattle.std.specs.Ordering.{is_lt}
use Rattle.tuple_codec.specs.Edits.{order}
use Rattle.tuple_codec.specs.KeyBytes.{key_bytes}
use Rattle.tuple_codec.specs.Rows.{Cells, key_of}
use Rattle.tuple_codec.specs.declared.edits.Edit.{Edit}
use Rattle.schema_model.specs.PlainTables.{primary_key}
use Rattle.schema_model.specs.declared.schemas.IndexDef.{IndexDef}
use Rattle.schema_model.specs.declared.schemas.Schema.{Schema}
use Rattle.index_keep.specs.declared.changes.RowChange.{RowChange}

-- the key under which a row stands, and the one under which its entry in an index does
abbrev pub row_key : Schema → Cells → List ℕ
row_key schema row = key_bytes (primary_key schema row)

abbrev pub entry_key : Schema → IndexDef → Cells → List ℕ
entry_key schema index row = key_bytes (key_of index.columns row ++ primary_key schema row)

-- the first item of this name
abbrev pub found : {A : Type 0} → (A → List ℕ) → List ℕ → List A → Option A
found name key [] = None
found name key (item ∷ items) = if bytes_eq (name item) key then Some item else found name key items

-- what stood at a key, and what stands there
abbrev pub row_change : Option Cells → Option Cells → RowChange
row_change old new = record { old = old; new = new }

-- what becomes of the rows at these keys
abbrev pub changes_at : Schema → List Cells → List Cells → List (List ℕ) → List RowChange
changes_at schema rows others keys = map (λ key. row_change (found (row_key schema) key rows) (found (row_key schema) key others)) keys

abbrev pub keys_of : List Edit → List (List ℕ)
keys_of edits = map (λ edit. edit.key) edits

-- an entry is put, or goes
abbrev pub put_entry : List ℕ → Edit
put_entry key = record { key = key; value = Some [] }

abbrev pub remove_entry : List ℕ → Edit
remove_entry key = record { key = key; value = None }

-- an entry in place of another, where there are such
abbrev pub entry_edits : Option (List ℕ) → Option (List ℕ) → List Edit
entry_edits None None = []
entry_edits None (Some new) = put_entry new ∷ []
entry_edits (Some old) None = remove_entry old ∷ []
entry_edits (Some old) (Some new) = if bytes_eq old new then [] else put_entry new ∷ remove_entry old ∷ []

-- what a changed row does to an index, and what changed rows do
abbrev pub edits_of_change : Schema → IndexDef → RowChange → List Edit
edits_of_change schema index change = entry_edits (option_map (entry_key schema index) change.old) (option_map (entry_key schema index) change.new)

abbrev pub edits_of_changes : Schema → IndexDef → List RowChange → List Edit
edits_of_changes schema index changes = flat_map (edits_of_change schema index) changes

-- edits go by their keys
abbrev pub comes_before : Edit → Edit → Bool
comes_before a b = is_lt (order a.key b.key)

-- so many of these edits, sorted by key
pub record AreSorted (edits sorted : List Edit) : Type 0 where
  pub in_order : IsSortedBy comes_before sorted
  pub stable : IsStableBy comes_before edits sorted
