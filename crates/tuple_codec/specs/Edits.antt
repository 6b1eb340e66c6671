-- The values of lists of rows by their keys, edits of such a list, and the changes between two.
use Rattle.std.specs.Prelude.{◌≡◌, ℕ, true, if◌then◌else◌, List, [], ◌∷◌, Option, None, Some, bytes_eq}
use Rattle.std.specs.Ordering.{match_ordering, nat_cmp}
use Rattle.std.specs.Cmp.Lexicographic.{slice_cmp}
use Rattle.std.specs.declared.cmp.Ordering.{Ordering}
use Rattle.tuple_codec.specs.Nodes.{Item, leaf_item, is_after}
use Rattle.tuple_codec.specs.declared.edits.Edit.{Edit}
use Rattle.tuple_codec.specs.declared.edits.ItemChange.{ItemChange}

-- the order of keys, by bytes
abbrev pub order : List ℕ → List ℕ → Ordering
order = slice_cmp nat_cmp

-- the value of the row with this key
abbrev pub value_at : List ℕ → List Item → Option (List ℕ)
value_at key [] = None
value_at key (row ∷ rows) = if bytes_eq row.key key then Some row.body else value_at key rows

-- what stands at the key after an edit, before other rows
abbrev pub putting : List ℕ → Option (List ℕ) → List Item → List Item
putting key None rows = rows
putting key (Some value) rows = leaf_item key value ∷ rows

abbrev pub puts : List Edit → List Item
puts [] = []
puts (edit ∷ edits) = putting edit.key edit.value (puts edits)

-- edits at and before a row, rest being the edits of the rows after it
abbrev pub edits_at : Item → (List Edit → List Item) → List Edit → List Item
edits_at row rest [] = row ∷ rest []
edits_at row rest (edit ∷ edits) =
    match_ordering (order edit.key row.key) (putting edit.key edit.value (edits_at row rest edits)) (putting edit.key edit.value (rest edits)) (row ∷ rest (edit ∷ edits))

-- rows with rising keys after edits with rising keys: each edit's key is put or removed
abbrev pub edited : List Item → List Edit → List Item
edited [] edits = puts edits
edited (row ∷ rows) edits = edits_at row (edited rows) edits

abbrev pub added : Item → ItemChange
added row = record { key = row.key; old = None; new = Some row.body }

abbrev pub removed : Item → ItemChange
removed row = record { key = row.key; old = Some row.body; new = None }

abbrev pub replaced : Item → Item → ItemChange
replaced row other = record { key = row.key; old = Some row.body; new = Some other.body }

abbrev pub all_added : List Item → List ItemChange
all_added [] = []
all_added (row ∷ rows) = added row ∷ all_added rows

-- a row against the rows of the other list, rest being the changes of the rows after it
abbrev pub against : Item → (List Item → List ItemChange) → List Item → List ItemChange
against row rest [] = removed row ∷ rest []
against row rest (other ∷ others) =
    match_ordering (order other.key row.key) (added other ∷ against row rest others)
    (if bytes_eq other.body row.body then rest others else replaced row other ∷ rest others) (removed row ∷ rest (other ∷ others))

-- the keys, rising, at which two lists with rising keys differ, with what each has there
abbrev pub changed : List Item → List Item → List ItemChange
changed [] others = all_added others
changed (row ∷ rows) others = against row (changed rows) others

-- the keys of edits rise strictly, also from the one before them
abbrev pub EditsRiseAfter : Option (List ℕ) → List Edit → Type 0
EditsRiseAfter before [] = Unit {0}
EditsRiseAfter before (edit ∷ edits) = (is_after before edit.key ≡ true) × EditsRiseAfter (Some edit.key) edits
