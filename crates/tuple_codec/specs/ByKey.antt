-- Lists of rows, edits and changes as what stands at each key.
use Rattle.std.specs.Prelude.{◌≡◌, ℕ, if◌then◌else◌, List, [], ◌∷◌, map, Option, None, Some, bytes_eq}
use Rattle.std.specs.List.{AllByRecursion}
use Rattle.tuple_codec.specs.Nodes.{Item, Rise}
use Rattle.tuple_codec.specs.Edits.{EditsRiseAfter, changed, edited, value_at}
use Rattle.tuple_codec.specs.declared.edits.Edit.{Edit}
use Rattle.tuple_codec.specs.declared.edits.ItemChange.{ItemChange}

-- what an edit puts at the key, none being removal, if there is an edit of it
abbrev pub edit_at : List ℕ → List Edit → Option (Option (List ℕ))
edit_at key [] = None
edit_at key (edit ∷ edits) = if bytes_eq edit.key key then Some edit.value else edit_at key edits

-- an edit's value, or what stood there
abbrev pub over : Option (Option (List ℕ)) → Option (List ℕ) → Option (List ℕ)
over None old = old
over (Some new) old = new

-- both values, old and new, of the change at the key, if there is one
abbrev pub change_at : List ℕ → List ItemChange → Option (Option (List ℕ) × Option (List ℕ))
change_at key [] = None
change_at key (change ∷ changes) = if bytes_eq change.key key then Some (change.old, change.new) else change_at key changes

-- two values that differ, absence counting as a value
abbrev pub between : Option (List ℕ) → Option (List ℕ) → Option (Option (List ℕ) × Option (List ℕ))
between None None = None
between None (Some new) = Some (None, Some new)
between (Some old) None = Some (Some old, None)
between (Some old) (Some new) = if bytes_eq new old then None else Some (Some old, Some new)

-- changes as the edits that make them
abbrev pub as_edit : ItemChange → Edit
as_edit change = record { key = change.key; value = change.new }

abbrev pub as_edits : List ItemChange → List Edit
as_edits changes = map as_edit changes

-- rows of a leaf, each of which counts as one
abbrev pub AreLeafRows : List Item → Type 0
AreLeafRows rows = AllByRecursion (λ row. row.rows ≡ 1) rows

-- ---- the laws

pub record EditsFollow : Type 0 where
  pub rise : (rows : List Item) (edits : List Edit) → Rise rows → EditsRiseAfter None edits → Rise (edited rows edits)
  pub value : (key : List ℕ) (rows : List Item) (edits : List Edit) → Rise rows → EditsRiseAfter None edits
      → value_at key (edited rows edits) ≡ over (edit_at key edits) (value_at key rows)

pub record ChangesFollow : Type 0 where
  pub rise : (rows others : List Item) → Rise rows → Rise others → EditsRiseAfter None (as_edits (changed rows others))
  pub value : (key : List ℕ) (rows others : List Item) → Rise rows → Rise others
      → change_at key (changed rows others) ≡ between (value_at key rows) (value_at key others)
  pub back : (rows others : List Item) → Rise rows → Rise others → AreLeafRows rows → AreLeafRows others
      → edited rows (as_edits (changed rows others)) ≡ others

abbrev pub IsOneList : Type 0
IsOneList = (rows others : List Item) → Rise rows → Rise others → AreLeafRows rows → AreLeafRows others
    → ((key : List ℕ) → value_at key rows ≡ value_at key others) → rows ≡ others
