-- Merging by the changes from base to theirs is merging over all keys.
use Rattle.std.specs.Prelude.{◌≡◌, ℕ, List, [], ◌∷◌, map, Option, None, Some}
use Rattle.std.specs.Option.{option_map}
use Rattle.tuple_codec.specs.Nodes.{Item, Rise, leaf_item}
use Rattle.tuple_codec.specs.Edits.{changed, edited, order, value_at}
use Rattle.tuple_codec.specs.declared.edits.Edit.{Edit}
use Rattle.tuple_codec.specs.declared.edits.ItemChange.{ItemChange}
use Rattle.tuple_codec.specs.ByKey.{AreLeafRows}
use Rattle.schema_merge.specs.KeyByKey.{all_keys, before, gathered, kept}

-- what base, ours and theirs come to at a key: a value, its absence, or none for a conflict
abbrev pub Rule : Type 0
Rule = Option (List ℕ) → Option (List ℕ) → Option (List ℕ) → Option (Option (List ℕ))

-- what theirs kept is ours; a merge asks no more of a rule
abbrev pub IsRule : Rule → Type 0
IsRule rule = (base ours : Option (List ℕ)) → rule base ours base ≡ Some ours

-- ---- over all keys

abbrev pub value_after : Rule → List Item → List Item → List Item → List ℕ → Option (List ℕ)
value_after rule base ours theirs key = kept (value_at key ours) (rule (value_at key base) (value_at key ours) (value_at key theirs))

abbrev pub row_after : Rule → List Item → List Item → List Item → List ℕ → Option Item
row_after rule base ours theirs key = option_map (leaf_item key) (value_after rule base ours theirs key)

abbrev pub keys_in : List Item → List (List ℕ)
keys_in rows = map (λ row. row.key) rows

abbrev pub merged_rows : Rule → List Item → List Item → List Item → List Item
merged_rows rule base ours theirs = gathered (row_after rule base ours theirs) (all_keys order (keys_in base) (keys_in ours) (keys_in theirs))

-- ---- by changes

-- what a change from base to theirs does to ours; nothing where it is in conflict
abbrev pub edit_if : List ℕ → Option (Option (List ℕ)) → Option Edit
edit_if key (Some value) = Some (record { key = key; value = value })
edit_if key None = None

abbrev pub edit_for : Rule → List Item → ItemChange → Option Edit
edit_for rule ours change = edit_if change.key (rule change.old (value_at change.key ours) change.new)

abbrev pub edits_for : Rule → List Item → List ItemChange → List Edit
edits_for rule ours [] = []
edits_for rule ours (change ∷ changes) = before (edit_for rule ours change) (edits_for rule ours changes)

-- the law
abbrev pub ChangesMerge : Type 0
ChangesMerge = (rule : Rule) → IsRule rule → (base ours theirs : List Item) → Rise base → Rise ours → Rise theirs → AreLeafRows ours
    → edited ours (edits_for rule ours (changed base theirs)) ≡ merged_rows rule base ours theirs
