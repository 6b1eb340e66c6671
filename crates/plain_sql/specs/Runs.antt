-- Rows that stand in order are cut where their cells at the places change.
use Rattle.std.specs.Prelude.{ℕ, Bool, true, if◌then◌else◌, List, [], ◌∷◌, ◌++◌}
use Rattle.std.specs.Ordering.{is_eq, on}
use Rattle.std.specs.declared.cmp.Ordering.{Ordering}
use Rattle.tuple_codec.specs.Rows.{Cells, key_cmp, key_of}

abbrev pub places_cmp : List ℕ → Cells → Cells → Ordering
places_cmp places = on (key_of places) key_cmp

-- an item belongs to a run whose first it ties with, and to a run that has none
abbrev pub goes_on : {A : Type 0} → (A → A → Ordering) → List A → A → Bool
goes_on compare [] x = true
goes_on compare (first ∷ run) x = is_eq (compare first x)

-- the run with this item, or this item as the next run
abbrev pub run_with : {A : Type 0} → (A → A → Ordering) → List A → A → List A
run_with compare run x = if goes_on compare run x then run ++ x ∷ [] else x ∷ []

-- the runs, once this item has come
abbrev pub runs_with : {A : Type 0} → (A → A → Ordering) → List (List A) → List A → A → List (List A)
runs_with compare runs run x = if goes_on compare run x then runs else runs ++ run ∷ []

-- this run, where it has an item
abbrev pub last_run : {A : Type 0} → List A → List (List A)
last_run [] = []
last_run (x ∷ run) = (x ∷ run) ∷ []

-- the runs of what is left, the first of which goes on with this one
abbrev pub runs_from : {A : Type 0} → (A → A → Ordering) → List A → List A → List (List A)
runs_from compare run [] = last_run run
runs_from compare run (x ∷ xs) = if goes_on compare run x then runs_from compare (run ++ x ∷ []) xs else run ∷ runs_from compare (x ∷ []) xs
