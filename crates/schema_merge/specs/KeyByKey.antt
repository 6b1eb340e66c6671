-- Lists with rising keys, merged key by key.
use Rattle.std.specs.Prelude.{List, [], ◌∷◌, Option, None, Some}
use Rattle.std.specs.Ordering.{match_ordering}
use Rattle.std.specs.declared.cmp.Ordering.{Ordering}

-- a key against the keys of another list, rest being the union of the keys after it with what is left of that
abbrev pub key_among : {K : Type 0} → (K → K → Ordering) → K → (List K → List K) → List K → List K
key_among order key rest [] = key ∷ rest []
key_among order key rest (other ∷ others) =
    match_ordering (order other key) (other ∷ key_among order key rest others) (key ∷ rest others) (key ∷ rest (other ∷ others))

-- the keys of two rising lists, rising, each once
abbrev pub keys_with : {K : Type 0} → (K → K → Ordering) → List K → List K → List K
keys_with order [] others = others
keys_with order (key ∷ keys) others = key_among order key (keys_with order keys) others

-- the keys of three
abbrev pub all_keys : {K : Type 0} → (K → K → Ordering) → List K → List K → List K → List K
all_keys order base ours theirs = keys_with order base (keys_with order ours theirs)

-- what is there for a key, before the others
abbrev pub before : {A : Type 0} → Option A → List A → List A
before None others = others
before (Some item) others = item ∷ others

-- what is there for each key, in order
abbrev pub gathered : {K A : Type 0} → (K → Option A) → List K → List A
gathered find [] = []
gathered find (key ∷ keys) = before (find key) (gathered find keys)

-- what a merge leaves, ours where there is a conflict
abbrev pub kept : {A : Type 0} → Option A → Option (Option A) → Option A
kept ours (Some merged) = merged
kept ours None = ours
