-- What a chunk writes down, told by its first byte.
use Rattle.std.specs.Prelude.{ℕ, Bool, false, ◌==◌, ◌||◌, List, [], ◌∷◌}

-- the bytes begin with this one
abbrev pub begins_with : ℕ → List ℕ → Bool
begins_with first [] = false
begins_with first (byte ∷ bytes) = byte == first

-- a node of a tree, a leaf or an inner one
abbrev pub is_node : List ℕ → Bool
is_node bytes = begins_with 1 bytes || begins_with 2 bytes

abbrev pub is_table : List ℕ → Bool
is_table bytes = begins_with 3 bytes

abbrev pub is_database : List ℕ → Bool
is_database bytes = begins_with 4 bytes

abbrev pub is_commit : List ℕ → Bool
is_commit bytes = begins_with 5 bytes

abbrev pub is_branch : List ℕ → Bool
is_branch bytes = begins_with 6 bytes

-- of the one kind or of the other
abbrev pub is_either : (List ℕ → Bool) → (List ℕ → Bool) → List ℕ → Bool
is_either some others bytes = some bytes || others bytes

-- what a database is written in: nodes, tables, and itself
abbrev pub is_data : List ℕ → Bool
is_data = is_either is_node (is_either is_table is_database)
