-- How rows are sought in trees by the bytes of their first cells.
use Rattle.std.specs.Prelude.{ℕ, Bool, false, ◌&&◌, ◌||◌, not, nat_lt, if◌then◌else◌, List, [], ◌∷◌, length, take, Option, None, Some, bytes_eq}
use Rattle.std.specs.List.{list_all}
use Rattle.tuple_codec.specs.KeyBytes.{key_bytes}
use Rattle.tuple_codec.specs.Rows.{Cells, fits_all}
use Rattle.schema_model.specs.declared.schemas.Schema.{Schema}
use Rattle.plain_writes.specs.Violations.{types_at}

-- these bytes stand first
abbrev pub begins : List ℕ → List ℕ → Bool
begins prefix key = bytes_eq prefix (take (length prefix) key)

-- the key begins with these bytes, and isn't this one
abbrev pub is_another : List ℕ → List ℕ → List ℕ → Bool
is_another prefix own key = begins prefix key && not (bytes_eq key own)

-- the first of these entries begins so
abbrev pub begins_first : List ℕ → List (List ℕ × List ℕ) → Bool
begins_first prefix [] = false
begins_first prefix (entry ∷ entries) = begins prefix entry.0

-- the first of these entries begins so, or, where it is this one, the next
abbrev pub begins_other : List ℕ → List ℕ → List (List ℕ × List ℕ) → Bool
begins_other prefix own [] = false
begins_other prefix own (entry ∷ entries) = begins prefix entry.0 && (not (bytes_eq entry.0 own) || begins_first prefix entries)

-- ---- keys that are sought

-- these columns are there, and the cells fit them
abbrev pub can_seek : Schema → List ℕ → Cells → Bool
can_seek schema places key = list_all (λ place. nat_lt place (length schema.columns)) places && fits_all (types_at schema places) key

-- the bytes of such cells
abbrev pub sought : Schema → List ℕ → Cells → Option (List ℕ)
sought schema places key = if can_seek schema places key then Some (key_bytes key) else None
