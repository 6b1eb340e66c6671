-- Conflicts as a table's tree keeps them: what is read, what is left, and the edits that make their rows theirs.
use Rattle.std.specs.Prelude.{◌≡◌, ℕ, ◌==◌, Bool, not, if◌then◌else◌, List, [], ◌∷◌, filter, map, Option, None, Some, bytes_eq}
use Rattle.std.specs.List.{list_any}
use Rattle.std.specs.Option.{option_and_then, option_map}
use Rattle.tuple_codec.specs.Fronts.{length_prefixed_at}
use Rattle.tuple_codec.specs.KeyBytes.{key_bytes}
use Rattle.tuple_codec.specs.Nodes.{Item}
use Rattle.tuple_codec.specs.Rows.{Cells}
use Rattle.tuple_codec.specs.declared.edits.Edit.{Edit}
use Rattle.schema_model.specs.PlainTables.{Conflict, PlainTable, body_bytes}
use Rattle.schema_model.specs.declared.schemas.Schema.{Schema}
use Rattle.chunk_store.specs.Chunks.{Chunks}
use Rattle.table_root.specs.Standing.{IsTableOf}
use Rattle.table_root.specs.declared.records.StoredTable.{StoredTable}
use Rattle.conflict_tables.specs.declared.entries.ConflictEntry.{ConflictEntry}

-- some table it is
abbrev pub IsSomeTable : (List ℕ → List ℕ) → Chunks → StoredTable → Type 0
IsSomeTable address chunks table = (contents : PlainTable) × IsTableOf address chunks table contents

-- ---- what is read

-- a side's row by its bytes, if there is one
abbrev pub written_side : Schema → Option Cells → Option (List ℕ)
written_side schema side = option_map (body_bytes schema) side

abbrev pub written_conflict : Schema → Conflict → ConflictEntry
written_conflict schema conflict = record {
  key = key_bytes conflict.key;
  base = written_side schema conflict.base;
  ours = written_side schema conflict.ours;
  theirs = written_side schema conflict.theirs;
}

abbrev pub written_conflicts : PlainTable → List ConflictEntry
written_conflicts table = map (written_conflict table.schema) table.conflicts

-- ---- what is left

-- the key is one of these
abbrev pub is_among : List (List ℕ) → List ℕ → Bool
is_among keys key = list_any (λ other. bytes_eq other key) keys

abbrev pub stays : List (List ℕ) → Conflict → Bool
stays keys conflict = not (is_among keys (key_bytes conflict.key))

-- the same table without its conflicts at these keys
abbrev pub without_conflicts : List (List ℕ) → PlainTable → PlainTable
without_conflicts keys table = record { schema = table.schema; rows = table.rows; conflicts = filter (stays keys) table.conflicts; violations = table.violations }

-- ---- the edits

-- what makes the row at the conflict's key theirs: their row is put there, or none is
abbrev pub theirs_edit : Schema → Conflict → Edit
theirs_edit schema conflict = record { key = key_bytes conflict.key; value = written_side schema conflict.theirs }

abbrev pub theirs_edits : PlainTable → List Edit
theirs_edits table = map (theirs_edit table.schema) table.conflicts

-- ---- how the private functions go

-- a row behind its length, and the bytes after it
abbrev pub row_at : List ℕ → Option (Option (List ℕ) × List ℕ)
row_at bytes = option_map (λ p. (Some p.0, p.1)) (length_prefixed_at bytes)

-- a side at the front of bytes, and the bytes after it
abbrev pub side_at : List ℕ → Option (Option (List ℕ) × List ℕ)
side_at [] = None
side_at (kind ∷ rest) = if kind == 0 then Some (None, rest) else (if kind == 1 then row_at rest else None)

-- the conflict of a key by its sides, the last of them being at the front of bytes; then the last two, and all three
abbrev pub with_theirs : List ℕ → Option (List ℕ) → Option (List ℕ) → Option (List ℕ) × List ℕ → Option ConflictEntry
with_theirs key base ours theirs = Some (record { key = key; base = base; ours = ours; theirs = theirs.0 })

abbrev pub with_ours : List ℕ → Option (List ℕ) → Option (List ℕ) × List ℕ → Option ConflictEntry
with_ours key base ours = option_and_then (with_theirs key base ours.0) (side_at ours.1)

abbrev pub with_base : List ℕ → Option (List ℕ) × List ℕ → Option ConflictEntry
with_base key base = option_and_then (with_ours key base.0) (side_at base.1)

unfoldable pub entry_of : List ℕ → List ℕ → Option ConflictEntry
entry_of key bytes = option_and_then (with_base key) (side_at bytes)

-- the key and the bytes of an item are those of a conflict
abbrev pub IsConflictAt : List ℕ → List ℕ → Type 0
IsConflictAt key bytes = (entry : ConflictEntry) × (entry_of key bytes ≡ Some entry)

-- what makes the row at a conflict's key theirs, by the conflict's bytes
abbrev pub edit_of : ConflictEntry → Edit
edit_of entry = record { key = entry.key; value = entry.theirs }

-- that a key goes
abbrev pub removal : List ℕ → Edit
removal key = record { key = key; value = None }

abbrev pub removal_if : List (List ℕ) → List ℕ → List Edit
removal_if keys key = if is_among keys key then removal key ∷ [] else []

abbrev pub is_dropped : List (List ℕ) → Item → Bool
is_dropped keys item = is_among keys item.key

abbrev pub removal_of : Item → Edit
removal_of item = removal item.key

-- the removal of each item whose key is one of these
abbrev pub removals : List (List ℕ) → List Item → List Edit
removals keys items = map removal_of (filter (is_dropped keys) items)
