-- Rows and edits whose keys are numbers, and two other rows.
use Rattle.std.specs.Prelude.{◌≡◌, ◌≤◌, ◌<◌, ◌+◌, ◌^◌, ℕ, Bool, true, false, List, [], ◌∷◌, length, Option, None, Some}
use Rattle.std.specs.Int.{w64, to_be_bytes}
use Rattle.tuple_codec.specs.Nodes.{Item, is_after, leaf_item}
use Rattle.tuple_codec.specs.Trees.{AreRows}
use Rattle.tuple_codec.specs.declared.edits.Edit.{Edit}
use Rattle.chunk_store.specs.Chunks.{Chunks}
use Rattle.chunk_store.specs.Digests.{cut_address}
use Rattle.chunk_store.specs.Standing.{IsTree}
use Rattle.node_chunker.specs.Growth.{last_after}
use Rattle.prolly_edit.specs.Editing.{AreEdits}
use Rattle.unit_tests.specs.declared.rows.Rows.{Rows}
use Rattle.unit_tests.specs.declared.rows.Rows.TheVariants.{Long, Short}
use Rattle.tuple_codec.specs.declared.values.SqlType.{SqlType}
use Rattle.tuple_codec.specs.declared.values.SqlType.TheVariants as kind
use Rattle.schema_model.specs.declared.schemas.Schema.{Schema}

-- ---- rows

-- a number as a key: in eight bytes, or as a BIGINT
abbrev pub number_key : Rows → ℕ → List ℕ
number_key Long number = to_be_bytes w64 number
number_key Short number = 1 ∷ to_be_bytes w64 (number + 2 ^ 63)

-- rows of numbers below this one
pub record AreBelow (kind : Rows) (number : ℕ) (rows : List Item) : Type 0 where
  pub are : AreRows rows
  pub short : length rows ≤ number
  pub next : is_after (last_after None rows) (number_key kind number) ≡ true

abbrev pub AreFewRows : List Item → Type 0
AreFewRows rows = AreRows rows × (length rows < 2 ^ 32)

-- the address stands for some such rows
abbrev pub StandsForFew : Chunks → List ℕ → Type 0
StandsForFew chunks k = (rows : List Item) × IsTree cut_address chunks k rows × (length rows < 2 ^ 32)

-- ---- edits

-- the key of the last edit, or else the one before
abbrev pub last_edit : Option (List ℕ) → List Edit → Option (List ℕ)
last_edit before [] = before
last_edit before (edit ∷ edits) = last_edit (Some edit.key) edits

abbrev pub AreFewEdits : List Edit → Type 0
AreFewEdits edits = AreEdits edits × (length edits < 2 ^ 32)

-- edits of numbers below this one
pub record AreEditsBelow (number : ℕ) (edits : List Edit) : Type 0 where
  pub are : AreFewEdits edits
  pub short : length edits ≤ number
  pub next : is_after (last_edit None edits) (to_be_bytes w64 number) ≡ true

-- no value, or a small one
abbrev pub IsFit : Option (List ℕ) → Type 0
IsFit None = Unit {0}
IsFit (Some value) = length value ≤ 300

-- ---- schemas

-- of a table (id BIGINT PRIMARY KEY), or INT where it isn't wide
abbrev pub id_type : Bool → SqlType
id_type true = kind.BigInt
id_type false = kind.Int

abbrev pub id_schema : Bool → Schema
id_schema wide = record {
  columns = record { name = 105 ∷ 100 ∷ []; kind = id_type wide; not_null = true; default = None } ∷ [];
  key = 0 ∷ [];
  indexes = [];
  checks = [];
  foreign = [];
}

-- ---- two rows

-- the rows (b, two) and (d, four)
abbrev pub two_rows : List Item
two_rows = leaf_item (98 ∷ []) (116 ∷ 119 ∷ 111 ∷ []) ∷ leaf_item (100 ∷ []) (102 ∷ 111 ∷ 117 ∷ 114 ∷ []) ∷ []
