-- Conflicts read from the items of their tree.
use Rattle.std.proofs.Common.{◌≡◌, refl, sym, ap, ◌∙◌, ℕ, List, [], ◌∷◌, ◌++◌, Option, None, Some, map, append_assoc, append-nil}
use Rattle.std.specs.Option.{option_and_then, option_map}
use Rattle.tuple_codec.specs.KeyBytes.{key_bytes}
use Rattle.tuple_codec.specs.Nodes.{Item}
use Rattle.tuple_codec.specs.Rows.{Cells}
use Rattle.tuple_codec.proofs.TextLemmas.{counted_again}
use Rattle.schema_model.specs.PlainTables.{Conflict, PlainTable, body_bytes, conflict_item, conflict_items, side_bytes}
use Rattle.schema_model.specs.declared.schemas.Schema.{Schema}
use Rattle.prolly_tree.specs.Lists.{from_key, pair_of}
use Rattle.table_root.proofs.ReadingLemmas.{from_first}
use Rattle.conflict_tables.specs.Conflicts.{edit_of, entry_of, side_at, theirs_edit, theirs_edits, with_base, with_ours, with_theirs, written_conflict, written_conflicts, written_side}
use Rattle.conflict_tables.specs.declared.entries.ConflictEntry.{ConflictEntry}

-- ---- one conflict

side_again : (schema : Schema) (side : Option Cells) (rest : List ℕ) → side_at (side_bytes schema side ++ rest) ≡ Some (written_side schema side, rest)
side_again schema None rest = refl
side_again schema (Some row) rest = ap (option_map (λ (p : List ℕ × List ℕ). (Some p.0, p.1))) (counted_again (body_bytes schema row) rest)

last_again : (schema : Schema) (side : Option Cells) → side_at (side_bytes schema side) ≡ Some (written_side schema side, [])
last_again schema side = ap side_at (sym (append-nil (side_bytes schema side))) ∙ side_again schema side []

pub entry_again : (schema : Schema) (conflict : Conflict) → entry_of (key_bytes conflict.key) (conflict_item schema conflict).body ≡ Some (written_conflict schema conflict)
unfolding entry_of
entry_again schema conflict =
    let key = key_bytes conflict.key in
    let base = written_side schema conflict.base in
    let ours = written_side schema conflict.ours in
    ap (option_and_then (with_base key)) (side_again schema conflict.base (side_bytes schema conflict.ours ++ side_bytes schema conflict.theirs))
    ∙ ap (option_and_then (with_ours key base)) (side_again schema conflict.ours (side_bytes schema conflict.theirs))
    ∙ ap (option_and_then (with_theirs key base ours)) (last_again schema conflict.theirs)

-- ---- a scan of them

-- some conflicts were read, and those that are left follow
pub record IsReading (done : List ConflictEntry) (rest : List (List ℕ × List ℕ)) (table : PlainTable) : Type 0 where
  pub left : List Conflict
  pub whole : done ++ map (written_conflict table.schema) left ≡ written_conflicts table
  pub follow : rest ≡ map pair_of (map (conflict_item table.schema) left)

pub begins : (table : PlainTable) (rest : List (List ℕ × List ℕ)) → rest ≡ map pair_of (from_key [] (conflict_items table)) → IsReading [] rest table
begins table rest e = record { left = table.conflicts; whole = refl; follow = e ∙ ap (λ (l : List Item). map pair_of l) (from_first (conflict_items table)) }

-- the conflict of the first pair that is left, and what is left behind it
pub record IsFirst (done : List ConflictEntry) (pair : List ℕ × List ℕ) (rest : List (List ℕ × List ℕ)) (table : PlainTable) : Type 0 where
  pub entry : ConflictEntry
  pub is : entry_of pair.0 pair.1 ≡ Some entry
  pub reading : IsReading (done ++ entry ∷ []) rest table

first_of : (table : PlainTable) (done : List ConflictEntry) (left : List Conflict) (pair : List ℕ × List ℕ) (rest : List (List ℕ × List ℕ)) → done ++ map (written_conflict table.schema) left ≡ written_conflicts table
    → (pair ∷ rest) ≡ map pair_of (map (conflict_item table.schema) left) → IsFirst done pair rest table
first_of table done [] pair rest whole e = absurd (cc)
first_of table done (conflict ∷ left) pair rest whole e =
    let one : pair ≡ pair_of (conflict_item table.schema conflict) = cc in
    let more : rest ≡ map pair_of (map (conflict_item table.schema) left) = cc in
    record {
      entry = written_conflict table.schema conflict;
      is = ap (λ (p : List ℕ × List ℕ). entry_of p.0 p.1) one ∙ entry_again table.schema conflict;
      reading = record { left = left; whole = append_assoc done (written_conflict table.schema conflict ∷ []) (map (written_conflict table.schema) left) ∙ whole; follow = more };
    }

pub first : (table : PlainTable) (done : List ConflictEntry) (all rest : List (List ℕ × List ℕ)) (pair : List ℕ × List ℕ) → IsReading done all table → all ≡ pair ∷ rest → IsFirst done pair rest table
first table done all rest pair reading e = first_of table done reading.left pair rest reading.whole (sym e ∙ reading.follow)

over_by : (table : PlainTable) (done : List ConflictEntry) (left : List Conflict) → done ++ map (written_conflict table.schema) left ≡ written_conflicts table
    → [] ≡ map pair_of (map (conflict_item table.schema) left) → done ≡ written_conflicts table
over_by table done [] whole e = sym (append-nil done) ∙ whole
over_by table done (conflict ∷ left) whole e = absurd (cc)

pub over : (table : PlainTable) (done : List ConflictEntry) (all : List (List ℕ × List ℕ)) → IsReading done all table → all ≡ [] → done ≡ written_conflicts table
over table done all reading e = over_by table done reading.left reading.whole (sym e ∙ reading.follow)

-- ---- the edits that make rows theirs

edits_again : (schema : Schema) (conflicts : List Conflict) → map edit_of (map (written_conflict schema) conflicts) ≡ map (theirs_edit schema) conflicts
edits_again schema [] = refl
edits_again schema (conflict ∷ conflicts) = ap (λ l. theirs_edit schema conflict ∷ l) (edits_again schema conflicts)

pub edits_are : (table : PlainTable) (list : List ConflictEntry) → list ≡ written_conflicts table → map edit_of list ≡ theirs_edits table
edits_are table list is = ap (map edit_of) is ∙ edits_again table.schema table.conflicts
