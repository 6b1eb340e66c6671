-- Conflicts' bytes are those of their sides' rows.
use Rattle.std.proofs.Common.{◌≡◌, ◌<◌, ◌+◌, refl, sym, ap, ◌∙◌, subst, ℕ, zero, suc, true, ◌&&◌, List, [], ◌∷◌, ◌++◌, length, map, drop, get_or, arith, Option, None, Some, append_assoc}
use Rattle.std.specs.List.{list_all}
use Rattle.std.specs.Ordering.{is_eq}
use Rattle.std.proofs.lemmas.Bool.{and_parts}
use Rattle.std.proofs.lemmas.List.{drop_more, length-map}
use Rattle.chunk_store.specs.Chunks.{Chunks}
use Rattle.conflict_tables.specs.Conflicts.{written_conflict, written_conflicts, written_side}
use Rattle.conflict_tables.specs.declared.entries.ConflictEntry.{ConflictEntry}
use Rattle.schema_model.specs.PlainTables.{Conflict, PlainTable, is_conflict, is_row, is_side_at, key_types, primary_key}
use Rattle.schema_model.specs.declared.schemas.Schema.{Schema}
use Rattle.table_root.specs.Standing.{IsTableOf}
use Rattle.table_root.specs.declared.records.StoredTable.{StoredTable}
use Rattle.tuple_codec.specs.KeyBytes.{key_bytes}
use Rattle.tuple_codec.specs.Rows.{AreTold, Cells, fits_all, key_cmp, same_cells}
use Rattle.system_tables.specs.Entries.{AreConflictsOf, IsConflictOf, IsSideOf, conflict_entry}
use Rattle.system_tables.specs.declared.entries.ListEntry.{ListEntry}

module _ (told : AreTold same_cells) (schema : Schema) where
  side_of : (key : Cells) (side : Option Cells) → is_side_at schema key side ≡ true → IsSideOf schema (key_bytes key) (written_side schema side) side
  side_of key None h = tt
  side_of key (Some row) h =
      let parts = and_parts (is_row schema row) (is_eq (key_cmp (primary_key schema row) key)) h in
      record { fits = parts.0; key = ap key_bytes ((told (primary_key schema row) key).0 parts.1); value = refl }

  conflict_of : (conflict : Conflict) → is_conflict schema conflict ≡ true → IsConflictOf schema (written_conflict schema conflict) conflict
  conflict_of conflict h =
      let key = fits_all (key_types schema) conflict.key in
      let base = is_side_at schema conflict.key conflict.base in
      let ours = is_side_at schema conflict.key conflict.ours in
      let theirs = is_side_at schema conflict.key conflict.theirs in
      let a = and_parts (key && base && ours) theirs h in
      let b = and_parts (key && base) ours a.0 in
      let c = and_parts key base b.0 in
      record { key = refl; base_side = side_of conflict.key conflict.base c.1; our_side = side_of conflict.key conflict.ours b.1; their_side = side_of conflict.key conflict.theirs a.1 }

  conflict_at : (conflicts : List Conflict) (i : ℕ) (d : ConflictEntry) (e : Conflict) → i < length conflicts → list_all (is_conflict schema) conflicts ≡ true
      → IsConflictOf schema (get_or (map (written_conflict schema) conflicts) i d) (get_or conflicts i e)
  conflict_at [] i d e within all = absurd (omega (arith, within))
  conflict_at (conflict ∷ conflicts) zero d e within all = conflict_of conflict (and_parts (is_conflict schema conflict) (list_all (is_conflict schema) conflicts) all).0
  conflict_at (conflict ∷ conflicts) (suc i) d e within all =
      conflict_at conflicts i d e (omega (arith, within)) (and_parts (is_conflict schema conflict) (list_all (is_conflict schema) conflicts) all).1

  few : (list : List ConflictEntry) (conflicts : List Conflict) → AreConflictsOf schema list conflicts → (i : ℕ) → i < length list → i < length conflicts
  few list conflicts of i within = subst (λ n. i < n) (ap length of.are ∙ length-map conflicts (written_conflict schema)) within

  -- the one at a place
  pub one_of : (list : List ConflictEntry) (conflicts : List Conflict) → AreConflictsOf schema list conflicts → (i : ℕ) (d : ConflictEntry) (e : Conflict) → i < length list
      → IsConflictOf schema (get_or list i d) (get_or conflicts i e)
  one_of list conflicts of i d e within =
      subst (λ (l : List ConflictEntry). IsConflictOf schema (get_or l i d) (get_or conflicts i e)) (sym of.are) (conflict_at conflicts i d e (few list conflicts of i within) of.conflicts_are)

  -- the entries of one more
  pub one_more : (list : List ConflictEntry) (conflicts : List Conflict) → AreConflictsOf schema list conflicts → (i : ℕ) (e : Conflict) → i < length list → (done next : List ListEntry)
      → done ++ map (conflict_entry schema) (drop i conflicts) ≡ map (conflict_entry schema) conflicts → next ≡ done ++ conflict_entry schema (get_or conflicts i e) ∷ []
      → next ++ map (conflict_entry schema) (drop (i + 1) conflicts) ≡ map (conflict_entry schema) conflicts
  one_more list conflicts of i e within done next so_far is =
      ap (λ (l : List ListEntry). l ++ map (conflict_entry schema) (drop (i + 1) conflicts)) is
      ∙ append_assoc done (conflict_entry schema (get_or conflicts i e) ∷ []) (map (conflict_entry schema) (drop (i + 1) conflicts))
      ∙ ap (λ (l : List Conflict). done ++ map (conflict_entry schema) l) (sym (drop_more conflicts i e (few list conflicts of i within)))
      ∙ so_far

-- conflicts that were read are those of a table that stands
pub read_of : (address : List ℕ → List ℕ) (chunks : Chunks) (table : StoredTable) (contents : PlainTable) → IsTableOf address chunks table contents → (list : List ConflictEntry) → list ≡ written_conflicts contents
    → AreConflictsOf table.schema list contents.conflicts
read_of address chunks table contents of list are =
    subst (λ (schema : Schema). AreConflictsOf schema list contents.conflicts) (sym (ap (λ (t : StoredTable). t.schema) of.value)) (record { are = are; conflicts_are = of.is_table.conflicts })

pub shown_of : (address : List ℕ → List ℕ) (chunks : Chunks) (table : StoredTable) (contents : PlainTable) → IsTableOf address chunks table contents → (entries : List ListEntry)
    → entries ≡ map (conflict_entry table.schema) contents.conflicts → entries ≡ map (conflict_entry contents.schema) contents.conflicts
shown_of address chunks table contents of entries are = are ∙ ap (λ (t : StoredTable). map (conflict_entry t.schema) contents.conflicts) of.value
