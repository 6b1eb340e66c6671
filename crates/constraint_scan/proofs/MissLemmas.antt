-- Keys that a parent has no more.
use Rattle.std.proofs.Common.{◌≡◌, refl, sym, ap, ◌∙◌, ℕ, Bool, true, false, cond, ◌&&◌, ◌||◌, not, List, [], ◌∷◌, Some, IfOk}
use Rattle.std.specs.Prelude.{Result}
use Rattle.std.specs.List.{list_any}
use Rattle.std.specs.Option.{option_map_or}
use Rattle.tuple_codec.specs.Rows.{Cells, key_of, same_cells}
use Rattle.schema_model.specs.PlainTables.{PlainDatabase, PlainTable}
use Rattle.schema_model.specs.declared.schemas.ForeignKey.{ForeignKey}
use Rattle.schema_model.specs.declared.schemas.Schema.{Schema}
use Rattle.plain_writes.specs.Violations.{is_whole, keys_at, parent_keys, places_of, same_types, types_at}
use Rattle.constraint_scan.specs.Changed.{is_missed, is_missed_row, with_row}
use Rattle.constraint_scan.proofs.FoundLemmas.{so_found}

module _ {E : Type 0} (r : Result Bool E) (after : PlainDatabase) (contents : PlainTable) (foreign : ForeignKey) where
  pub missed_told : (key slice : Cells) → slice ≡ key → is_whole key ≡ true → list_any (same_cells key) (parent_keys after contents.schema foreign) ≡ false
      → IfOk r (λ found. found ≡ list_any (λ row. same_cells slice (key_of foreign.columns row)) contents.rows) → IfOk r (λ found. found ≡ is_missed after contents foreign key)
  missed_told key slice is whole none found =
      so_found r (list_any (λ row. same_cells slice (key_of foreign.columns row)) contents.rows) (is_missed after contents foreign key)
      (λ i. sym whole i && not (sym none i) && list_any (λ row. same_cells (is i) (key_of foreign.columns row)) contents.rows) found

  pub missed_at : (typed : Bool) (a b : Cells) → typed ≡ true → a ≡ b
      → IfOk r (λ found. found ≡ is_missed after contents foreign a) → IfOk r (λ found. found ≡ (typed && is_missed after contents foreign b))
  missed_at typed a b so is found =
      so_found r (is_missed after contents foreign a) (typed && is_missed after contents foreign b) (λ i. sym so i && is_missed after contents foreign (is i)) found

  one_key : (typed : Bool) (key : Cells) → (typed && is_missed after contents foreign key) ≡ list_any (is_missed after contents foreign) (cond typed (key ∷ []) [])
  one_key true key = or_none (is_missed after contents foreign key)
    where
      or_none : (b : Bool) → b ≡ (b || false)
      or_none true = refl
      or_none false = refl
  one_key false key = refl

  pub missed_row : (table : PlainTable) (parent : Schema) (row : Cells) (places : List ℕ) → table.schema ≡ parent → places_of parent foreign.parent_columns ≡ Some places
      → IfOk r (λ found. found ≡ (same_types (types_at parent places) (types_at contents.schema foreign.columns) && is_missed after contents foreign (key_of places row)))
      → IfOk r (λ found. found ≡ is_missed_row after contents foreign table row)
  missed_row table parent row places is there found =
      so_found r (same_types (types_at parent places) (types_at contents.schema foreign.columns) && is_missed after contents foreign (key_of places row)) (is_missed_row after contents foreign table row)
      (one_key (same_types (types_at parent places) (types_at contents.schema foreign.columns)) (key_of places row)
      ∙ ap (λ (s : Schema). list_any (is_missed after contents foreign) (cond (same_types (types_at s places) (types_at contents.schema foreign.columns)) (key_of places row ∷ []) [])) (sym is)
      ∙ ap (λ o. list_any (is_missed after contents foreign) (option_map_or (keys_at contents.schema foreign (with_row table row)) o [])) (sym (ap (λ (s : Schema). places_of s foreign.parent_columns) is ∙ there))) found
