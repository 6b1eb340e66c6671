-- What was found of rows is what is asked of them.
use Rattle.std.proofs.Common.{◌≡◌, ℕ, Bool, true, List, [], ◌∷◌, map, Some, IfOk, refl, sym, ap, ◌∙◌, subst}
use Rattle.std.specs.Prelude.{◌&&◌, ◌||◌, not, if◌then◌else◌, Result}
use Rattle.std.specs.List.{list_any}
use Rattle.std.specs.Option.{option_map_or}
use Rattle.tuple_codec.specs.Rows.{Cells, key_of, same_cells}
use Rattle.schema_model.specs.PlainTables.{PlainTable, primary_key}
use Rattle.schema_model.specs.declared.schemas.ForeignKey.{ForeignKey}
use Rattle.schema_model.specs.declared.schemas.Schema.{Schema}
use Rattle.plain_writes.specs.Violations.{breaks_unique, is_twin, is_whole, keys_at, keys_of_parent, places_of, same_types, types_at}

any_map : (key : Cells) (f : Cells → Cells) (rows : List Cells) → list_any (same_cells key) (map f rows) ≡ list_any (λ row. same_cells key (f row)) rows
any_map key f [] = refl
any_map key f (row ∷ rows) = ap (λ b. same_cells key (f row) || b) (any_map key f rows)

module _ {E : Type 0} (r : Result Bool E) where
  -- by another name
  pub so_found : (b c : Bool) → b ≡ c → IfOk r (λ found. found ≡ b) → IfOk r (λ found. found ≡ c)
  so_found b c e found = subst (λ (d : Bool). IfOk r (λ found. found ≡ d)) e found

  pub key_found : (a b : Cells) (p q : List ℕ) (rows : List Cells) → a ≡ b → p ≡ q
      → IfOk r (λ found. found ≡ list_any (λ row. same_cells a (key_of p row)) rows) → IfOk r (λ found. found ≡ list_any (λ row. same_cells b (key_of q row)) rows)
  key_found a b p q rows e f found =
      so_found (list_any (λ row. same_cells a (key_of p row)) rows) (list_any (λ row. same_cells b (key_of q row)) rows) (λ i. list_any (λ row. same_cells (e i) (key_of (f i) row)) rows) found

  -- of a parent whose columns have the foreign key's types
  pub parent_found_at : (schema : Schema) (foreign : ForeignKey) (contents : PlainTable) (places : List ℕ) (key : Cells)
      → same_types (types_at contents.schema places) (types_at schema foreign.columns) ≡ true
      → IfOk r (λ found. found ≡ list_any (λ row. same_cells key (key_of places row)) contents.rows) → IfOk r (λ found. found ≡ list_any (same_cells key) (keys_at schema foreign contents places))
  parent_found_at schema foreign contents places key same found =
      so_found (list_any (λ row. same_cells key (key_of places row)) contents.rows) (list_any (same_cells key) (keys_at schema foreign contents places))
      (sym (any_map key (key_of places) contents.rows) ∙ ap (λ b. list_any (same_cells key) (if b then map (key_of places) contents.rows else [])) (sym same)) found

  pub parent_found : (schema : Schema) (foreign : ForeignKey) (contents : PlainTable) (places : List ℕ) (a b : Cells) → a ≡ b → places_of contents.schema foreign.parent_columns ≡ Some places
      → IfOk r (λ found. found ≡ list_any (same_cells a) (keys_at schema foreign contents places)) → IfOk r (λ found. found ≡ list_any (same_cells b) (keys_of_parent schema foreign contents))
  parent_found schema foreign contents places a b e is found =
      so_found (list_any (same_cells a) (keys_at schema foreign contents places)) (list_any (same_cells b) (keys_of_parent schema foreign contents))
      (λ i. list_any (same_cells (e i)) (option_map_or (keys_at schema foreign contents) (sym is i) [])) found

  -- of a row's twins, none of whose cells is NULL
  pub twin_found : (schema : Schema) (rows : List Cells) (places : List ℕ) (row : Cells) → is_whole (key_of places row) ≡ true
      → IfOk r (λ found. found ≡ list_any (is_twin schema places row) rows) → IfOk r (λ found. found ≡ breaks_unique schema rows places row)
  twin_found schema rows places row whole found =
      so_found (list_any (is_twin schema places row) rows) (breaks_unique schema rows places row) (ap (λ b. b && list_any (is_twin schema places row) rows) (sym whole)) found

-- a row's twins by its cells
pub twins_are : (schema : Schema) (rows others : List Cells) (places : List ℕ) (row own key : Cells) (key_places wide : List ℕ) → is_whole (key_of places row) ≡ true
    → own ≡ primary_key schema row → key ≡ key_of places row → key_places ≡ schema.key → wide ≡ places → others ≡ rows
    → list_any (λ other. not (same_cells own (key_of key_places other)) && same_cells key (key_of wide other)) others ≡ breaks_unique schema rows places row
twins_are schema rows others places row own key key_places wide whole own_is key_is places_are wide_is rows_are =
    (λ i. list_any (λ other. not (same_cells (own_is i) (key_of (places_are i) other)) && same_cells (key_is i) (key_of (wide_is i) other)) (rows_are i))
    ∙ ap (λ b. b && list_any (is_twin schema places row) rows) (sym whole)
