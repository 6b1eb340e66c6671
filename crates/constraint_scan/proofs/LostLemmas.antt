-- A row that stayed and leads to no parent any more had one that changed or went.
use Rattle.std.proofs.Common.{◌≡◌, refl, sym, ap, ◌∙◌, subst, ◌⊎◌, inl, inr, ℕ, Bool, true, false, cond, ◌&&◌, not, List, [], ◌∷◌, find, map, Option, Some, None}
use Rattle.std.specs.List.{list_any}
use Rattle.std.specs.Option.{option_map, option_map_or}
use Rattle.std.proofs.lemmas.Bool.{false_from_ne_true as not_so}
use Rattle.tuple_codec.proofs.Truths.{alike_truths as as_one, not_true as not_false, or_none}
use Rattle.tuple_codec.specs.Rows.{Cells, key_of, same_cells}
use Rattle.tuple_codec.proofs.Orders.{cells_told}
use Rattle.schema_model.specs.declared.schemas.ForeignKey.{ForeignKey}
use Rattle.schema_model.specs.declared.schemas.Schema.{Schema}
use Rattle.schema_model.specs.PlainTables.{NamedTable, PlainDatabase, PlainTable}
use Rattle.plain_writes.specs.Violations.{Checks, first_violation, is_called, is_whole, keys_at, keys_of_parent, parent_keys, places_of, same_types, table_in, types_at}
use Rattle.plain_writes.proofs.RowOrderLemmas.{both_so, clash, left_so, right_so, two}
use Rattle.constraint_scan.specs.Changed.{AreAlike, has_just, is_deserted, is_failed, is_left, is_missed, is_missed_row, is_orphan, is_orphan_by, is_repeated, some_changed, some_deserted, some_kept, told_by_changes, told_by_rows, with_row}
use Rattle.violation_lists.specs.Scanning.{empty_named, empty_table, skeleton}
use Rattle.constraint_scan.proofs.ChangedLemmas.{changed_there, kept_at, kept_there, rows_tell}
use Rattle.constraint_scan.proofs.MemberLemmas.{Stands, any_mapped, at_some, some_at}
use Rattle.violation_lists.proofs.RefusalLemmas.{cells_itself}

-- ---- schemas by names

found_empty : (name : List ℕ) (database : PlainDatabase) → table_in (skeleton database) name ≡ option_map empty_table (table_in database name)
found_empty name [] = refl
found_empty name (named ∷ database) =
    elim (is_called name named) as (λ b. option_map (λ (one : NamedTable). one.table) (cond b (Some (empty_named named)) (find (is_called name) (skeleton database)))
    ≡ option_map empty_table (option_map (λ (one : NamedTable). one.table) (cond b (Some named) (find (is_called name) database)))) [
      | true ↦ refl
      | false ↦ found_empty name database
    ]

-- ---- the keys of a parent are those of its rows

none_some : {A : Type 0} (xs : List A) → list_any (λ x. false) xs ≡ false
none_some [] = refl
none_some (x ∷ xs) = none_some xs

pub keys_split : (q : Cells → Bool) (schema : Schema) (foreign : ForeignKey) (parent : PlainTable)
    → list_any q (keys_of_parent schema foreign parent) ≡ list_any (λ row. list_any q (keys_of_parent schema foreign (with_row parent row))) parent.rows
keys_split q schema foreign parent = by_places (places_of parent.schema foreign.parent_columns)
  where
    by_types : (places : List ℕ) (b : Bool) → list_any q (cond b (map (key_of places) parent.rows) []) ≡ list_any (λ row. list_any q (cond b (key_of places row ∷ []) [])) parent.rows
    by_types places true = any_mapped (key_of places) q parent.rows ∙ ap (λ (f : Cells → Bool). list_any f parent.rows) (λ i row. sym (or_none (q (key_of places row))) i)
    by_types places false = sym (none_some parent.rows)

    by_places : (found : Option (List ℕ))
        → list_any q (option_map_or (keys_at schema foreign parent) found []) ≡ list_any (λ row. list_any q (option_map_or (keys_at schema foreign (with_row parent row)) found [])) parent.rows
    by_places None = sym (none_some parent.rows)
    by_places (Some places) = by_types places (same_types (types_at parent.schema places) (types_at schema foreign.columns))

-- keys go by the parent's schema and its row
pub keys_alike : (schema : Schema) (foreign : ForeignKey) (parent other : PlainTable) (row : Cells) → parent.schema ≡ other.schema
    → keys_of_parent schema foreign (with_row parent row) ≡ keys_of_parent schema foreign (with_row other row)
keys_alike schema foreign parent other row same = ap (λ (s : Schema). keys_of_parent schema foreign (record { schema = s; rows = row ∷ []; conflicts = []; violations = [] })) same

-- a row of the parent has its keys among the parent's
key_there : (q : Cells → Bool) (schema : Schema) (foreign : ForeignKey) (parent : PlainTable) (row : Cells) → Stands row parent.rows
    → list_any q (keys_of_parent schema foreign (with_row parent row)) ≡ true → list_any q (keys_of_parent schema foreign parent) ≡ true
key_there q schema foreign parent row s e =
    keys_split q schema foreign parent ∙ at_some (λ r. list_any q (keys_of_parent schema foreign (with_row parent r))) parent.rows row s e

module _ (old new : PlainDatabase) (alike : AreAlike old new) where
  -- the parent has the same schema in both
  parent_alike : (name : List ℕ) (parent other : PlainTable) → table_in old name ≡ Some parent → table_in new name ≡ Some other → parent.schema ≡ other.schema
  parent_alike name parent other before after =
      ap (λ o. option_map_or (λ (t : PlainTable). t.schema) o other.schema)
      (sym (ap (option_map empty_table) before) ∙ sym (found_empty name old) ∙ ap (λ d. table_in d name) alike.same ∙ found_empty name new ∙ ap (option_map empty_table) after)

  -- a parent row that stayed has its key still
  key_stayed : (q : Cells → Bool) (schema : Schema) (foreign : ForeignKey) (parent : PlainTable) (row : Cells) → table_in old foreign.parent ≡ Some parent → has_just new foreign.parent row ≡ true
      → list_any q (keys_of_parent schema foreign (with_row parent row)) ≡ true → list_any q (parent_keys new schema foreign) ≡ true
  key_stayed q schema foreign parent row before e k = by_found (table_in new foreign.parent) refl
    where
      by_found : (found : Option PlainTable) → table_in new foreign.parent ≡ found → list_any q (parent_keys new schema foreign) ≡ true
      by_found None is = clash (sym (ap (λ o. option_map_or (λ (t : PlainTable). list_any (same_cells row) t.rows) o false) is) ∙ e) refl
      by_found (Some other) is =
          let some = some_at (same_cells row) other.rows (sym (ap (λ o. option_map_or (λ (t : PlainTable). list_any (same_cells row) t.rows) o false) is) ∙ e) in
          let there = subst (λ r. Stands r other.rows) (sym ((cells_told row some.0).0 some.2)) some.1 in
          ap (λ o. list_any q (option_map_or (keys_of_parent schema foreign) o [])) is
          ∙ key_there q schema foreign other row there (ap (list_any q) (sym (keys_alike schema foreign parent other row (parent_alike foreign.parent parent other before is))) ∙ k)

  -- ---- from a row that leads nowhere to its parent

  module _ (named : NamedTable) (row : Cells) (one : ForeignKey) where
    abbrev key : Cells
    key = key_of one.columns row

    lost_parent : Stands row named.table.rows → is_orphan_by new named.table.schema row one ≡ true → is_orphan_by old named.table.schema row one ≡ false → is_deserted old new named.table one ≡ true
    lost_parent s now then_ = by_found (table_in old one.parent) refl
      where
        whole : is_whole key ≡ true
        whole = left_so (is_whole key) (not (list_any (same_cells key) (parent_keys new named.table.schema one))) now

        gone : list_any (same_cells key) (parent_keys new named.table.schema one) ≡ false
        gone = not_false _ (right_so (is_whole key) (not (list_any (same_cells key) (parent_keys new named.table.schema one))) now)

        had : list_any (same_cells key) (parent_keys old named.table.schema one) ≡ true
        had = two (list_any (same_cells key) (parent_keys old named.table.schema one)) (λ e. e) (λ e. clash (both_so whole (ap not e)) then_)

        by_found : (found : Option PlainTable) → table_in old one.parent ≡ found → is_deserted old new named.table one ≡ true
        by_found None is = clash (sym (ap (λ o. list_any (same_cells key) (option_map_or (keys_of_parent named.table.schema one) o [])) is) ∙ had) refl
        by_found (Some parent) is =
            let its = sym (keys_split (same_cells key) named.table.schema one parent)
            ∙ sym (ap (λ o. list_any (same_cells key) (option_map_or (keys_of_parent named.table.schema one) o [])) is) ∙ had in
            let some = some_at (λ r. list_any (same_cells key) (keys_of_parent named.table.schema one (with_row parent r))) parent.rows its in
            let found = some_at (same_cells key) (keys_of_parent named.table.schema one (with_row parent some.0)) some.2 in
            let there = subst (λ k. Stands k (keys_of_parent named.table.schema one (with_row parent some.0))) (sym ((cells_told key found.0).0 found.2)) found.1 in
            let changed = not_so (has_just new one.parent some.0) (λ h. clash (key_stayed (same_cells key) named.table.schema one parent some.0 is h some.2) gone) in
            let missed = both_so (both_so whole (ap not gone)) (at_some (λ r. same_cells key (key_of one.columns r)) named.table.rows row s (cells_itself key)) in
            ap (λ o. option_map_or (λ (p : PlainTable). list_any (λ r. not (has_just new one.parent r) && is_missed_row new named.table one p r) p.rows) o false) is
            ∙ at_some (λ r. not (has_just new one.parent r) && is_missed_row new named.table one parent r) parent.rows some.0 some.1
            (both_so (ap not changed) (at_some (is_missed new named.table one) (keys_of_parent named.table.schema one (with_row parent some.0)) key there missed))

  -- ---- and back

  module _ (named : NamedTable) (one : ForeignKey) where
    missed_row : (parent : PlainTable) (r : Cells) → table_in old one.parent ≡ Some parent → Stands r parent.rows → is_missed_row new named.table one parent r ≡ true
        → (row : Cells) × Stands row named.table.rows × (is_orphan_by new named.table.schema row one ≡ true) × (is_orphan_by old named.table.schema row one ≡ false)
    missed_row parent r is s e =
        let schema = named.table.schema in
        let some = some_at (is_missed new named.table one) (keys_of_parent schema one (with_row parent r)) e in
        let k = some.0 in
        let front = left_so (is_whole k && not (list_any (same_cells k) (parent_keys new schema one))) (list_any (λ row. same_cells k (key_of one.columns row)) named.table.rows) some.2 in
        let child = some_at (λ row. same_cells k (key_of one.columns row)) named.table.rows
        (right_so (is_whole k && not (list_any (same_cells k) (parent_keys new schema one))) (list_any (λ row. same_cells k (key_of one.columns row)) named.table.rows) some.2) in
        let same : k ≡ key_of one.columns child.0 = (cells_told k (key_of one.columns child.0)).0 child.2 in
        let there = ap (λ o. list_any (same_cells k) (option_map_or (keys_of_parent schema one) o [])) is
        ∙ key_there (same_cells k) schema one parent r s (at_some (same_cells k) (keys_of_parent schema one (with_row parent r)) k some.1 (cells_itself k)) in (
          child.0,
          child.1,
          subst (λ x. (is_whole x && not (list_any (same_cells x) (parent_keys new schema one))) ≡ true) same front,
          not_so (is_orphan_by old schema child.0 one) (λ h.
              clash (subst (λ x. list_any (same_cells x) (parent_keys old schema one) ≡ true) same there)
              (not_false _ (right_so (is_whole (key_of one.columns child.0)) (not (list_any (same_cells (key_of one.columns child.0)) (parent_keys old schema one))) h))),
        )

    deserted_row : is_deserted old new named.table one ≡ true
        → (row : Cells) × Stands row named.table.rows × (is_orphan_by new named.table.schema row one ≡ true) × (is_orphan_by old named.table.schema row one ≡ false)
    deserted_row e = by_found (table_in old one.parent) refl
      where
        by_found : (found : Option PlainTable) → table_in old one.parent ≡ found
            → (row : Cells) × Stands row named.table.rows × (is_orphan_by new named.table.schema row one ≡ true) × (is_orphan_by old named.table.schema row one ≡ false)
        by_found None is =
            clash (sym (ap (λ o. option_map_or (λ (p : PlainTable). list_any (λ r. not (has_just new one.parent r) && is_missed_row new named.table one p r) p.rows) o false) is) ∙ e) refl
        by_found (Some parent) is =
            let some = some_at (λ r. not (has_just new one.parent r) && is_missed_row new named.table one parent r) parent.rows
            (sym (ap (λ o. option_map_or (λ (p : PlainTable). list_any (λ r. not (has_just new one.parent r) && is_missed_row new named.table one p r) p.rows) o false) is) ∙ e) in
            missed_row parent some.0 is some.1 (right_so (not (has_just new one.parent some.0)) (is_missed_row new named.table one parent some.0) some.2)

  -- ---- together

  abbrev loses : NamedTable → Cells → ForeignKey → Bool
  loses named row one = is_orphan_by new named.table.schema row one && not (is_orphan_by old named.table.schema row one)

  left_deserted : some_kept old (is_left old new) new ≡ true → some_deserted old new ≡ true
  left_deserted h =
      let at = kept_at old new (is_left old new) h in
      let named = at.0 in
      let row = at.2.0 in
      let one = some_at (loses named row) named.table.schema.foreign at.2.3 in
      at_some (λ (n : NamedTable). list_any (is_deserted old new n.table) n.table.schema.foreign) new named at.1
      (at_some (is_deserted old new named.table) named.table.schema.foreign one.0 one.1
      (lost_parent named row one.0 at.2.1 (left_so (is_orphan_by new named.table.schema row one.0) (not (is_orphan_by old named.table.schema row one.0)) one.2)
      (not_false _ (right_so (is_orphan_by new named.table.schema row one.0) (not (is_orphan_by old named.table.schema row one.0)) one.2))))

  deserted_left : some_changed old (is_orphan new) new ≡ false → some_deserted old new ≡ true → some_kept old (is_left old new) new ≡ true
  deserted_left none h =
      let table = some_at (λ (n : NamedTable). list_any (is_deserted old new n.table) n.table.schema.foreign) new h in
      let named = table.0 in
      let one = some_at (is_deserted old new named.table) named.table.schema.foreign table.2 in
      let row = deserted_row named one.0 one.2 in
      two (has_just old named.name row.0)
      (λ stayed. kept_there old new (is_left old new) named table.1 row.0 row.1 stayed (at_some (loses named row.0) named.table.schema.foreign one.0 one.1 (both_so row.2 (ap not row.3))))
      (λ changed. clash (changed_there old new (is_orphan new) named table.1 row.0 row.1 changed (at_some (is_orphan_by new named.table.schema row.0) named.table.schema.foreign one.0 one.1 row.2)) none)

  same_end : (b : Bool) → some_changed old (is_orphan new) new ≡ b
      → cond {A = Option ℕ} b (Some 1452) (cond (some_kept old (is_left old new) new) (Some 1451) None) ≡ cond {A = Option ℕ} b (Some 1452) (cond (some_deserted old new) (Some 1451) None)
  same_end true e = refl
  same_end false e = ap (λ b. cond {A = Option ℕ} b (Some 1451) None) (as_one (some_kept old (is_left old new) new) (some_deserted old new) left_deserted (deserted_left e))

  pub changes_tell : (checks : Checks) → first_violation checks old new ≡ told_by_changes checks old new
  changes_tell checks =
      rows_tell checks old new alike
      ∙ ap (λ o. cond {A = Option ℕ} (some_changed old is_repeated new) (Some 1062) (cond (some_changed old (is_failed checks) new) (Some 3819) o)) (same_end (some_changed old (is_orphan new) new) refl)
