-- Removals leave the other items, and a table without some of its conflicts stands.
use Rattle.std.proofs.Common.{◌≡◌, ◌≤◌, ◌<◌, ◌^◌, refl, sym, ap, ◌∙◌, subst, arith, ℕ, suc, Bool, true, false, cond, not, List, [], ◌∷◌, ◌++◌, Option, None, Some, filter, length, map, append_assoc, append-nil}
use Rattle.std.specs.Cmp.{IsTotalOrder}
use Rattle.std.specs.List.{AllByRecursion}
use Rattle.std.specs.Ordering.{is_lt, match_ordering}
use Rattle.std.specs.declared.cmp.Ordering.{Ordering}
use Rattle.std.specs.declared.cmp.Ordering.TheVariants.{Less, Equal, Greater}
use Rattle.std.proofs.lemmas.Bool.{and_from, and_parts}
use Rattle.std.proofs.lemmas.Cmp.{nat_list_cmp_total, on_total}
use Rattle.tuple_codec.proofs.Orderings.{less_is}
use Rattle.tuple_codec.proofs.Lists.{all_left}
use Rattle.tuple_codec.proofs.Truths.{two}
use Rattle.tuple_codec.specs.Edits.{EditsRiseAfter, edited, edits_at, order, putting}
use Rattle.tuple_codec.specs.Nodes.{Item, RiseAfter}
use Rattle.tuple_codec.specs.Rows.{key_cmp}
use Rattle.tuple_codec.specs.declared.addresses.Address.{Address}
use Rattle.tuple_codec.specs.declared.edits.Edit.{Edit}
use Rattle.tuple_codec.proofs.Orders.{key_cmp_total}
use Rattle.schema_model.specs.PlainTables.{Conflict, IsTable, PlainTable, conflict_item, conflict_items, is_conflict, rises}
use Rattle.schema_model.specs.declared.schemas.Schema.{Schema}
use Rattle.chunk_store.specs.Chunks.{Chunks, Extends}
use Rattle.chunk_store.specs.Standing.{IsTree}
use Rattle.table_root.specs.Standing.{IsTableOf, TableValuesStand}
use Rattle.table_root.specs.declared.records.StoredTable.{StoredTable}
use Rattle.prolly_edit.specs.Editing.{CanEdit, PutsRow}
use Rattle.prolly_tree.specs.Lists.{from_key, pair_of}
use Rattle.table_root.proofs.ReadingLemmas.{from_first}
use Rattle.tuple_codec.proofs.KeyOrders.{greater}
use Rattle.tuple_codec.proofs.Rising.{edits_lower}
use Rattle.conflict_tables.specs.Conflicts.{is_dropped, removal, removal_if, removal_of, removals, stays, without_conflicts}

module _ (keys : List (List ℕ)) where
  abbrev is_left : Item → Bool
  is_left row = not (is_dropped keys row)

  -- ---- removals

  one_more : (row : Item) (rows : List Item) → removals keys (row ∷ rows) ≡ removal_if keys row.key ++ removals keys rows
  one_more row rows = by_test (is_dropped keys row)
    where
      by_test : (b : Bool) → map removal_of (cond b (row ∷ filter (is_dropped keys) rows) (filter (is_dropped keys) rows)) ≡ cond b (removal row.key ∷ []) [] ++ removals keys rows
      by_test true = refl
      by_test false = refl

  dropped : (row : Item) (rows : List Item) → is_dropped keys row ≡ true → removals keys (row ∷ rows) ≡ removal row.key ∷ removals keys rows
  dropped row rows t = one_more row rows ∙ ap (λ b. cond b (removal row.key ∷ []) [] ++ removals keys rows) t

  kept : (row : Item) (rows : List Item) → is_dropped keys row ≡ false → removals keys (row ∷ rows) ≡ removals keys rows
  kept row rows t = one_more row rows ∙ ap (λ b. cond b (removal row.key ∷ []) [] ++ removals keys rows) t

  pub removals_rise : (before : Option (List ℕ)) (rows : List Item) → RiseAfter before rows → EditsRiseAfter before (removals keys rows)
  removals_rise before [] rise = tt
  removals_rise before (row ∷ rows) rise =
      let more = removals_rise (Some row.key) rows rise.1 in
      two (is_dropped keys row)
      (λ t. subst (EditsRiseAfter before) (sym (dropped row rows t)) (rise.0, more))
      (λ t. subst (EditsRiseAfter before) (sym (kept row rows t)) (edits_lower before row.key (removals keys rows) rise.0 more))

  pub put_nothing : (rows : List Item) → AllByRecursion PutsRow (removals keys rows)
  put_nothing [] = tt
  put_nothing (row ∷ rows) = two (is_dropped keys row)
      (λ t. subst (AllByRecursion PutsRow) (sym (dropped row rows t)) (tt, put_nothing rows))
      (λ t. subst (AllByRecursion PutsRow) (sym (kept row rows t)) (put_nothing rows))

  passes : (row : Item) (rest : List Edit → List Item) (edits : List Edit) → EditsRiseAfter (Some row.key) edits → edits_at row rest edits ≡ row ∷ rest edits
  passes row rest [] rise = refl
  passes row rest (edit ∷ edits) rise =
      ap (λ o. match_ordering o (putting edit.key edit.value (edits_at row rest edits)) (putting edit.key edit.value (rest edits)) (row ∷ rest (edit ∷ edits)))
      (greater row.key edit.key (less_is (order row.key edit.key) rise.0))

  equal_only : (o : Ordering) → o ≡ Rattle.std.specs.Ordering.ordering_reverse o → o ≡ Equal
  equal_only Less e = cc
  equal_only Equal e = refl
  equal_only Greater e = cc

  pub edited_drops : (before : Option (List ℕ)) (rows : List Item) → RiseAfter before rows → edited rows (removals keys rows) ≡ filter is_left rows
  edited_drops before [] rise = refl
  edited_drops before (row ∷ rows) rise =
      let more = edited_drops (Some row.key) rows rise.1 in
      let total = nat_list_cmp_total in
      two (is_dropped keys row)
      (λ t. ap (edits_at row (edited rows)) (dropped row rows t)
      ∙ ap (λ o. match_ordering o (edits_at row (edited rows) (removals keys rows)) (edited rows (removals keys rows)) (row ∷ edited rows (removal row.key ∷ removals keys rows)))
      (equal_only (order row.key row.key) (total.antisymm row.key row.key))
      ∙ more
      ∙ sym (ap (λ b. cond (not b) (row ∷ filter is_left rows) (filter is_left rows)) t))
      (λ t. ap (edits_at row (edited rows)) (kept row rows t)
      ∙ passes row (edited rows) (removals keys rows) (removals_rise (Some row.key) rows rise.1)
      ∙ ap (λ l. row ∷ l) more
      ∙ sym (ap (λ b. cond (not b) (row ∷ filter is_left rows) (filter is_left rows)) t))

  filter_few : (rows : List Item) → length (filter is_left rows) ≤ length rows
  filter_few [] = omega arith
  filter_few (row ∷ rows) =
      let more : length (filter is_left rows) ≤ length rows = filter_few rows in
      two (is_left row)
      (λ t. subst (λ n. n ≤ suc (length rows)) (sym (ap (λ b. length (cond b (row ∷ filter is_left rows) (filter is_left rows))) t)) (omega (arith, more)))
      (λ t. subst (λ n. n ≤ suc (length rows)) (sym (ap (λ b. length (cond b (row ∷ filter is_left rows) (filter is_left rows))) t)) (omega (arith, more)))

  pub can_drop : (address : List ℕ → List ℕ) (chunks : Chunks) (k : List ℕ) (rows : List Item) → IsTree address chunks k rows → CanEdit address chunks k (removals keys rows) rows
  can_drop address chunks k rows tree =
      let few = tree.are_rows.few in
      let less = filter_few rows in
      record {
        tree = tree;
        are_edits = record { each = put_nothing rows; rise = removals_rise None rows tree.are_rows.rise };
        few = subst (λ (l : List Item). length l < 2 ^ 63) (sym (edited_drops None rows tree.are_rows.rise)) (omega (arith, few, less));
      }

  -- ---- a scan for them

  -- removals were found, and those of what is left follow
  pub record IsFinding (done : List Edit) (rest : List (List ℕ × List ℕ)) (rows : List Item) : Type 0 where
    pub left : List Item
    pub whole : done ++ removals keys left ≡ removals keys rows
    pub follow : rest ≡ map pair_of left

  pub begins : (rows : List Item) (rest : List (List ℕ × List ℕ)) → rest ≡ map pair_of (from_key [] rows) → IsFinding [] rest rows
  begins rows rest e = record { left = rows; whole = refl; follow = e ∙ ap (λ (l : List Item). map pair_of l) (from_first rows) }

  next_of : (done : List Edit) (rows left : List Item) (pair : List ℕ × List ℕ) (rest : List (List ℕ × List ℕ)) → done ++ removals keys left ≡ removals keys rows
      → (pair ∷ rest) ≡ map pair_of left → IsFinding (done ++ removal_if keys pair.0) rest rows
  next_of done rows [] pair rest whole e = absurd (cc)
  next_of done rows (row ∷ left) pair rest whole e =
      let one : pair ≡ pair_of row = cc in
      let more : rest ≡ map pair_of left = cc in
      record {
        left = left;
        whole = ap (λ (p : List ℕ × List ℕ). (done ++ removal_if keys p.0) ++ removals keys left) one
            ∙ append_assoc done (removal_if keys row.key) (removals keys left)
            ∙ ap (λ l. done ++ l) (sym (one_more row left))
            ∙ whole;
        follow = more;
      }

  pub next : (done : List Edit) (rows : List Item) (all rest : List (List ℕ × List ℕ)) (pair : List ℕ × List ℕ) → IsFinding done all rows → all ≡ pair ∷ rest → IsFinding (done ++ removal_if keys pair.0) rest rows
  next done rows all rest pair finding e = next_of done rows finding.left pair rest finding.whole (sym e ∙ finding.follow)

  over_by : (done : List Edit) (rows left : List Item) → done ++ removals keys left ≡ removals keys rows → [] ≡ map pair_of left → done ≡ removals keys rows
  over_by done rows [] whole e = sym (append-nil done) ∙ whole
  over_by done rows (row ∷ left) whole e = absurd (cc)

  pub over : (done : List Edit) (rows : List Item) (all : List (List ℕ × List ℕ)) → IsFinding done all rows → all ≡ [] → done ≡ removals keys rows
  over done rows all finding e = over_by done rows finding.left finding.whole (sym e ∙ finding.follow)

  -- ---- a table without them

  left_items : (schema : Schema) (conflicts : List Conflict) → filter is_left (map (conflict_item schema) conflicts) ≡ map (conflict_item schema) (filter (stays keys) conflicts)
  left_items schema [] = refl
  left_items schema (conflict ∷ conflicts) = by_test (stays keys conflict) (left_items schema conflicts)
    where
      by_test : (b : Bool) → filter is_left (map (conflict_item schema) conflicts) ≡ map (conflict_item schema) (filter (stays keys) conflicts)
          → cond b (conflict_item schema conflict ∷ filter is_left (map (conflict_item schema) conflicts)) (filter is_left (map (conflict_item schema) conflicts))
          ≡ map (conflict_item schema) (cond b (conflict ∷ filter (stays keys) conflicts) (filter (stays keys) conflicts))
      by_test true e = ap (λ l. conflict_item schema conflict ∷ l) e
      by_test false e = e

module _ {A : Type 0} (compare : A → A → Ordering) (total : IsTotalOrder compare) (p : A → Bool) where
  rise_past : (x y : A) (xs : List A) → rises compare (x ∷ y ∷ xs) ≡ true → rises compare (x ∷ xs) ≡ true
  rise_past x y [] r = refl
  rise_past x y (z ∷ xs) r =
      let first = and_parts (is_lt (compare x y)) (rises compare (y ∷ z ∷ xs)) r in
      let more = and_parts (is_lt (compare y z)) (rises compare (z ∷ xs)) first.1 in
      and_from _ _ (ap is_lt (total.trans x y z (less_is (compare x y) first.0) (less_is (compare y z) more.0))) more.1

  rise_rest : (x : A) (xs : List A) → rises compare (x ∷ xs) ≡ true → rises compare xs ≡ true
  rise_rest x [] r = refl
  rise_rest x (y ∷ xs) r = (and_parts (is_lt (compare x y)) (rises compare (y ∷ xs)) r).1

  left_after : (x : A) (xs : List A) → rises compare (x ∷ xs) ≡ true → rises compare (x ∷ filter p xs) ≡ true
  left_after x [] r = refl
  left_after x (y ∷ xs) r = two (p y)
      (λ t. ap (λ b. rises compare (x ∷ cond b (y ∷ filter p xs) (filter p xs))) t
      ∙ (let parts = and_parts (is_lt (compare x y)) (rises compare (y ∷ xs)) r in and_from _ _ parts.0 (left_after y xs parts.1)))
      (λ t. ap (λ b. rises compare (x ∷ cond b (y ∷ filter p xs) (filter p xs))) t ∙ left_after x xs (rise_past x y xs r))

  -- what is left of a list that rises does
  pub left_rise : (xs : List A) → rises compare xs ≡ true → rises compare (filter p xs) ≡ true
  left_rise [] r = refl
  left_rise (x ∷ xs) r = two (p x)
      (λ t. ap (λ b. rises compare (cond b (x ∷ filter p xs) (filter p xs))) t ∙ left_after x xs r)
      (λ t. ap (λ b. rises compare (cond b (x ∷ filter p xs) (filter p xs))) t ∙ left_rise xs (rise_rest x xs r))

is_table_without : (keys : List (List ℕ)) (table : PlainTable) → IsTable table → IsTable (without_conflicts keys table)
is_table_without keys table is = record {
  schema = is.schema;
  rows = is.rows;
  keys = is.keys;
  conflicts = all_left (stays keys) (is_conflict table.schema) table.conflicts is.conflicts;
  conflict_keys = left_rise (λ (a b : Conflict). key_cmp a.key b.key) (on_total (λ (c : Conflict). c.key) key_cmp_total) (stays keys) table.conflicts is.conflict_keys;
  violations = is.violations;
  violation_keys = is.violation_keys;
}

-- the tree of a table's conflicts
pub own_tree : (address : List ℕ → List ℕ) (chunks : Chunks) (table : StoredTable) (contents : PlainTable) → IsTableOf address chunks table contents → IsTree address chunks table.conflicts.0 (conflict_items contents)
own_tree address chunks table contents stands = subst (λ (k : List ℕ). IsTree address chunks k (conflict_items contents)) (sym (ap (λ (t : StoredTable). t.conflicts.0) stands.value)) stands.trees.conflicts

-- a table's value with the root of what is left of its conflicts
pub without_stands : (keys : List (List ℕ)) (address : List ℕ → List ℕ) (old new : Chunks) → Extends old new → TableValuesStand → (table : StoredTable) (contents : PlainTable) (k : Address) → IsTableOf address old table contents
    → IsTree address new k.0 (edited (conflict_items contents) (removals keys (conflict_items contents)))
    → IsTableOf address new (record { schema = table.schema; rows = table.rows; indexes = table.indexes; conflicts = k; violations = table.violations }) (without_conflicts keys contents)
without_stands keys address old new more values table contents k was tree =
    let stands = values.later address old new contents table more was in
    let conflicts = stands.trees.conflicts in
    let left = edited_drops keys None (conflict_items contents) conflicts.are_rows.rise ∙ left_items keys contents.schema contents.conflicts in
    let at = subst (λ (l : List Item). IsTree address new k.0 l) left tree in
    record {
      is_table = is_table_without keys contents stands.is_table;
      trees = record {
        rows = stands.trees.rows;
        indexes = stands.trees.indexes;
        conflicts = subst (λ (r : List ℕ). IsTree address new r (conflict_items (without_conflicts keys contents))) (sym at.named) at;
        violations = stands.trees.violations;
      };
      value = λ i. record {
        schema = (stands.value i).schema;
        rows = (stands.value i).rows;
        indexes = (stands.value i).indexes;
        conflicts = record { 0 = sym at.named i };
        violations = (stands.value i).violations;
      };
    }
