-- The items of a table that takes theirs' rows are its own after the edits that make rows theirs.
use Rattle.std.proofs.Common.{◌≡◌, refl, sym, ap, ◌∙◌, subst, ℕ, zero, suc, ◌+◌, ◌≤◌, ◌<◌, ◌^◌, Bool, true, false, cond, not, ◌||◌, List, [], ◌∷◌, ◌++◌, filter, length, get_or, map, Option, None, Some, is_some, bytes_eq, arith, length-append}
use Rattle.std.specs.Cmp.Lexicographic.{bytes_decides}
use Rattle.std.specs.List.{list_all, list_any}
use Rattle.std.specs.List.Sorted.{IsSortedBy}
use Rattle.std.specs.Option.{option_map, option_to_list}
use Rattle.std.specs.Ordering.{is_lt}
use Rattle.std.proofs.lemmas.Bool.{and_parts, leb-true}
use Rattle.std.proofs.lemmas.List.{length-map}
use Rattle.tuple_codec.proofs.ByteLemmas.{same_bytes as eq_key}
use Rattle.tuple_codec.proofs.Orderings.{less_is}
use Rattle.tuple_codec.proofs.Lists.{filter_few}
use Rattle.tuple_codec.specs.Edits.{EditsRiseAfter, edited, order, value_at}
use Rattle.tuple_codec.specs.KeyBytes.{key_bytes}
use Rattle.tuple_codec.specs.Nodes.{Item, Rise, RiseAfter, is_after}
use Rattle.tuple_codec.specs.Rows.{Cells, fits_all, same_cells}
use Rattle.tuple_codec.specs.Spellings.{IsOneSpelling}
use Rattle.tuple_codec.specs.declared.edits.Edit.{Edit}
use Rattle.tuple_codec.proofs.Orders.{cells_told}
use Rattle.schema_model.specs.Limits.{is_row_within_limits, most_rows}
use Rattle.schema_model.specs.PlainTables.{Conflict, PlainTable, body_bytes, conflict_item, is_conflict, is_row, is_side_at, key_types, primary_key, row_item, row_items}
use Rattle.schema_model.specs.Schemas.{is_schema}
use Rattle.schema_model.specs.declared.schemas.Schema.{Schema}
use Rattle.schema_model.proofs.FitLemmas.{key_types_fit, primary_key_fits}
use Rattle.chunk_store.specs.Chunks.{Chunks}
use Rattle.conflict_tables.specs.Conflicts.{theirs_edit, theirs_edits}
use Rattle.tuple_codec.specs.ByKey.{edit_at, over}
use Rattle.tuple_codec.proofs.KeyOrders.{greater}
use Rattle.tuple_codec.proofs.Rising.{edited_all, edited_rise, edits_lower, rows_lower}
use Rattle.tuple_codec.proofs.EditedValues.{edited_value, edits_above, same_rows}
use Rattle.index_keep.specs.Entries.{comes_before}
use Rattle.index_keep.specs.Keeping.{CanEditTable}
use Rattle.table_root.specs.declared.records.StoredTable.{StoredTable}
use Rattle.table_root.specs.Rows.{RowItemsFollow}
use Rattle.plain_sql.specs.Lists.{in_order, repeats}
use Rattle.plain_writes.specs.Writes.{keyed_cmp}
use Rattle.plain_sessions.specs.Merging.{is_conflicted, rows_after, their_rows}
use Rattle.sql_procedures.specs.declared.requests.Side.TheVariants as side
use Rattle.plain_writes.proofs.DatabaseLemmas.{IsKeptTable}
use Rattle.plain_writes.proofs.RowOrderLemmas.{both_so, in_order_all, in_order_length, two}
use Rattle.plain_writes.proofs.RowLemmas.{all_left, all_right}
use Rattle.sql_write.specs.Inserting.{edit_of, is_good}
use Rattle.sql_write.proofs.InsertLemmas.{edited_is}
use Rattle.sql_write.proofs.RiseLemmas.{are_leaves}
use Rattle.keep_laws.proofs.KeptLemmas.{few_rows}
use Rattle.keep_laws.proofs.ResolveLemmas.{both_good, both_once}
use Rattle.merge_procs.specs.Resolving.{CanTake, theirs_of}
use Rattle.merge_procs.proofs.TakingLemmas.{at_key}

-- ---- lists

all_behind : {A : Type 0} (p : A → Bool) (xs ys : List A) → list_all p (xs ++ ys) ≡ true → list_all p ys ≡ true
all_behind p [] ys h = h
all_behind p (x ∷ xs) ys h = all_behind p xs ys (and_parts (p x) (list_all p (xs ++ ys)) h).1

theirs_few : (conflicts : List Conflict) → length (theirs_of conflicts) ≤ length conflicts
theirs_few [] = omega arith
theirs_few (conflict ∷ conflicts) = by conflict.theirs (theirs_few conflicts) where
  by : (o : Option Cells) → length (theirs_of conflicts) ≤ length conflicts → length (option_to_list o ++ theirs_of conflicts) ≤ suc (length conflicts)
  by None less = omega (arith, less)
  by (Some row) less = omega (arith, less)

-- ---- edits that rise are in order

after_less : (a b : List ℕ) → is_after (Some a) b ≡ true → is_lt (order b a) ≡ false
after_less a b h = ap is_lt (greater a b (less_is (order a b) h))

rising_sorted : (before : Option (List ℕ)) (edits : List Edit) → EditsRiseAfter before edits → IsSortedBy comes_before edits
rising_sorted before [] h = λ k d low high. absurd (omega (arith, high))
rising_sorted before (edit ∷ []) h = λ k d low high. absurd (omega (arith, high))
rising_sorted before (edit ∷ next ∷ edits) h = by (rising_sorted (Some edit.key) (next ∷ edits) h.1) where
  by : IsSortedBy comes_before (next ∷ edits) → (k : ℕ) (d : Edit) → 0 ≤ k → k + 1 < suc (suc (length edits)) → comes_before (get_or (edit ∷ next ∷ edits) (k + 1) d) (get_or (edit ∷ next ∷ edits) k d) ≡ false
  by more zero d low high = after_less edit.key next.key h.1.0
  by more (suc k) d low high =
      let e : suc (k + 1) ≡ suc k + 1 = omega arith in
      subst (λ n. comes_before (get_or (edit ∷ next ∷ edits) n d) (get_or (next ∷ edits) k d) ≡ false) e (more k d (omega arith) (omega (arith, high)))

-- ---- what an edit puts, and where it leaves a row

abbrev put_only : Option (Option (List ℕ)) → Option (Option (List ℕ))
put_only None = None
put_only (Some None) = None
put_only (Some (Some value)) = Some (Some value)

abbrev kept_at : Option (Option (List ℕ)) → Option (List ℕ) → Option (List ℕ)
kept_at None old = old
kept_at (Some new) old = None

put_over : (e : Option (Option (List ℕ))) (old : Option (List ℕ)) → over (put_only e) (kept_at e old) ≡ over e old
put_over None old = refl
put_over (Some None) old = refl
put_over (Some (Some value)) old = refl

kept_none : (e : Option (Option (List ℕ))) → kept_at e None ≡ None
kept_none None = refl
kept_none (Some new) = refl

kept_any : (e : Option (Option (List ℕ))) (x y : Option (List ℕ)) → is_some e ≡ true → kept_at e x ≡ kept_at e y
kept_any None x y h = absurd (cc)
kept_any (Some new) x y h = refl

none_so : (e : Option (Option (List ℕ))) → is_some e ≡ false → e ≡ None
none_so None h = refl
none_so (Some new) h = absurd (cc)

-- ---- theirs' rows as edits

module _ (schema : Schema) where
  abbrev name : Cells → List ℕ
  name row = key_bytes (primary_key schema row)

  abbrev items : List Cells → List Item
  items rows = map (row_item schema) rows

  abbrev takings : List Conflict → List Edit
  takings conflicts = map (theirs_edit schema) conflicts

  abbrev puts_of : List Cells → List Edit
  puts_of rows = map (edit_of schema) rows

  abbrev conflicted : List Conflict → Cells → Bool
  conflicted conflicts row = list_any (λ (conflict : Conflict). same_cells conflict.key (primary_key schema row)) conflicts

  abbrev staying : List Conflict → List Cells → List Cells
  staying conflicts rows = filter (λ (row : Cells). not (conflicted conflicts row)) rows

  side_of : (conflict : Conflict) → is_conflict schema conflict ≡ true → is_side_at schema conflict.key conflict.theirs ≡ true
  side_of conflict h = (and_parts _ (is_side_at schema conflict.key conflict.theirs) h).1

  key_fits : (conflict : Conflict) → is_conflict schema conflict ≡ true → fits_all (key_types schema) conflict.key ≡ true
  key_fits conflict h = (and_parts (fits_all (key_types schema) conflict.key) _ (and_parts _ _ (and_parts _ _ h).0).0).0

  takings_rise : (before : Option (List ℕ)) (conflicts : List Conflict) → RiseAfter before (map (conflict_item schema) conflicts) → EditsRiseAfter before (takings conflicts)
  takings_rise before [] h = tt
  takings_rise before (conflict ∷ conflicts) h = (h.0, takings_rise (Some (key_bytes conflict.key)) conflicts h.1)

  puts_rise : (before : Option (List ℕ)) (conflicts : List Conflict) → list_all (is_conflict schema) conflicts ≡ true → EditsRiseAfter before (takings conflicts)
      → EditsRiseAfter before (puts_of (theirs_of conflicts))
  puts_rise before [] all h = tt
  puts_rise before (conflict ∷ conflicts) all h =
      let parts = and_parts (is_conflict schema conflict) (list_all (is_conflict schema) conflicts) all in
      by conflict.theirs (side_of conflict parts.0) (puts_rise (Some (key_bytes conflict.key)) conflicts parts.1 h.1) where
        by : (o : Option Cells) → is_side_at schema conflict.key o ≡ true → EditsRiseAfter (Some (key_bytes conflict.key)) (puts_of (theirs_of conflicts))
            → EditsRiseAfter before (puts_of (option_to_list o ++ theirs_of conflicts))
        by None at more = edits_lower before (key_bytes conflict.key) (puts_of (theirs_of conflicts)) h.0 more
        by (Some row) at more =
            let same : key_bytes conflict.key ≡ name row = ap key_bytes (sym (at_key schema conflict.key row at)) in
            (subst (λ (k : List ℕ). is_after before k ≡ true) same h.0, subst (λ (k : List ℕ). EditsRiseAfter (Some k) (puts_of (theirs_of conflicts))) same more)

  put_value : (key : List ℕ) (before : Option (List ℕ)) (conflicts : List Conflict) → list_all (is_conflict schema) conflicts ≡ true → EditsRiseAfter before (takings conflicts)
      → edit_at key (puts_of (theirs_of conflicts)) ≡ put_only (edit_at key (takings conflicts))
  put_value key before [] all h = refl
  put_value key before (conflict ∷ conflicts) all h =
      let parts = and_parts (is_conflict schema conflict) (list_all (is_conflict schema) conflicts) all in
      by conflict.theirs (side_of conflict parts.0) (put_value key (Some (key_bytes conflict.key)) conflicts parts.1 h.1) where
        none : bytes_eq (key_bytes conflict.key) key ≡ true → edit_at key (takings conflicts) ≡ None
        none e = ap (λ (k : List ℕ). edit_at k (takings conflicts)) (sym (eq_key (key_bytes conflict.key) key e)) ∙ edits_above (key_bytes conflict.key) (takings conflicts) h.1

        gone : (b : Bool) → bytes_eq (key_bytes conflict.key) key ≡ b → put_only (edit_at key (takings conflicts)) ≡ put_only (cond b (Some None) (edit_at key (takings conflicts)))
        gone true e = ap put_only (none e)
        gone false e = refl

        came : (b : Bool) (value : List ℕ) → edit_at key (puts_of (theirs_of conflicts)) ≡ put_only (edit_at key (takings conflicts))
            → cond b (Some (Some value)) (edit_at key (puts_of (theirs_of conflicts))) ≡ put_only (cond b (Some (Some value)) (edit_at key (takings conflicts)))
        came true value e = refl
        came false value e = e

        by : (o : Option Cells) → is_side_at schema conflict.key o ≡ true → edit_at key (puts_of (theirs_of conflicts)) ≡ put_only (edit_at key (takings conflicts))
            → edit_at key (puts_of (option_to_list o ++ theirs_of conflicts))
            ≡ put_only (cond (bytes_eq (key_bytes conflict.key) key) (Some (option_map (body_bytes schema) o)) (edit_at key (takings conflicts)))
        by None at more = more ∙ gone (bytes_eq (key_bytes conflict.key) key) refl
        by (Some row) at more =
            ap (λ (k : Cells). cond (bytes_eq (key_bytes k) key) (Some (Some (body_bytes schema row))) (edit_at key (puts_of (theirs_of conflicts)))) (at_key schema conflict.key row at)
            ∙ came (bytes_eq (key_bytes conflict.key) key) (body_bytes schema row) more

  -- ---- the rows that stay

  staying_rise : (p : Cells → Bool) (before : Option (List ℕ)) (rows : List Cells) → RiseAfter before (items rows) → RiseAfter before (items (filter p rows))
  staying_rise p before [] h = tt
  staying_rise p before (row ∷ rows) h = by (p row) (staying_rise p (Some (name row)) rows h.1) where
    by : (b : Bool) → RiseAfter (Some (name row)) (items (filter p rows)) → RiseAfter before (items (cond b (row ∷ filter p rows) (filter p rows)))
    by true more = (h.0, more)
    by false more = rows_lower before (name row) (items (filter p rows)) h.0 more

  staying_all : (p q : Cells → Bool) (rows : List Cells) → list_all q rows ≡ true → list_all q (filter p rows) ≡ true
  staying_all p q [] h = refl
  staying_all p q (row ∷ rows) h =
      let parts = and_parts (q row) (list_all q rows) h in
      by (p row) (staying_all p q rows parts.1) where
        by : (b : Bool) → list_all q (filter p rows) ≡ true → list_all q (cond b (row ∷ filter p rows) (filter p rows)) ≡ true
        by true more = both_so (and_parts (q row) (list_all q rows) h).0 more
        by false more = more

  module _ (spelling : IsOneSpelling key_bytes) (valid : is_schema schema ≡ true) where
    key_told : (a b : Cells) → fits_all (key_types schema) a ≡ true → fits_all (key_types schema) b ≡ true → same_cells a b ≡ bytes_eq (key_bytes a) (key_bytes b)
    key_told a b fa fb = two (bytes_eq (key_bytes a) (key_bytes b))
        (λ e. (cells_told a b).1 (spelling (key_types schema) a b [] [] (key_types_fit schema valid) fa fb (ap (λ (l : List ℕ). l ++ []) (eq_key (key_bytes a) (key_bytes b) e))).0 ∙ sym e)
        (λ e. by (same_cells a b) refl e) where
          by : (t : Bool) → same_cells a b ≡ t → bytes_eq (key_bytes a) (key_bytes b) ≡ false → same_cells a b ≡ bytes_eq (key_bytes a) (key_bytes b)
          by true s e = s ∙ sym ((bytes_decides (key_bytes a) (key_bytes b)).1 (ap key_bytes ((cells_told a b).0 s)))
          by false s e = s ∙ sym e

    conflicted_is : (conflicts : List Conflict) (row : Cells) → list_all (is_conflict schema) conflicts ≡ true → is_row schema row ≡ true
        → conflicted conflicts row ≡ is_some (edit_at (name row) (takings conflicts))
    conflicted_is [] row all fit = refl
    conflicted_is (conflict ∷ conflicts) row all fit =
        let parts = and_parts (is_conflict schema conflict) (list_all (is_conflict schema) conflicts) all in
        ap (λ b. b || conflicted conflicts row) (key_told conflict.key (primary_key schema row) (key_fits conflict parts.0) (primary_key_fits schema row valid fit))
        ∙ by (bytes_eq (key_bytes conflict.key) (name row)) (conflicted_is conflicts row parts.1 fit) where
          by : (b : Bool) → conflicted conflicts row ≡ is_some (edit_at (name row) (takings conflicts))
              → (b || conflicted conflicts row) ≡ is_some (cond b (Some (option_map (body_bytes schema) conflict.theirs)) (edit_at (name row) (takings conflicts)))
          by true e = refl
          by false e = e

    staying_value : (key : List ℕ) (conflicts : List Conflict) (rows : List Cells) → list_all (is_conflict schema) conflicts ≡ true → list_all (is_row schema) rows ≡ true
        → value_at key (items (staying conflicts rows)) ≡ kept_at (edit_at key (takings conflicts)) (value_at key (items rows))
    staying_value key conflicts [] all fit = sym (kept_none (edit_at key (takings conflicts)))
    staying_value key conflicts (row ∷ rows) all fit =
        let parts = and_parts (is_row schema row) (list_all (is_row schema) rows) fit in
        by (conflicted conflicts row) (conflicted_is conflicts row all parts.0) (staying_value key conflicts rows all parts.1) where
          at_name : bytes_eq (name row) key ≡ true → edit_at (name row) (takings conflicts) ≡ edit_at key (takings conflicts)
          at_name e = ap (λ (k : List ℕ). edit_at k (takings conflicts)) (eq_key (name row) key e)

          gone : (b : Bool) → bytes_eq (name row) key ≡ b → true ≡ is_some (edit_at (name row) (takings conflicts)) → kept_at (edit_at key (takings conflicts)) (value_at key (items rows)) ≡ kept_at (edit_at key (takings conflicts)) (cond b (Some (body_bytes schema row)) (value_at key (items rows)))
          gone true e is = kept_any (edit_at key (takings conflicts)) (value_at key (items rows)) (Some (body_bytes schema row)) (sym (is ∙ ap is_some (at_name e)))
          gone false e is = refl

          stays : (b : Bool) → bytes_eq (name row) key ≡ b → false ≡ is_some (edit_at (name row) (takings conflicts)) → value_at key (items (staying conflicts rows)) ≡ kept_at (edit_at key (takings conflicts)) (value_at key (items rows))
              → cond b (Some (body_bytes schema row)) (value_at key (items (staying conflicts rows))) ≡ kept_at (edit_at key (takings conflicts)) (cond b (Some (body_bytes schema row)) (value_at key (items rows)))
          stays true e is more = sym (ap (λ (o : Option (Option (List ℕ))). kept_at o (Some (body_bytes schema row))) (none_so (edit_at key (takings conflicts)) (sym (is ∙ ap is_some (at_name e)))))
          stays false e is more = more

          by : (t : Bool) → t ≡ is_some (edit_at (name row) (takings conflicts)) → value_at key (items (staying conflicts rows)) ≡ kept_at (edit_at key (takings conflicts)) (value_at key (items rows))
              → value_at key (items (cond (not t) (row ∷ staying conflicts rows) (staying conflicts rows))) ≡ kept_at (edit_at key (takings conflicts)) (cond (bytes_eq (name row) key) (Some (body_bytes schema row)) (value_at key (items rows)))
          by true is more = more ∙ gone (bytes_eq (name row) key) refl is
          by false is more = stays (bytes_eq (name row) key) refl is more

    taken_items : (follow : RowItemsFollow) (conflicts : List Conflict) (rows : List Cells) → list_all (is_conflict schema) conflicts ≡ true → list_all (is_row schema) rows ≡ true → Rise (items rows)
        → EditsRiseAfter None (takings conflicts) → list_all (is_row schema) (theirs_of conflicts) ≡ true → repeats (keyed_cmp schema) (staying conflicts rows ++ theirs_of conflicts) ≡ false
        → items (in_order (keyed_cmp schema) (staying conflicts rows ++ theirs_of conflicts)) ≡ edited (items rows) (takings conflicts)
    taken_items follow conflicts rows all fit rise up fits once =
        let stay = staying conflicts rows in
        let puts = puts_of (theirs_of conflicts) in
        let stay_fit = staying_all (λ (row : Cells). not (conflicted conflicts row)) (is_row schema) rows fit in
        let stay_rise = staying_rise (λ (row : Cells). not (conflicted conflicts row)) None rows rise in
        let puts_up = puts_rise None conflicts all up in
        edited_is follow schema valid stay (theirs_of conflicts) puts stay_fit stay_rise fits (record { in_order = rising_sorted None puts puts_up; stable = λ q. refl }) once
        ∙ same_rows (edited (items stay) puts) (edited (items rows) (takings conflicts)) None
        (edited_rise (items stay) None puts stay_rise puts_up) (edited_rise (items rows) None (takings conflicts) rise up)
        (edited_all (λ (item : Item). item.rows ≡ 1) (λ k v. refl) (items stay) (are_leaves schema stay) puts)
        (edited_all (λ (item : Item). item.rows ≡ 1) (λ k v. refl) (items rows) (are_leaves schema rows) (takings conflicts))
        (λ key. edited_value key (items stay) None puts stay_rise puts_up
        ∙ (λ i. over (put_value key None conflicts all up i) (staying_value key conflicts rows all fit i))
        ∙ put_over (edit_at key (takings conflicts)) (value_at key (items rows))
        ∙ sym (edited_value key (items rows) None (takings conflicts) rise up))

-- ---- a table that takes them

module _ (follow : RowItemsFollow) (spelling : IsOneSpelling key_bytes) (address : List ℕ → List ℕ) (chunks : Chunks) (table : StoredTable) (contents : PlainTable) (can : CanTake address chunks table contents) where
  kept : IsKeptTable contents
  kept = record { is_table = let stands = can.stands in stands.is_table; within = can.within }

  rows_few : (n : ℕ) → length contents.conflicts ≡ n → n < 2 ^ 62 → length (rows_after side.Theirs contents) < 2 ^ 63
  rows_few n is few =
      let all = in_order_length (keyed_cmp contents.schema) (staying contents.schema contents.conflicts contents.rows ++ their_rows contents) in
      let joined = length-append (staying contents.schema contents.conflicts contents.rows) (their_rows contents) in
      let stay = filter_few (λ (row : Cells). not (is_conflicted contents row)) contents.rows in
      let theirs = theirs_few contents.conflicts in
      let old = leb-true (length contents.rows) most_rows (few_rows contents can.within) in
      omega (arith, all, joined, stay, theirs, old, is, few)

  pub can_edit : (edits : List Edit) → edits ≡ theirs_edits contents → length edits < 2 ^ 62 → CanEditTable address chunks table edits contents (rows_after side.Theirs contents)
  can_edit edits is few =
      let stands = can.stands in
      let of = stands.is_table in
      let good = both_good contents kept can.short in
      let fit = all_left (is_row contents.schema) (is_row_within_limits contents.schema) (staying contents.schema contents.conflicts contents.rows ++ their_rows contents) good in
      let ordered = in_order_all (keyed_cmp contents.schema) (is_good contents.schema) (staying contents.schema contents.conflicts contents.rows ++ their_rows contents) good in
      let up = takings_rise contents.schema None contents.conflicts (let trees = stands.trees in let tree = trees.conflicts in tree.are_rows.rise) in
      record {
        stands = stands;
        rise = subst (λ (l : List Edit). EditsRiseAfter None l) (sym is) up;
        items = taken_items contents.schema spelling of.schema follow contents.conflicts contents.rows of.conflicts of.rows (let trees = stands.trees in let tree = trees.rows in tree.are_rows.rise) up
            (all_behind (is_row contents.schema) (staying contents.schema contents.conflicts contents.rows) (their_rows contents) fit) (both_once contents kept)
            ∙ sym (ap (λ (l : List Edit). edited (row_items contents) l) is);
        rows_of = record {
          valid = of.schema;
          fit = all_left (is_row contents.schema) (is_row_within_limits contents.schema) (rows_after side.Theirs contents) ordered;
          limits = all_right (is_row contents.schema) (is_row_within_limits contents.schema) (rows_after side.Theirs contents) ordered;
          few = rows_few (length edits) (sym (ap (λ (l : List Edit). length l) is ∙ length-map contents.conflicts (theirs_edit contents.schema))) few;
        };
      }
