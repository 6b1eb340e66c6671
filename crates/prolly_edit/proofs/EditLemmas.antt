-- Lists of rows that are edited: rows that no edit reaches stay, and the keys of what comes out rise.
use Rattle.std.proofs.Common.{◌≡◌, ◌<◌, ◌^◌, ℕ, true, false, List, [], ◌∷◌, ◌++◌, length, Option, None, Some, refl, sym, ap, ◌∙◌, subst}
use Rattle.std.specs.List.{AllByRecursion}
use Rattle.std.specs.Ordering.{is_eq, is_lt, is_le, match_ordering, ordering_reverse}
use Rattle.std.specs.declared.cmp.Ordering.{Ordering}
use Rattle.std.specs.declared.cmp.Ordering.TheVariants.{Less, Equal, Greater}
use Rattle.std.specs.Cmp.Lexicographic.{nat_list_cmp_total}
use Rattle.std.specs.FinMap.{slice_cmp-IsAntisymmetric, nat_cmp-IsAntisymmetric}
use Rattle.std.specs.Prelude.{not, bytes_eq}
use Rattle.std.proofs.lemmas.Cmp.{tied_itself}
use Rattle.std.proofs.lemmas.Map.Text.{is_eq-slice_cmp}
use Rattle.tuple_codec.proofs.Orderings.{less_is}
use Rattle.tuple_codec.specs.Nodes.{Item, RiseAfter}
use Rattle.tuple_codec.specs.Trees.{AreRows, IsRow}
use Rattle.tuple_codec.specs.Edits.{EditsRiseAfter, edited, edits_at, order, putting, puts}
use Rattle.tuple_codec.specs.declared.edits.Edit.{Edit}
use Rattle.prolly_tree.specs.Found.{UpTo}
use Rattle.prolly_tree.proofs.StandingOrder.{le_lt}
use Rattle.prolly_edit.specs.Editing.{AreEdits, PutsRow}
use Rattle.prolly_edit.specs.Stages.{is_past}
use Rattle.tuple_codec.proofs.Rising.{put_rise}

-- the other way round
greater : (a b : List ℕ) → is_lt (order a b) ≡ true → order b a ≡ Greater
greater a b below = nat_list_cmp_total.antisymm b a ∙ ap ordering_reverse (less_is (order a b) below)

pub edit_before : (row : Item) (rows : List Item) (edit : Edit) (edits : List Edit) → is_lt (order edit.key row.key) ≡ true
    → edited (row ∷ rows) (edit ∷ edits) ≡ putting edit.key edit.value (edited (row ∷ rows) edits)
edit_before row rows edit edits below =
    ap (λ o. match_ordering o (putting edit.key edit.value (edits_at row (edited rows) edits)) (putting edit.key edit.value (edited rows edits)) (row ∷ edited rows (edit ∷ edits)))
    (less_is (order edit.key row.key) below)

pub edit_at : (row : Item) (rows : List Item) (edit : Edit) (edits : List Edit) → edit.key ≡ row.key
    → edited (row ∷ rows) (edit ∷ edits) ≡ putting edit.key edit.value (edited rows edits)
edit_at row rows edit edits same =
    ap (λ o. match_ordering o (putting edit.key edit.value (edits_at row (edited rows) edits)) (putting edit.key edit.value (edited rows edits)) (row ∷ edited rows (edit ∷ edits)))
    (ap (λ k. order k row.key) same ∙ tied_itself nat_list_cmp_total row.key)

edit_after : (row : Item) (rows : List Item) (edit : Edit) (edits : List Edit) → is_lt (order row.key edit.key) ≡ true
    → edited (row ∷ rows) (edit ∷ edits) ≡ row ∷ edited rows (edit ∷ edits)
edit_after row rows edit edits above =
    ap (λ o. match_ordering o (putting edit.key edit.value (edits_at row (edited rows) edits)) (putting edit.key edit.value (edited rows edits)) (row ∷ edited rows (edit ∷ edits)))
    (greater row.key edit.key above)

-- a row that is passed stays
pub row_passes : (row : Item) (rows : List Item) (edits : List Edit) → is_past row.key edits ≡ true → edited (row ∷ rows) edits ≡ row ∷ edited rows edits
row_passes row rows [] past = refl
row_passes row rows (edit ∷ edits) past = edit_after row rows edit edits past

past_before : (some other : List ℕ) (edits : List Edit) → is_le (order some other) ≡ true → is_past other edits ≡ true → is_past some edits ≡ true
past_before some other [] up past = refl
past_before some other (edit ∷ edits) up past = le_lt some other edit.key up past

-- rows up to a key that is passed stay
pub rows_pass : (key : List ℕ) (before rows : List Item) (edits : List Edit) → is_past key edits ≡ true → UpTo key before
    → edited (before ++ rows) edits ≡ before ++ edited rows edits
rows_pass key [] rows edits past up = refl
rows_pass key (row ∷ before) rows edits past up =
    row_passes row (before ++ rows) edits (past_before row.key key edits up.0 past) ∙ ap (λ l. row ∷ l) (rows_pass key before rows edits past up.1)

-- a key that is neither below another nor the same is above it
pub above_other : (some other : List ℕ) → not (is_lt (order some other)) ≡ true → bytes_eq some other ≡ false → is_lt (order other some) ≡ true
above_other some other least apart = by (order some other) refl where
  by : (o : Ordering) → order some other ≡ o → is_lt (order other some) ≡ true
  by Less e = let now = ap (λ o. not (is_lt o)) e in absurd (cc (now, least))
  by Equal e = absurd (cc (sym (ap is_eq e) ∙ is_eq-slice_cmp some other, apart))
  by Greater e = ap is_lt (nat_list_cmp_total.antisymm other some ∙ ap ordering_reverse e)

-- ---- what comes out are rows

put_each : (key : List ℕ) (value : Option (List ℕ)) (rows : List Item) → AllByRecursion IsRow (putting key value []) → AllByRecursion IsRow rows → AllByRecursion IsRow (putting key value rows)
put_each key None rows put each = each
put_each key (Some value) rows put each = (put.0, each)

puts_each : (edits : List Edit) → AllByRecursion PutsRow edits → AllByRecursion IsRow (puts edits)
puts_each [] put = tt
puts_each (edit ∷ edits) put = put_each edit.key edit.value (puts edits) put.0 (puts_each edits put.1)

at_each : (row : Item) (rest : List Edit → List Item) → IsRow row → ((edits : List Edit) → AllByRecursion PutsRow edits → AllByRecursion IsRow (rest edits))
    → (edits : List Edit) → AllByRecursion PutsRow edits → AllByRecursion IsRow (edits_at row rest edits)
at_each row rest is go [] put = (is, go [] tt)
at_each row rest is go (edit ∷ edits) put = by (order edit.key row.key) (at_each row rest is go edits put.1) where
  by : (o : Ordering) → AllByRecursion IsRow (edits_at row rest edits) → AllByRecursion IsRow (match_ordering o (putting edit.key edit.value (edits_at row rest edits)) (putting edit.key edit.value (rest edits)) (row ∷ rest (edit ∷ edits)))
  by Less more = put_each edit.key edit.value (edits_at row rest edits) put.0 more
  by Equal more = put_each edit.key edit.value (rest edits) put.0 (go edits put.1)
  by Greater more = (is, go (edit ∷ edits) put)

edited_each : (rows : List Item) → AllByRecursion IsRow rows → (edits : List Edit) → AllByRecursion PutsRow edits → AllByRecursion IsRow (edited rows edits)
edited_each [] each edits put = puts_each edits put
edited_each (row ∷ rows) each edits put = at_each row (edited rows) each.0 (edited_each rows each.1) edits put

-- ---- their keys rise

puts_rise : (before : Option (List ℕ)) (edits : List Edit) → EditsRiseAfter before edits → RiseAfter before (puts edits)
puts_rise before [] rise = tt
puts_rise before (edit ∷ edits) rise = put_rise before edit.key edit.value (puts edits) rise.0 (puts_rise (Some edit.key) edits rise.1)

at_rise : (row : Item) (rows : List Item)
    → ((before : Option (List ℕ)) (edits : List Edit) → RiseAfter before rows → EditsRiseAfter before edits → RiseAfter before (edited rows edits))
    → (before : Option (List ℕ)) (edits : List Edit) → RiseAfter before (row ∷ rows) → EditsRiseAfter before edits → RiseAfter before (edits_at row (edited rows) edits)
at_rise row rows go before [] rise put = (rise.0, go (Some row.key) [] rise.1 tt)
at_rise row rows go before (edit ∷ edits) rise put = by (order edit.key row.key) refl (λ below. at_rise row rows go (Some edit.key) edits (below, rise.1) put.1) where
  by : (o : Ordering) → order edit.key row.key ≡ o → (is_lt (order edit.key row.key) ≡ true → RiseAfter (Some edit.key) (edits_at row (edited rows) edits))
      → RiseAfter before (match_ordering o (putting edit.key edit.value (edits_at row (edited rows) edits)) (putting edit.key edit.value (edited rows edits)) (row ∷ edited rows (edit ∷ edits)))
  by Less e more = put_rise before edit.key edit.value (edits_at row (edited rows) edits) put.0 (more (ap is_lt e))
  by Equal e more =
      let same : row.key ≡ edit.key = sym (slice_cmp-IsAntisymmetric nat_cmp-IsAntisymmetric edit.key row.key e) in
      put_rise before edit.key edit.value (edited rows edits) put.0 (go (Some edit.key) edits (subst (λ k. RiseAfter (Some k) rows) same rise.1) put.1)
  by Greater e more =
      (rise.0, go (Some row.key) (edit ∷ edits) rise.1 (ap is_lt (nat_list_cmp_total.antisymm row.key edit.key ∙ ap ordering_reverse e), put.1))

edited_rise : (rows : List Item) (before : Option (List ℕ)) (edits : List Edit) → RiseAfter before rows → EditsRiseAfter before edits → RiseAfter before (edited rows edits)
edited_rise [] before edits rise put = puts_rise before edits put
edited_rise (row ∷ rows) before edits rise put = at_rise row rows (edited_rise rows) before edits rise put

-- edits of rows give rows
pub edited_rows : (rows : List Item) (edits : List Edit) → AreRows rows → AreEdits edits → length (edited rows edits) < 2 ^ 63 → AreRows (edited rows edits)
edited_rows rows edits are edit few = record {
  each = edited_each rows are.each edits edit.each;
  rise = edited_rise rows None edits are.rise edit.rise;
  few = few;
}
