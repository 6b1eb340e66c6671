-- Keys rise in what edits make of rows, and in the changes between two lists.
use Rattle.std.proofs.Common.{◌≡◌, ℕ, Bool, true, false, List, [], ◌∷◌, Option, None, Some, refl, sym, ap, subst}
use Rattle.std.specs.Prelude.{bytes_eq, if◌then◌else◌}
use Rattle.std.specs.List.{AllByRecursion}
use Rattle.std.specs.Ordering.{is_lt, match_ordering}
use Rattle.std.specs.declared.cmp.Ordering.{Ordering}
use Rattle.std.specs.declared.cmp.Ordering.TheVariants.{Less, Equal, Greater}
use Rattle.tuple_codec.proofs.Orderings.{less_is}
use Rattle.tuple_codec.specs.Nodes.{Item, RiseAfter, is_after, leaf_item}
use Rattle.tuple_codec.specs.Edits.{EditsRiseAfter, added, against, all_added, changed, edited, edits_at, order, putting, puts, removed, replaced}
use Rattle.tuple_codec.specs.declared.edits.Edit.{Edit}
use Rattle.tuple_codec.specs.declared.edits.ItemChange.{ItemChange}
use Rattle.tuple_codec.specs.ByKey.{as_edits}
use Rattle.tuple_codec.proofs.KeyOrders.{less_trans, same_key, turned}

pub after_less : (before : Option (List ℕ)) (some other : List ℕ) → is_after before some ≡ true → order some other ≡ Less → is_after before other ≡ true
after_less None some other one two = refl
after_less (Some k) some other one two = ap is_lt (less_trans k some other (less_is (order k some) one) two)

-- what rises after a key rises after what stands before that key
pub rows_lower : (before : Option (List ℕ)) (key : List ℕ) (rows : List Item) → is_after before key ≡ true → RiseAfter (Some key) rows → RiseAfter before rows
rows_lower before key [] after rise = tt
rows_lower before key (row ∷ rows) after rise = (after_less before key row.key after (less_is (order key row.key) rise.0), rise.1)

pub edits_lower : (before : Option (List ℕ)) (key : List ℕ) (edits : List Edit) → is_after before key ≡ true → EditsRiseAfter (Some key) edits → EditsRiseAfter before edits
edits_lower before key [] after rise = tt
edits_lower before key (edit ∷ edits) after rise = (after_less before key edit.key after (less_is (order key edit.key) rise.0), rise.1)

-- ---- what edits make

pub put_rise : (before : Option (List ℕ)) (key : List ℕ) (value : Option (List ℕ)) (rows : List Item) → is_after before key ≡ true → RiseAfter (Some key) rows
    → RiseAfter before (putting key value rows)
put_rise before key None rows after rise = rows_lower before key rows after rise
put_rise before key (Some value) rows after rise = (after, rise)

pub puts_rise : (before : Option (List ℕ)) (edits : List Edit) → EditsRiseAfter before edits → RiseAfter before (puts edits)
puts_rise before [] rise = tt
puts_rise before (edit ∷ edits) rise = put_rise before edit.key edit.value (puts edits) rise.0 (puts_rise (Some edit.key) edits rise.1)

at_rise : (row : Item) (rows : List Item)
    → ((before : Option (List ℕ)) (edits : List Edit) → RiseAfter before rows → EditsRiseAfter before edits → RiseAfter before (edited rows edits))
    → (before : Option (List ℕ)) (edits : List Edit) → RiseAfter before (row ∷ rows) → EditsRiseAfter before edits → RiseAfter before (edits_at row (edited rows) edits)
at_rise row rows go before [] rise put = (rise.0, go (Some row.key) [] rise.1 tt)
at_rise row rows go before (edit ∷ edits) rise put = by (order edit.key row.key) refl (λ below. at_rise row rows go (Some edit.key) edits (below, rise.1) put.1) where
  by : (o : Ordering) → order edit.key row.key ≡ o → (is_lt (order edit.key row.key) ≡ true → RiseAfter (Some edit.key) (edits_at row (edited rows) edits))
      → RiseAfter before (match_ordering o (putting edit.key edit.value (edits_at row (edited rows) edits)) (putting edit.key edit.value (edited rows edits)) (row ∷ edited rows (edit ∷ edits)))
  by Less e more = put_rise before edit.key edit.value (edits_at row (edited rows) edits) put.0 (more (ap is_lt e))
  by Equal e more =
      let same : row.key ≡ edit.key = sym (same_key edit.key row.key e) in
      put_rise before edit.key edit.value (edited rows edits) put.0 (go (Some edit.key) edits (subst (λ k. RiseAfter (Some k) rows) same rise.1) put.1)
  by Greater e more =
      (rise.0, go (Some row.key) (edit ∷ edits) rise.1 (ap is_lt (turned edit.key row.key e), put.1))

pub edited_rise : (rows : List Item) (before : Option (List ℕ)) (edits : List Edit) → RiseAfter before rows → EditsRiseAfter before edits → RiseAfter before (edited rows edits)
edited_rise [] before edits rise put = puts_rise before edits put
edited_rise (row ∷ rows) before edits rise put = at_rise row rows (edited_rise rows) before edits rise put

-- ---- the changes between two lists

added_rise : (before : Option (List ℕ)) (others : List Item) → RiseAfter before others → EditsRiseAfter before (as_edits (all_added others))
added_rise before [] rise = tt
added_rise before (other ∷ others) rise = (rise.0, added_rise (Some other.key) others rise.1)

replaced_rise : (before : Option (List ℕ)) (row other : Item) (changes : List ItemChange) (same : Bool) → is_after before row.key ≡ true → EditsRiseAfter (Some row.key) (as_edits changes)
    → EditsRiseAfter before (as_edits (if same then changes else replaced row other ∷ changes))
replaced_rise before row other changes true after rise = edits_lower before row.key (as_edits changes) after rise
replaced_rise before row other changes false after rise = (after, rise)

pub changed_rise : (rows others : List Item) (before : Option (List ℕ)) → RiseAfter before rows → RiseAfter before others → EditsRiseAfter before (as_edits (changed rows others))
changed_rise [] others before one two = added_rise before others two
changed_rise (row ∷ rows) [] before one two = (one.0, changed_rise rows [] (Some row.key) one.1 tt)
changed_rise (row ∷ rows) (other ∷ others) before one two =
    elim (order other.key row.key) as (λ o. order other.key row.key ≡ o
    → EditsRiseAfter before (as_edits (match_ordering o (added other ∷ against row (changed rows) others)
    (if bytes_eq other.body row.body then changed rows others else replaced row other ∷ changed rows others) (removed row ∷ changed rows (other ∷ others))))) [
      | Less ↦ λ e. (two.0, changed_rise (row ∷ rows) others (Some other.key) (ap is_lt e, one.1) two.1)
      | Equal ↦ λ e.
          let after : RiseAfter (Some row.key) others = subst (λ k. RiseAfter (Some k) others) (same_key other.key row.key e) two.1 in
          replaced_rise before row other (changed rows others) (bytes_eq other.body row.body) one.0 (changed_rise rows others (Some row.key) one.1 after)
      | Greater ↦ λ e. (one.0, changed_rise rows (other ∷ others) (Some row.key) one.1 (ap is_lt (turned other.key row.key e), two.1))
    ] refl

-- ---- leaf rows stay such

put_all : (P : Item → Type 0) (key : List ℕ) (value : Option (List ℕ)) (rows : List Item) → ((v : List ℕ) → P (leaf_item key v)) → AllByRecursion P rows → AllByRecursion P (putting key value rows)
put_all P key None rows leaf all = all
put_all P key (Some value) rows leaf all = (leaf value, all)

puts_all : (P : Item → Type 0) → ((k v : List ℕ) → P (leaf_item k v)) → (edits : List Edit) → AllByRecursion P (puts edits)
puts_all P leaf [] = tt
puts_all P leaf (edit ∷ edits) = put_all P edit.key edit.value (puts edits) (leaf edit.key) (puts_all P leaf edits)

at_all : (P : Item → Type 0) → ((k v : List ℕ) → P (leaf_item k v)) → (row : Item) (rest : List Edit → List Item) → P row → ((edits : List Edit) → AllByRecursion P (rest edits))
    → (edits : List Edit) → AllByRecursion P (edits_at row rest edits)
at_all P leaf row rest is go [] = (is, go [])
at_all P leaf row rest is go (edit ∷ edits) = by (order edit.key row.key) (at_all P leaf row rest is go edits) where
  by : (o : Ordering) → AllByRecursion P (edits_at row rest edits) → AllByRecursion P (match_ordering o (putting edit.key edit.value (edits_at row rest edits)) (putting edit.key edit.value (rest edits)) (row ∷ rest (edit ∷ edits)))
  by Less more = put_all P edit.key edit.value (edits_at row rest edits) (leaf edit.key) more
  by Equal more = put_all P edit.key edit.value (rest edits) (leaf edit.key) (go edits)
  by Greater more = (is, go (edit ∷ edits))

pub edited_all : (P : Item → Type 0) → ((k v : List ℕ) → P (leaf_item k v)) → (rows : List Item) → AllByRecursion P rows → (edits : List Edit) → AllByRecursion P (edited rows edits)
edited_all P leaf [] all edits = puts_all P leaf edits
edited_all P leaf (row ∷ rows) all edits = at_all P leaf row (edited rows) all.0 (edited_all P leaf rows all.1) edits
