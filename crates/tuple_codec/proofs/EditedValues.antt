-- What stands at a key, in a list, after edits, and in changes.
use Rattle.std.proofs.Common.{◌≡◌, ℕ, Bool, true, false, List, [], ◌∷◌, Option, None, Some, refl, sym, ap, ◌∙◌, subst}
use Rattle.std.specs.Prelude.{bytes_eq, if◌then◌else◌}
use Rattle.std.specs.Ordering.{is_lt, match_ordering}
use Rattle.std.specs.declared.cmp.Ordering.{Ordering}
use Rattle.std.specs.declared.cmp.Ordering.TheVariants.{Less, Equal, Greater}
use Rattle.tuple_codec.proofs.ByteLemmas.{same_bytes as eq_key, bytes_itself as itself}
use Rattle.tuple_codec.proofs.Orderings.{less_is}
use Rattle.tuple_codec.proofs.Options.{some_is as some_same}
use Rattle.tuple_codec.specs.Nodes.{Item, Rise, RiseAfter}
use Rattle.tuple_codec.specs.Edits.{EditsRiseAfter, added, against, all_added, changed, edited, edits_at, order, putting, puts, removed, replaced, value_at}
use Rattle.tuple_codec.specs.declared.edits.Edit.{Edit}
use Rattle.tuple_codec.specs.declared.edits.ItemChange.{ItemChange}
use Rattle.tuple_codec.specs.ByKey.{AreLeafRows, as_edits, between, change_at, edit_at, over}
use Rattle.tuple_codec.proofs.KeyOrders.{apart, same_key, turned}
use Rattle.tuple_codec.proofs.Rising.{changed_rise, edited_all, edited_rise, edits_lower, puts_rise, rows_lower}

-- where all keys are above a key, nothing stands at it
pub above : (key : List ℕ) (rows : List Item) → RiseAfter (Some key) rows → value_at key rows ≡ None
above key [] rise = refl
above key (row ∷ rows) rise = rw (apart key row.key (less_is (order key row.key) rise.0)) (above key rows (rows_lower (Some key) row.key rows rise.0 rise.1))

pub edits_above : (key : List ℕ) (edits : List Edit) → EditsRiseAfter (Some key) edits → edit_at key edits ≡ None
edits_above key [] rise = refl
edits_above key (edit ∷ edits) rise = rw (apart key edit.key (less_is (order key edit.key) rise.0)) (edits_above key edits (edits_lower (Some key) edit.key edits rise.0 rise.1))

-- the same at a key that is equal
above_at : (key other : List ℕ) (rows : List Item) → bytes_eq key other ≡ true → RiseAfter (Some key) rows → value_at other rows ≡ None
above_at key other rows e rise = above other rows (subst (λ k. RiseAfter (Some k) rows) (eq_key key other e) rise)

edits_above_at : (key other : List ℕ) (edits : List Edit) → bytes_eq key other ≡ true → EditsRiseAfter (Some key) edits → edit_at other edits ≡ None
edits_above_at key other edits e rise = edits_above other edits (subst (λ k. EditsRiseAfter (Some k) edits) (eq_key key other e) rise)

-- ---- after edits

pub put_value : (key at : List ℕ) (value : Option (List ℕ)) (rows : List Item) → RiseAfter (Some at) rows
    → value_at key (putting at value rows) ≡ (if bytes_eq at key then value else value_at key rows)
put_value key at (Some value) rows rise = refl
put_value key at None rows rise = by (bytes_eq at key) refl where
  by : (b : Bool) → bytes_eq at key ≡ b → value_at key rows ≡ (if b then None else value_at key rows)
  by true e = above_at at key rows e rise
  by false e = refl

-- an edit, or what the others come to
first : (b : Bool) (value : Option (List ℕ)) (rest : Option (Option (List ℕ))) (old new : Option (List ℕ)) → new ≡ over rest old
    → (if b then value else new) ≡ over (if b then Some value else rest) old
first true value rest old new e = refl
first false value rest old new e = e

-- the same where the edit meets a row of its key
met : (b c : Bool) (value here : Option (List ℕ)) (rest : Option (Option (List ℕ))) (old new : Option (List ℕ)) → b ≡ c → new ≡ over rest old
    → (if b then value else new) ≡ over (if b then Some value else rest) (if c then here else old)
met true c value here rest old new s e = refl
met false true value here rest old new s e = absurd cc
met false false value here rest old new s e = e

-- a row that no edit meets
passed : (b : Bool) (here : Option (List ℕ)) (edit : Option (Option (List ℕ))) (old new : Option (List ℕ)) → (b ≡ true → edit ≡ None) → new ≡ over edit old
    → (if b then here else new) ≡ over edit (if b then here else old)
passed true here edit old new none e = sym (ap (λ x. over x here) (none refl))
passed false here edit old new none e = e

puts_value : (key : List ℕ) (edits : List Edit) (before : Option (List ℕ)) → EditsRiseAfter before edits → value_at key (puts edits) ≡ over (edit_at key edits) None
puts_value key [] before rise = refl
puts_value key (edit ∷ edits) before rise =
    put_value key edit.key edit.value (puts edits) (puts_rise (Some edit.key) edits rise.1)
    ∙ first (bytes_eq edit.key key) edit.value (edit_at key edits) None (value_at key (puts edits)) (puts_value key edits (Some edit.key) rise.1)

at_value : (key : List ℕ) (row : Item) (rows : List Item)
    → ((before : Option (List ℕ)) (edits : List Edit) → RiseAfter before rows → EditsRiseAfter before edits → value_at key (edited rows edits) ≡ over (edit_at key edits) (value_at key rows))
    → (before : Option (List ℕ)) (edits : List Edit) → RiseAfter before (row ∷ rows) → EditsRiseAfter before edits
    → value_at key (edited (row ∷ rows) edits) ≡ over (edit_at key edits) (value_at key (row ∷ rows))
at_value key row rows go before [] rise put =
    passed (bytes_eq row.key key) (Some row.body) None (value_at key rows) (value_at key (edited rows [])) (λ _. refl) (go (Some row.key) [] rise.1 tt)
at_value key row rows go before (edit ∷ edits) rise put = by (order edit.key row.key) refl (λ below. at_value key row rows go (Some edit.key) edits (below, rise.1) put.1) where
  by : (o : Ordering) → order edit.key row.key ≡ o
      → (is_lt (order edit.key row.key) ≡ true → value_at key (edited (row ∷ rows) edits) ≡ over (edit_at key edits) (value_at key (row ∷ rows)))
      → value_at key (match_ordering o (putting edit.key edit.value (edits_at row (edited rows) edits)) (putting edit.key edit.value (edited rows edits)) (row ∷ edited rows (edit ∷ edits)))
      ≡ over (edit_at key (edit ∷ edits)) (value_at key (row ∷ rows))
  by Less e more =
      put_value key edit.key edit.value (edited (row ∷ rows) edits) (edited_rise (row ∷ rows) (Some edit.key) edits (ap is_lt e, rise.1) put.1)
      ∙ first (bytes_eq edit.key key) edit.value (edit_at key edits) (value_at key (row ∷ rows)) (value_at key (edited (row ∷ rows) edits)) (more (ap is_lt e))
  by Equal e more =
      let same = same_key edit.key row.key e in
      let rise_at : RiseAfter (Some edit.key) rows = subst (λ k. RiseAfter (Some k) rows) (sym same) rise.1 in
      put_value key edit.key edit.value (edited rows edits) (edited_rise rows (Some edit.key) edits rise_at put.1)
      ∙ met (bytes_eq edit.key key) (bytes_eq row.key key) edit.value (Some row.body) (edit_at key edits) (value_at key rows) (value_at key (edited rows edits))
      (ap (λ k. bytes_eq k key) same) (go (Some edit.key) edits rise_at put.1)
  by Greater e more =
      let after : EditsRiseAfter (Some row.key) (edit ∷ edits) = (ap is_lt (turned edit.key row.key e), put.1) in
      passed (bytes_eq row.key key) (Some row.body) (edit_at key (edit ∷ edits)) (value_at key rows) (value_at key (edited rows (edit ∷ edits)))
      (λ is. edits_above_at row.key key (edit ∷ edits) is after) (go (Some row.key) (edit ∷ edits) rise.1 after)

pub edited_value : (key : List ℕ) (rows : List Item) (before : Option (List ℕ)) (edits : List Edit) → RiseAfter before rows → EditsRiseAfter before edits
    → value_at key (edited rows edits) ≡ over (edit_at key edits) (value_at key rows)
edited_value key [] before edits rise put = puts_value key edits before put
edited_value key (row ∷ rows) before edits rise put = at_value key row rows (edited_value key rows) before edits rise put

-- ---- in changes

new_one : (b : Bool) (here : List ℕ) (old : Option (List ℕ)) (later : Option (List ℕ)) (rest : Option (Option (List ℕ) × Option (List ℕ))) → (b ≡ true → old ≡ None) → rest ≡ between old later
    → (if b then Some (None, Some here) else rest) ≡ between old (if b then Some here else later)
new_one true here old later rest none e = sym (ap (λ x. between x (Some here)) (none refl))
new_one false here old later rest none e = e

old_one : (b : Bool) (here : List ℕ) (old : Option (List ℕ)) (later : Option (List ℕ)) (rest : Option (Option (List ℕ) × Option (List ℕ))) → (b ≡ true → later ≡ None) → rest ≡ between old later
    → (if b then Some (Some here, None) else rest) ≡ between (if b then Some here else old) later
old_one true here old later rest none e = sym (ap (λ x. between (Some here) x) (none refl))
old_one false here old later rest none e = e

added_value : (key : List ℕ) (others : List Item) → change_at key (all_added others) ≡ between None (value_at key others)
added_value key [] = refl
added_value key (other ∷ others) = new_one (bytes_eq other.key key) other.body None (value_at key others) (change_at key (all_added others)) (λ _. refl) (added_value key others)

-- two rows of one key, of which the test says whether they differ
both_ones : (b c t : Bool) (one two : List ℕ) (old later : Option (List ℕ)) (rest : Option (Option (List ℕ) × Option (List ℕ))) → bytes_eq two one ≡ t → b ≡ c
    → (b ≡ true → old ≡ None) → (b ≡ true → later ≡ None) → rest ≡ between old later
    → (if t then rest else (if b then Some (Some one, Some two) else rest)) ≡ between (if b then Some one else old) (if c then Some two else later)
both_ones true false t one two old later rest is s gone none e = absurd cc
both_ones false true t one two old later rest is s gone none e = absurd cc
both_ones false false true one two old later rest is s gone none e = e
both_ones false false false one two old later rest is s gone none e = e
both_ones true true true one two old later rest is s gone none e = rw is (e ∙ ap (λ x. between x later) (gone refl) ∙ ap (λ x. between None x) (none refl))
both_ones true true false one two old later rest is s gone none e = rw is refl

change_if : (key : List ℕ) (t : Bool) (change : ItemChange) (changes : List ItemChange)
    → change_at key (if t then changes else change ∷ changes) ≡ (if t then change_at key changes else change_at key (change ∷ changes))
change_if key true change changes = refl
change_if key false change changes = refl

pub changed_value : (key : List ℕ) (rows others : List Item) (before : Option (List ℕ)) → RiseAfter before rows → RiseAfter before others
    → change_at key (changed rows others) ≡ between (value_at key rows) (value_at key others)
changed_value key [] others before one two = added_value key others
changed_value key (row ∷ rows) [] before one two =
    old_one (bytes_eq row.key key) row.body (value_at key rows) None (change_at key (changed rows [])) (λ _. refl) (changed_value key rows [] (Some row.key) one.1 tt)
changed_value key (row ∷ rows) (other ∷ others) before one two =
    elim (order other.key row.key) as (λ o. order other.key row.key ≡ o
    → change_at key (match_ordering o (added other ∷ against row (changed rows) others)
    (if bytes_eq other.body row.body then changed rows others else replaced row other ∷ changed rows others) (removed row ∷ changed rows (other ∷ others)))
    ≡ between (value_at key (row ∷ rows)) (value_at key (other ∷ others))) [
      | Less ↦ λ e.
          let after : RiseAfter (Some other.key) (row ∷ rows) = (ap is_lt e, one.1) in
          new_one (bytes_eq other.key key) other.body (value_at key (row ∷ rows)) (value_at key others) (change_at key (changed (row ∷ rows) others))
          (λ is. above_at other.key key (row ∷ rows) is after) (changed_value key (row ∷ rows) others (Some other.key) after two.1)
      | Equal ↦ λ e.
          let same = same_key other.key row.key e in
          let after : RiseAfter (Some row.key) others = subst (λ k. RiseAfter (Some k) others) same two.1 in
          change_if key (bytes_eq other.body row.body) (replaced row other) (changed rows others)
          ∙ both_ones (bytes_eq row.key key) (bytes_eq other.key key) (bytes_eq other.body row.body) row.body other.body (value_at key rows) (value_at key others) (change_at key (changed rows others))
          refl (ap (λ k. bytes_eq k key) (sym same)) (λ is. above_at row.key key rows is one.1) (λ is. above_at row.key key others is after)
          (changed_value key rows others (Some row.key) one.1 after)
      | Greater ↦ λ e.
          let after : RiseAfter (Some row.key) (other ∷ others) = (ap is_lt (turned other.key row.key e), two.1) in
          old_one (bytes_eq row.key key) row.body (value_at key rows) (value_at key (other ∷ others)) (change_at key (changed rows (other ∷ others)))
          (λ is. above_at row.key key (other ∷ others) is after) (changed_value key rows (other ∷ others) (Some row.key) one.1 after)
    ] refl

-- ---- a list is what stands at each key

tail_value : (key : List ℕ) (row other : Item) (rows others : List Item) → row.key ≡ other.key → RiseAfter (Some row.key) rows → RiseAfter (Some other.key) others
    → value_at key (row ∷ rows) ≡ value_at key (other ∷ others) → value_at key rows ≡ value_at key others
tail_value key row other rows others same one two e = by (bytes_eq row.key key) refl where
  by : (b : Bool) → bytes_eq row.key key ≡ b → value_at key rows ≡ value_at key others
  by true is = above_at row.key key rows is one ∙ sym (above_at other.key key others (ap (λ k. bytes_eq k key) (sym same) ∙ is) two)
  by false is =
      let is_not : bytes_eq other.key key ≡ false = ap (λ k. bytes_eq k key) (sym same) ∙ is in
      sym (ap (λ b. if b then Some row.body else value_at key rows) is) ∙ e ∙ ap (λ b. if b then Some other.body else value_at key others) is_not

here : (row : Item) (rows : List Item) → value_at row.key (row ∷ rows) ≡ Some row.body
here row rows = ap (λ b. if b then Some row.body else value_at row.key rows) (itself row.key)

abbrev item : List ℕ → List ℕ → ℕ → Item
item key body rows = record { key = key; body = body; rows = rows }

one_item : (row other : Item) → row.key ≡ other.key → row.body ≡ other.body → row.rows ≡ 1 → other.rows ≡ 1 → row ≡ other
one_item row other k b r s = let e : item row.key row.body row.rows ≡ item other.key other.body other.rows = cc in e

pub same_rows : (rows others : List Item) (before : Option (List ℕ)) → RiseAfter before rows → RiseAfter before others → AreLeafRows rows → AreLeafRows others
    → ((key : List ℕ) → value_at key rows ≡ value_at key others) → rows ≡ others
same_rows [] [] before one two leaf leaves same = refl
same_rows [] (other ∷ others) before one two leaf leaves same = let e = same other.key ∙ here other others in absurd (cc e)
same_rows (row ∷ rows) [] before one two leaf leaves same = let e = sym (same row.key) ∙ here row rows in absurd (cc e)
same_rows (row ∷ rows) (other ∷ others) before one two leaf leaves same =
    elim (order row.key other.key) as (λ o. order row.key other.key ≡ o → row ∷ rows ≡ other ∷ others) [
      | Less ↦ λ e. let none = sym (here row rows) ∙ same row.key ∙ above row.key (other ∷ others) (ap is_lt e, two.1) in absurd (cc none)
      | Greater ↦ λ e. let none = sym (here other others) ∙ sym (same other.key) ∙ above other.key (row ∷ rows) (ap is_lt (turned row.key other.key e), one.1) in absurd (cc none)
      | Equal ↦ λ e.
          let k = same_key row.key other.key e in
          let b : row.body ≡ other.body = some_same row.body other.body (sym (here row rows) ∙ same row.key ∙ ap (λ j. value_at j (other ∷ others)) k ∙ here other others) in
          let first_one = one_item row other k b leaf.0 leaves.0 in
          let rest = same_rows rows others (Some row.key) one.1 (subst (λ j. RiseAfter (Some j) others) (sym k) two.1) leaf.1 leaves.1
          (λ key. tail_value key row other rows others k one.1 two.1 (same key)) in
          ap (λ x. x ∷ rows) first_one ∙ ap (λ xs. other ∷ xs) rest
    ] refl

-- ---- the changes as edits lead to the other list

value_of : Option (Option (List ℕ) × Option (List ℕ)) → Option (Option (List ℕ))
value_of None = None
value_of (Some both) = Some both.1

value_if : (b : Bool) (old new : Option (List ℕ)) (edits : Option (Option (List ℕ))) (rest : Option (Option (List ℕ) × Option (List ℕ))) → edits ≡ value_of rest
    → (if b then Some new else edits) ≡ value_of (if b then Some (old, new) else rest)
unfolding value_of
value_if true old new edits rest e = refl
value_if false old new edits rest e = e

edit_found : (key : List ℕ) (changes : List ItemChange) → edit_at key (as_edits changes) ≡ value_of (change_at key changes)
unfolding value_of
edit_found key [] = refl
edit_found key (change ∷ changes) = value_if (bytes_eq change.key key) change.old change.new (edit_at key (as_edits changes)) (change_at key changes) (edit_found key changes)

over_both : (t : Bool) (one two : List ℕ) → bytes_eq two one ≡ t → over (value_of (if t then None else Some (Some one, Some two))) (Some one) ≡ Some two
unfolding value_of
over_both true one two e = ap Some (sym (eq_key two one e))
over_both false one two e = refl

over_between : (old new : Option (List ℕ)) → over (value_of (between old new)) old ≡ new
unfolding value_of
over_between None None = refl
over_between None (Some new) = refl
over_between (Some old) None = refl
over_between (Some old) (Some new) = over_both (bytes_eq new old) old new refl

edit_of_change : (key : List ℕ) (changes : List ItemChange) (old new : Option (List ℕ)) → change_at key changes ≡ between old new → over (edit_at key (as_edits changes)) old ≡ new
edit_of_change key changes old new e = ap (λ x. over x old) (edit_found key changes ∙ ap value_of e) ∙ over_between old new

pub changes_back : (rows others : List Item) → Rise rows → Rise others → AreLeafRows rows → AreLeafRows others → edited rows (as_edits (changed rows others)) ≡ others
changes_back rows others one two leaf leaves =
    let edits = as_edits (changed rows others) in
    let rise = changed_rise rows others None one two in
    same_rows (edited rows edits) others None (edited_rise rows None edits one rise) two
    (edited_all (λ row. row.rows ≡ 1) (λ k v. refl) rows leaf edits) leaves
    (λ key. edited_value key rows None edits one rise ∙ edit_of_change key (changed rows others) (value_at key rows) (value_at key others) (changed_value key rows others None one two))
