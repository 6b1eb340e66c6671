-- A walk over two lists of rows, step by step.
use Rattle.std.proofs.Common.{◌≡◌, ℕ, zero, suc, ◌+◌, ◌-◌, ◌<◌, take, arith, length-drop, Bool, true, false, List, [], ◌∷◌, ◌++◌, map, length, drop, get_or, Option, None, Some, append_assoc, refl, sym, ap, ◌∙◌, subst}
use Rattle.std.specs.Prelude.{if◌then◌else◌, bytes_eq}
use Rattle.std.specs.Ordering.{match_ordering}
use Rattle.std.specs.declared.cmp.Ordering.{Ordering}
use Rattle.std.specs.declared.cmp.Ordering.TheVariants.{Less, Equal, Greater}
use Rattle.std.specs.List.{AllByRecursion, list_all}
use Rattle.std.proofs.lemmas.Bool.{and_parts}
use Rattle.std.proofs.lemmas.List.{drop_more, take_all}
use Rattle.tuple_codec.proofs.ByteLemmas.{bytes_itself as itself}
use Rattle.tuple_codec.proofs.Orderings.{less_is}
use Rattle.tuple_codec.specs.Rows.{Cells}
use Rattle.schema_model.specs.PlainTables.{row_item}
use Rattle.schema_model.specs.declared.schemas.Schema.{Schema}
use Rattle.tuple_codec.specs.Edits.{added, against, changed, order, removed, replaced}
use Rattle.tuple_codec.specs.Nodes.{Item, Rise, RiseAfter}
use Rattle.tuple_codec.specs.declared.edits.Edit.{Edit}
use Rattle.tuple_codec.specs.declared.edits.ItemChange.{ItemChange}
use Rattle.tuple_codec.specs.ByKey.{as_edit, as_edits}
use Rattle.tuple_codec.proofs.KeyOrders.{greater, less_trans}
use Rattle.sql_write.specs.Differences.{meeting, row_edits}
use Rattle.sql_write.specs.Weaving.{Fate, Stays, Leaves, Comes, after, before, come, gone}
use Rattle.sql_write.specs.declared.differences.Meeting.{Meeting}
use Rattle.sql_write.specs.declared.differences.Meeting.TheVariants as meet
use Rattle.index_keep.proofs.SortLemmas.{order_itself}

-- an item beside itself
pub met_itself : (item other : Item) → item ≡ other → meet.Same ≡ meeting item other
met_itself item other e = let same = sym e in rw same (sym (by (order item.key item.key) (bytes_eq item.body item.body) (order_itself item.key) (itself item.body))) where
  by : (o : Ordering) (b : Bool) → o ≡ Equal → b ≡ true
      → match_ordering o (meet.Put (as_edit (added item))) (if b then meet.Same else meet.Replaced (as_edit (replaced item item))) (meet.Removed (as_edit (removed item))) ≡ meet.Same
  by o b is_same is_one = rw is_same (rw is_one refl)

-- what is left of both lists, behind the edit of a step
abbrev pub stepped : Meeting → Item → List Item → Item → List Item → List Edit
stepped meet.Same item items other others = as_edits (changed items others)
stepped (meet.Put edit) item items other others = edit ∷ as_edits (changed (item ∷ items) others)
stepped (meet.Replaced edit) item items other others = edit ∷ as_edits (changed items others)
stepped (meet.Removed edit) item items other others = edit ∷ as_edits (changed items (other ∷ others))

step : (item other : Item) (items others : List Item) → as_edits (changed (item ∷ items) (other ∷ others)) ≡ stepped (meeting item other) item items other others
step item other items others = by (order other.key item.key) (bytes_eq other.body item.body) where
  by : (o : Ordering) (b : Bool)
      → as_edits (match_ordering o (added other ∷ against item (changed items) others) (if b then changed items others else replaced item other ∷ changed items others) (removed item ∷ changed items (other ∷ others)))
      ≡ stepped (match_ordering o (meet.Put (as_edit (added other))) (if b then meet.Same else meet.Replaced (as_edit (replaced item other))) (meet.Removed (as_edit (removed item)))) item items other others
  by Less b = refl
  by Equal true = refl
  by Equal false = refl
  by Greater b = refl

-- the first that is left of a list
pub here : {A : Type 0} → (xs : List A) (i : ℕ) (x : A) → i < length xs → x ≡ get_or xs i x → drop i xs ≡ x ∷ drop (i + 1) xs
here xs i x within is = drop_more xs i x within ∙ ap (λ y. y ∷ drop (i + 1) xs) (sym is)

-- what the first two say of what is left of both lists
pub left_step : (schema : Schema) (rows others : List Cells) (i j : ℕ) (row other : Cells) (m : Meeting)
    → i < length rows → j < length others → row ≡ get_or rows i row → other ≡ get_or others j other → m ≡ meeting (row_item schema row) (row_item schema other)
    → row_edits schema (drop i rows) (drop j others)
    ≡ stepped m (row_item schema row) (map (row_item schema) (drop (i + 1) rows)) (row_item schema other) (map (row_item schema) (drop (j + 1) others))
left_step schema rows others i j row other m i_within j_within row_is other_is m_is =
    ap (λ xs. row_edits schema xs (drop j others)) (here rows i row i_within row_is)
    ∙ ap (λ ys. row_edits schema (row ∷ drop (i + 1) rows) ys) (here others j other j_within other_is)
    ∙ step (row_item schema row) (row_item schema other) (map (row_item schema) (drop (i + 1) rows)) (map (row_item schema) (drop (j + 1) others))
    ∙ ap (λ m. stepped m (row_item schema row) (map (row_item schema) (drop (i + 1) rows)) (row_item schema other) (map (row_item schema) (drop (j + 1) others))) (sym m_is)

rest_is : {A : Type 0} → (xs : List A) (i : ℕ) → take (length xs - i) (drop i xs) ≡ drop i xs
rest_is xs i = take_all (length xs - i) (drop i xs) (omega (arith, length-drop i xs))

-- what fits a list fits what is left of it
pub all_left : {A : Type 0} → (test : A → Bool) (xs : List A) (i : ℕ) → list_all test xs ≡ true → list_all test (drop i xs) ≡ true
all_left test [] zero e = refl
all_left test [] (suc i) e = refl
all_left test (x ∷ xs) zero e = e
all_left test (x ∷ xs) (suc i) e = all_left test xs i (and_parts (test x) (list_all test xs) e).1

pub all_of_rest : {A : Type 0} → (test : A → Bool) (xs : List A) (i : ℕ) → list_all test xs ≡ true → list_all test (take (length xs - i) (drop i xs)) ≡ true
all_of_rest test xs i e = ap (list_all test) (rest_is xs i) ∙ all_left test xs i e

-- a list and itself differ nowhere
pub no_changes : (items : List Item) → as_edits (changed items items) ≡ []
no_changes [] = refl
no_changes (item ∷ items) = step item item items items ∙ ap (λ m. stepped m item items item items) (sym (met_itself item item refl)) ∙ no_changes items

-- ---- rows that stand in both lists

-- each of the one list comes before each of the other
abbrev Apart : List Item → List Item → Type 0
Apart items others = AllByRecursion (λ item. AllByRecursion (λ other. order item.key other.key ≡ Less) others) items

-- what two lists differ in, and two that stand behind them
abbrev Joins : List Item → List Item → List Item → List Item → Type 0
Joins items more others rest = changed (items ++ more) (others ++ rest) ≡ changed items others ++ changed more rest

join_step : (item other : Item) (items more others rest : List Item) → Joins items more others rest → Joins (item ∷ items) more others rest → Joins items more (other ∷ others) rest
    → Joins (item ∷ items) more (other ∷ others) rest
join_step item other items more others rest both put removed_ = by (order other.key item.key) (bytes_eq other.body item.body) where
  by : (o : Ordering) (b : Bool)
      → match_ordering o (added other ∷ changed (item ∷ (items ++ more)) (others ++ rest))
      (if b then changed (items ++ more) (others ++ rest) else replaced item other ∷ changed (items ++ more) (others ++ rest)) (removed item ∷ changed (items ++ more) (other ∷ (others ++ rest)))
      ≡ match_ordering o (added other ∷ changed (item ∷ items) others)
      (if b then changed items others else replaced item other ∷ changed items others) (removed item ∷ changed items (other ∷ others)) ++ changed more rest
  by Less b = ap (λ (l : List ItemChange). added other ∷ l) put
  by Equal true = both
  by Equal false = ap (λ (l : List ItemChange). replaced item other ∷ l) both
  by Greater b = ap (λ (l : List ItemChange). removed item ∷ l) removed_

joined : (items more others rest : List Item) → Apart items rest → Apart others more → Joins items more others rest
joined [] more [] rest first second = refl
joined [] [] (other ∷ others) rest first second = ap (λ (l : List ItemChange). added other ∷ l) (joined [] [] others rest tt second.1)
joined [] (next ∷ more) (other ∷ others) rest first second =
    ap (λ o. match_ordering o (added other ∷ changed (next ∷ more) (others ++ rest))
    (if bytes_eq other.body next.body then changed more (others ++ rest) else replaced next other ∷ changed more (others ++ rest)) (removed next ∷ changed more (other ∷ (others ++ rest)))) second.0.0
    ∙ ap (λ (l : List ItemChange). added other ∷ l) (joined [] (next ∷ more) others rest tt second.1)
joined (item ∷ items) more [] [] first second = ap (λ (l : List ItemChange). removed item ∷ l) (joined items more [] [] first.1 tt)
joined (item ∷ items) more [] (next ∷ rest) first second =
    ap (λ o. match_ordering o (added next ∷ changed (item ∷ (items ++ more)) rest)
    (if bytes_eq next.body item.body then changed (items ++ more) rest else replaced item next ∷ changed (items ++ more) rest) (removed item ∷ changed (items ++ more) (next ∷ rest)))
    (greater item.key next.key first.0.0)
    ∙ ap (λ (l : List ItemChange). removed item ∷ l) (joined items more [] (next ∷ rest) first.1 tt)
joined (item ∷ items) more (other ∷ others) rest first second =
    join_step item other items more others rest (joined items more others rest first.1 second.1) (joined (item ∷ items) more others rest first second.1) (joined items more (other ∷ others) rest first.1 second)

-- one that stands in both
same_first : (item : Item) (items others : List Item) → changed (item ∷ items) (item ∷ others) ≡ changed items others
same_first item items others =
    ap (λ o. match_ordering o (added item ∷ changed (item ∷ items) others)
    (if bytes_eq item.body item.body then changed items others else replaced item item ∷ changed items others) (removed item ∷ changed items (item ∷ others))) (order_itself item.key)
    ∙ ap (λ b. if b then changed items others else replaced item item ∷ changed items others) (itself item.body)

-- ---- what stands before an item, and behind it

abbrev Before : List ℕ → List Item → Type 0
Before key items = AllByRecursion (λ item. order item.key key ≡ Less) items

abbrev Behind : List ℕ → List Item → Type 0
Behind key items = AllByRecursion (λ item. order key item.key ≡ Less) items

before_it : (low : Option (List ℕ)) (items : List Item) (it : Item) (others : List Item) → RiseAfter low (items ++ (it ∷ others)) → Before it.key items
before_it low [] it others rise = tt
before_it low (item ∷ items) it others rise = (at item.key items rise.1, before_it (Some item.key) items it others rise.1) where
  at : (key : List ℕ) (items : List Item) → RiseAfter (Some key) (items ++ (it ∷ others)) → order key it.key ≡ Less
  at key [] rise = less_is (order key it.key) rise.0
  at key (item ∷ items) rise = less_trans key item.key it.key (less_is (order key item.key) rise.0) (at item.key items rise.1)

rest_rise : (low : Option (List ℕ)) (items : List Item) (it : Item) (others : List Item) → RiseAfter low (items ++ (it ∷ others)) → RiseAfter (Some it.key) others
rest_rise low [] it others rise = rise.1
rest_rise low (item ∷ items) it others rise = rest_rise (Some item.key) items it others rise.1

behind_later : (key at : List ℕ) (items : List Item) → order key at ≡ Less → Behind at items → Behind key items
behind_later key at [] less behind = tt
behind_later key at (item ∷ items) less behind = (less_trans key at item.key less behind.0, behind_later key at items less behind.1)

behind_it : (key : List ℕ) (items : List Item) → RiseAfter (Some key) items → Behind key items
behind_it key [] rise = tt
behind_it key (item ∷ items) rise =
    let less = less_is (order key item.key) rise.0 in (less, behind_later key item.key items less (behind_it item.key items rise.1))

apart_by : (it : Item) (items others : List Item) → Before it.key items → Behind it.key others → Apart items others
apart_by it [] others before_ behind = tt
apart_by it (item ∷ items) others before_ behind = (behind_later item.key it.key others before_.0 behind, apart_by it items others before_.1 behind)

-- both at once: what stands before the item, and the item and what stands behind it
apart_from : (it : Item) (items others : List Item) → Before it.key items → Behind it.key others → Apart items (it ∷ others)
apart_from it [] others before_ behind = tt
apart_from it (item ∷ items) others before_ behind = ((before_.0, behind_later item.key it.key others before_.0 behind), apart_from it items others before_.1 behind)

free_rise : (low : Option (List ℕ)) (items : List Item) → RiseAfter low items → Rise items
free_rise low [] rise = tt
free_rise low (item ∷ items) rise = (refl, rise.1)

-- ---- the edits of the rows that were read are those of all rows

module _ (schema : Schema) where
  abbrev items_of : List Cells → List Item
  items_of rows = map (row_item schema) rows

  gone_have : (P : Item → Type 0) (fates : List Fate) → AllByRecursion P (items_of (before fates)) → AllByRecursion P (items_of (gone fates))
  gone_have P [] have = tt
  gone_have P (Stays row ∷ fates) have = gone_have P fates have.1
  gone_have P (Leaves row ∷ fates) have = (have.0, gone_have P fates have.1)
  gone_have P (Comes row ∷ fates) have = gone_have P fates have

  come_have : (P : Item → Type 0) (fates : List Fate) → AllByRecursion P (items_of (after fates)) → AllByRecursion P (items_of (come fates))
  come_have P [] have = tt
  come_have P (Stays row ∷ fates) have = come_have P fates have.1
  come_have P (Leaves row ∷ fates) have = come_have P fates have
  come_have P (Comes row ∷ fates) have = (have.0, come_have P fates have.1)

  -- behind rows that were read and rows that came of such
  woven_behind : (fates : List Fate) (old new : List Item) → Rise (old ++ items_of (before fates)) → Rise (new ++ items_of (after fates))
      → changed (old ++ items_of (before fates)) (new ++ items_of (after fates)) ≡ changed (old ++ items_of (gone fates)) (new ++ items_of (come fates))
  woven_behind [] old new rise new_rise = refl
  woven_behind (Stays row ∷ fates) old new rise new_rise =
      let it = row_item schema row in
      let old_before = before_it None old it (items_of (before fates)) rise in
      let new_before = before_it None new it (items_of (after fates)) new_rise in
      let old_rest = rest_rise None old it (items_of (before fates)) rise in
      let new_rest = rest_rise None new it (items_of (after fates)) new_rise in
      let old_behind = behind_it it.key (items_of (before fates)) old_rest in
      let new_behind = behind_it it.key (items_of (after fates)) new_rest in
      joined old (it ∷ items_of (before fates)) new (it ∷ items_of (after fates)) (apart_from it old (items_of (after fates)) old_before new_behind) (apart_from it new (items_of (before fates)) new_before old_behind)
      ∙ ap (λ (l : List ItemChange). changed old new ++ l)
      (same_first it (items_of (before fates)) (items_of (after fates))
      ∙ woven_behind fates [] [] (free_rise (Some it.key) (items_of (before fates)) old_rest) (free_rise (Some it.key) (items_of (after fates)) new_rest))
      ∙ sym (joined old (items_of (gone fates)) new (items_of (come fates)) (apart_by it old (items_of (come fates)) old_before (come_have (λ item. order it.key item.key ≡ Less) fates new_behind))
      (apart_by it new (items_of (gone fates)) new_before (gone_have (λ item. order it.key item.key ≡ Less) fates old_behind)))
  woven_behind (Leaves row ∷ fates) old new rise new_rise =
      let it = row_item schema row in
      let shift : (items : List Item) → old ++ (it ∷ items) ≡ (old ++ (it ∷ [])) ++ items = λ items. sym (append_assoc old (it ∷ []) items) in
      ap (λ (l : List Item). changed l (new ++ items_of (after fates))) (shift (items_of (before fates)))
      ∙ woven_behind fates (old ++ (it ∷ [])) new (subst Rise (shift (items_of (before fates))) rise) new_rise
      ∙ ap (λ (l : List Item). changed l (new ++ items_of (come fates))) (sym (shift (items_of (gone fates))))
  woven_behind (Comes row ∷ fates) old new rise new_rise =
      let it = row_item schema row in
      let shift : (items : List Item) → new ++ (it ∷ items) ≡ (new ++ (it ∷ [])) ++ items = λ items. sym (append_assoc new (it ∷ []) items) in
      ap (λ (l : List Item). changed (old ++ items_of (before fates)) l) (shift (items_of (after fates)))
      ∙ woven_behind fates old (new ++ (it ∷ [])) rise (subst Rise (shift (items_of (after fates))) new_rise)
      ∙ ap (λ (l : List Item). changed (old ++ items_of (gone fates)) l) (sym (shift (items_of (come fates))))

  pub edits_woven : (fates : List Fate) → Rise (items_of (before fates)) → Rise (items_of (after fates)) → row_edits schema (gone fates) (come fates) ≡ row_edits schema (before fates) (after fates)
  edits_woven fates rise new_rise = ap as_edits (sym (woven_behind fates [] [] rise new_rise))
