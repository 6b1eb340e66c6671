-- Edits by rising key against the rows below a node: those up to an item's key are looked up below it.
use Rattle.std.proofs.Common.{◌≡◌, ◌<◌, ℕ, zero, suc, Bool, true, false, cond, ◌||◌, List, [], ◌∷◌, length, take, drop, Option, None, Some, is_some, refl, sym, ap, ◌∙◌, subst, arith}
use Rattle.std.specs.List.{AllByRecursion, slice_get}
use Rattle.std.specs.Ordering.{is_le, is_lt, ordering_reverse}
use Rattle.std.specs.declared.cmp.Ordering.{Ordering}
use Rattle.std.specs.declared.cmp.Ordering.TheVariants.{Less, Equal, Greater}
use Rattle.std.proofs.lemmas.Cmp.{nat_list_cmp_total}
use Rattle.std.proofs.lemmas.List.{length-drop, take-append-drop}
use Rattle.std.proofs.lemmas.List.Folds.{list_any-append}
use Rattle.tuple_codec.proofs.Lists.{have_at}
use Rattle.tuple_codec.specs.Edits.{EditsRiseAfter, value_at}
use Rattle.tuple_codec.specs.Nodes.{Item, Node}
use Rattle.tuple_codec.specs.declared.edits.Edit.{Edit}
use Rattle.chunk_store.specs.Chunks.{Chunks}
use Rattle.prolly_tree.specs.Standing.{IsNodeFound, IsStored, Leads, rows_below}
use Rattle.prolly_tree.proofs.StandingOrder.{le_itself, le_lt, lt_is_le, lt_le, order}
use Rattle.prolly_tree.specs.Lists.{has_any, place_of}
use Rattle.prolly_tree.specs.Meets.{IsNamed, count_up_to, leaf_has_any}
use Rattle.prolly_tree.proofs.Descents.{from_place, head_above, item_same, leaf_value, next, none_some, nothing_at_end}

-- ---- keys

turned : (o : Ordering) → is_lt o ≡ false → is_le (ordering_reverse o) ≡ true
turned Less e = absurd (cc)
turned Equal e = refl
turned Greater e = refl

turned_back : (o : Ordering) → is_le (ordering_reverse o) ≡ true → is_lt o ≡ false
turned_back Less e = absurd (cc)
turned_back Equal e = refl
turned_back Greater e = refl

not_above : (a b : List ℕ) → is_lt (order a b) ≡ false → is_le (order b a) ≡ true
not_above a b e = ap is_le (nat_list_cmp_total.antisymm b a) ∙ turned (order a b) e

not_below : (a b : List ℕ) → is_le (order b a) ≡ true → is_lt (order a b) ≡ false
not_below a b e = turned_back (order a b) (sym (ap is_le (nat_list_cmp_total.antisymm b a)) ∙ e)

-- ---- edits

abbrev pub FromKey : List ℕ → List Edit → Type 0
FromKey key edits = AllByRecursion (λ edit. is_le (order key edit.key) ≡ true) edits

abbrev pub Between : List ℕ → List ℕ → List Edit → Type 0
Between key last edits = AllByRecursion (λ edit. (is_le (order key edit.key) ≡ true) × (is_le (order edit.key last) ≡ true)) edits

from_after : (key before : List ℕ) (edits : List Edit) → is_le (order key before) ≡ true → EditsRiseAfter (Some before) edits → FromKey key edits
from_after key before [] up rise = tt
from_after key before (edit ∷ edits) up rise =
    let here = lt_is_le (order key edit.key) (le_lt key before edit.key up rise.0) in (here, from_after key edit.key edits here rise.1)

-- no edit comes before the first
pub from_first : (edits : List Edit) (edit : Edit) (more : List Edit) → edits ≡ edit ∷ more → EditsRiseAfter None edits → FromKey edit.key edits
from_first edits edit more is rise =
    subst (λ (l : List Edit). EditsRiseAfter None l → FromKey edit.key l) (sym is)
    (λ (all : EditsRiseAfter None (edit ∷ more)). (le_itself edit.key, from_after edit.key edit.key more (le_itself edit.key) all.1)) rise

rise_any : (before : Option (List ℕ)) (edits : List Edit) → EditsRiseAfter before edits → EditsRiseAfter None edits
rise_any before [] rise = tt
rise_any before (edit ∷ edits) rise = (refl, rise.1)

pub rise_take : (before : Option (List ℕ)) (n : ℕ) (edits : List Edit) → EditsRiseAfter before edits → EditsRiseAfter before (take n edits)
rise_take before zero edits rise = tt
rise_take before (suc n) [] rise = tt
rise_take before (suc n) (edit ∷ edits) rise = (rise.0, rise_take (Some edit.key) n edits rise.1)

pub rise_drop : (before : Option (List ℕ)) (n : ℕ) (edits : List Edit) → EditsRiseAfter before edits → EditsRiseAfter None (drop n edits)
rise_drop before zero edits rise = rise_any before edits rise
rise_drop before (suc n) [] rise = tt
rise_drop before (suc n) (edit ∷ edits) rise = rise_drop (Some edit.key) n edits rise.1

pub between : (key last : List ℕ) (edits : List Edit) → FromKey key edits → Between key last (take (count_up_to last edits) edits)
between key last [] from = tt
between key last (edit ∷ edits) from =
    (elim (is_le (order edit.key last)) as (λ b. is_le (order edit.key last) ≡ b → Between key last (take (cond b (suc (count_up_to last edits)) 0) (edit ∷ edits))) [
      | true ↦ λ e. ((from.0, e), between key last edits from.1)
      | false ↦ λ e. tt
    ]) refl

count_some : (key : List ℕ) (edit : Edit) (more : List Edit) → is_le (order edit.key key) ≡ true → 0 < count_up_to key (edit ∷ more)
count_some key edit more up = subst (λ (b : Bool). 0 < cond b (suc (count_up_to key more)) 0) (sym up) (omega arith)

-- ---- a node's rows

-- the edits from the first one on, where that one's key is up to an item's
pub takes_one : (items : List Item) (at : ℕ) (item : Item) (edits : List Edit) (edit : Edit) (more : List Edit) → at ≡ place_of edit.key items → slice_get items at ≡ Some item
    → edits ≡ edit ∷ more → 0 < count_up_to item.key edits
takes_one items at item edits edit more place is are =
    let above = head_above edit.key items item (drop (suc at) items) (from_place edit.key items at item place is) in
    subst (λ (l : List Edit). 0 < count_up_to item.key l) (sym are) (count_some item.key edit more (not_above item.key edit.key above))

pub leaf_is : (chunks : Chunks) (leaf : Node) → Leads chunks leaf → leaf.level ≡ 0 → (edits : List Edit) → leaf_has_any leaf.items edits ≡ has_any (rows_below chunks leaf) edits
leaf_is chunks leaf leads is [] = refl
leaf_is chunks leaf leads is (edit ∷ edits) =
    ap (λ (o : Option (List ℕ)). is_some o || leaf_has_any leaf.items edits) (leaf_value chunks edit.key leaf leads is)
    ∙ ap (λ (b : Bool). is_some (value_at edit.key (rows_below chunks leaf)) || b) (leaf_is chunks leaf leads is edits)

end_for : (key k : List ℕ) (items : List Item) → is_le (order key k) ≡ true → place_of key items ≡ length items → place_of k items ≡ length items
end_for key k [] up e = refl
end_for key k (item ∷ items) up e =
    (elim (is_lt (order item.key key)) as (λ b. is_lt (order item.key key) ≡ b → cond b (suc (place_of key items)) 0 ≡ suc (length items)
    → cond (is_lt (order item.key k)) (suc (place_of k items)) 0 ≡ suc (length items)) [
      | true ↦ λ (below : is_lt (order item.key key) ≡ true) (e : suc (place_of key items) ≡ suc (length items)).
          let more : place_of key items ≡ length items = omega (arith, e) in
          ap (λ (b : Bool). cond b (suc (place_of k items)) 0) (lt_le item.key key k below up) ∙ ap suc (end_for key k items up more)
      | false ↦ λ (below : is_lt (order item.key key) ≡ false) (e : 0 ≡ suc (length items)). absurd (omega (arith, e))
    ]) refl e

-- behind all items there is no row
pub none_behind : (chunks : Chunks) (node : Node) (key : List ℕ) → Leads chunks node → place_of key node.items ≡ length node.items
    → (edits : List Edit) → FromKey key edits → has_any (rows_below chunks node) edits ≡ false
none_behind chunks node key leads place [] from = refl
none_behind chunks node key leads place (edit ∷ edits) from =
    ap (λ (o : Option (List ℕ)). is_some o || has_any (rows_below chunks node) edits) (nothing_at_end chunks node edit.key leads (end_for key edit.key node.items from.0 place))
    ∙ none_behind chunks node key leads place edits from.1

place_same : (key k : List ℕ) (items : List Item) (item : Item) → slice_get items (place_of key items) ≡ Some item → is_le (order key k) ≡ true → is_le (order k item.key) ≡ true
    → place_of key items ≡ place_of k items
place_same key k [] item is low high = absurd (none_some item is)
place_same key k (first ∷ items) item is low high =
    (elim (is_lt (order first.key key)) as (λ b. is_lt (order first.key key) ≡ b → slice_get (first ∷ items) (cond b (suc (place_of key items)) 0) ≡ Some item
    → cond b (suc (place_of key items)) 0 ≡ cond (is_lt (order first.key k)) (suc (place_of k items)) 0) [
      | true ↦ λ below is. ap suc (place_same key k items item is low high) ∙ ap (λ (b : Bool). cond b (suc (place_of k items)) 0) (sym (lt_le first.key key k below low))
      | false ↦ λ below is.
          let upto : is_le (order k first.key) ≡ true = subst (λ (x : Item). is_le (order k x.key) ≡ true) (sym (item_same first item is)) high in
          ap (λ (b : Bool). cond b (suc (place_of k items)) 0) (sym (not_below first.key k upto))
    ]) refl is

-- edits from a key up to that of the item at its place are looked up below it
pub below_same : (chunks : Chunks) (node : Node) (key : List ℕ) (at : ℕ) (item : Item) (child : Node) → Leads chunks node → 0 < node.level → at ≡ place_of key node.items
    → slice_get node.items at ≡ Some item → ((other : Node) → IsStored chunks item.body other → child ≡ other)
    → (edits : List Edit) → Between key item.key edits → has_any (rows_below chunks node) edits ≡ has_any (rows_below chunks child) edits
below_same chunks node key at item child leads inner place is one [] all = refl
below_same chunks node key at item child leads inner place is one (edit ∷ edits) all =
    let there = subst (λ (n : ℕ). slice_get node.items n ≡ Some item) place is in
    let here : at ≡ place_of edit.key node.items = place ∙ place_same key edit.key node.items item there all.0.0 all.0.1 in
    let n = next chunks edit.key node at item leads inner here is in
    let value : value_at edit.key (rows_below chunks node) ≡ value_at edit.key (rows_below chunks child) =
    n.1.same ∙ ap (λ (x : Node). value_at edit.key (rows_below chunks x)) (sym (one n.0 n.1.opens.stored)) in
    ap (λ (o : Option (List ℕ)). is_some o || has_any (rows_below chunks node) edits) value
    ∙ ap (λ (b : Bool). is_some (value_at edit.key (rows_below chunks child)) || b) (below_same chunks node key at item child leads inner place is one edits all.1)

there_by : (chunks : Chunks) (level : ℕ) (items : List Item) (at : ℕ) (item : Item) → AllByRecursion (IsNodeFound chunks level) items → 0 < level → slice_get items at ≡ Some item
    → (below : Node) × (IsStored chunks item.body below × (below.level < level))
there_by chunks zero items at item all inner is = absurd (omega arith)
there_by chunks (suc level) items at item all inner is =
    let found = have_at (IsNodeFound chunks (suc level)) items at item all is in
    let below : Node = record { level = level; items = found.0 } in
    let deeper : level < suc level = omega arith in
    (below, (found.1, deeper))

-- the node that an item names is found, one level below
pub node_there : (chunks : Chunks) (node : Node) (address : List ℕ) → Leads chunks node → 0 < node.level → IsNamed node address
    → (below : Node) × (IsStored chunks address below × (below.level < node.level))
node_there chunks node address leads inner is =
    subst (λ (k : List ℕ). (below : Node) × (IsStored chunks k below × (below.level < node.level))) is.named (there_by chunks node.level node.items is.at is.item leads.each inner is.stands)

-- some edits, and then the others
pub in_turn : (rows : List Item) (n : ℕ) (edits : List Edit) → has_any rows edits ≡ (has_any rows (take n edits) || has_any rows (drop n edits))
in_turn rows n edits =
    ap (λ (l : List Edit). has_any rows l) (sym (take-append-drop n edits)) ∙ list_any-append (λ edit. is_some (value_at edit.key rows)) (take n edits) (drop n edits)

-- the edits up to the key of an item are looked up in the node that it names, and then the others
pub record IsTurn (chunks : Chunks) (node : Node) (edits here more : List Edit) (child : Node) : Type 0 where
  pub rise_here : EditsRiseAfter None here
  pub rise_more : EditsRiseAfter None more
  pub fewer : length more < length edits
  pub leads : Leads chunks child
  pub deeper : child.level < node.level
  pub same : has_any (rows_below chunks node) edits ≡ (has_any (rows_below chunks child) here || has_any (rows_below chunks node) more)

pub turn : (chunks : Chunks) (node : Node) (edits : List Edit) (edit : Edit) (more : List Edit) (at count : ℕ) (item : Item) (child : Node) → Leads chunks node → 0 < node.level
    → EditsRiseAfter None edits → edits ≡ edit ∷ more → at ≡ place_of edit.key node.items → slice_get node.items at ≡ Some item → count ≡ count_up_to item.key edits
    → ((other : Node) → IsStored chunks item.body other → child ≡ other) → IsTurn chunks node edits (take count edits) (drop count edits) child
turn chunks node edits edit more at count item child leads inner rise are place is counted one =
    let n = next chunks edit.key node at item leads inner place is in
    let e : child ≡ n.0 = one n.0 n.1.opens.stored in
    let level : child.level ≡ n.0.level = ap (λ (x : Node). x.level) e in
    let below = n.1.level in
    let some : 0 < count = subst (λ (k : ℕ). 0 < k) (sym counted) (takes_one node.items at item edits edit more place is are) in
    let long : 0 < length edits = subst (λ (l : List Edit). 0 < length l) (sym are) (omega arith) in
    let shorter = length-drop count edits in
    let all : Between edit.key item.key (take count edits) =
    subst (λ (k : ℕ). Between edit.key item.key (take k edits)) (sym counted) (between edit.key item.key edits (from_first edits edit more are rise)) in
    record {
      rise_here = rise_take None count edits rise;
      rise_more = rise_drop None count edits rise;
      fewer = omega (arith, some, long, shorter);
      leads = subst (λ (x : Node). Leads chunks x) (sym e) n.1.opens.leads;
      deeper = omega (arith, level, below);
      same = in_turn (rows_below chunks node) count edits
          ∙ ap (λ (b : Bool). b || has_any (rows_below chunks node) (drop count edits)) (below_same chunks node edit.key at item child leads inner place is one (take count edits) all);
    }

pub turn_found : (found here more : Bool) → found ≡ (here || more) → here ≡ true → true ≡ found
turn_found found here more e h = sym (e ∙ ap (λ (b : Bool). b || more) h)

pub turn_past : (found here more : Bool) → found ≡ (here || more) → here ≡ false → more ≡ found
turn_past found here more e h = sym (e ∙ ap (λ (b : Bool). b || more) h)
