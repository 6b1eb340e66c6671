-- Of a list that is cut into one node, no item but the last ends it.
use Rattle.std.proofs.Common.{◌≡◌, ◌+◌, ◌<◌, ◌≤◌, ℕ, zero, suc, true, false, List, [], ◌∷◌, ◌++◌, length, take, drop, Some, subst, sym, ap, refl, ◌∙◌, append_assoc, inl, inr, arith}
use Rattle.std.proofs.lemmas.Bool.{cases_Bool}
use Rattle.tuple_codec.specs.Nodes.{Item, ends, item_bytes, items_bytes}
use Rattle.tuple_codec.specs.Trees.{bytes_of, closes, cut, cut_from, last_key, names}
use Rattle.prolly_tree.proofs.StandingLists.{cut_some, names_length}
use Rattle.prolly_tree.proofs.StandingReads.{items_there}
use Rattle.prolly_tree.proofs.StandingNodes.{bytes_length, items_one as items_more}
use Rattle.prolly_tree.specs.Found.{IsCanonical, nodes_in}
use Rattle.prolly_tree.specs.Standing.{IsNodeFound}
use Rattle.prolly_tree.proofs.StandingCuts.{cut_open as goes_on}
use Rattle.std.specs.Prelude.{slice_get}
use Rattle.std.proofs.lemmas.List.{length-append, length-take-le, take-append-drop}
use Rattle.std.proofs.lemmas.Grind.{flat_map-append}
use Rattle.tuple_codec.proofs.Options.{some_is}
use Rattle.tuple_codec.proofs.Lists.{take_at_get as take_next}
use Rattle.chunk_store.specs.Chunks.{Chunks}
use Rattle.node_format.proofs.BuildLemmas.{last_is}
use Rattle.prolly_edit.specs.Keeping.{StaysOpen}

no_second : (a : List ℕ → List ℕ) (level : ℕ) (held : List Item) (x y : Item) (rest : List Item) → length (cut_from a level held (x ∷ y ∷ rest)) ≡ 1
    → closes a level (held ++ x ∷ []) ≡ true → closes a level (held ++ x ∷ []) ≡ false
no_second a level held x y rest single ends =
    let e : length (cut_from a level held (x ∷ y ∷ rest)) ≡ suc (length (cut_from a level [] (y ∷ rest))) = rw ends refl in
    absurd (omega (arith, single, e, cut_some a level [] (y ∷ rest) (omega arith)))

stays_here : (a : List ℕ → List ℕ) (level : ℕ) (held : List Item) (x y : Item) (rest : List Item) → length (cut_from a level held (x ∷ y ∷ rest)) ≡ 1
    → closes a level (held ++ x ∷ []) ≡ false
stays_here a level held x y rest single =
    elim (cases_Bool (closes a level (held ++ x ∷ []))) [
      | inl ends ↦ no_second a level held x y rest single ends
      | inr stays ↦ stays
    ]

stays_from : (a : List ℕ → List ℕ) (level : ℕ) (held items : List Item) → length (cut_from a level held items) ≡ 1
    → (at : ℕ) → suc at < length items → closes a level (held ++ take (suc at) items) ≡ false
stays_from a level held [] single at more = absurd (omega arith)
stays_from a level held (x ∷ []) single at more = absurd (omega arith)
stays_from a level held (x ∷ y ∷ rest) single zero more = stays_here a level held x y rest single
stays_from a level held (x ∷ y ∷ rest) single (suc at) more =
    let e = goes_on a level held x (y ∷ rest) (stays_here a level held x y rest single) in
    ap (closes a level) (sym (append_assoc held (x ∷ []) (take (suc at) (y ∷ rest))))
    ∙ stays_from a level (held ++ x ∷ []) (y ∷ rest) (ap length (sym e) ∙ single) at (omega arith)

-- the items of a node that has a name
pub stays_open : (a : List ℕ → List ℕ) (level : ℕ) (items : List Item) (item : Item) → names a level (cut a level items) ≡ item ∷ [] → StaysOpen a level items
stays_open a level items item named at more =
    let e : at + 1 ≡ suc at = omega arith in
    ap (λ n. closes a level (take n items)) e
    ∙ stays_from a level [] items (sym (names_length a level (cut a level items)) ∙ ap length named) at (omega arith)

pub stays_none : (a : List ℕ → List ℕ) (level : ℕ) → StaysOpen a level []
stays_none a level at more = absurd (omega arith)

-- the items of the node that an item of a tree names
pub stays_below : (a : List ℕ → List ℕ) (chunks : Chunks) (level : ℕ) (item : Item) → (found : IsNodeFound chunks (suc level) item)
    → IsCanonical a (nodes_in chunks) (suc level) item → StaysOpen a level found.0
stays_below a chunks level item found canonical =
    let same : canonical.0 ≡ found.0 = some_is _ _ (sym canonical.1 ∙ items_there chunks item.body level found.0 found.1) in
    subst (StaysOpen a level) same (stays_open a level canonical.0 item canonical.3)

-- ---- sizes

items_part : (level : ℕ) (items : List Item) (n : ℕ) → length (items_bytes level (take n items)) ≤ length (items_bytes level items)
items_part level items n =
    let e : length (items_bytes level items) ≡ length (items_bytes level (take n items) ++ items_bytes level (drop n items)) =
    ap (λ l. length (items_bytes level l)) (sym (take-append-drop n items)) ∙ ap length (flat_map-append (item_bytes level) (take n items) (drop n items)) in
    omega (arith, e, length-append (items_bytes level (take n items)) (items_bytes level (drop n items)))

pub size_next : (level : ℕ) (items : List Item) (at : ℕ) (item : Item) (size more : ℕ) → slice_get items at ≡ Some item → more ≡ length (item_bytes level item)
    → size ≡ 4 + length (items_bytes level (take at items)) → size + more ≡ 4 + length (items_bytes level (take (at + 1) items))
size_next level items at item size more here more_is size_is =
    let e : length (items_bytes level (take (at + 1) items)) ≡ length (items_bytes level (take at items ++ item ∷ [])) =
    ap (λ l. length (items_bytes level l)) (take_next items at item here) in
    omega (arith, e, items_more level (take at items) item)

pub size_within : (level : ℕ) (items : List Item) (n : ℕ) → length (bytes_of level items) ≤ 65536 → 4 + length (items_bytes level (take n items)) ≤ 65536
size_within level items n small = omega (arith, bytes_length level items, items_part level items n)

-- an item that isn't the last doesn't end its node where it stands
pub open_ends : (a : List ℕ → List ℕ) (level : ℕ) (items : List Item) (at size count : ℕ) (item : Item) → StaysOpen a level items → slice_get items at ≡ Some item
    → size ≡ 4 + length (items_bytes level (take (at + 1) items)) → count ≡ at + 1 → count < length items → ends a level size count item.key ≡ false
unfolding closes
open_ends a level items at size count item stays here size_is count_is more =
    let some = take at items ++ item ∷ [] in
    let next = take_next items at item here in
    let many : count ≡ length (take (at + 1) items) = count_is ∙ sym (length-take-le (at + 1) items (omega arith)) in
    let key : item.key ≡ last_key (take (at + 1) items) = sym (ap last_key next ∙ last_is (take at items) item) in
    ap (λ s. ends a level s count item.key) size_is
    ∙ ap (λ n. ends a level (4 + length (items_bytes level (take (at + 1) items))) n item.key) many
    ∙ ap (ends a level (4 + length (items_bytes level (take (at + 1) items))) (length (take (at + 1) items))) key
    ∙ stays at (omega arith)
