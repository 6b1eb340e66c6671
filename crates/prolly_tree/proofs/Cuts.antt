-- How lists are cut into nodes, level by level: two lists are cut apart where the last item of the first ends its node,
-- each level has about half as many nodes as items, and so the turns of `top` are enough.
use Rattle.std.proofs.Common.{◌≡◌, ◌≤◌, ◌<◌, ◌+◌, ◌*◌, ℕ, zero, suc, true, false, cond, if◌then◌else◌, List, [], ◌∷◌, ◌++◌, length, map, sym, refl, ap, subst, ◌∙◌, arith}
use Rattle.std.proofs.lemmas.List.{append-nil, map-append, length-append, length-map}
use Rattle.tuple_codec.specs.Nodes.{Item, ends}
use Rattle.tuple_codec.specs.Trees.{bytes_of, closes, cut, cut_from, name, names, top, inner_chunks}
use Rattle.prolly_tree.specs.Found.{left, lift, Ended}

-- the nodes that ended within the items, the first of these arguments of items being those that were open before
abbrev pub full : (List ℕ → List ℕ) → ℕ → List Item → List Item → List (List Item)
full address level held [] = []
full address level held (item ∷ items) =
    if closes address level (held ++ item ∷ []) then (held ++ item ∷ []) ∷ full address level [] items
    else full address level (held ++ item ∷ []) items

pub cut_splits : (a : List ℕ → List ℕ) (level : ℕ) (held items more : List Item)
    → cut_from a level held (items ++ more) ≡ full a level held items ++ cut_from a level (left a level held items) more
cut_splits a level held [] more = refl
cut_splits a level held (item ∷ items) more =
    elim (closes a level (held ++ item ∷ [])) as (λ b.
    cond b ((held ++ item ∷ []) ∷ cut_from a level [] (items ++ more)) (cut_from a level (held ++ item ∷ []) (items ++ more))
    ≡ cond b ((held ++ item ∷ []) ∷ full a level [] items) (full a level (held ++ item ∷ []) items)
    ++ cut_from a level (cond b (left a level [] items) (left a level (held ++ item ∷ []) items)) more) [
      | true ↦ ap (λ l. (held ++ item ∷ []) ∷ l) (cut_splits a level [] items more)
      | false ↦ cut_splits a level (held ++ item ∷ []) items more
    ]

pub left_splits : (a : List ℕ → List ℕ) (level : ℕ) (held items more : List Item)
    → left a level held (items ++ more) ≡ left a level (left a level held items) more
left_splits a level held [] more = refl
left_splits a level held (item ∷ items) more =
    elim (closes a level (held ++ item ∷ [])) as (λ b.
    cond b (left a level [] (items ++ more)) (left a level (held ++ item ∷ []) (items ++ more))
    ≡ left a level (cond b (left a level [] items) (left a level (held ++ item ∷ []) items)) more) [
      | true ↦ left_splits a level [] items more
      | false ↦ left_splits a level (held ++ item ∷ []) items more
    ]

-- where the last item ends its node, all nodes ended
pub cut_full : (a : List ℕ → List ℕ) (level : ℕ) (held items : List Item) → left a level held items ≡ []
    → cut_from a level held items ≡ full a level held items
cut_full a level held items over =
    ap (cut_from a level held) (sym (append-nil items)) ∙ cut_splits a level held items []
    ∙ ap (λ l. full a level held items ++ cut_from a level l []) over ∙ append-nil (full a level held items)

pub cut_apart : (a : List ℕ → List ℕ) (level : ℕ) (held items more : List Item) → left a level held items ≡ []
    → cut_from a level held (items ++ more) ≡ cut_from a level held items ++ cut a level more
cut_apart a level held items more over =
    cut_splits a level held items more ∙ ap (λ l. full a level held items ++ cut_from a level l more) over
    ∙ ap (λ l. l ++ cut a level more) (sym (cut_full a level held items over))

pub names_apart : (a : List ℕ → List ℕ) (level : ℕ) (items more : List Item) → left a level [] items ≡ []
    → names a level (cut a level (items ++ more)) ≡ names a level (cut a level items) ++ names a level (cut a level more)
names_apart a level items more over =
    ap (names a level) (cut_apart a level [] items more over) ∙ map-append (name a level) (cut a level items) (cut a level more)

pub lift_apart : (a : List ℕ → List ℕ) (rise level : ℕ) (items more : List Item) → Ended a rise level items
    → lift a rise level (items ++ more) ≡ lift a rise level items ++ lift a rise level more
lift_apart a zero level items more ended = refl
lift_apart a (suc rise) level items more ended =
    ap (lift a rise (suc level)) (names_apart a level items more ended.0)
    ∙ lift_apart a rise (suc level) (names a level (cut a level items)) (names a level (cut a level more)) ended.1

pub ended_join : (a : List ℕ → List ℕ) (rise level : ℕ) (items more : List Item) → Ended a rise level items → Ended a rise level more
    → Ended a rise level (items ++ more)
ended_join a zero level items more one two = tt
ended_join a (suc rise) level items more one two = (
  left_splits a level [] items more ∙ ap (λ l. left a level l more) one.0 ∙ two.0,
  subst (Ended a rise (suc level)) (sym (names_apart a level items more one.0))
      (ended_join a rise (suc level) (names a level (cut a level items)) (names a level (cut a level more)) one.1 two.1),
)

-- no node ends after one item
pub closes_one : (a : List ℕ → List ℕ) (level : ℕ) (item : Item) → closes a level (item ∷ []) ≡ false
unfolding closes ends
closes_one a level item = refl

pub closes_none : (a : List ℕ → List ℕ) (level : ℕ) → closes a level [] ≡ false
unfolding closes ends
closes_none a level = refl

-- a node that ends with this item had one before
pub some_before : (a : List ℕ → List ℕ) (level : ℕ) (held : List Item) (item : Item) → closes a level (held ++ item ∷ []) ≡ true → 0 < length held
some_before a level [] item ends_here = absurd (cc (closes_one a level item))
some_before a level (first ∷ held) item ends_here = omega arith

pub cut_short : (a : List ℕ → List ℕ) (level : ℕ) (held items : List Item)
    → 2 * length (cut_from a level held items) ≤ length held + length items + 1
cut_short a level [] [] = omega arith
cut_short a level (first ∷ held) [] = omega arith
cut_short a level held (item ∷ items) =
    elim (closes a level (held ++ item ∷ [])) as (λ b. closes a level (held ++ item ∷ []) ≡ b
    → 2 * length (cond b ((held ++ item ∷ []) ∷ cut_from a level [] items) (cut_from a level (held ++ item ∷ []) items))
    ≤ length held + length (item ∷ items) + 1) [
      | true ↦ λ e. omega (arith, some_before a level held item e, cut_short a level [] items)
      | false ↦ λ e. omega (arith, cut_short a level (held ++ item ∷ []) items, length-append held (item ∷ []))
    ] refl

pub names_short : (a : List ℕ → List ℕ) (level : ℕ) (held items : List Item)
    → 2 * length (names a level (cut_from a level held items)) ≤ length held + length items + 1
names_short a level held items = omega (arith, cut_short a level held items, length-map (cut_from a level held items) (name a level))

pub top_enough : (a : List ℕ → List ℕ) (fuel more level : ℕ) (items : List Item) → length items ≤ suc fuel → fuel ≤ more
    → top a fuel level items ≡ top a more level items
top_enough a fuel more level [] few less = refl
top_enough a fuel more level (item ∷ []) few less = refl
top_enough a zero more level (item ∷ other ∷ items) few less = absurd (omega arith)
top_enough a (suc fuel) zero level (item ∷ other ∷ items) few less = absurd (omega arith)
top_enough a (suc fuel) (suc more) level (item ∷ other ∷ items) few less =
    top_enough a fuel more (suc level) (names a level (cut a level (item ∷ other ∷ items)))
    (omega (arith, names_short a level [] (item ∷ other ∷ items))) (omega arith)

pub chunks_enough : (a : List ℕ → List ℕ) (fuel more level : ℕ) (items : List Item) → length items ≤ suc fuel → fuel ≤ more
    → inner_chunks a fuel level items ≡ inner_chunks a more level items
chunks_enough a fuel more level [] few less = refl
chunks_enough a fuel more level (item ∷ []) few less = refl
chunks_enough a zero more level (item ∷ other ∷ items) few less = absurd (omega arith)
chunks_enough a (suc fuel) zero level (item ∷ other ∷ items) few less = absurd (omega arith)
chunks_enough a (suc fuel) (suc more) level (item ∷ other ∷ items) few less =
    ap (λ l. map (bytes_of level) (cut a level (item ∷ other ∷ items)) ++ l)
    (chunks_enough a fuel more (suc level) (names a level (cut a level (item ∷ other ∷ items)))
    (omega (arith, names_short a level [] (item ∷ other ∷ items))) (omega arith))
