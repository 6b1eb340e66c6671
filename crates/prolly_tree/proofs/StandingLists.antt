-- Lists all of whose items, or all but the last, have something.
use Rattle.std.proofs.Common.{◌≡◌, ◌<◌, ◌≤◌, ◌+◌, ◌*◌, ℕ, true, false, cond, List, [], ◌∷◌, ◌++◌, length, Option, None, Some, refl, sym, ap, ◌∙◌, subst, append_assoc, arith}
use Rattle.std.specs.List.{AllByRecursion}
use Rattle.std.specs.Ordering.{is_lt}
use Rattle.tuple_codec.specs.Nodes.{Item, RiseAfter, is_after}
use Rattle.tuple_codec.specs.Trees.{closes, cut_from, last_key, name, names}
use Rattle.prolly_tree.specs.Found.{ButLast, each_of}
use Rattle.prolly_tree.proofs.StandingOrder.{lt_trans, order}

pub but_map : (P Q R S : Item → Type 0) → ((item : Item) → P item → R item) → ((item : Item) → Q item → S item) → (items : List Item) → ButLast P Q items → ButLast R S items
but_map P Q R S f g [] is = tt
but_map P Q R S f g (item ∷ []) is = f item is
but_map P Q R S f g (item ∷ other ∷ items) is = (f item is.0, g item is.1, but_map P Q R S f g (other ∷ items) is.2)

pub but_all : (P Q : Item → Type 0) (items : List Item) → ButLast P Q items → AllByRecursion P items
but_all P Q [] is = tt
but_all P Q (item ∷ []) is = (is, tt)
but_all P Q (item ∷ other ∷ items) is = (is.0, but_all P Q (other ∷ items) is.2)

pub but_both : (P Q : Item → Type 0) (items : List Item) → AllByRecursion P items → AllByRecursion Q items → ButLast P Q items
but_both P Q [] p q = tt
but_both P Q (item ∷ []) p q = p.0
but_both P Q (item ∷ other ∷ items) p q = (p.0, q.0, but_both P Q (other ∷ items) p.1 q.1)

pub but_left : (P Q : Item → Type 0) (some others : List Item) → ButLast P Q (some ++ others) → ButLast P Q some
but_left P Q [] others is = tt
but_left P Q (item ∷ []) [] is = is
but_left P Q (item ∷ []) (other ∷ others) is = is.0
but_left P Q (item ∷ next ∷ some) others is = (is.0, is.1, but_left P Q (next ∷ some) others is.2)

pub but_right : (P Q : Item → Type 0) (some others : List Item) → ButLast P Q (some ++ others) → ButLast P Q others
but_right P Q [] others is = is
but_right P Q (item ∷ []) [] is = tt
but_right P Q (item ∷ []) (other ∷ others) is = is.2
but_right P Q (item ∷ next ∷ some) others is = but_right P Q (next ∷ some) others is.2

-- where others follow, all have the second too
pub but_ended : (P Q : Item → Type 0) (some others : List Item) → 0 < length others → ButLast P Q (some ++ others) → AllByRecursion Q some
but_ended P Q [] others more is = tt
but_ended P Q (item ∷ []) [] more is = absurd (omega arith)
but_ended P Q (item ∷ []) (other ∷ others) more is = (is.1, tt)
but_ended P Q (item ∷ next ∷ some) others more is = (is.1, but_ended P Q (next ∷ some) others more is.2)

pub but_cons : (P Q : Item → Type 0) (item : Item) (items : List Item) → P item → (0 < length items → Q item) → ButLast P Q items → ButLast P Q (item ∷ items)
but_cons P Q item [] p q is = p
but_cons P Q item (other ∷ items) p q is = (p, q (omega arith), is)

pub each_append : (f : Item → List Item) (some others : List Item) → each_of f (some ++ others) ≡ each_of f some ++ each_of f others
each_append f [] others = refl
each_append f (item ∷ some) others = ap (λ (l : List Item). f item ++ l) (each_append f some others) ∙ sym (append_assoc (f item) (each_of f some) (each_of f others))

pub all_left : (P : List ℕ → Type 0) (some others : List (List ℕ)) → AllByRecursion P (some ++ others) → AllByRecursion P some
all_left P [] others all = tt
all_left P (x ∷ some) others all = (all.0, all_left P some others all.1)

pub all_right : (P : List ℕ → Type 0) (some others : List (List ℕ)) → AllByRecursion P (some ++ others) → AllByRecursion P others
all_right P [] others all = all
all_right P (x ∷ some) others all = all_right P some others all.1

-- ---- lengths, and the last key

pub some_last : (held : List Item) (item : Item) → 0 < length (held ++ item ∷ [])
some_last [] item = omega arith
some_last (first ∷ held) item = let more = some_last held item in omega (arith, more)

pub length_one : (held : List Item) (item : Item) → length (held ++ item ∷ []) ≡ length held + 1
length_one [] item = omega arith
length_one (first ∷ held) item = let more = length_one held item in omega (arith, more)

pub after_first : (before : Option (List ℕ)) (a b : List ℕ) → is_after before a ≡ true → is_lt (order a b) ≡ true → is_after before b ≡ true
after_first None a b p q = refl
after_first (Some before) a b p q = lt_trans before a b p q

pub rise_tail : (before : Option (List ℕ)) (some others : List Item) → 0 < length some → RiseAfter before (some ++ others)
    → (is_after before (last_key some) ≡ true) × RiseAfter (Some (last_key some)) others
rise_tail before [] others more rise = absurd (omega arith)
rise_tail before (item ∷ []) others more rise = (rise.0, rise.1)
rise_tail before (item ∷ next ∷ some) others more rise =
    let rest = rise_tail (Some item.key) (next ∷ some) others (omega arith) rise.1 in
    (after_first before item.key (last_key (next ∷ some)) rise.0 rest.0, rest.1)

pub name_key : (address : List ℕ → List ℕ) (level : ℕ) (items : List Item) → (name address level items).key ≡ last_key items
unfolding name
name_key address level items = refl

-- names rise as the items do
pub names_rise : (address : List ℕ → List ℕ) (level : ℕ) (before : Option (List ℕ)) (held items : List Item) → RiseAfter before (held ++ items)
    → RiseAfter before (names address level (cut_from address level held items))
names_rise address level before [] [] rise = tt
names_rise address level before (first ∷ held) [] rise =
    let tail = rise_tail before (first ∷ held) [] (omega arith) rise in
    (subst (λ (k : List ℕ). is_after before k ≡ true) (sym (name_key address level (first ∷ held))) tail.0, tt)
names_rise address level before held (item ∷ items) rise =
    let node = held ++ item ∷ [] in
    let e : held ++ item ∷ items ≡ node ++ items = sym (append_assoc held (item ∷ []) items) in
    let tail = rise_tail before node items (some_last held item) (subst (λ (l : List Item). RiseAfter before l) e rise) in
    elim (closes address level node) as (λ b. RiseAfter before (names address level (cond b (node ∷ cut_from address level [] items) (cut_from address level node items)))) [
      | true ↦ (
        subst (λ (k : List ℕ). is_after before k ≡ true) (sym (name_key address level node)) tail.0,
        subst (λ (k : List ℕ). RiseAfter (Some k) (names address level (cut_from address level [] items))) (sym (name_key address level node))
            (names_rise address level (Some (last_key node)) [] items tail.1),
      )
      | false ↦ names_rise address level before node items (subst (λ (l : List Item). RiseAfter before l) e rise)
    ]

-- a list is cut into at most half as many nodes, and one
pub cut_short : (address : List ℕ → List ℕ) (level : ℕ) (held items : List Item)
    → ((items : List Item) → closes address level items ≡ true → 2 ≤ length items)
    → 2 * length (cut_from address level held items) ≤ length held + length items + 1
cut_short address level [] [] two = omega arith
cut_short address level (first ∷ held) [] two = omega arith
cut_short address level held (item ∷ items) two =
    let closed = cut_short address level [] items two in
    let opened = cut_short address level (held ++ item ∷ []) items two in
    let size : length (held ++ item ∷ []) ≡ length held + 1 = length_one held item in
    elim (closes address level (held ++ item ∷ [])) as (λ b. closes address level (held ++ item ∷ []) ≡ b
    → 2 * length (cond b ((held ++ item ∷ []) ∷ cut_from address level [] items) (cut_from address level (held ++ item ∷ []) items)) ≤ length held + length (item ∷ items) + 1) [
      | true ↦ λ e. let many = two (held ++ item ∷ []) e in omega (arith, closed, size, many)
      | false ↦ λ e. omega (arith, opened, size)
    ] refl

-- a list that isn't empty has a node
pub cut_some : (address : List ℕ → List ℕ) (level : ℕ) (held items : List Item) → 0 < length (held ++ items) → 0 < length (cut_from address level held items)
cut_some address level [] [] some = some
cut_some address level (first ∷ held) [] some = omega arith
cut_some address level held (item ∷ items) some =
    let more = cut_some address level (held ++ item ∷ []) items (subst (λ (l : List Item). 0 < length l) (sym (append_assoc held (item ∷ []) items)) some) in
    elim (closes address level (held ++ item ∷ [])) as (λ b. 0 < length (cond b ((held ++ item ∷ []) ∷ cut_from address level [] items) (cut_from address level (held ++ item ∷ []) items))) [
      | true ↦ omega arith
      | false ↦ more
    ]

pub cut_none : (address : List ℕ → List ℕ) (level : ℕ) (items : List Item) → 0 < length (names address level (cut_from address level [] items)) → 0 < length items
cut_none address level [] some = some
cut_none address level (item ∷ items) some = omega arith

pub names_length : (address : List ℕ → List ℕ) (level : ℕ) (nodes : List (List Item)) → length (names address level nodes) ≡ length nodes
names_length address level [] = refl
names_length address level (node ∷ nodes) = let more = names_length address level nodes in omega (arith, more)
