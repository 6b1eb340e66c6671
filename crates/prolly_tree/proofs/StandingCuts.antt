-- How a list is cut: each node is cut from its own items alone, ends where the rule says, and has room for its last item.
use Rattle.std.proofs.Common.{◌≡◌, ◌<◌, ◌≤◌, ◌+◌, ◌⊎◌, inl, inr, ℕ, Bool, true, false, cond, ◌&&◌, leb, List, [], ◌∷◌, ◌++◌, length, refl, sym, ap, ◌∙◌, append_assoc, append-nil, arith}
use Rattle.std.proofs.lemmas.Bool.{leb-false}
use Rattle.std.proofs.lemmas.Bool.Decides.{leb_tells}
use Rattle.tuple_codec.proofs.Truths.{left_so as both_true, left_not as or_false}
use Rattle.tuple_codec.specs.Nodes.{Item, ends, items_bytes}
use Rattle.tuple_codec.specs.Trees.{closes, cut, cut_from}
use Rattle.prolly_tree.specs.Found.{left}

-- nothing ended within these items
pub record HasNoEnd (address : List ℕ → List ℕ) (level : ℕ) (held : List Item) : Type 0 where
  pub cuts : (items : List Item) → cut_from address level [] (held ++ items) ≡ cut_from address level held items
  pub lefts : (items : List Item) → left address level [] (held ++ items) ≡ left address level held items

pub no_end_yet : (address : List ℕ → List ℕ) (level : ℕ) → HasNoEnd address level []
no_end_yet address level = record { cuts = λ items. refl; lefts = λ items. refl }

pub cut_open : (address : List ℕ → List ℕ) (level : ℕ) (held : List Item) (item : Item) (items : List Item) → closes address level (held ++ item ∷ []) ≡ false
    → cut_from address level held (item ∷ items) ≡ cut_from address level (held ++ item ∷ []) items
cut_open address level held item items e =
    ap (λ (b : Bool). cond b ((held ++ item ∷ []) ∷ cut_from address level [] items) (cut_from address level (held ++ item ∷ []) items)) e

left_open : (address : List ℕ → List ℕ) (level : ℕ) (held : List Item) (item : Item) (items : List Item) → closes address level (held ++ item ∷ []) ≡ false
    → left address level held (item ∷ items) ≡ left address level (held ++ item ∷ []) items
left_open address level held item items e = ap (λ (b : Bool). cond b (left address level [] items) (left address level (held ++ item ∷ []) items)) e

cut_closed : (address : List ℕ → List ℕ) (level : ℕ) (held : List Item) (item : Item) (items : List Item) → closes address level (held ++ item ∷ []) ≡ true
    → cut_from address level held (item ∷ items) ≡ (held ++ item ∷ []) ∷ cut_from address level [] items
cut_closed address level held item items e =
    ap (λ (b : Bool). cond b ((held ++ item ∷ []) ∷ cut_from address level [] items) (cut_from address level (held ++ item ∷ []) items)) e

left_closed : (address : List ℕ → List ℕ) (level : ℕ) (held : List Item) (item : Item) (items : List Item) → closes address level (held ++ item ∷ []) ≡ true
    → left address level held (item ∷ items) ≡ left address level [] items
left_closed address level held item items e = ap (λ (b : Bool). cond b (left address level [] items) (left address level (held ++ item ∷ []) items)) e

pub no_end_more : (address : List ℕ → List ℕ) (level : ℕ) (held : List Item) (item : Item) → HasNoEnd address level held → closes address level (held ++ item ∷ []) ≡ false
    → HasNoEnd address level (held ++ item ∷ [])
no_end_more address level held item is e = record {
  cuts = λ items. ap (cut_from address level []) (append_assoc held (item ∷ []) items) ∙ is.cuts (item ∷ items) ∙ cut_open address level held item items e;
  lefts = λ items. ap (left address level []) (append_assoc held (item ∷ []) items) ∙ is.lefts (item ∷ items) ∙ left_open address level held item items e;
}

-- a node that ended is cut as one, and nothing is left open
pub cut_ended : (address : List ℕ → List ℕ) (level : ℕ) (held : List Item) (item : Item) → HasNoEnd address level held → closes address level (held ++ item ∷ []) ≡ true
    → (cut address level (held ++ item ∷ []) ≡ (held ++ item ∷ []) ∷ []) × (left address level [] (held ++ item ∷ []) ≡ [])
cut_ended address level held item is e = (is.cuts (item ∷ []) ∙ cut_closed address level held item [] e, is.lefts (item ∷ []) ∙ left_closed address level held item [] e)

-- a node that is open at the end is cut as one
pub cut_last : (address : List ℕ → List ℕ) (level : ℕ) (first : Item) (held : List Item) → HasNoEnd address level (first ∷ held)
    → cut address level (first ∷ held) ≡ (first ∷ held) ∷ []
cut_last address level first held is = ap (cut_from address level []) (sym (append-nil (first ∷ held))) ∙ is.cuts []

-- ---- sizes

-- an open node has one item or none, or it is small
abbrev pub IsSmall : ℕ → List Item → Type 0
IsSmall level held = (length held ≤ 1) ⊎ (4 + length (items_bytes level held) < 16384)

both_false : (a b : Bool) → (a && b) ≡ false → (a ≡ false) ⊎ (b ≡ false)
both_false true b e = inr e
both_false false b e = inl refl

pub small_open : (address : List ℕ → List ℕ) (level : ℕ) (items : List Item) → closes address level items ≡ false → IsSmall level items
unfolding closes ends
small_open address level items e =
    elim (both_false (leb 2 (length items)) _ e) [
      | inl one ↦ inl (let few = leb-false 2 (length items) one in omega (arith, few))
      | inr small ↦ inr (leb-false 16384 (4 + length (items_bytes level items)) (or_false (leb 16384 (4 + length (items_bytes level items))) _ small))
    ]

pub two_closed : (address : List ℕ → List ℕ) (level : ℕ) (items : List Item) → closes address level items ≡ true → 2 ≤ length items
unfolding closes ends
two_closed address level items e =
    let two : leb 2 (length items) ≡ true = both_true (leb 2 (length items)) _ e in
    grind (arith, leb_tells 2 (length items))
