-- The rows of tests, one number after the other.
use Rattle.std.proofs.Common.{◌≡◌, ◌≤◌, ◌<◌, ◌+◌, ◌^◌, ℕ, suc, true, List, [], ◌∷◌, ◌++◌, length, map, Option, None, Some, sym, refl, ap, subst, ◌∙◌, arith}
use Rattle.std.specs.Int.{w64, to_be_bytes}
use Rattle.std.specs.Ordering.{nat_cmp, is_lt, ordering_then}
use Rattle.std.specs.Cmp.{nat_cmp_is}
use Rattle.std.specs.Cmp.Lexicographic.{slice_cmp}
use Rattle.std.specs.declared.cmp.Ordering.{Ordering}
use Rattle.std.specs.declared.cmp.Ordering.TheVariants.{Less}
use Rattle.std.proofs.lemmas.List.{append-nil, length-append, map-append}
use Rattle.tuple_codec.proofs.NumberLemmas.{number_order}
use Rattle.tuple_codec.specs.Nodes.{Item, is_after}
use Rattle.tuple_codec.specs.Trees.{IsRow}
use Rattle.node_format.proofs.FieldLemmas.{wide64}
use Rattle.node_format.specs.declared.items.LeafItem.{LeafItem}
use Rattle.node_format.specs.Views.{leaf_of}
use Rattle.node_chunker.specs.Growth.{last_after}
use Rattle.unit_tests.specs.Samples.{AreBelow, number_key}
use Rattle.unit_tests.specs.declared.rows.Rows.{Rows}
use Rattle.unit_tests.specs.declared.rows.Rows.TheVariants.{Long, Short}
use Rattle.node_chunker.proofs.TowerLemmas.{all_join}
use Rattle.node_chunker.proofs.GrowthLemmas.{after_less, last_join, rise_join}

pub rises : (n : ℕ) → suc n < 2 ^ 64 → is_after (Some (to_be_bytes w64 n)) (to_be_bytes w64 (suc n)) ≡ true
rises n few =
    let less : nat_cmp n (suc n) ≡ Less = sym (nat_cmp_is n (suc n) Less (omega arith)) in
    ap is_lt (ap (λ l. slice_cmp nat_cmp l (to_be_bytes w64 (suc n))) (sym (append-nil (to_be_bytes w64 n)))
    ∙ ap (slice_cmp nat_cmp (to_be_bytes w64 n ++ [])) (sym (append-nil (to_be_bytes w64 (suc n))))
    ∙ number_order n (suc n) [] [] (omega arith) few ∙ ap (λ (o : Ordering). ordering_then o (slice_cmp nat_cmp [] [])) less)

key_rises : (kind : Rows) (n : ℕ) → suc n < 2 ^ 32 → is_after (Some (number_key kind n)) (number_key kind (suc n)) ≡ true
key_rises Long n few = rises n (omega (arith, few))
key_rises Short n few =
    let next : suc (n + 2 ^ 63) ≡ suc n + 2 ^ 63 = omega arith in
    subst (λ (m : ℕ). is_after (Some (number_key Short n)) (1 ∷ to_be_bytes w64 m) ≡ true) next (rises (n + 2 ^ 63) (omega (arith, few)))

key_size : (kind : Rows) (key : List ℕ) (n : ℕ) → key ≡ number_key kind n → length key ≤ 9
key_size Long key n is = let eight : length key ≡ 8 = ap (λ (l : List ℕ). length l) is ∙ wide64.len n in omega (arith, eight)
key_size Short key n is = let nine : length key ≡ 9 = ap (λ (l : List ℕ). length l) is ∙ ap suc (wide64.len (n + 2 ^ 63)) in omega (arith, nine)

pub one_on : (P : ℕ → Type 0) (n : ℕ) → P (suc n) → P (n + 1)
one_on P n p = let e : suc n ≡ n + 1 = omega arith in subst P e p

pub skip_below : (kind : Rows) (n : ℕ) (rows : List Item) → suc n < 2 ^ 32 → AreBelow kind n rows → AreBelow kind (n + 1) rows
skip_below kind n rows few below =
    one_on (λ m. AreBelow kind m rows) n (record {
      are = below.are;
      short = omega (arith, below.short);
      next = after_less (last_after None rows) (number_key kind n) (number_key kind (suc n)) below.next (key_rises kind n few);
    })

row_below : (kind : Rows) (n : ℕ) (rows : List Item) (x : Item) → suc n < 2 ^ 32 → x.key ≡ number_key kind n → length x.body ≤ 300 → x.rows ≡ 1 → AreBelow kind n rows → AreBelow kind (suc n) (rows ++ x ∷ [])
row_below kind n rows x few key body one below =
    let P : Option (List ℕ) → Type 0 = λ k. is_after k (number_key kind (suc n)) ≡ true in
    let after : is_after (last_after None rows) x.key ≡ true = subst (λ k. is_after (last_after None rows) k ≡ true) (sym key) below.next in
    let wide : length x.key ≤ 9 = key_size kind x.key n key in
    let longer = length-append rows (x ∷ []) in
    record {
      are = record {
        each = all_join IsRow rows (x ∷ []) below.are.each (record { key = omega (arith, wide); size = omega (arith, wide, body); one = one }, tt);
        rise = rise_join None rows (x ∷ []) below.are.rise (after, tt);
        few = omega (arith, longer, below.short);
      };
      short = omega (arith, longer, below.short);
      next = subst P (sym (last_join None rows (x ∷ []) ∙ ap (λ k. Some k) key)) (key_rises kind n few);
    }

pub push_below : (kind : Rows) (old new : List LeafItem) (x : LeafItem) (n : ℕ) → new ≡ old ++ x ∷ [] → x.key ≡ number_key kind n → length {A = ℕ} x.value ≤ 300 → suc n < 2 ^ 32
    → AreBelow kind n (map leaf_of old) → AreBelow kind (n + 1) (map leaf_of new)
push_below kind old new x n new_is key value few below =
    one_on (λ m. AreBelow kind m (map leaf_of new)) n (subst (AreBelow kind (suc n)) (sym (ap (map leaf_of) new_is ∙ map-append leaf_of old (x ∷ []))) (row_below kind n (map leaf_of old) (leaf_of x) few key value refl below))
