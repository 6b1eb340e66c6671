-- The edits of the tests, one number after the other.
use Rattle.std.proofs.Common.{◌≡◌, ◌<◌, ◌≤◌, ◌+◌, ◌^◌, ℕ, suc, true, List, [], ◌∷◌, ◌++◌, length, Option, None, Some, refl, sym, ap, subst, ◌∙◌, arith}
use Rattle.std.specs.Int.{w64, to_be_bytes}
use Rattle.std.specs.List.{AllByRecursion}
use Rattle.std.specs.Ordering.{match_ordering}
use Rattle.std.specs.declared.cmp.Ordering.{Ordering}
use Rattle.std.specs.declared.cmp.Ordering.TheVariants.{Less, Equal, Greater}
use Rattle.std.proofs.lemmas.List.{length-append}
use Rattle.tuple_codec.specs.Nodes.{Item, is_after}
use Rattle.tuple_codec.specs.Trees.{IsRow}
use Rattle.tuple_codec.specs.Edits.{EditsRiseAfter, edited, edits_at, order, putting, puts}
use Rattle.tuple_codec.specs.declared.edits.Edit.{Edit}
use Rattle.chunk_store.specs.Chunks.{Chunks}
use Rattle.chunk_store.specs.Digests.{cut_address}
use Rattle.node_format.proofs.FieldLemmas.{wide64}
use Rattle.unit_tests.proofs.SampleRows.{one_on, rises}
use Rattle.node_chunker.proofs.TowerLemmas.{all_join}
use Rattle.prolly_edit.specs.Editing.{CanEdit, PutsRow}
use Rattle.unit_tests.specs.Samples.{AreEditsBelow, AreFewEdits, IsFit, StandsForFew, last_edit}

-- ---- edits

last_edit_join : (before : Option (List ℕ)) (xs ys : List Edit) → last_edit before (xs ++ ys) ≡ last_edit (last_edit before xs) ys
last_edit_join before [] ys = refl
last_edit_join before (x ∷ xs) ys = last_edit_join (Some x.key) xs ys

edits_join : (before : Option (List ℕ)) (xs ys : List Edit) → EditsRiseAfter before xs → EditsRiseAfter (last_edit before xs) ys → EditsRiseAfter before (xs ++ ys)
edits_join before [] ys left right = right
edits_join before (x ∷ xs) ys left right = (left.0, edits_join (Some x.key) xs ys left.1 right)

fit_puts : (key : List ℕ) (value : Option (List ℕ)) → length key ≡ 8 → IsFit value → AllByRecursion IsRow (putting key value [])
fit_puts key None eight fit = tt
fit_puts key (Some value) eight fit = (record { key = omega (arith, eight); size = omega (arith, eight, fit); one = refl }, tt)

pub edit_below : (old new : List Edit) (x : Edit) (n : ℕ) → new ≡ old ++ x ∷ [] → x.key ≡ to_be_bytes w64 n → IsFit x.value → suc n < 2 ^ 32 → AreEditsBelow n old → AreEditsBelow (n + 1) new
edit_below old new x n new_is key fit few below =
    let P : Option (List ℕ) → Type 0 = λ k. is_after k (to_be_bytes w64 (suc n)) ≡ true in
    let after : is_after (last_edit None old) x.key ≡ true = subst (λ k. is_after (last_edit None old) k ≡ true) (sym key) below.next in
    let eight : length x.key ≡ 8 = ap (λ (l : List ℕ). length l) key ∙ wide64.len n in
    let longer = length-append old (x ∷ []) in
    one_on (λ m. AreEditsBelow m new) n (subst (AreEditsBelow (suc n)) (sym new_is) (record {
      are = (
        record {
          each = all_join PutsRow old (x ∷ []) below.are.0.each (fit_puts x.key x.value eight fit, tt);
          rise = edits_join None old (x ∷ []) below.are.0.rise (after, tt);
        },
        omega (arith, longer, below.short),
      );
      short = omega (arith, longer, below.short);
      next = subst P (sym (last_edit_join None old (x ∷ []) ∙ ap (λ k. Some k) key)) (rises n (omega arith));
    }))

-- ---- no more rows come out than rows and edits

putting_length : (key : List ℕ) (value : Option (List ℕ)) (rows : List Item) → length (putting key value rows) ≤ suc (length rows)
putting_length key None rows = omega arith
putting_length key (Some value) rows = omega arith

puts_length : (edits : List Edit) → length (puts edits) ≤ length edits
puts_length [] = omega arith
puts_length (edit ∷ edits) = omega (arith, putting_length edit.key edit.value (puts edits), puts_length edits)

at_length : (x : Item) (rest : List Edit → List Item) (n : ℕ) → ((edits : List Edit) → length (rest edits) ≤ n + length edits)
    → (edits : List Edit) → length (edits_at x rest edits) ≤ suc n + length edits
at_length x rest n go [] = omega (arith, go [])
at_length x rest n go (edit ∷ edits) = by (order edit.key x.key) (at_length x rest n go edits) where
  by : (o : Ordering) → length (edits_at x rest edits) ≤ suc n + length edits
      → length (match_ordering o (putting edit.key edit.value (edits_at x rest edits)) (putting edit.key edit.value (rest edits)) (x ∷ rest (edit ∷ edits))) ≤ suc n + suc (length edits)
  by Less more = omega (arith, putting_length edit.key edit.value (edits_at x rest edits), more)
  by Equal more = omega (arith, putting_length edit.key edit.value (rest edits), go edits)
  by Greater more = omega (arith, go (edit ∷ edits))

edited_length : (rows : List Item) (edits : List Edit) → length (edited rows edits) ≤ length rows + length edits
edited_length [] edits = omega (arith, puts_length edits)
edited_length (x ∷ rows) edits = at_length x (edited rows) (length rows) (edited_length rows) edits

pub few_can_edit : (chunks : Chunks) (k : List ℕ) (edits : List Edit) (stands : StandsForFew chunks k) → AreFewEdits edits → CanEdit cut_address chunks k edits stands.0
few_can_edit chunks k edits stands are = record { tree = stands.1; are_edits = are.0; few = omega (arith, edited_length stands.0 edits, stands.2, are.1) }
