-- Items one after another: reading one more, and how many bytes are left.
use Rattle.std.proofs.Common.{◌≡◌, ℕ, suc, ◌+◌, ◌-◌, ◌<◌, ◌≤◌, List, [], ◌∷◌, ◌++◌, length, get_or, drop, Option, Some, None, Err, refl, sym, ap, ◌∙◌, append_assoc, append-nil, arith, drop-cons, add-one, length-append}
use Rattle.std.specs.List.{flat_map}
use Rattle.std.specs.Option.{option_map}
use Rattle.tuple_codec.specs.Fronts.{Gives}
use Rattle.schema_model.specs.Reading.{◌>>=◌, after_items, items_at}
use Rattle.tuple_codec.specs.declared.unread.Unread.{Unread}
use Rattle.tuple_codec.specs.declared.unread.Unread.TheVariants.{Memory, Malformed}

after_one : {A : Type 0} (items : List A) (x : A) (o : Option (List A × List ℕ)) → after_items items (option_map (λ xs. (x ∷ xs.0, xs.1)) o) ≡ after_items (items ++ x ∷ []) o
after_one items x None = refl
after_one {A} items x (Some p) = ap (λ (l : List A). Some (l, p.1)) (sym (append_assoc items (x ∷ []) p.0))

module _ {A : Type 0} (front : List ℕ → Option (A × List ℕ)) (count k : ℕ) (bytes rest : List ℕ) (items : List A) (so_far : items_at front count bytes ≡ after_items items (items_at front (count - k) rest)) where
  pub one_more : (x : A × List ℕ) → k < count → front rest ≡ Some x → items_at front count bytes ≡ after_items (items ++ x.0 ∷ []) (items_at front (count - (k + 1)) x.1)
  unfolding items_at
  one_more x below e =
      let n : count - k ≡ suc (count - (k + 1)) = omega arith in
      let step : items_at front (suc (count - (k + 1))) rest ≡ option_map (λ xs. (x.0 ∷ xs.0, xs.1)) (items_at front (count - (k + 1)) x.1) =
      ap (λ (o : Option (A × List ℕ)). o >>= (λ y. option_map (λ xs. (y.0 ∷ xs.0, xs.1)) (items_at front (count - (k + 1)) y.1))) e in
      so_far ∙ ap (λ (m : ℕ). after_items items (items_at front m rest)) n ∙ ap (λ (o : Option (List A × List ℕ)). after_items items o) step
      ∙ after_one items x.0 (items_at front (count - (k + 1)) x.1)

  pub none_more : k < count → front rest ≡ None → items_at front count bytes ≡ None
  unfolding items_at
  none_more below e =
      let n : count - k ≡ suc (count - (k + 1)) = omega arith in
      let step : items_at front (suc (count - (k + 1))) rest ≡ None =
      ap (λ (o : Option (A × List ℕ)). o >>= (λ y. option_map (λ xs. (y.0 ∷ xs.0, xs.1)) (items_at front (count - (k + 1)) y.1))) e in
      so_far ∙ ap (λ (m : ℕ). after_items items (items_at front m rest)) n ∙ ap (λ (o : Option (List A × List ℕ)). after_items items o) step

  pub all_read : count ≤ k → items_at front count bytes ≡ Some (items, rest)
  unfolding items_at
  all_read done =
      let n : count - k ≡ 0 = omega arith in
      so_far ∙ ap (λ (m : ℕ). after_items items (items_at front m rest)) n ∙ ap (λ (l : List A). Some (l, rest)) (append-nil items)

-- the bytes of the items that are left
pub left_bytes : {A : Type 0} (written : A → List ℕ) (items : List A) (k : ℕ) (item : A) → k < length items → item ≡ get_or items k item
    → length (flat_map written (drop k items)) ≡ length (written item) + length (flat_map written (drop (k + 1) items))
left_bytes {A} written items k item below is =
    let front : drop k items ≡ item ∷ drop (k + 1) items =
    drop-cons items k item below ∙ ap (λ (x : A). x ∷ drop (suc k) items) (sym is) ∙ ap (λ (n : ℕ). item ∷ drop n items) (sym (add-one k)) in
    ap (λ (l : List A). length (flat_map written l)) front ∙ length-append (written item) (flat_map written (drop (k + 1) items))

-- an item that isn't read stops the reading
pub fails : {A X Y : Type 0} (front : List ℕ → Option (A × List ℕ)) (count k : ℕ) (bytes rest : List ℕ) (items : List A) (view : X → A × List ℕ) (all : Y → List A × List ℕ) (e : Unread)
    → items_at front count bytes ≡ after_items items (items_at front (count - k) rest) → k < count → Gives view (Err e) (front rest) → Gives all (Err e) (items_at front count bytes)
fails front count k bytes rest items view all Memory so_far below gives = tt
fails front count k bytes rest items view all Malformed so_far below gives = none_more front count k bytes rest items so_far below gives
