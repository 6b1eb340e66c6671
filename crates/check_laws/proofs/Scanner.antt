-- The scan for names, with places of its own: those of `schema_merge` aren't exported.
use Rattle.std.proofs.Common.{◌≡◌, refl, ap, ◌∙◌, ℕ, Bool, true, false, ◌==◌, cond, not, List, [], ◌∷◌}
use Rattle.schema_merge.specs.Names as names
use Rattle.schema_merge.specs.Names.{names_from, names_in}

pub data Place : Type 0 where
  Outside : Place
  Inside : Place
  Escaped : Place

abbrev pub unquoted : Place → List ℕ → List ℕ
unquoted at [] = []
unquoted Outside (byte ∷ bytes) = cond (byte == 39) (unquoted Inside bytes) (byte ∷ unquoted Outside bytes)
unquoted Inside (byte ∷ bytes) = cond (byte == 92) (unquoted Escaped bytes) (cond (byte == 39) (unquoted Outside bytes) (unquoted Inside bytes))
unquoted Escaped (byte ∷ bytes) = unquoted Inside bytes

module _ {Q : Type 0} (scan : Q → List ℕ → List ℕ) (outside inside escaped : Q) (o : scan outside [] ≡ []) (i : scan inside [] ≡ []) (e : scan escaped [] ≡ [])
    (from_outside : (byte : ℕ) (bytes : List ℕ) → scan outside (byte ∷ bytes) ≡ cond (byte == 39) (scan inside bytes) (byte ∷ scan outside bytes))
    (from_inside : (byte : ℕ) (bytes : List ℕ) → scan inside (byte ∷ bytes) ≡ cond (byte == 92) (scan escaped bytes) (cond (byte == 39) (scan outside bytes) (scan inside bytes)))
    (from_escaped : (byte : ℕ) (bytes : List ℕ) → scan escaped (byte ∷ bytes) ≡ scan inside bytes) where
  bridge : (bytes : List ℕ) → (scan outside bytes ≡ unquoted Outside bytes) × (scan inside bytes ≡ unquoted Inside bytes) × (scan escaped bytes ≡ unquoted Escaped bytes)
  bridge [] = (o, i, e)
  bridge (byte ∷ bytes) =
      let more = bridge bytes in (
        from_outside byte bytes ∙ (λ k. cond (byte == 39) (more.1 k) (byte ∷ more.0 k)),
        from_inside byte bytes ∙ (λ k. cond (byte == 92) (more.2 k) (cond (byte == 39) (more.0 k) (more.1 k))),
        from_escaped byte bytes ∙ more.1,
      )

  pub bridged : (bytes : List ℕ) → names_from [] (scan outside bytes) ≡ names_from [] (unquoted Outside bytes)
  bridged bytes = ap (names_from []) (bridge bytes).0

law_outside : {Q : Type 0} (f : Q → List ℕ) (inside outside : Q) (byte : ℕ) (t : Bool)
    → cond (not t) (byte ∷ f (cond t inside outside)) (f (cond t inside outside)) ≡ cond t (f inside) (byte ∷ f outside)
law_outside f inside outside byte true = refl
law_outside f inside outside byte false = refl

law_inside : {Q : Type 0} (f : Q → List ℕ) (escaped outside inside : Q) (s t : Bool) → f (cond s escaped (cond t outside inside)) ≡ cond s (f escaped) (cond t (f outside) (f inside))
law_inside f escaped outside inside true t = refl
law_inside f escaped outside inside false true = refl
law_inside f escaped outside inside false false = refl

pub names_by : (bytes : List ℕ) → names_in bytes ≡ names_from [] (unquoted Outside bytes)
unfolding names_in
names_by bytes =
    bridged names.unquoted _ _ _ refl refl refl (λ byte rest. law_outside (λ at. names.unquoted at rest) _ _ byte (byte == 39)) (λ byte rest. law_inside (λ at. names.unquoted at rest) _ _ _ (byte == 92) (byte == 39))
    (λ byte rest. refl) bytes
