-- Rows of one thing after another.
use Rattle.std.proofs.Common.{◌≡◌, refl, sym, ◌∙◌, ap, ℕ, zero, suc, ◌+◌, ◌<◌, Bool, true, List, [], ◌∷◌, ◌++◌, length, map, drop, get_or, append-nil, append_assoc, arith}
use Rattle.std.specs.Prelude.{OnOk, Result, Ok, Err}
use Rattle.std.specs.List.{flat_map, list_all}
use Rattle.std.proofs.lemmas.Bool.{and_from, and_parts}
use Rattle.std.proofs.lemmas.List.{drop_more}
use Rattle.chunk_store.specs.Chunks.{Chunks}
use Rattle.schema_model.specs.PlainCommits.{Commits, is_known}
use Rattle.tuple_codec.specs.Rows.{Cells}
use Rattle.tuple_codec.specs.declared.values.Value.{Value}
use Rattle.system_tables.specs.Rows.{AreKnown}

module _ {A : Type 0} (rows_of : List A → List Cells) (whole : (x : A) (xs : List A) → rows_of (x ∷ xs) ≡ rows_of (x ∷ []) ++ rows_of xs) where
  -- the rows of one more
  pub one_more : (xs : List A) (i : ℕ) (d : A) → i < length xs → (done next all : List Cells) → done ++ rows_of (drop i xs) ≡ all → next ≡ done ++ rows_of (get_or xs i d ∷ [])
      → next ++ rows_of (drop (i + 1) xs) ≡ all
  one_more xs i d within done next all so_far is =
      ap (λ (l : List Cells). l ++ rows_of (drop (i + 1) xs)) is
      ∙ append_assoc done (rows_of (get_or xs i d ∷ [])) (rows_of (drop (i + 1) xs))
      ∙ ap (λ (l : List Cells). done ++ l) (sym (whole (get_or xs i d) (drop (i + 1) xs)) ∙ ap rows_of (sym (drop_more xs i d within)))
      ∙ so_far

module _ {A : Type 0} (key : A → List ℕ) where
  known_at : (known : List ℕ → Bool) (xs : List A) (i : ℕ) (d : A) → i < length xs → list_all known (map key xs) ≡ true → known (key (get_or xs i d)) ≡ true
  known_at known [] i d h all = absurd (omega (arith, h))
  known_at known (x ∷ xs) zero d h all = (and_parts (known (key x)) _ all).0
  known_at known (x ∷ xs) (suc i) d h all = known_at known xs i d (omega (arith, h)) (and_parts (known (key x)) _ all).1

  -- each of some commits is one
  pub one_of : (address : List ℕ → List ℕ) (chunks : Chunks) (commits : Commits) (xs : List A) (i : ℕ) (d : A) → i < length xs → AreKnown address chunks commits (map key xs)
      → AreKnown address chunks commits (key (get_or xs i d) ∷ [])
  one_of address chunks commits xs i d within are =
      record { stand = are.stand; known = and_from _ _ (known_at (is_known commits) xs i d within are.known) refl }

-- three cells more
pub three : (row a b c : Cells) (x y z : Value) → a ≡ row ++ x ∷ [] → b ≡ a ++ y ∷ [] → c ≡ b ++ z ∷ [] → c ≡ row ++ x ∷ y ∷ z ∷ []
three row a b c x y z first second third =
    third
    ∙ ap (λ (l : Cells). l ++ z ∷ []) (second ∙ ap (λ (l : Cells). l ++ y ∷ []) first ∙ append_assoc row (x ∷ []) (y ∷ []))
    ∙ append_assoc row (x ∷ y ∷ []) (z ∷ [])

pub on_ok_same : {T E : Type 0} (result : Result T E) (rows a b : List Cells) → a ≡ b → OnOk result (rows ≡ a) → OnOk result (rows ≡ b)
on_ok_same (Ok x) rows a b same is = is ∙ same
on_ok_same (Err e) rows a b same is = is

-- the rows of parents, by each
pub flat_more : {A : Type 0} (f : A → List Cells) (x : A) (xs : List A) → flat_map f (x ∷ xs) ≡ flat_map f (x ∷ []) ++ flat_map f xs
flat_more f x xs = ap (λ (l : List Cells). l ++ flat_map f xs) (sym (append-nil (f x)))
