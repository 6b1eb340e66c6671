-- A loop over a slice of parts, against the fold over what they are.
use Rattle.std.proofs.Common.{◌≡◌, ◌∙◌, sym, ap, ℕ, ◌+◌, ◌<◌, List, length, map, take, get_or, fold}
use Rattle.std.proofs.lemmas.List.Folds.{fold-map, fold_stuck}
use Rattle.std.proofs.lemmas.List.Sums.{fold_more}

-- what the parts before a place come to
abbrev pub so_far : {A B C : Type 0} → (B → A → B) → (C → A) → B → List C → ℕ → B
so_far f g a xs i = fold (λ b x. f b (g x)) a (take i xs)

pub one_more : {A B C : Type 0} (f : B → A → B) (g : C → A) (a : B) (xs : List C) (i : ℕ) (x : C) (b c : B)
    → i < length xs → x ≡ get_or xs i x → so_far f g a xs i ≡ b → f b (g x) ≡ c → so_far f g a xs (i + 1) ≡ c
one_more f g a xs i x b c below is before now =
    fold_more (λ y z. f y (g z)) a xs i x below ∙ ap (λ z. f (so_far f g a xs i) (g z)) (sym is) ∙ ap (λ y. f y (g x)) before ∙ now

pub stopped : {A B C : Type 0} (f : B → A → B) (g : C → A) (a : B) (xs : List C) (i : ℕ) (x : C) (b z : B)
    → ((y : A) → f z y ≡ z) → i < length xs → x ≡ get_or xs i x → so_far f g a xs i ≡ b → f b (g x) ≡ z → fold f a (map g xs) ≡ z
stopped f g a xs i x b z stays below is before now =
    fold-map f g a xs
    ∙ sym (fold_stuck (λ y w. f y (g w)) z (λ w. stays (g w)) a xs i x below
    (ap (λ w. f (so_far f g a xs i) (g w)) (sym is) ∙ ap (λ y. f y (g x)) before ∙ now))
