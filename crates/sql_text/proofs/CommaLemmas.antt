-- Texts with commas between them: the first, and each other one behind a comma.
use Rattle.std.proofs.Common.{◌≡◌, ℕ, ◌≤◌, ◌⊎◌, inl, inr, List, [], ◌∷◌, ◌++◌, length, drop, refl, ap, sym, append-nil, min, arith}
use Rattle.std.specs.List.{flat_map, join_with_byte}
use Rattle.std.proofs.lemmas.Bool.{cases_lt}
use Rattle.std.proofs.lemmas.List.{drop_all}
use Rattle.tuple_codec.specs.declared.values.SqlType.{SqlType}
use Rattle.tuple_codec.specs.declared.values.Value.{Value}
use Rattle.sql_text.specs.Values.{row_text, value_text, value_texts}

pub join_first : (text : List ℕ) (texts : List (List ℕ)) → join_with_byte 44 (text ∷ texts) ≡ text ++ flat_map (λ more. 44 ∷ more) texts
join_first text [] = sym (append-nil text)
join_first text (next ∷ texts) = ap (λ more. text ++ (44 ∷ more)) (join_first next texts)

pub row_first : (kind : SqlType) (kinds : List SqlType) (value : Value) (values : List Value)
    → row_text (kind ∷ kinds) (value ∷ values) ≡ value_text kind value ++ flat_map (λ text. 44 ∷ text) (value_texts kinds values)
row_first kind kinds value values = join_first (value_text kind value) (value_texts kinds values)

no_values : (kinds : List SqlType) → value_texts kinds [] ≡ []
no_values [] = refl
no_values (kind ∷ kinds) = refl

pub no_row : (kinds : List SqlType) (values : List Value) → length values ≡ 0 → row_text kinds values ≡ []
no_row [] [] none = refl
no_row (kind ∷ kinds) [] none = refl
no_row kinds (value ∷ values) none = absurd (omega (arith, none))

pub shorter : (a b count : ℕ) → count ≡ min a b → (a ≤ count) ⊎ (b ≤ count)
shorter a b count end = elim (cases_lt a b) [ inl less ↦ inl (omega arith) | inr more ↦ inr (omega arith) ]

values_past : (kinds : List SqlType) (values : List Value) (count : ℕ) → (length kinds ≤ count) ⊎ (length values ≤ count)
    → value_texts (drop count kinds) (drop count values) ≡ []
values_past kinds values count (inl past) = rw (drop_all count kinds past)
values_past kinds values count (inr past) = rw (drop_all count values past) (no_values (drop count kinds))

-- nothing is left behind the end of the shorter list
pub values_end : (kinds : List SqlType) (values : List Value) (count : ℕ) → count ≡ min (length kinds) (length values)
    → value_texts (drop count kinds) (drop count values) ≡ []
values_end kinds values count end = values_past kinds values count (shorter (length kinds) (length values) count end)
