-- Violations joined, and the numbers of the new ones.
use Rattle.std.proofs.Common.{◌≡◌, ◌∙◌, ◌++◌, ◌+◌, ◌<◌, ap, sym, refl, true, false, not, cond, ℕ, List, [], ◌∷◌, map, filter, length, drop, get_or, append_assoc}
use Rattle.std.proofs.lemmas.List.{map-append}
use Rattle.std.specs.List.{flat_map, list_any}
use Rattle.tuple_codec.proofs.Lists.{next_at}
use Rattle.schema_model.specs.PlainTables.{PlainDatabase, Violation}
use Rattle.plain_writes.specs.declared.breaking.Broken.{Broken}
use Rattle.plain_writes.specs.declared.listing.Found as listing
use Rattle.plain_writes.specs.Seen.{broken_seen, found_seen}
use Rattle.plain_writes.specs.Violations.{Found, number_of, numbers_of, same_violation}

seen_joined : (a b c d : List Broken)
    → map broken_seen (a ++ b ++ c ++ d) ≡ map broken_seen a ++ map broken_seen b ++ map broken_seen c ++ map broken_seen d
seen_joined a b c d =
    map-append broken_seen (a ++ b ++ c) d
    ∙ ap (λ l. l ++ map broken_seen d) (map-append broken_seen (a ++ b) c ∙ ap (λ l. l ++ map broken_seen c) (map-append broken_seen a b))

-- the violations of four kinds, each kind put behind those before
pub all_seen : (a b c d one two all : List Broken) (p q r s : List Violation)
    → one ≡ a ++ b → two ≡ one ++ c → all ≡ two ++ d
    → map broken_seen a ≡ p → map broken_seen b ≡ q → map broken_seen c ≡ r → map broken_seen d ≡ s
    → map broken_seen all ≡ p ++ q ++ r ++ s
all_seen a b c d one two all p q r s first second third seen_a seen_b seen_c seen_d =
    ap (map broken_seen) (third ∙ ap (λ (l : List Broken). l ++ d) (second ∙ ap (λ (l : List Broken). l ++ c) first))
    ∙ seen_joined a b c d
    ∙ (λ i. seen_a i ++ seen_b i ++ seen_c i ++ seen_d i)

one_more : (old : PlainDatabase) (before : List Found) (x : Found) (xs : List Found)
    → numbers_of old before (x ∷ xs) ≡ numbers_of old before (x ∷ []) ++ numbers_of old before xs
one_more old before x xs =
    let rest = filter (λ one. not (list_any (same_violation one) before)) xs in
    elim (list_any (same_violation x) before) as (λ b.
    map (number_of old) (cond (not b) (x ∷ rest) rest) ≡ map (number_of old) (cond (not b) (x ∷ []) []) ++ map (number_of old) rest) [
      | true ↦ refl
      | false ↦ refl
    ]

pub more_found : {A B V : Type 0} (f : A → List V) (seen : B → V) (total : List V) (done more new : List B) (xs : List A) (i : ℕ) (x : A)
    → total ≡ map seen done ++ flat_map f (drop i xs) → i < length xs → x ≡ get_or xs i x → map seen more ≡ f x → new ≡ done ++ more
    → total ≡ map seen new ++ flat_map f (drop (i + 1) xs)
more_found {A = A} {V = V} f seen total done more new xs i x so_far within is found joined =
    so_far
    ∙ ap (λ (l : List A). map seen done ++ flat_map f l) (next_at xs i x within is)
    ∙ sym (append_assoc (map seen done) (f x) (flat_map f (drop (i + 1) xs)))
    ∙ ap (λ (l : List V). l ++ flat_map f (drop (i + 1) xs)) (ap (λ (l : List V). map seen done ++ l) (sym found) ∙ sym (map-append seen done more) ∙ ap (map seen) (sym joined))

pub next_number : (old : PlainDatabase) (before : List Found) (xs : List listing.Found) (i : ℕ) (x : listing.Found) → i < length xs → x ≡ get_or xs i x
    → numbers_of old before (map found_seen (drop i xs)) ≡ numbers_of old before (found_seen x ∷ []) ++ numbers_of old before (map found_seen (drop (i + 1) xs))
next_number old before xs i x h e =
    ap (λ (l : List listing.Found). numbers_of old before (map found_seen l)) (next_at xs i x h e) ∙ one_more old before (found_seen x) (map found_seen (drop (i + 1) xs))
