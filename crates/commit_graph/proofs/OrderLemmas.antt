-- The order of commits, and lists of addresses that are put into it.
use Rattle.std.proofs.Common.{◌≡◌, refl, sym, ◌∙◌, ap, inl, inr, ℕ, ◌<◌, Bool, true, false, cond, eqb, lt-ltb, List, [], ◌∷◌, is_lt}
use Rattle.std.specs.Prelude.{bytes_eq}
use Rattle.std.specs.Cmp.{IsTotalOrder}
use Rattle.std.specs.Cmp.Lexicographic.{slice_cmp}
use Rattle.std.specs.Ordering.{nat_cmp, ordering_then}
use Rattle.std.specs.declared.cmp.Ordering.TheVariants.{Less, Equal, Greater}
use Rattle.std.proofs.lemmas.Bool.{and_from, or_cases as either, or_left, or_right}
use Rattle.std.proofs.lemmas.Cmp.{back_total, nat_cmp_total, nat_list_cmp_total, on_total, then_total}
use Rattle.tuple_codec.proofs.Truths.{alike_truths}
use Rattle.tuple_codec.proofs.ByteLemmas.{bytes_itself as itself, same_bytes as same_address}
use Rattle.tuple_codec.proofs.Orderings.{less_is as less}
use Rattle.schema_model.specs.PlainTables.{rises}
use Rattle.schema_model.specs.PlainCommits.{Commits, commit_cmp, has_address, height_of}
use Rattle.schema_model.proofs.AncestorLemmas.{before_all, not_before, not_itself, rest_rises}

-- ---- truths

pub true_false : {A : Type 0} (b : Bool) → b ≡ true → b ≡ false → A
true_false b t f = absurd cc

-- ---- the order of commits

pub order : (commits : Commits) → IsTotalOrder (commit_cmp commits)
order commits = then_total (back_total (on_total (height_of commits) nat_cmp_total)) nat_list_cmp_total

pub before_later : (commits : Commits) (a b c : List ℕ) → is_lt (commit_cmp commits a b) ≡ true → is_lt (commit_cmp commits b c) ≡ true → is_lt (commit_cmp commits a c) ≡ true
before_later commits a b c h more = ap is_lt ((order commits).trans a b c (less _ h) (less _ more))

pub higher_first : (commits : Commits) (a b : List ℕ) → height_of commits b < height_of commits a → is_lt (commit_cmp commits a b) ≡ true
higher_first commits a b h =
    ap (λ lower. is_lt (ordering_then (cond lower Less (cond (eqb (height_of commits b) (height_of commits a)) Equal Greater)) (slice_cmp nat_cmp a b))) (lt-ltb (height_of commits b) (height_of commits a) h)

-- ---- put in order

pub front_rises : (commits : Commits) (k : List ℕ) (ks : List (List ℕ)) → ((x : List ℕ) → has_address ks x ≡ true → is_lt (commit_cmp commits k x) ≡ true)
    → rises (commit_cmp commits) ks ≡ true → rises (commit_cmp commits) (k ∷ ks) ≡ true
front_rises commits k [] before h = refl
front_rises commits k (other ∷ ks) before h = and_from _ _ (before other (or_left _ _ (itself other))) h

-- ---- two lists in order that have the same addresses are one

-- the firsts are the same
same_first : (commits : Commits) (k other : List ℕ) (ks others : List (List ℕ)) → rises (commit_cmp commits) (k ∷ ks) ≡ true → rises (commit_cmp commits) (other ∷ others) ≡ true
    → has_address (other ∷ others) k ≡ true → has_address (k ∷ ks) other ≡ true → k ≡ other
same_first commits k other ks others first second here there = elim (either (bytes_eq k other) (has_address others k) here) [
  | inl same ↦ same_address k other same
  | inr later ↦ elim (either (bytes_eq other k) (has_address ks other) there) [
    | inl same ↦ sym (same_address other k same)
    | inr behind ↦ true_false _ (before_all commits other others k second later) (not_before commits k other (before_all commits k ks other first behind))
  ]
]

-- and so are those behind them
behind : (commits : Commits) (k : List ℕ) (ks others : List (List ℕ)) (x : List ℕ) → rises (commit_cmp commits) (k ∷ ks) ≡ true
    → has_address (k ∷ ks) x ≡ has_address (k ∷ others) x → has_address ks x ≡ true → has_address others x ≡ true
behind commits k ks others x rise e h = elim (either (bytes_eq x k) (has_address others x) (sym e ∙ or_right _ _ h)) [
  | inl same ↦ true_false _ (ap (λ y. is_lt (commit_cmp commits k y)) (sym (same_address x k same)) ∙ before_all commits k ks x rise h) (not_itself commits k)
  | inr later ↦ later
]

pub same_lists : (commits : Commits) (ks others : List (List ℕ)) → rises (commit_cmp commits) ks ≡ true → rises (commit_cmp commits) others ≡ true
    → ((x : List ℕ) → has_address ks x ≡ has_address others x) → ks ≡ others
same_lists commits [] [] first second e = refl
same_lists commits [] (other ∷ others) first second e = true_false (has_address (other ∷ others) other) (or_left _ _ (itself other)) (sym (e other))
same_lists commits (k ∷ ks) [] first second e = true_false (has_address (k ∷ ks) k) (or_left _ _ (itself k)) (e k)
same_lists commits (k ∷ ks) (other ∷ others) first second e =
    let same : k ≡ other = same_first commits k other ks others first second (sym (e k) ∙ or_left _ _ (itself k)) (e other ∙ or_left _ _ (itself other)) in
    let f : (x : List ℕ) → has_address (k ∷ ks) x ≡ has_address (k ∷ others) x = λ x. e x ∙ ap (λ y. has_address (y ∷ others) x) (sym same) in
    let rise : rises (commit_cmp commits) (k ∷ others) ≡ true = ap (λ y. rises (commit_cmp commits) (y ∷ others)) same ∙ second in
    let rest : ks ≡ others = same_lists commits ks others (rest_rises commits k ks first) (rest_rises commits other others second)
    (λ x. alike_truths _ _ (behind commits k ks others x first (f x)) (behind commits k others ks x rise (sym (f x)))) in
    ap (λ y. y ∷ ks) same ∙ ap (λ ys. other ∷ ys) rest
