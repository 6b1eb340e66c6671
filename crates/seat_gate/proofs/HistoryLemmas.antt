-- Beginnings of a history, and the entries of one seat.
use Rattle.std.proofs.Common.{◌≡◌, ℕ, zero, suc, ◌<◌, ◌≤◌, ◌≢◌, Bool, true, false, cond, nat_eq, nat_lt, if◌then◌else◌, List, [], ◌∷◌, ◌++◌, length, refl, sym, ap, ◌∙◌, subst, append_assoc, append-nil, arith, eq-eqb, ne_eqb}
use mathlib.Core.Option.{some, some-ne-none, some-injective}
use lib.ListN.{get_elem?}
use Rattle.std.proofs.lemmas.Bool.Decides.{nat_tests}
use Rattle.std.proofs.lemmas.List.Elements.{filter-append}
use Rattle.std.specs.List.{AllByRecursion}
use Rattle.seat_gate.specs.History.{Entry, entries_of, StartsWith, longer, shorter}

pub starts_self : (xs : List Entry) → StartsWith xs xs
starts_self xs = ([], sym (append-nil xs))

pub starts_more : (log more seen : List Entry) → StartsWith log seen → StartsWith (log ++ more) seen
starts_more log more seen s = (s.0 ++ more, ap (λ l. l ++ more) s.1 ∙ append_assoc seen s.0 more)

abbrev first_or : Entry → List Entry → Entry
first_or d [] = d
first_or d (x ∷ xs) = x

abbrev others : List Entry → List Entry
others [] = []
others (x ∷ xs) = xs

-- of two beginnings the longer has the shorter
pub starts_between : (log a b : List Entry) → StartsWith log a → StartsWith log b → length a ≤ length b → StartsWith b a
starts_between log [] b s t le = (b, refl)
starts_between log (x ∷ a) [] s t le = absurd (omega arith)
starts_between log (x ∷ a) (y ∷ b) s t le =
    let both : x ∷ (a ++ s.0) ≡ y ∷ (b ++ t.0) = sym s.1 ∙ t.1 in
    let same : x ≡ y = ap (first_or x) both in
    let more = starts_between (a ++ s.0) a b (s.0, refl) (t.0, ap others both) (omega arith) in
    (more.0, λ i. sym same i ∷ more.1 i)

longest_by : (log a b : List Entry) → StartsWith log a → StartsWith log b → (test : Bool) → nat_lt (length a) (length b) ≡ test
    → StartsWith log (if test then b else a) × StartsWith (if test then b else a) (if test then a else b)
longest_by log a b s t true is = (t, starts_between log a b s t (grind (arith, nat_tests)))
longest_by log a b s t false is = (s, starts_between log b a t s (grind (arith, nat_tests)))

pub longest : (log a b : List Entry) → StartsWith log a → StartsWith log b → StartsWith log (longer a b) × StartsWith (longer a b) (shorter a b)
longest log a b s t = longest_by log a b s t (nat_lt (length a) (length b)) refl

both_by : (a b : List Entry) (test : Bool) → StartsWith (if test then b else a) (if test then a else b) → StartsWith (if test then b else a) a × StartsWith (if test then b else a) b
both_by a b true s = (s, starts_self b)
both_by a b false s = (starts_self a, s)

pub longest_has : (a b : List Entry) → StartsWith (longer a b) (shorter a b) → StartsWith (longer a b) a × StartsWith (longer a b) b
longest_has a b s = both_by a b (nat_lt (length a) (length b)) s

pub entries_mine : (k : ℕ) (log : List Entry) (e : Entry) → e.seat ≡ k → entries_of k (log ++ e ∷ []) ≡ entries_of k log ++ e ∷ []
entries_mine k log e is = filter-append (λ (x : Entry). nat_eq x.seat k) log (e ∷ []) ∙ ap (λ b. entries_of k log ++ cond b (e ∷ []) []) (eq-eqb e.seat k is)

pub entries_other : (k : ℕ) (log : List Entry) (e : Entry) → e.seat ≢ k → entries_of k (log ++ e ∷ []) ≡ entries_of k log
entries_other k log e is = filter-append (λ (x : Entry). nat_eq x.seat k) log (e ∷ []) ∙ (ap (λ b. entries_of k log ++ cond b (e ∷ []) []) (ne_eqb e.seat k is) ∙ append-nil (entries_of k log))

-- a number that was not given out has no entries
pub entries_none : (n k : ℕ) (log : List Entry) → AllByRecursion (λ (e : Entry). e.seat < n) log → n ≤ k → entries_of k log ≡ []
entries_none n k [] h le = refl
entries_none n k (e ∷ log) h le =
    let lt : e.seat < n = h.0 in
    let ne : nat_eq e.seat k ≡ false = ne_eqb e.seat k (λ is. omega arith) in
    subst (λ b. cond b (e ∷ entries_of k log) (entries_of k log) ≡ []) (sym ne) (entries_none n k log h.1 le)

module _ {A : Type 0} where
  pub all_map : (P Q : A → Type 0) → ((x : A) → P x → Q x) → (xs : List A) → AllByRecursion P xs → AllByRecursion Q xs
  all_map P Q f [] h = tt
  all_map P Q f (x ∷ xs) h = (f x h.0, all_map P Q f xs h.1)

  pub all_join : (P : A → Type 0) (xs ys : List A) → AllByRecursion P xs → AllByRecursion P ys → AllByRecursion P (xs ++ ys)
  all_join P [] ys h k = k
  all_join P (x ∷ xs) ys h k = (h.0, all_join P xs ys h.1 k)

  pub all_at : (P : A → Type 0) (xs : List A) → AllByRecursion P xs → (k : ℕ) (x : A) → get_elem? xs k ≡ some x → P x
  all_at P [] h k x e = absurd (some-ne-none x (sym e))
  all_at P (y ∷ xs) h zero x e = subst P (some-injective y x e) h.0
  all_at P (y ∷ xs) h (suc k) x e = all_at P xs h.1 k x e
