-- The list of ancestors has each ancestor once and in order, and the base is the first common one.
use Rattle.std.proofs.Common.{◌≡◌, refl, sym, ◌∙◌, ap, inl, inr, ℕ, zero, suc, ◌<◌, ◌≤◌, Bool, true, false, cond, ◌||◌, List, [], ◌∷◌, map, Option, None, Some, is_lt, arith}
use Rattle.std.specs.Prelude.{bytes_eq, is_some}
use Rattle.std.specs.List.{flat_map}
use Rattle.std.specs.Cmp.{IsTotalOrder}
use Rattle.std.specs.Cmp.Lexicographic.{slice_cmp}
use Rattle.std.specs.Ordering.{nat_cmp, is_eq, ordering_reverse}
use Rattle.std.specs.declared.cmp.Ordering.{Ordering}
use Rattle.std.specs.declared.cmp.Ordering.TheVariants.{Less, Equal, Greater}
use Rattle.std.proofs.lemmas.Bool.{and_parts, and_from, or_cases as either, or_left, or_right}
use Rattle.std.proofs.lemmas.Cmp.{back_total, nat_cmp_total, nat_list_cmp_total, on_total, then_total}
use Rattle.std.proofs.lemmas.List.Folds.{list_any-append}
use Rattle.tuple_codec.proofs.Arithmetic.{at_least}
use Rattle.tuple_codec.proofs.ByteLemmas.{bytes_itself as itself, same_bytes as same_address}
use Rattle.tuple_codec.proofs.Orderings.{less_is as less, own_reverse, then_is_eq}
use Rattle.tuple_codec.proofs.Truths.{or_swap as swap, or_again as twice}
use Rattle.schema_model.specs.PlainTables.{rises}
use Rattle.schema_model.specs.PlainCommits.{AncestorsFollow, AreGrown, Commits, IsAncestor, IsAncestorBy, IsBaseOrNone, PlainCommit, ancestors, ancestors_within, base, commit_cmp, first_in, greatest, has_address, height_in, height_of, in_commit_order, is_ancestor, is_known, parents_in, parents_of, put_commit}
use Rattle.schema_model.proofs.SamenessLemmas.{text_decides}

-- ---- addresses in lists

pub in_some : (f : List ℕ → List (List ℕ)) (ks : List (List ℕ)) (x : List ℕ) → has_address (flat_map f ks) x ≡ true → (k : List ℕ) × (has_address ks k ≡ true) × (has_address (f k) x ≡ true)
in_some f [] x h = absurd cc
in_some f (k ∷ ks) x h =
    elim (either (has_address (f k) x) (has_address (flat_map f ks) x) (sym (list_any-append (bytes_eq x) (f k) (flat_map f ks)) ∙ h)) [
      | inl first ↦ (k, or_left _ _ (itself k), first)
      | inr later ↦ let found = in_some f ks x later in (found.0, or_right _ _ found.1, found.2)
    ]

pub in_all : (f : List ℕ → List (List ℕ)) (ks : List (List ℕ)) (k x : List ℕ) → has_address ks k ≡ true → has_address (f k) x ≡ true → has_address (flat_map f ks) x ≡ true
in_all f [] k x h found = absurd cc
in_all f (other ∷ ks) k x h found =
    list_any-append (bytes_eq x) (f other) (flat_map f ks)
    ∙ elim (either (bytes_eq k other) (has_address ks k) h) [
      | inl first ↦ or_left _ _ (ap (λ y. has_address (f y) x) (sym (same_address k other first)) ∙ found)
      | inr later ↦ or_right _ _ (in_all f ks k x later found)
    ]

-- ---- the order of commits

order : (commits : Commits) → IsTotalOrder (commit_cmp commits)
order commits = then_total (back_total (on_total (height_of commits) nat_cmp_total)) nat_list_cmp_total

pub alike : (commits : Commits) (a b : List ℕ) → commit_cmp commits a b ≡ Equal → a ≡ b
alike commits a b h =
    let both = and_parts _ _ (sym (then_is_eq (nat_cmp (height_of commits b) (height_of commits a)) (slice_cmp nat_cmp a b)) ∙ ap is_eq h) in
    (text_decides a b).0 both.1

pub turned : (commits : Commits) (a b : List ℕ) (o : Ordering) → commit_cmp commits a b ≡ o → commit_cmp commits b a ≡ ordering_reverse o
turned commits a b o h = (order commits).antisymm b a ∙ ap ordering_reverse h

pub not_before : (commits : Commits) (a b : List ℕ) → is_lt (commit_cmp commits a b) ≡ true → is_lt (commit_cmp commits b a) ≡ false
not_before commits a b h = ap is_lt (turned commits a b Less (less (commit_cmp commits a b) h))

pub not_itself : (commits : Commits) (a : List ℕ) → is_lt (commit_cmp commits a a) ≡ false
not_itself commits a = own_reverse (commit_cmp commits a a) ((order commits).antisymm a a)

-- ---- put in order

abbrev pub put_by : Commits → List ℕ → List ℕ → List (List ℕ) → Ordering → List (List ℕ)
put_by commits k other others o = cond (is_lt o) (k ∷ other ∷ others) (cond (is_eq o) (other ∷ others) (other ∷ put_commit commits k others))

pub has_put_by : (commits : Commits) (k other : List ℕ) (others : List (List ℕ)) (x : List ℕ) (o : Ordering) → commit_cmp commits k other ≡ o
    → has_address (put_commit commits k others) x ≡ (bytes_eq x k || has_address others x)
    → has_address (put_by commits k other others o) x ≡ (bytes_eq x k || has_address (other ∷ others) x)
has_put_by commits k other others x Less e more = refl
has_put_by commits k other others x Equal e more =
    twice (bytes_eq x other) (has_address others x) ∙ ap (λ y. bytes_eq x y || has_address (other ∷ others) x) (sym (alike commits k other e))
has_put_by commits k other others x Greater e more = ap (λ r. bytes_eq x other || r) more ∙ swap (bytes_eq x other) (bytes_eq x k) (has_address others x)

pub has_put : (commits : Commits) (k : List ℕ) (others : List (List ℕ)) (x : List ℕ) → has_address (put_commit commits k others) x ≡ (bytes_eq x k || has_address others x)
has_put commits k [] x = refl
has_put commits k (other ∷ others) x = has_put_by commits k other others x (commit_cmp commits k other) refl (has_put commits k others x)

-- put in order, the list has what it had
pub has_ordered : (commits : Commits) (ks : List (List ℕ)) (x : List ℕ) → has_address (in_commit_order commits ks) x ≡ has_address ks x
has_ordered commits [] x = refl
has_ordered commits (k ∷ ks) x = has_put commits k (in_commit_order commits ks) x ∙ ap (λ r. bytes_eq x k || r) (has_ordered commits ks x)

pub after_by : (commits : Commits) (before k other : List ℕ) (others : List (List ℕ)) (o : Ordering) → commit_cmp commits k other ≡ o
    → is_lt (commit_cmp commits before k) ≡ true → rises (commit_cmp commits) (before ∷ other ∷ others) ≡ true
    → (is_lt (commit_cmp commits other k) ≡ true → rises (commit_cmp commits) (other ∷ put_commit commits k others) ≡ true)
    → rises (commit_cmp commits) (before ∷ put_by commits k other others o) ≡ true
after_by commits before k other others Less e b h more = and_from _ _ b (and_from _ _ (ap is_lt e) (and_parts _ _ h).1)
after_by commits before k other others Equal e b h more = h
after_by commits before k other others Greater e b h more = and_from _ _ (and_parts _ _ h).0 (more (ap is_lt (turned commits k other Greater e)))

pub put_after : (commits : Commits) (before k : List ℕ) (others : List (List ℕ)) → is_lt (commit_cmp commits before k) ≡ true
    → rises (commit_cmp commits) (before ∷ others) ≡ true → rises (commit_cmp commits) (before ∷ put_commit commits k others) ≡ true
put_after commits before k [] b h = and_from _ _ b refl
put_after commits before k (other ∷ others) b h =
    after_by commits before k other others (commit_cmp commits k other) refl b h (λ later. put_after commits other k others later (and_parts _ _ h).1)

pub rises_by : (commits : Commits) (k other : List ℕ) (others : List (List ℕ)) (o : Ordering) → commit_cmp commits k other ≡ o
    → rises (commit_cmp commits) (other ∷ others) ≡ true → rises (commit_cmp commits) (put_by commits k other others o) ≡ true
rises_by commits k other others Less e h = and_from _ _ (ap is_lt e) h
rises_by commits k other others Equal e h = h
rises_by commits k other others Greater e h = put_after commits other k others (ap is_lt (turned commits k other Greater e)) h

pub put_rises : (commits : Commits) (k : List ℕ) (others : List (List ℕ)) → rises (commit_cmp commits) others ≡ true → rises (commit_cmp commits) (put_commit commits k others) ≡ true
put_rises commits k [] h = refl
put_rises commits k (other ∷ others) h = rises_by commits k other others (commit_cmp commits k other) refl h

pub ordered_rises : (commits : Commits) (ks : List (List ℕ)) → rises (commit_cmp commits) (in_commit_order commits ks) ≡ true
ordered_rises commits [] = refl
ordered_rises commits (k ∷ ks) = put_rises commits k (in_commit_order commits ks) (ordered_rises commits ks)

-- what rises comes after its first
pub before_all : (commits : Commits) (k : List ℕ) (others : List (List ℕ)) (x : List ℕ) → rises (commit_cmp commits) (k ∷ others) ≡ true
    → has_address others x ≡ true → is_lt (commit_cmp commits k x) ≡ true
before_all commits k [] x h found = absurd cc
before_all commits k (other ∷ others) x h found =
    let parts = and_parts (is_lt (commit_cmp commits k other)) (rises (commit_cmp commits) (other ∷ others)) h in
    elim (either (bytes_eq x other) (has_address others x) found) [
      | inl same ↦ ap (λ y. is_lt (commit_cmp commits k y)) (same_address x other same) ∙ parts.0
      | inr later ↦ ap is_lt ((order commits).trans k other x (less _ parts.0) (less _ (before_all commits other others x parts.1 later)))
    ]

-- ---- ancestors by steps

only_at : (commits : Commits) (steps : ℕ) (k x : List ℕ) (known : Bool) → is_known commits k ≡ known
    → ((p y : List ℕ) → has_address (ancestors_within commits steps p) y ≡ true → IsAncestor commits p y)
    → has_address (cond known (k ∷ flat_map (ancestors_within commits steps) (parents_of commits k)) []) x ≡ true → IsAncestor commits k x
only_at commits steps k x false e again h = absurd cc
only_at commits steps k x true e again h =
    elim (either (bytes_eq x k) (has_address (flat_map (ancestors_within commits steps) (parents_of commits k)) x) h) [
      | inl same ↦ (0, (e, sym (same_address x k same)))
      | inr later ↦ let p = in_some (ancestors_within commits steps) (parents_of commits k) x later in let up = again p.0 x p.2 in (suc up.0, (p.0, p.1, up.1))
    ]

only_by : (commits : Commits) (steps : ℕ) (k x : List ℕ) → has_address (ancestors_within commits steps k) x ≡ true → IsAncestor commits k x
only_by commits zero k x h = absurd cc
only_by commits (suc steps) k x h = only_at commits steps k x (is_known commits k) refl (only_by commits steps) h

pub known_parent : (o : Option PlainCommit) (p : List ℕ) → has_address (parents_in o) p ≡ true → is_some o ≡ true
known_parent None p h = absurd cc
known_parent (Some commit) p h = refl

each_by : (commits : Commits) (steps most : ℕ) (k x : List ℕ) → IsAncestorBy commits steps k x → steps < most → has_address (ancestors_within commits most k) x ≡ true
each_by commits zero zero k x by lt = absurd (omega (arith, lt))
each_by commits (suc steps) zero k x by lt = absurd (omega (arith, lt))
each_by commits zero (suc most) k x by lt =
    ap (λ b. has_address (cond b (k ∷ flat_map (ancestors_within commits most) (parents_of commits k)) []) x) by.0
    ∙ or_left _ _ (ap (λ y. bytes_eq x y) by.1 ∙ itself x)
each_by commits (suc steps) (suc most) k x by lt =
    ap (λ b. has_address (cond b (k ∷ flat_map (ancestors_within commits most) (parents_of commits k)) []) x) (known_parent (commits k) by.0 by.1)
    ∙ or_right (bytes_eq x k) _ (in_all (ancestors_within commits most) (parents_of commits k) by.0 x by.1 (each_by commits steps most by.0 x by.2 (omega (arith, lt))))

-- ---- no more steps than the height

pub greatest_of : (commits : Commits) (parents : List (List ℕ)) (p : List ℕ) → has_address parents p ≡ true → height_of commits p ≤ greatest (map (height_of commits) parents)
greatest_of commits [] p h = absurd cc
greatest_of commits (parent ∷ parents) p h =
    let two = at_least _ (height_of commits parent) (greatest (map (height_of commits) parents)) refl in
    elim (either (bytes_eq p parent) (has_address parents p) h) [
      | inl same ↦ let e : height_of commits p ≡ height_of commits parent = ap (height_of commits) (same_address p parent same) in omega (arith, e, two.0)
      | inr later ↦ omega (arith, greatest_of commits parents p later, two.1)
    ]

some_height : (commits : Commits) → AreGrown commits → (k : List ℕ) (o : Option PlainCommit) → commits k ≡ o → is_some o ≡ true → 0 < height_in o
some_height commits grown k None e h = absurd cc
some_height commits grown k (Some commit) e h = omega (arith, (grown k commit e).height)

pub parent_lower : (commits : Commits) → AreGrown commits → (k p : List ℕ) (o : Option PlainCommit) → commits k ≡ o → has_address (parents_in o) p ≡ true → height_of commits p < height_in o
parent_lower commits grown k p None e h = absurd cc
parent_lower commits grown k p (Some commit) e h = omega (arith, (grown k commit e).height, greatest_of commits commit.parents p h)

few_steps : (commits : Commits) → AreGrown commits → (steps : ℕ) (k x : List ℕ) → IsAncestorBy commits steps k x → steps < height_of commits k
few_steps commits grown zero k x by = some_height commits grown k (commits k) refl by.0
few_steps commits grown (suc steps) k x by =
    omega (arith, few_steps commits grown steps by.0 x by.2, parent_lower commits grown k by.0 (commits k) refl by.1)

each : (commits : Commits) (k x : List ℕ) → AreGrown commits → IsAncestor commits k x → is_ancestor commits k x ≡ true
each commits k x grown up =
    has_ordered commits (ancestors_within commits (height_of commits k) k) x ∙ each_by commits up.0 (height_of commits k) k x up.1 (few_steps commits grown up.0 k x up.1)

only : (commits : Commits) (k x : List ℕ) → is_ancestor commits k x ≡ true → IsAncestor commits k x
only commits k x h = only_by commits (height_of commits k) k x (sym (has_ordered commits (ancestors_within commits (height_of commits k) k) x) ∙ h)

-- ---- the first common one

FirstIs : Commits → List (List ℕ) → List (List ℕ) → Option (List ℕ) → Type 0
FirstIs commits ks others None = (x : List ℕ) → has_address ks x ≡ true → has_address others x ≡ true → ⊥
FirstIs commits ks others (Some k) =
    (has_address ks k ≡ true) × (has_address others k ≡ true) × ((x : List ℕ) → has_address ks x ≡ true → has_address others x ≡ true → is_lt (commit_cmp commits x k) ≡ false)

true_false : {A : Type 0} (b c : Bool) → b ≡ c → b ≡ true → c ≡ false → A
true_false b c e t f = absurd cc

-- one more in front that isn't common
later_is : (commits : Commits) (k : List ℕ) (ks others : List (List ℕ)) (found : Option (List ℕ)) → has_address others k ≡ false
    → FirstIs commits ks others found → FirstIs commits (k ∷ ks) others found
unfolding FirstIs
later_is commits k ks others None e first = λ x h g. elim (either (bytes_eq x k) (has_address ks x) h) [
  | inl same ↦ true_false _ _ (ap (has_address others) (same_address x k same)) g e
  | inr later ↦ first x later g
]
later_is commits k ks others (Some found) e first = (
  or_right _ _ first.0,
  first.1,
  λ x h g. elim (either (bytes_eq x k) (has_address ks x) h) [
    | inl same ↦ true_false _ _ (ap (has_address others) (same_address x k same)) g e
    | inr later ↦ first.2 x later g
  ],
)

first_at : (commits : Commits) (k : List ℕ) (ks others : List (List ℕ)) (b : Bool) → has_address others k ≡ b → rises (commit_cmp commits) (k ∷ ks) ≡ true
    → FirstIs commits ks others (first_in ks others) → FirstIs commits (k ∷ ks) others (cond b (Some k) (first_in ks others))
unfolding FirstIs
first_at commits k ks others false e h first = later_is commits k ks others (first_in ks others) e first
first_at commits k ks others true e h first = (
  or_left _ _ (itself k),
  e,
  λ x found g. elim (either (bytes_eq x k) (has_address ks x) found) [
    | inl same ↦ ap (λ y. is_lt (commit_cmp commits y k)) (same_address x k same) ∙ not_itself commits k
    | inr later ↦ not_before commits k x (before_all commits k ks x h later)
  ],
)

pub rest_rises : (commits : Commits) (k : List ℕ) (ks : List (List ℕ)) → rises (commit_cmp commits) (k ∷ ks) ≡ true → rises (commit_cmp commits) ks ≡ true
rest_rises commits k [] h = refl
rest_rises commits k (other ∷ ks) h = (and_parts _ _ h).1

first_is : (commits : Commits) (ks others : List (List ℕ)) → rises (commit_cmp commits) ks ≡ true → FirstIs commits ks others (first_in ks others)
unfolding FirstIs
first_is commits [] others h = λ x found g. absurd cc
first_is commits (k ∷ ks) others h = first_at commits k ks others (has_address others k) refl h (first_is commits ks others (rest_rises commits k ks h))

base_from : (commits : Commits) (a b : List ℕ) → AreGrown commits → (found : Option (List ℕ)) → FirstIs commits (ancestors commits a) (ancestors commits b) found → IsBaseOrNone commits a b found
unfolding FirstIs
base_from commits a b grown None first = λ x p q. first x (each commits a x grown p) (each commits b x grown q)
base_from commits a b grown (Some k) first = record {
  first = only commits a k first.0;
  second = only commits b k first.1;
  least = λ x p q. first.2 x (each commits a x grown p) (each commits b x grown q);
}

pub ancestors_follow : AncestorsFollow
ancestors_follow = record {
  each = each;
  only = only;
  rise = λ commits k. ordered_rises commits (ancestors_within commits (height_of commits k) k);
  base_is = λ commits a b grown. base_from commits a b grown (base commits a b) (first_is commits (ancestors commits a) (ancestors commits b) (ordered_rises commits (ancestors_within commits (height_of commits a) a)));
}

pub known_here : (commits : Commits) (steps : ℕ) (k x : List ℕ) → IsAncestorBy commits steps k x → is_known commits k ≡ true
known_here commits zero k x by = by.0
known_here commits (suc steps) k x by = known_parent (commits k) by.0 by.1

pub known_there : (commits : Commits) (steps : ℕ) (k x : List ℕ) → IsAncestorBy commits steps k x → is_known commits x ≡ true
known_there commits zero k x by = ap (is_known commits) (sym by.1) ∙ by.0
known_there commits (suc steps) k x by = known_there commits steps by.0 x by.2
