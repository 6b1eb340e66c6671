-- What is left of a walk, and how it steps.
use Rattle.std.proofs.Common.{◌≡◌, refl, sym, ◌∙◌, ap, subst, ◌⊎◌, inl, inr, ℕ, zero, suc, ◌+◌, ◌*◌, ◌^◌, ◌<◌, ◌≤◌, Bool, true, false, cond, ◌||◌, eqb-true, List, [], ◌∷◌, ◌++◌, length, map, Option, None, Some, is_lt, arith}
use Rattle.std.specs.Prelude.{◌↔◌, IfSome, IsSome, bytes_eq, is_some}
use Rattle.std.specs.List.{flat_map, list_all, slice_get}
use Rattle.std.specs.BTreeSet.{insert_key}
use Rattle.std.specs.Cmp.Lexicographic.{slice_cmp}
use Rattle.std.specs.Ordering.{nat_cmp, is_eq, match_ordering, ordering_then}
use Rattle.std.specs.declared.cmp.Ordering.{Ordering}
use Rattle.std.specs.declared.cmp.Ordering.TheVariants.{Less, Equal, Greater}
use Rattle.std.proofs.lemmas.Bool.{and_parts, and_from, or_cases as either, or_left, or_right}
use Rattle.std.proofs.lemmas.List.Folds.{list_any-append}
use Rattle.std.proofs.Math.Nat.{one-le-pow, pow-le-pow_right, pow-suc}
use Rattle.tuple_codec.proofs.Truths.{alike_truths, or_turned}
use Rattle.tuple_codec.proofs.ByteLemmas.{bytes_itself as itself, same_bytes as same_address}
use Rattle.tuple_codec.proofs.Arithmetic.{at_least}
use Rattle.schema_model.specs.PlainTables.{rises}
use Rattle.schema_model.specs.PlainCommits.{AncestorsFollow, AreGrown, Commits, IsAncestor, IsAncestorBy, PlainCommit, ancestors, commit_cmp, greatest, has_address, height_in, height_of, is_known, parents_in, parents_of, put_commit}
use Rattle.schema_model.proofs.AncestorLemmas.{before_all, has_ordered, has_put, in_all, in_some, not_before, not_itself, ordered_rises, put_rises, rest_rises, parent_lower}
use Rattle.tuple_codec.specs.declared.addresses.Address.{Address}
use Rattle.commit_graph.specs.Walks.{AreRanks, KeepsLeft, Steps, Waits, WaitsForSome, WalksAncestors, address_in, addresses_of, first_address, height_at, is_rank, left, weight, weight_of}
use Rattle.commit_graph.specs.declared.walks.Rank.{Rank}
use Rattle.commit_graph.proofs.OrderLemmas.{before_later, front_rises, higher_first, same_lists, true_false}

-- ---- places among those that wait

abbrev pub rank_cmp : Rank → Rank → Ordering
rank_cmp a b = ordering_then (nat_cmp (height_at b) (height_at a)) (slice_cmp nat_cmp (address_in a) (address_in b))

pub known_rank : (commits : Commits) (r : Rank) → is_rank commits r ≡ true → is_known commits (address_in r) ≡ true
known_rank commits r h = (and_parts _ _ h).0

pub rank_height : (commits : Commits) (r : Rank) → is_rank commits r ≡ true → height_at r ≡ height_of commits (address_in r)
rank_height commits r h = eqb-true _ _ (and_parts _ _ h).1

pub same_cmp : (commits : Commits) (a b : Rank) → is_rank commits a ≡ true → is_rank commits b ≡ true → rank_cmp a b ≡ commit_cmp commits (address_in a) (address_in b)
same_cmp commits a b ha hb =
    ap (λ n. ordering_then (nat_cmp n (height_at a)) (slice_cmp nat_cmp (address_in a) (address_in b))) (rank_height commits b hb)
    ∙ ap (λ n. ordering_then (nat_cmp (height_of commits (address_in b)) n) (slice_cmp nat_cmp (address_in a) (address_in b))) (rank_height commits a ha)

abbrev placed : Rank → Rank → List Rank → List Rank → Ordering → List Rank
placed r x xs others o = match_ordering o (r ∷ x ∷ xs) (x ∷ xs) (x ∷ others)

put_in_place : (commits : Commits) (r x : Rank) (xs others : List Rank) (o : Ordering) → addresses_of others ≡ put_commit commits (address_in r) (addresses_of xs)
    → addresses_of (placed r x xs others o)
    ≡ cond (is_lt o) (address_in r ∷ address_in x ∷ addresses_of xs) (cond (is_eq o) (address_in x ∷ addresses_of xs) (address_in x ∷ put_commit commits (address_in r) (addresses_of xs)))
put_in_place commits r x xs others Less e = refl
put_in_place commits r x xs others Equal e = refl
put_in_place commits r x xs others Greater e = ap (λ ks. address_in x ∷ ks) e

put_as : (commits : Commits) (k other : List ℕ) (others : List (List ℕ)) (o p : Ordering) → o ≡ p
    → cond (is_lt o) (k ∷ other ∷ others) (cond (is_eq o) (other ∷ others) (other ∷ put_commit commits k others))
    ≡ cond (is_lt p) (k ∷ other ∷ others) (cond (is_eq p) (other ∷ others) (other ∷ put_commit commits k others))
put_as commits k other others o p e = ap (λ q. cond (is_lt q) (k ∷ other ∷ others) (cond (is_eq q) (other ∷ others) (other ∷ put_commit commits k others))) e

put_is : (commits : Commits) (r : Rank) (xs : List Rank) → is_rank commits r ≡ true → list_all (is_rank commits) xs ≡ true
    → addresses_of (insert_key rank_cmp xs r) ≡ put_commit commits (address_in r) (addresses_of xs)
put_is commits r [] hr h = refl
put_is commits r (x ∷ xs) hr h =
    let both = and_parts (is_rank commits x) (list_all (is_rank commits) xs) h in
    put_in_place commits r x xs (insert_key rank_cmp xs r) (rank_cmp r x) (put_is commits r xs hr both.1)
    ∙ put_as commits (address_in r) (address_in x) (addresses_of xs) (rank_cmp r x) (commit_cmp commits (address_in r) (address_in x)) (same_cmp commits r x hr both.0)

placed_ranks : (commits : Commits) (r x : Rank) (xs others : List Rank) (o : Ordering) → is_rank commits r ≡ true → is_rank commits x ≡ true
    → list_all (is_rank commits) xs ≡ true → list_all (is_rank commits) others ≡ true → list_all (is_rank commits) (placed r x xs others o) ≡ true
placed_ranks commits r x xs others Less hr hx h more = and_from (is_rank commits r) _ hr (and_from (is_rank commits x) _ hx h)
placed_ranks commits r x xs others Equal hr hx h more = and_from (is_rank commits x) _ hx h
placed_ranks commits r x xs others Greater hr hx h more = and_from (is_rank commits x) _ hx more

put_ranks : (commits : Commits) (r : Rank) (xs : List Rank) → is_rank commits r ≡ true → list_all (is_rank commits) xs ≡ true
    → list_all (is_rank commits) (insert_key rank_cmp xs r) ≡ true
put_ranks commits r [] hr h = and_from (is_rank commits r) _ hr refl
put_ranks commits r (x ∷ xs) hr h =
    let both = and_parts (is_rank commits x) (list_all (is_rank commits) xs) h in
    placed_ranks commits r x xs (insert_key rank_cmp xs r) (rank_cmp r x) hr both.0 both.1 (put_ranks commits r xs hr both.1)

placed_light : (r x : Rank) (xs others : List Rank) (o : Ordering) → weight_of others ≤ 3 ^ height_at r + weight_of xs
    → weight_of (placed r x xs others o) ≤ 3 ^ height_at r + weight_of (x ∷ xs)
placed_light r x xs others Less h = omega arith
placed_light r x xs others Equal h = omega arith
placed_light r x xs others Greater h = omega (arith, h)

put_light : (r : Rank) (xs : List Rank) → weight_of (insert_key rank_cmp xs r) ≤ 3 ^ height_at r + weight_of xs
put_light r [] = omega arith
put_light r (x ∷ xs) = placed_light r x xs (insert_key rank_cmp xs r) (rank_cmp r x) (put_light r xs)

-- ---- those that wait, one after another

or_false : (p q : Bool) → (p || q) ≡ ((p || false) || q)
or_false true q = refl
or_false false q = refl

pub waits_none : (commits : Commits) (ranks : List Rank) → AreRanks commits ranks → Waits commits [] ranks ranks
waits_none commits ranks h = record { ranks = h; has = λ k. refl; light = omega arith }

pub waits_one : (commits : Commits) (r : Rank) (xs : List Rank) → is_rank commits r ≡ true → AreRanks commits xs → Waits commits (address_in r ∷ []) xs (insert_key rank_cmp xs r)
waits_one commits r xs hr h =
    let e = put_is commits r xs hr h.each in
    let high = rank_height commits r hr in
    let light = put_light r xs in
    record {
      ranks = record {
        each = put_ranks commits r xs hr h.each;
        rise = ap (rises (commit_cmp commits)) e ∙ put_rises commits (address_in r) (addresses_of xs) h.rise;
      };
      has = λ k. ap (λ ks. has_address ks k) e ∙ has_put commits (address_in r) (addresses_of xs) k ∙ or_false (bytes_eq k (address_in r)) (has_address (addresses_of xs) k);
      light = subst (λ n. weight_of (insert_key rank_cmp xs r) ≤ (3 ^ n + 0) + weight_of xs) high (omega (arith, light));
    }

heights_more : (f : List ℕ → ℕ) (ks : List (List ℕ)) (k : List ℕ) → weight (map f (ks ++ k ∷ [])) ≡ weight (map f ks) + 3 ^ f k
heights_more f [] k = omega arith
heights_more f (other ∷ ks) k = let e = heights_more f ks k in omega (arith, e)

pub waits_more : (commits : Commits) (ks : List (List ℕ)) (k : List ℕ) (old mid new : List Rank) → Waits commits ks old mid → Waits commits (k ∷ []) mid new
    → Waits commits (ks ++ k ∷ []) old new
waits_more commits ks k old mid new first second =
    let e = heights_more (height_of commits) ks k in
    let one = first.light in
    let two = second.light in
    record {
      ranks = second.ranks;
      has = λ x. second.has x ∙ ap (λ b. (bytes_eq x k || false) || b) (first.has x)
          ∙ or_turned (bytes_eq x k || false) (has_address ks x) (has_address (addresses_of old) x)
          ∙ ap (λ b. b || has_address (addresses_of old) x) (sym (list_any-append (bytes_eq x) ks (k ∷ [])));
      light = omega (arith, e, one, two);
    }

-- ---- parents are lower

parent_later : (commits : Commits) → AreGrown commits → (k p : List ℕ) → has_address (parents_of commits k) p ≡ true → is_lt (commit_cmp commits k p) ≡ true
parent_later commits grown k p h = higher_first commits k p (parent_lower commits grown k p (commits k) refl h)

-- ---- two parents weigh less than their commit

two_below : (x y p q : ℕ) → x ≤ p → y ≤ p → 1 ≤ p → q ≡ p * 3 → x + (y + 0) < q
two_below x y p q hx hy one e = omega (arith, hx, hy, one, e)

power : (n : ℕ) → 1 ≤ 3 ^ n
power n = one-le-pow n 3 (omega arith)

powers : (m n : ℕ) → m ≤ n → 3 ^ m ≤ 3 ^ n
powers m n h = pow-le-pow_right {n = 3} (omega arith) h

few_light : (heights : List ℕ) → length heights ≤ 2 → weight heights < 3 ^ suc (greatest heights)
few_light [] h = omega (arith, power 1)
few_light (a ∷ []) h =
    let two = at_least _ a 0 refl in
    two_below (3 ^ a) 0 (3 ^ greatest (a ∷ [])) _ (powers a _ two.0) (omega arith) (power _) (pow-suc 3 _)
few_light (a ∷ b ∷ []) h =
    let one = at_least _ b 0 refl in
    let two = at_least _ a (greatest (b ∷ [])) refl in
    two_below (3 ^ a) (3 ^ b) (3 ^ greatest (a ∷ b ∷ [])) _ (powers a _ two.0) (powers b _ (omega (arith, one.0, two.1))) (power _) (pow-suc 3 _)
few_light (a ∷ b ∷ c ∷ heights) h = absurd (omega (arith, h))

length_map : (f : List ℕ → ℕ) (ks : List (List ℕ)) → length (map f ks) ≡ length ks
length_map f [] = refl
length_map f (k ∷ ks) = ap suc (length_map f ks)

parents_light_by : (commits : Commits) → AreGrown commits → (k : List ℕ) (o : Option PlainCommit) → commits k ≡ o → is_some o ≡ true → length (parents_in o) ≤ 2
    → weight (map (height_of commits) (parents_in o)) < 3 ^ height_in o
parents_light_by commits grown k None e h few = absurd cc
parents_light_by commits grown k (Some commit) e h few =
    subst (λ n. weight (map (height_of commits) commit.parents) < 3 ^ n) (sym (grown k commit e).height)
    (few_light (map (height_of commits) commit.parents) (subst (λ n. n ≤ 2) (sym (length_map (height_of commits) commit.parents)) few))

-- ---- ancestors come later

later_by : (commits : Commits) → AreGrown commits → (steps : ℕ) (k x : List ℕ) → IsAncestorBy commits steps k x → (k ≡ x) ⊎ (is_lt (commit_cmp commits k x) ≡ true)
later_by commits grown zero k x by = inl by.1
later_by commits grown (suc steps) k x by =
    let first = parent_later commits grown k by.0 by.1 in
    inr (elim (later_by commits grown steps by.0 x by.2) [
      | inl same ↦ subst (λ y. is_lt (commit_cmp commits k y) ≡ true) same first
      | inr later ↦ before_later commits k by.0 x first later
    ])

module _ (laws : AncestorsFollow) (commits : Commits) (grown : AreGrown commits) where
  -- what is left are the ancestors of those that wait
  pub from_left : (ranks : List Rank) (x : List ℕ) → has_address (left commits ranks) x ≡ true → (k : List ℕ) × (has_address (addresses_of ranks) k ≡ true) × IsAncestor commits k x
  from_left ranks x h =
      let found = in_some (ancestors commits) (addresses_of ranks) x (sym (has_ordered commits (flat_map (ancestors commits) (addresses_of ranks)) x) ∙ h) in
      (found.0, found.1, laws.only commits found.0 x found.2)

  pub to_left : (ranks : List Rank) (k x : List ℕ) → has_address (addresses_of ranks) k ≡ true → IsAncestor commits k x → has_address (left commits ranks) x ≡ true
  to_left ranks k x h up =
      has_ordered commits (flat_map (ancestors commits) (addresses_of ranks)) x ∙ in_all (ancestors commits) (addresses_of ranks) k x h (laws.each commits k x grown up)

  pub left_rises : (ranks : List Rank) → rises (commit_cmp commits) (left commits ranks) ≡ true
  left_rises ranks = ordered_rises commits (flat_map (ancestors commits) (addresses_of ranks))

  -- all that is left is the first of those that wait, or later
  pub first_or_later : (r : Rank) (rs : List Rank) (x : List ℕ) → AreRanks commits (r ∷ rs) → has_address (left commits (r ∷ rs)) x ≡ true
      → (address_in r ≡ x) ⊎ (is_lt (commit_cmp commits (address_in r) x) ≡ true)
  first_or_later r rs x ranks h =
      let found = from_left (r ∷ rs) x h in
      let up = later_by commits grown found.2.0 found.0 x found.2.1 in
      elim (either (bytes_eq found.0 (address_in r)) (has_address (addresses_of rs) found.0) found.1) [
        | inl same ↦ subst (λ k. (k ≡ x) ⊎ (is_lt (commit_cmp commits k x) ≡ true)) (same_address found.0 (address_in r) same) up
        | inr later ↦ let first = before_all commits (address_in r) (addresses_of rs) found.0 ranks.rise later in inr (elim up [
          | inl same ↦ subst (λ y. is_lt (commit_cmp commits (address_in r) y) ≡ true) same first
          | inr more ↦ before_later commits (address_in r) found.0 x first more
        ])
      ]

  -- ---- a step

  module _ (r : Rank) (rs new : List Rank) (ranks : AreRanks commits (r ∷ rs)) (waits : Waits commits (parents_of commits (address_in r)) rs new) where
    k : List ℕ
    k = address_in r

    known : is_known commits (address_in r) ≡ true
    known = known_rank commits r (and_parts _ _ ranks.each).0

    waiting : (x : List ℕ) → has_address (addresses_of new) x ≡ true → (has_address (parents_of commits (address_in r)) x ≡ true) ⊎ (has_address (addresses_of rs) x ≡ true)
    waiting x h = either _ _ (sym (waits.has x) ∙ h)

    later_left : (x : List ℕ) → has_address (left commits new) x ≡ true → is_lt (commit_cmp commits (address_in r) x) ≡ true
    later_left x h =
        let found = from_left new x h in
        let first : is_lt (commit_cmp commits (address_in r) found.0) ≡ true = elim (waiting found.0 found.1) [
          | inl parent ↦ parent_later commits grown (address_in r) found.0 parent
          | inr later ↦ before_all commits (address_in r) (addresses_of rs) found.0 ranks.rise later
        ] in
        elim (later_by commits grown found.2.0 found.0 x found.2.1) [
          | inl same ↦ subst (λ y. is_lt (commit_cmp commits (address_in r) y) ≡ true) same first
          | inr later ↦ before_later commits (address_in r) found.0 x first later
        ]

    own_by : (steps : ℕ) (x : List ℕ) → IsAncestorBy commits steps (address_in r) x → has_address (address_in r ∷ left commits new) x ≡ true
    own_by zero x by = or_left _ _ (subst (λ y. bytes_eq y (address_in r) ≡ true) by.1 (itself (address_in r)))
    own_by (suc steps) x by = or_right _ _ (to_left new by.0 x (waits.has by.0 ∙ or_left _ _ by.1) (steps, by.2))

    after : (x : List ℕ) → has_address (left commits (r ∷ rs)) x ≡ true → has_address (address_in r ∷ left commits new) x ≡ true
    after x h =
        let found = from_left (r ∷ rs) x h in
        elim (either (bytes_eq found.0 (address_in r)) (has_address (addresses_of rs) found.0) found.1) [
          | inl same ↦ own_by found.2.0 x (subst (λ y. IsAncestorBy commits found.2.0 y x) (same_address found.0 (address_in r) same) found.2.1)
          | inr later ↦ or_right _ _ (to_left new found.0 x (waits.has found.0 ∙ or_right _ _ later) found.2)
        ]

    first_is : has_address (addresses_of (r ∷ rs)) (address_in r) ≡ true
    first_is = or_left _ _ (itself (address_in r))

    before : (x : List ℕ) → has_address (address_in r ∷ left commits new) x ≡ true → has_address (left commits (r ∷ rs)) x ≡ true
    before x h = elim (either (bytes_eq x (address_in r)) (has_address (left commits new) x) h) [
      | inl same ↦ to_left (r ∷ rs) (address_in r) x first_is (0, (known, sym (same_address x (address_in r) same)))
      | inr later ↦ let found = from_left new x later in elim (waiting found.0 found.1) [
        | inl parent ↦ to_left (r ∷ rs) (address_in r) x first_is (suc found.2.0, (found.0, parent, found.2.1))
        | inr waits ↦ to_left (r ∷ rs) found.0 x (or_right _ _ waits) found.2
      ]
    ]

    pub left_is : left commits (r ∷ rs) ≡ address_in r ∷ left commits new
    left_is =
        same_lists commits (left commits (r ∷ rs)) (address_in r ∷ left commits new) (left_rises (r ∷ rs)) (front_rises commits (address_in r) (left commits new) later_left (left_rises new))
        (λ x. alike_truths _ _ (after x) (before x))

    pub lighter : length (parents_of commits (address_in r)) ≤ 2 → weight_of new < weight_of (r ∷ rs)
    lighter few =
        let high = rank_height commits r (and_parts _ _ ranks.each).0 in
        let light = waits.light in
        let below = subst (λ n. weight (map (height_of commits) (parents_of commits (address_in r))) < 3 ^ n) (sym high)
        (parents_light_by commits grown (address_in r) (commits (address_in r)) refl known few) in
        omega (arith, light, below)

  -- some parents of a commit that waits come to wait, so the walk comes to the same
  module _ (r : Rank) (rs new : List Rank) (some : WaitsForSome commits (parents_of commits (address_in r)) (r ∷ rs) new) where
    same_before : (x : List ℕ) → has_address (left commits new) x ≡ true → has_address (left commits (r ∷ rs)) x ≡ true
    same_before x h =
        let found = from_left new x h in
        elim (either (has_address (parents_of commits (address_in r)) found.0) (has_address (addresses_of (r ∷ rs)) found.0) (some.only found.0 found.1)) [
          | inl parent ↦ to_left (r ∷ rs) (address_in r) x (or_left _ _ (itself (address_in r))) (suc found.2.0, (found.0, parent, found.2.1))
          | inr there ↦ to_left (r ∷ rs) found.0 x there found.2
        ]

    same_after : (x : List ℕ) → has_address (left commits (r ∷ rs)) x ≡ true → has_address (left commits new) x ≡ true
    same_after x h = let found = from_left (r ∷ rs) x h in to_left new found.0 x (some.kept found.0 found.1) found.2

    pub left_kept : KeepsLeft commits (r ∷ rs) new
    left_kept = record {
      ranks = some.ranks;
      all = same_lists commits (left commits new) (left commits (r ∷ rs)) (left_rises new) (left_rises (r ∷ rs)) (λ x. alike_truths _ _ (same_before x) (same_after x));
    }

  -- ---- the beginning

  only_one : (k : List ℕ) (walk : List Rank) (other : List ℕ) → Waits commits (k ∷ []) [] walk → has_address (addresses_of walk) other ≡ true → other ≡ k
  only_one k walk other waits h = elim (either (bytes_eq other k || false) false (sym (waits.has other) ∙ h)) [
    | inl here ↦ elim (either (bytes_eq other k) false here) [
      | inl same ↦ same_address other k same
      | inr never ↦ absurd cc
    ]
    | inr never ↦ absurd cc
  ]

  the_one : (k : List ℕ) (walk : List Rank) → Waits commits (k ∷ []) [] walk → has_address (addresses_of walk) k ≡ true
  the_one k walk waits = waits.has k ∙ or_left _ _ (or_left _ _ (itself k))

  pub begins : (k : List ℕ) (walk : List Rank) → Waits commits (k ∷ []) [] walk → WalksAncestors commits k walk
  begins k walk waits = record {
    ranks = waits.ranks;
    all = same_lists commits (left commits walk) (ancestors commits k) (left_rises walk) (laws.rise commits k)
        (λ x. alike_truths _ _
        (λ h. let found = from_left walk x h in laws.each commits k x grown (subst (λ y. IsAncestor commits y x) (only_one k walk found.0 waits found.1) found.2))
        (λ h. to_left walk k x (the_one k walk waits) (laws.only commits k x h)));
  }

pub rest_ranks : (commits : Commits) (r : Rank) (rs : List Rank) → AreRanks commits (r ∷ rs) → AreRanks commits rs
rest_ranks commits r rs h = record { each = (and_parts _ _ h.each).1; rise = rest_rises commits (address_in r) (addresses_of rs) h.rise }

pub first_known : (commits : Commits) (r : Rank) (rs : List Rank) → AreRanks commits (r ∷ rs) → is_known commits (address_in r) ≡ true
first_known commits r rs h = known_rank commits r (and_parts _ _ h.each).0

-- ---- the first of those that wait

rank_is : (r x : Rank) → Some r ≡ Some x → r ≡ x
rank_is r x e = cc

pub first_of : (ranks : List Rank) (r : Rank) → Some r ≡ slice_get ranks 0 → (rest : List Rank) × (ranks ≡ r ∷ rest)
first_of [] r e = absurd cc
first_of (x ∷ rest) r e = (rest, ap (λ (y : Rank). y ∷ rest) (sym (rank_is r x e)))

pub none_of : (ranks : List Rank) → None ≡ slice_get ranks 0 → ranks ≡ []
none_of [] e = refl
none_of (x ∷ rest) e = absurd cc

-- a walk that waits for nothing
pub ends : (commits : Commits) (ranks : List Rank) → AreRanks commits ranks → None ≡ slice_get ranks 0 → Steps commits ranks ranks None
ends commits ranks h e = let none = none_of ranks e in record { ranks = h; came = (none, ap (left commits) none) }

-- a part of these came to wait
pub waits_some : (commits : Commits) (ks more all : List (List ℕ)) (old new : List Rank) → ks ++ more ≡ all → Waits commits ks old new → WaitsForSome commits all old new
waits_some commits ks more all old new e waits = record {
  ranks = waits.ranks;
  kept = λ k h. waits.has k ∙ or_right _ _ h;
  only = λ k h. elim (either (has_address ks k) (has_address (addresses_of old) k) (sym (waits.has k) ∙ h)) [
    | inl here ↦ or_left _ _ (ap (λ l. has_address l k) (sym e) ∙ list_any-append (bytes_eq k) ks more ∙ or_left _ _ here)
    | inr there ↦ or_right _ _ there
  ];
}

-- ---- the first goes once its parents wait

module _ (commits : Commits) (grown : AreGrown commits) (r first : Rank) (rs rest : List Rank) (ranks : AreRanks commits (r ∷ rs))
    (waits : Waits commits (parents_of commits (address_in r)) (r ∷ rs) (first ∷ rest)) where
  -- all that wait are the commit, or come after it
  from_commit : (x : List ℕ) → has_address (addresses_of (first ∷ rest)) x ≡ true → (x ≡ address_in r) ⊎ (is_lt (commit_cmp commits (address_in r) x) ≡ true)
  from_commit x h = elim (either (has_address (parents_of commits (address_in r)) x) (has_address (addresses_of (r ∷ rs)) x) (sym (waits.has x) ∙ h)) [
    | inl parent ↦ inr (parent_later commits grown (address_in r) x parent)
    | inr there ↦ elim (either (bytes_eq x (address_in r)) (has_address (addresses_of rs) x) there) [
      | inl same ↦ inl (same_address x (address_in r) same)
      | inr later ↦ inr (before_all commits (address_in r) (addresses_of rs) x ranks.rise later)
    ]
  ]

  still : has_address (addresses_of (first ∷ rest)) (address_in r) ≡ true
  still = waits.has (address_in r) ∙ or_right _ _ (or_left _ _ (itself (address_in r)))

  is_first : address_in first ≡ address_in r
  is_first = elim (from_commit (address_in first) (or_left _ _ (itself (address_in first)))) [
    | inl same ↦ same
    | inr later ↦ elim (either (bytes_eq (address_in r) (address_in first)) (has_address (addresses_of rest) (address_in r)) still) [
      | inl same ↦ sym (same_address (address_in r) (address_in first) same)
      | inr behind ↦ true_false _ (before_all commits (address_in first) (addresses_of rest) (address_in r) waits.ranks.rise behind)
          (not_before commits (address_in r) (address_in first) later)
    ]
  ]

  -- what comes after the commit isn't the first
  behind_first : (x : List ℕ) → is_lt (commit_cmp commits (address_in r) x) ≡ true → has_address (addresses_of (first ∷ rest)) x ≡ true → has_address (addresses_of rest) x ≡ true
  behind_first x later h = elim (either (bytes_eq x (address_in first)) (has_address (addresses_of rest) x) h) [
    | inl same ↦ true_false _ (subst (λ y. is_lt (commit_cmp commits (address_in r) y) ≡ true) (same_address x (address_in first) same ∙ is_first) later)
        (not_itself commits (address_in r))
    | inr there ↦ there
  ]

  into : (x : List ℕ) → has_address (addresses_of rest) x ≡ true → (has_address (parents_of commits (address_in r)) x || has_address (addresses_of rs) x) ≡ true
  into x h = elim (either (has_address (parents_of commits (address_in r)) x) (has_address (addresses_of (r ∷ rs)) x) (sym (waits.has x) ∙ or_right _ _ h)) [
    | inl parent ↦ or_left _ _ parent
    | inr there ↦ elim (either (bytes_eq x (address_in r)) (has_address (addresses_of rs) x) there) [
      | inl same ↦ true_false _
          (subst (λ y. is_lt (commit_cmp commits (address_in first) y) ≡ true) (same_address x (address_in r) same ∙ sym is_first)
          (before_all commits (address_in first) (addresses_of rest) x waits.ranks.rise h))
          (not_itself commits (address_in first))
      | inr later ↦ or_right _ _ later
    ]
  ]

  out : (x : List ℕ) → (has_address (parents_of commits (address_in r)) x || has_address (addresses_of rs) x) ≡ true → has_address (addresses_of rest) x ≡ true
  out x h = elim (either (has_address (parents_of commits (address_in r)) x) (has_address (addresses_of rs) x) h) [
    | inl parent ↦ behind_first x (parent_later commits grown (address_in r) x parent) (waits.has x ∙ or_left _ _ parent)
    | inr later ↦ behind_first x (before_all commits (address_in r) (addresses_of rs) x ranks.rise later) (waits.has x ∙ or_right _ _ (or_right _ _ later))
  ]

  pub first_gone : Waits commits (parents_of commits (address_in r)) rs rest
  first_gone =
      let high : height_at first ≡ height_at r =
      rank_height commits first (and_parts _ _ waits.ranks.each).0 ∙ ap (height_of commits) is_first ∙ sym (rank_height commits r (and_parts _ _ ranks.each).0) in
      let parents = weight (map (height_of commits) (parents_of commits (address_in r))) in
      let light : 3 ^ height_at r + weight_of rest ≤ parents + (3 ^ height_at r + weight_of rs) =
      subst (λ n. 3 ^ n + weight_of rest ≤ parents + (3 ^ height_at r + weight_of rs)) high waits.light in
      record { ranks = rest_ranks commits first rest waits.ranks; has = λ x. alike_truths _ _ (into x) (out x); light = omega (arith, light) }

pub gone : (commits : Commits) → AreGrown commits → (r : Rank) (rs all rest : List Rank) (popped : Option Rank) → AreRanks commits (r ∷ rs)
    → Waits commits (parents_of commits (address_in r)) (r ∷ rs) all → IfSome popped (λ k. all ≡ k ∷ rest) → (IsSome popped ↔ (0 < length all))
    → Waits commits (parents_of commits (address_in r)) rs rest
gone commits grown r rs all rest (Some first) ranks waits front there =
    first_gone commits grown r first rs rest ranks (subst (Waits commits (parents_of commits (address_in r)) (r ∷ rs)) front waits)
gone commits grown r rs [] rest None ranks waits front there = true_false _ (or_right _ _ (or_left _ _ (itself (address_in r)))) (sym (waits.has (address_in r)))
gone commits grown r rs (x ∷ xs) rest None ranks waits front there = true_false false (there.1 (omega arith)) refl

-- a step from the first of those that wait
pub steps : (laws : AncestorsFollow) (commits : Commits) → AreGrown commits → (old new rs : List Rank) (r : Rank) (k : Address) → old ≡ r ∷ rs → k.0 ≡ address_in r
    → AreRanks commits old → length (parents_of commits (address_in r)) ≤ 2 → Waits commits (parents_of commits (address_in r)) rs new → Steps commits old new (Some k)
steps laws commits grown old new rs r k e same ranks few waits =
    let first = subst (AreRanks commits) e ranks in
    let light = lighter laws commits grown r rs new first waits few in
    record {
      ranks = waits.ranks;
      came = (
        ap first_address e ∙ ap Some (sym same),
        ap (left commits) e ∙ left_is laws commits grown r rs new first waits ∙ ap (λ l. l ∷ left commits new) (sym same),
        subst (λ ranks. weight_of new < weight_of ranks) (sym e) light,
      );
    }
