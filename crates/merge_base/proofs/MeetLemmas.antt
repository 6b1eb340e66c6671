-- Two walks that meet at the base.
use Rattle.std.proofs.Common.{◌≡◌, refl, sym, ◌∙◌, ap, subst, ◌⊎◌, inl, inr, ℕ, zero, suc, Bool, true, false, cond, ◌||◌, ◌<◌, List, [], ◌∷◌, Option, None, Some, is_lt}
use Rattle.std.specs.Prelude.{bytes_eq}
use Rattle.std.specs.List.{slice_get}
use Rattle.std.specs.declared.cmp.Ordering.{Ordering}
use Rattle.std.specs.declared.cmp.Ordering.TheVariants.{Less, Equal, Greater}
use Rattle.std.proofs.lemmas.Bool.{and_parts, or_cases as either, or_left}
use Rattle.tuple_codec.proofs.ByteLemmas.{bytes_itself as itself, same_bytes as same_address}
use Rattle.tuple_codec.proofs.Truths.{right_not as rest_false}
use Rattle.tuple_codec.proofs.Options.{some_is}
use Rattle.schema_model.specs.PlainTables.{rises}
use Rattle.schema_model.specs.PlainCommits.{AncestorsFollow, AreGrown, Commits, IsBaseOrNone, ancestors, base, commit_cmp, first_in, has_address, is_known}
use Rattle.schema_model.proofs.AncestorLemmas.{alike, before_all, not_before, not_itself, turned, known_here as known_by}
use Rattle.commit_graph.specs.Walks.{AreRanks, Steps, WalksAncestors, address_in, left, weight_of}
use Rattle.commit_graph.specs.declared.walks.Rank.{Rank}
use Rattle.tuple_codec.specs.declared.addresses.Address.{Address}
use Rattle.commit_graph.proofs.OrderLemmas.{true_false}
use Rattle.commit_graph.proofs.WalkLemmas.{first_known, first_of, first_or_later, left_rises, none_of, rank_cmp, same_cmp, to_left}
use Rattle.merge_base.specs.Common.{HasCommon}

-- the base is still to come, in both walks
pub record Meets (commits : Commits) (a b : List ℕ) (ours theirs : List Rank) : Type 0 where
  pub ours_are : AreRanks commits ours
  pub theirs_are : AreRanks commits theirs
  pub same : first_in (left commits ours) (left commits theirs) ≡ base commits a b

-- ---- the first of a list that is in the other

pub nothing_there : (ks : List (List ℕ)) → first_in ks [] ≡ None
nothing_there [] = refl
nothing_there (k ∷ ks) = nothing_there ks

first_by : (b c : Bool) (k : List ℕ) (rest : Option (List ℕ)) → b ≡ c → cond b (Some k) rest ≡ cond c (Some k) rest
first_by b c k rest e = ap (λ (d : Bool). cond d (Some k) rest) e

pub passed_ours : (k : List ℕ) (ks others : List (List ℕ)) → has_address others k ≡ false → first_in (k ∷ ks) others ≡ first_in ks others
passed_ours k ks others h = first_by (has_address others k) false k (first_in ks others) h

not_other : (x k : List ℕ) (b : Bool) → bytes_eq x k ≡ false → (bytes_eq x k || b) ≡ b
not_other x k b h = ap (λ (c : Bool). c || b) h

bool_or : (b c d : Bool) → (b || c) ≡ d → d ≡ false → b ≡ false
bool_or true c d e h = absurd cc
bool_or false c d e h = refl

turn : (x k : List ℕ) (b : Bool) → bytes_eq x k ≡ b → bytes_eq k x ≡ false → b ≡ false
turn x k true e h = true_false (bytes_eq k x) (subst (λ (y : List ℕ). bytes_eq y x ≡ true) (same_address x k e) (itself x)) h
turn x k false e h = refl

pub passed_theirs : (k : List ℕ) (ks others : List (List ℕ)) → has_address ks k ≡ false → first_in ks (k ∷ others) ≡ first_in ks others
passed_theirs k [] others h = refl
passed_theirs k (x ∷ ks) others h =
    let apart : bytes_eq x k ≡ false = turn x k (bytes_eq x k) refl (bool_or (bytes_eq k x) (has_address ks k) false h refl) in
    first_by (bytes_eq x k || has_address others x) (has_address others x) x (first_in ks (k ∷ others)) (not_other x k (has_address others x) apart)
    ∙ ap (λ (o : Option (List ℕ)). cond (has_address others x) (Some x) o) (passed_theirs k ks others (rest_false (bytes_eq k x) (has_address ks k) h))

pub common_first : (k : List ℕ) (ks others : List (List ℕ)) → first_in (k ∷ ks) (k ∷ others) ≡ Some k
common_first k ks others = first_by (bytes_eq k k || has_address others k) true k (first_in ks (k ∷ others)) (or_left _ _ (itself k))

no_rank : (r : Rank) (rs : List Rank) → r ∷ rs ≡ [] → ⊥
no_rank r rs e = cc

-- ---- known commits

pub known_a : (commits : Commits) (a b : List ℕ) → HasCommon commits a b → is_known commits a ≡ true
known_a commits a b common = known_by commits common.1.0 a common.0 common.1.1

pub known_b : (commits : Commits) (a b : List ℕ) → HasCommon commits a b → is_known commits b ≡ true
known_b commits a b common = known_by commits common.2.0 b common.0 common.2.1

pub begin : (commits : Commits) (a b : List ℕ) (ours theirs : List Rank) → WalksAncestors commits a ours → WalksAncestors commits b theirs → Meets commits a b ours theirs
begin commits a b ours theirs first second = record {
  ours_are = first.ranks;
  theirs_are = second.ranks;
  same = ap (λ (ks : List (List ℕ)). first_in ks (left commits theirs)) first.all ∙ ap (λ (ks : List (List ℕ)). first_in (ancestors commits a) ks) second.all;
}

module _ (laws : AncestorsFollow) (commits : Commits) (grown : AreGrown commits) (a b : List ℕ) where
  none_by : HasCommon commits a b → (found : Option (List ℕ)) → IsBaseOrNone commits a b found → found ≡ None → ⊥
  none_by common None is e = is common.0 common.1 common.2
  none_by common (Some k) is e = absurd cc

  -- there is a base
  pub some_base : HasCommon commits a b → base commits a b ≡ None → ⊥
  some_base common e = none_by common (base commits a b) (laws.base_is commits a b grown) e

  pub ours_left : (theirs : List Rank) → HasCommon commits a b → Meets commits a b [] theirs → ⊥
  ours_left theirs common meets = some_base common (sym meets.same)

  pub theirs_left : (ours : List Rank) → HasCommon commits a b → Meets commits a b ours [] → ⊥
  theirs_left ours common meets = some_base common (sym meets.same ∙ nothing_there (left commits ours))

  -- what comes before the first of a walk isn't left there
  absent_by : (s : Rank) (ss : List Rank) (k : List ℕ) (h : Bool) → AreRanks commits (s ∷ ss) → is_lt (commit_cmp commits k (address_in s)) ≡ true
      → has_address (left commits (s ∷ ss)) k ≡ h → h ≡ false
  absent_by s ss k false ranks before e = refl
  absent_by s ss k true ranks before e = elim (first_or_later laws commits grown s ss k ranks e) [
    | inl same ↦ true_false (is_lt (commit_cmp commits k k)) (subst (λ (y : List ℕ). is_lt (commit_cmp commits k y) ≡ true) same before) (not_itself commits k)
    | inr later ↦ true_false (is_lt (commit_cmp commits (address_in s) k)) later (not_before commits k (address_in s) before)
  ]

  absent : (s : Rank) (ss : List Rank) (k : List ℕ) → AreRanks commits (s ∷ ss) → is_lt (commit_cmp commits k (address_in s)) ≡ true → has_address (left commits (s ∷ ss)) k ≡ false
  absent s ss k ranks before = absent_by s ss k (has_address (left commits (s ∷ ss)) k) ranks before refl

  firsts : (r s : Rank) (rs ss : List Rank) (o : Ordering) → AreRanks commits (r ∷ rs) → AreRanks commits (s ∷ ss) → rank_cmp r s ≡ o → commit_cmp commits (address_in r) (address_in s) ≡ o
  firsts r s rs ss o ours theirs e = sym (same_cmp commits r s (and_parts _ _ ours.each).0 (and_parts _ _ theirs.each).0) ∙ e

  -- ---- a walk goes on from the commit that comes before the other's

  step_ours : (r s : Rank) (rs ss new : List Rank) (found : Option Address) → rank_cmp r s ≡ Less → Meets commits a b (r ∷ rs) (s ∷ ss) → Steps commits (r ∷ rs) new found
      → Meets commits a b new (s ∷ ss) × (weight_of new < weight_of (r ∷ rs))
  step_ours r s rs ss new None e meets steps = absurd (no_rank r rs steps.came.0)
  step_ours r s rs ss new (Some k) e meets steps =
      let same : address_in r ≡ k.0 = some_is _ _ steps.came.0 in
      let before = ap is_lt (firsts r s rs ss Less meets.ours_are meets.theirs_are e) in
      let gone = subst (λ (x : List ℕ). has_address (left commits (s ∷ ss)) x ≡ false) same (absent s ss (address_in r) meets.theirs_are before) in (
        record {
          ours_are = steps.ranks;
          theirs_are = meets.theirs_are;
          same = sym (passed_ours k.0 (left commits new) (left commits (s ∷ ss)) gone)
              ∙ ap (λ (ks : List (List ℕ)). first_in ks (left commits (s ∷ ss))) (sym steps.came.1) ∙ meets.same;
        },
        steps.came.2,
      )

  step_theirs : (r s : Rank) (rs ss new : List Rank) (found : Option Address) → rank_cmp r s ≡ Greater → Meets commits a b (r ∷ rs) (s ∷ ss) → Steps commits (s ∷ ss) new found
      → Meets commits a b (r ∷ rs) new × (weight_of new < weight_of (s ∷ ss))
  step_theirs r s rs ss new None e meets steps = absurd (no_rank s ss steps.came.0)
  step_theirs r s rs ss new (Some k) e meets steps =
      let same : address_in s ≡ k.0 = some_is _ _ steps.came.0 in
      let before = ap is_lt (turned commits (address_in r) (address_in s) Greater (firsts r s rs ss Greater meets.ours_are meets.theirs_are e)) in
      let gone = subst (λ (x : List ℕ). has_address (left commits (r ∷ rs)) x ≡ false) same (absent r rs (address_in s) meets.ours_are before) in (
        record {
          ours_are = meets.ours_are;
          theirs_are = steps.ranks;
          same = sym (passed_theirs k.0 (left commits (r ∷ rs)) (left commits new) gone)
              ∙ ap (λ (ks : List (List ℕ)). first_in (left commits (r ∷ rs)) ks) (sym steps.came.1) ∙ meets.same;
        },
        steps.came.2,
      )

  -- ---- the walks meet

  at_first : (r : Rank) (rs : List Rank) → AreRanks commits (r ∷ rs) → has_address (left commits (r ∷ rs)) (address_in r) ≡ true
  at_first r rs ranks = to_left laws commits grown (r ∷ rs) (address_in r) (address_in r) (or_left _ _ (itself (address_in r))) (0, (first_known commits r rs ranks, refl))

  found_first : (k : List ℕ) (ks others : List (List ℕ)) → rises (commit_cmp commits) ks ≡ true → has_address ks k ≡ true → has_address others k ≡ true
      → ((x : List ℕ) → has_address ks x ≡ true → (k ≡ x) ⊎ (is_lt (commit_cmp commits k x) ≡ true)) → first_in ks others ≡ Some k
  found_first k [] others rise here there least = absurd cc
  found_first k (y ∷ ys) others rise here there least =
      let taken : k ≡ y → first_in (y ∷ ys) others ≡ Some k = λ same.
      first_by (has_address others y) true y (first_in ys others) (ap (has_address others) (sym same) ∙ there) ∙ ap Some (sym same) in
      elim (least y (or_left _ _ (itself y))) [
        | inl same ↦ taken same
        | inr later ↦ elim (either (bytes_eq k y) (has_address ys k) here) [
          | inl same ↦ taken (same_address k y same)
          | inr behind ↦ true_false (is_lt (commit_cmp commits k y)) later (not_before commits y k (before_all commits y ys k rise behind))
        ]
      ]

  meet : (r s : Rank) (rs ss : List Rank) → rank_cmp r s ≡ Equal → Meets commits a b (r ∷ rs) (s ∷ ss) → base commits a b ≡ Some (address_in r)
  meet r s rs ss e meets =
      let same = alike commits (address_in r) (address_in s) (firsts r s rs ss Equal meets.ours_are meets.theirs_are e) in
      let there = ap (has_address (left commits (s ∷ ss))) same ∙ at_first s ss meets.theirs_are in
      sym meets.same
      ∙ found_first (address_in r) (left commits (r ∷ rs)) (left commits (s ∷ ss)) (left_rises laws commits grown (r ∷ rs)) (at_first r rs meets.ours_are) there
      (λ x h. first_or_later laws commits grown r rs x meets.ours_are h)

  -- ---- the same, of walks whose firsts are known

  pub goes_ours : (ours theirs new : List Rank) (r s : Rank) (found : Option Address) → Some r ≡ slice_get ours 0 → Some s ≡ slice_get theirs 0 → rank_cmp r s ≡ Less
      → Meets commits a b ours theirs → Steps commits ours new found → Meets commits a b new theirs × (weight_of new < weight_of ours)
  goes_ours ours theirs new r s found first second e meets steps =
      let one = first_of ours r first in
      let two = first_of theirs s second in
      let together : Meets commits a b (r ∷ one.0) (s ∷ two.0) =
      subst (λ (w : List Rank). Meets commits a b (r ∷ one.0) w) two.1 (subst (λ (w : List Rank). Meets commits a b w theirs) one.1 meets) in
      let done = step_ours r s one.0 two.0 new found e together (subst (λ (w : List Rank). Steps commits w new found) one.1 steps) in (
        subst (λ (w : List Rank). Meets commits a b new w) (sym two.1) done.0,
        subst (λ (w : List Rank). weight_of new < weight_of w) (sym one.1) done.1,
      )

  pub goes_theirs : (ours theirs new : List Rank) (r s : Rank) (found : Option Address) → Some r ≡ slice_get ours 0 → Some s ≡ slice_get theirs 0 → rank_cmp r s ≡ Greater
      → Meets commits a b ours theirs → Steps commits theirs new found → Meets commits a b ours new × (weight_of new < weight_of theirs)
  goes_theirs ours theirs new r s found first second e meets steps =
      let one = first_of ours r first in
      let two = first_of theirs s second in
      let together : Meets commits a b (r ∷ one.0) (s ∷ two.0) =
      subst (λ (w : List Rank). Meets commits a b (r ∷ one.0) w) two.1 (subst (λ (w : List Rank). Meets commits a b w theirs) one.1 meets) in
      let done = step_theirs r s one.0 two.0 new found e together (subst (λ (w : List Rank). Steps commits w new found) two.1 steps) in (
        subst (λ (w : List Rank). Meets commits a b w new) (sym one.1) done.0,
        subst (λ (w : List Rank). weight_of new < weight_of w) (sym two.1) done.1,
      )

  pub meet_at : (ours theirs : List Rank) (r s : Rank) → Some r ≡ slice_get ours 0 → Some s ≡ slice_get theirs 0 → rank_cmp r s ≡ Equal
      → Meets commits a b ours theirs → base commits a b ≡ Some (address_in r)
  meet_at ours theirs r s first second e meets =
      let one = first_of ours r first in
      let two = first_of theirs s second in
      meet r s one.0 two.0 e (subst (λ (w : List Rank). Meets commits a b (r ∷ one.0) w) two.1 (subst (λ (w : List Rank). Meets commits a b w theirs) one.1 meets))

  pub ours_end : (ours theirs : List Rank) → None ≡ slice_get ours 0 → HasCommon commits a b → Meets commits a b ours theirs → ⊥
  ours_end ours theirs e common meets = ours_left theirs common (subst (λ (w : List Rank). Meets commits a b w theirs) (none_of ours e) meets)

  pub theirs_end : (ours theirs : List Rank) → None ≡ slice_get theirs 0 → HasCommon commits a b → Meets commits a b ours theirs → ⊥
  theirs_end ours theirs e common meets = theirs_left ours common (subst (λ (w : List Rank). Meets commits a b ours w) (none_of theirs e) meets)
