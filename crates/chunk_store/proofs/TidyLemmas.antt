-- A store whose last segments are joined has few.
use Rattle.std.proofs.Common.{◌≡◌, ℕ, zero, suc, ◌+◌, ◌*◌, ◌^◌, ◌-◌, ◌<◌, ◌≤◌, nat_lt, Bool, true, false, cond, List, [], ◌∷◌, ◌++◌, length, take, drop, sym, refl, ap, ◌∙◌, subst, arith}
use Rattle.std.proofs.lemmas.List.{length-append}
use Rattle.std.proofs.lemmas.Bool.{ltb-false}
use Rattle.chunk_store.specs.Building.{gather}
use Rattle.chunk_store.specs.Chunks.{Chunk}
use Rattle.chunk_store.specs.Stores.{AreFew, AreSome, joined, joins, tidied}
use Rattle.chunk_store.proofs.BuildLemmas.{gather_size}
use Rattle.chunk_store.proofs.FewLemmas.{twice}
use Rattle.chunk_store.proofs.JoinLemmas.{gather_some}

-- no more segments are joined than there are
joins_case : (t : Bool) (s : List Chunk) (ss J : List (List Chunk)) → length J ≤ length ss → length (cond t (s ∷ ss) J) ≤ length (s ∷ ss)
joins_case true s ss J most = omega arith
joins_case false s ss J most = omega arith

joins_most : (segments : List (List Chunk)) → length (joins 0 segments) ≤ length segments
joins_most [] = omega arith
joins_most (s ∷ ss) = joins_case (nat_lt (length s) (2 * (0 + length (joined ss)))) s ss (joins 0 ss) (joins_most ss)

drop_most : (n : ℕ) (segments : List (List Chunk)) → length (drop n segments) ≤ length segments
drop_most zero segments = omega arith
drop_most (suc n) [] = omega arith
drop_most (suc n) (s ∷ ss) = let later = drop_most n ss in omega arith

-- the test without the new chunks, of which there are none
joins_is : (s : List Chunk) (ss : List (List Chunk)) → joins 0 (s ∷ ss) ≡ cond (nat_lt (length s) (2 * length (joined ss))) (s ∷ ss) (joins 0 ss)
joins_is s ss =
    let same : 2 * (0 + length (joined ss)) ≡ 2 * length (joined ss) = omega arith in
    ap (λ (n : ℕ). cond (nat_lt (length s) n) (s ∷ ss) (joins 0 ss)) same

here_case : (t : Bool) (s : List Chunk) (ss J : List (List Chunk)) → s ∷ ss ≡ cond t (s ∷ ss) J → length J ≤ length ss
    → ◌≡◌ {A = List (List Chunk)} (gather [] (s ++ joined ss) ∷ []) (cond t (gather [] (s ++ joined ss) ∷ []) (s ∷ tidied ss))
here_case true s ss J is most = refl
here_case false s ss J is most =
    let count : length (s ∷ ss) ≡ length J = ap length is in
    absurd (omega arith)

later_case : (t : Bool) (s : List Chunk) (ss J D T : List (List Chunk)) → D ≡ cond t (s ∷ ss) J → length D ≤ length ss → (D ≡ J → T ≡ tidied ss)
    → s ∷ T ≡ cond t (gather [] (s ++ joined ss) ∷ []) (s ∷ tidied ss)
later_case true s ss J D T is most same =
    let count : length D ≡ length (s ∷ ss) = ap length is in
    absurd (omega arith)
later_case false s ss J D T is most same = ap (λ (l : List (List Chunk)). s ∷ l) (same is)

-- the last segments as one
pub tidied_is : (n : ℕ) (segments : List (List Chunk)) → drop n segments ≡ joins 0 segments → n < length segments
    → take n segments ++ gather [] (joined (drop n segments)) ∷ [] ≡ tidied segments
tidied_is n [] is within = absurd (omega arith)
tidied_is zero (s ∷ ss) is within = here_case (nat_lt (length s) (2 * length (joined ss))) s ss (joins 0 ss) (is ∙ joins_is s ss) (joins_most ss)
tidied_is (suc n) (s ∷ ss) is within =
    later_case (nat_lt (length s) (2 * length (joined ss))) s ss (joins 0 ss) (drop n ss) (take n ss ++ gather [] (joined (drop n ss)) ∷ []) (is ∙ joins_is s ss)
    (drop_most n ss)
    (λ same. tidied_is n ss same (omega arith))

none_case : (t : Bool) (s : List Chunk) (ss J : List (List Chunk)) → cond t (s ∷ ss) J ≡ [] → (J ≡ [] → tidied ss ≡ ss)
    → cond t (gather [] (s ++ joined ss) ∷ []) (s ∷ tidied ss) ≡ s ∷ ss
none_case true s ss J is same = cc
none_case false s ss J is same = ap (λ (l : List (List Chunk)). s ∷ l) (same is)

-- where no segment is joined all stay
none_joined : (segments : List (List Chunk)) → joins 0 segments ≡ [] → tidied segments ≡ segments
none_joined [] is = refl
none_joined (s ∷ ss) is = none_case (nat_lt (length s) (2 * length (joined ss))) s ss (joins 0 ss) (sym (joins_is s ss) ∙ is) (none_joined ss)

drop_all : (n : ℕ) (segments : List (List Chunk)) → length segments ≤ n → drop n segments ≡ []
drop_all zero [] most = refl
drop_all zero (s ∷ ss) most = absurd (omega arith)
drop_all (suc n) [] most = refl
drop_all (suc n) (s ∷ ss) most = drop_all n ss (omega arith)

pub tidied_none : (n : ℕ) (segments : List (List Chunk)) → drop n segments ≡ joins 0 segments → length segments ≤ n → segments ≡ tidied segments
tidied_none n segments is most = sym (none_joined segments (sym is ∙ drop_all n segments most))

-- how many chunks the joined segments have
size_case : (t : Bool) (s : List Chunk) (ss : List (List Chunk)) → length (joined (tidied ss)) ≤ length (joined ss)
    → length (joined (cond t (gather [] (s ++ joined ss) ∷ []) (s ∷ tidied ss))) ≤ length (s ++ joined ss)
size_case true s ss later =
    let size = gather_size [] (s ++ joined ss) in
    let whole = length-append (gather [] (s ++ joined ss)) [] in
    omega arith
size_case false s ss later =
    let old = length-append s (joined ss) in
    let new = length-append s (joined (tidied ss)) in
    omega arith

tidied_size : (segments : List (List Chunk)) → length (joined (tidied segments)) ≤ length (joined segments)
tidied_size [] = omega arith
tidied_size (s ∷ ss) = size_case (nat_lt (length s) (2 * length (joined ss))) s ss (tidied_size ss)

kept_few : (s : List Chunk) (T : List (List Chunk)) → 0 < length s → 2 * length (joined T) ≤ length s → AreFew T → AreFew (s ∷ T)
kept_few s [] some big few any =
    let longer = length-append s [] in
    omega arith
kept_few s (x ∷ T) some big few any =
    let before : length (x ∷ T) - 1 ≡ length T = omega arith in
    let P : ℕ → Type 0 = λ n. 2 ^ n ≤ length (joined (x ∷ T)) in
    let rest : 2 ^ length T ≤ length (joined (x ∷ T)) = subst P before (few (omega arith)) in
    let longer = length-append s (joined (x ∷ T)) in
    let places : length (s ∷ x ∷ T) - 1 ≡ length T + 1 = omega arith in
    let two = twice (length T) (length (s ∷ x ∷ T) - 1) places in
    omega arith

few_case : (t : Bool) (s : List Chunk) (ss : List (List Chunk)) → t ≡ nat_lt (length s) (2 * length (joined ss)) → 0 < length s → AreFew (tidied ss)
    → AreFew (cond t (gather [] (s ++ joined ss) ∷ []) (s ∷ tidied ss))
few_case true s ss is some later any =
    let here = gather_some s (joined ss) some in
    let whole = length-append (gather [] (s ++ joined ss)) [] in
    omega arith
few_case false s ss is some later any =
    let big = ltb-false (length s) (2 * length (joined ss)) (sym is) in
    let size = tidied_size ss in
    kept_few s (tidied ss) some (omega arith) later any

pub tidied_few : (segments : List (List Chunk)) → AreSome segments → AreFew (tidied segments)
tidied_few [] some any = absurd (omega arith)
tidied_few (s ∷ ss) some any = few_case (nat_lt (length s) (2 * length (joined ss))) s ss refl some.0 (tidied_few ss some.1) any
