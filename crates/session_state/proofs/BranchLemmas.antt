-- A branch's state replaced in a list of branches whose names rise, and what stands for them, line by line.
use Rattle.std.proofs.Common.{◌≡◌, refl, ◌∙◌, sym, ap, ℕ, Bool, true, false, cond, not, List, [], ◌∷◌, map, fold, find, Some, option_map, is_some}
use Rattle.std.specs.Prelude.{bytes_eq}
use Rattle.std.specs.List.{AllByRecursion}
use Rattle.std.specs.Ordering.{nat_cmp, is_lt, is_eq}
use Rattle.std.specs.declared.cmp.Ordering.{Ordering}
use Rattle.std.specs.declared.cmp.Ordering.TheVariants.{Less, Equal, Greater}
use Rattle.std.specs.Cmp.Lexicographic.{slice_cmp, bytes_decides}
use Rattle.std.proofs.lemmas.Cmp.{nat_list_cmp_total}
use Rattle.std.proofs.lemmas.Map.Text.{is_eq-slice_cmp}
use Rattle.tuple_codec.proofs.Orderings.{less_is}
use Rattle.schema_model.specs.PlainTables.{rises}
use Rattle.plain_sql.specs.Lists.{in_order, placed}
use Rattle.plain_writes.proofs.InsertionLemmas.{two, clash, left_so, right_so, placed_stop, placed_past}
use Rattle.plain_sessions.specs.Records.{Branch, BranchState, branch_cmp, is_branch, state_of, with_branch, without_branch}

-- ---- names that rise

abbrev before : Branch → Branch → Bool
before a b = is_lt (branch_cmp a b)

before_again : (x y z : Branch) → before x y ≡ true → before y z ≡ true → before x z ≡ true
before_again x y z first second =
    ap is_lt (nat_list_cmp_total.trans x.name y.name z.name (less_is (branch_cmp x y) first) (less_is (branch_cmp y z) second))

not_back : (x y : Branch) → before x y ≡ true → before y x ≡ false
not_back x y less = two (before y x)
    (λ e. clash (before_again x y x less e) (same (branch_cmp x x) (is_eq-slice_cmp x.name x.name ∙ (bytes_decides x.name x.name).1 refl)))
    (λ e. e)
  where
    same : (o : Ordering) → is_eq o ≡ true → is_lt o ≡ false
    same Less e = cc
    same Equal e = refl
    same Greater e = refl

-- the names are two
apart : (x y : Branch) → before x y ≡ true → bytes_eq x.name y.name ≡ false
apart x y less = sym (is_eq-slice_cmp x.name y.name) ∙ ap is_eq (less_is (branch_cmp x y) less)

abbrev Rise : List Branch → Type 0
Rise branches = rises branch_cmp branches ≡ true

-- all of the list come after
abbrev Below : Branch → List Branch → Type 0
Below x branches = AllByRecursion (λ y. before x y ≡ true) branches

below_by : (x y : Branch) (branches : List Branch) → before x y ≡ true → Below y branches → Below x branches
below_by x y [] less below = tt
below_by x y (z ∷ branches) less below = (before_again x y z less below.0, below_by x y branches less below.1)

below_all : (x : Branch) (branches : List Branch) → Rise (x ∷ branches) → Below x branches
below_all x [] rise = tt
below_all x (y ∷ branches) rise =
    let less = left_so (before x y) (rises branch_cmp (y ∷ branches)) rise in
    (less, below_by x y branches less (below_all y branches (right_so (before x y) (rises branch_cmp (y ∷ branches)) rise)))

rest_rises : (x : Branch) (branches : List Branch) → Rise (x ∷ branches) → Rise branches
rest_rises x [] rise = refl
rest_rises x (y ∷ branches) rise = right_so (before x y) (rises branch_cmp (y ∷ branches)) rise

-- ---- one branch replaced

abbrev pub replacing : List ℕ → BranchState → Branch → Branch
replacing name state branch = cond (bytes_eq branch.name name) (record { name = name; state = state }) branch

abbrev pub replaced : List ℕ → BranchState → List Branch → List Branch
replaced name state branches = map (replacing name state) branches

fold_past : (x : Branch) (done branches : List Branch) → Below x branches → fold (placed branch_cmp) (x ∷ done) branches ≡ x ∷ fold (placed branch_cmp) done branches
fold_past x done [] below = refl
fold_past x done (y ∷ branches) below =
    ap (λ l. fold (placed branch_cmp) l branches) (placed_past branch_cmp y x done (not_back x y below.0)) ∙ fold_past x (placed branch_cmp done y) branches below.1

in_place : (branches : List Branch) → Rise branches → in_order branch_cmp branches ≡ branches
in_place [] rise = refl
in_place (x ∷ branches) rise = fold_past x [] branches (below_all x branches rise) ∙ ap (λ l. x ∷ l) (in_place branches (rest_rises x branches rise))

below_without : (x : Branch) (name : List ℕ) (branches : List Branch) → Below x branches → Below x (without_branch name branches)
below_without x name [] below = tt
below_without x name (y ∷ branches) below = by (bytes_eq y.name name) (below_without x name branches below.1) where
  by : (t : Bool) → Below x (without_branch name branches) → Below x (cond (not t) (y ∷ without_branch name branches) (without_branch name branches))
  by true rest = rest
  by false rest = (below.0, rest)

same_below : (x y : Branch) (branches : List Branch) → x.name ≡ y.name → Below x branches → Below y branches
same_below x y [] is below = tt
same_below x y (z ∷ branches) is below = (ap (λ n. is_lt (slice_cmp nat_cmp n z.name)) (sym is) ∙ below.0, same_below x y branches is below.1)

-- none has this name
others_stay : (name : List ℕ) (state : BranchState) (x : Branch) (branches : List Branch) → x.name ≡ name → Below x branches
    → (without_branch name branches ≡ branches) × (replaced name state branches ≡ branches)
others_stay name state x [] is below = (refl, refl)
others_stay name state x (y ∷ branches) is below =
    let other : bytes_eq y.name name ≡ false = two (bytes_eq y.name name)
    (λ e. clash ((bytes_decides x.name y.name).1 (is ∙ sym ((bytes_decides y.name name).0 e))) (apart x y below.0)) (λ e. e) in
    let rest = others_stay name state x branches is below.1 in (
      ap (λ b. cond (not b) (y ∷ without_branch name branches) (without_branch name branches)) other ∙ ap (λ l. y ∷ l) rest.0,
      ap (λ b. cond b (record { name = name; state = state }) y ∷ replaced name state branches) other ∙ ap (λ l. y ∷ l) rest.1,
    )

before_named : (x : Branch) (name : List ℕ) (state : BranchState) (branches : List Branch) → Below x branches → is_some (find (is_branch name) branches) ≡ true
    → before x (record { name = name; state = state }) ≡ true
before_named x name state [] below found = cc
before_named x name state (y ∷ branches) below found = two (bytes_eq y.name name)
    (λ e. ap (λ n. is_lt (slice_cmp nat_cmp x.name n)) (sym ((bytes_decides y.name name).0 e)) ∙ below.0)
    (λ e. before_named x name state branches below.1 (sym (ap (λ b. is_some (cond b (Some y) (find (is_branch name) branches))) e) ∙ found))

-- the branch that is put in the place of one of its name
pub put_in_place : (name : List ℕ) (state : BranchState) (branches : List Branch) → Rise branches → is_some (find (is_branch name) branches) ≡ true
    → with_branch name state branches ≡ replaced name state branches
put_in_place name state [] rise found = cc
put_in_place name state (x ∷ branches) rise found = two (bytes_eq x.name name)
    (λ e.
    let is = (bytes_decides x.name name).0 e in
    let below = below_all x branches rise in
    let stay = others_stay name state x branches is below in
    let new : Branch = record { name = name; state = state } in
    ap (λ b. fold (placed branch_cmp) (new ∷ []) (cond (not b) (x ∷ without_branch name branches) (without_branch name branches))) e
    ∙ ap (fold (placed branch_cmp) (new ∷ [])) stay.0
    ∙ fold_past new [] branches (same_below x new branches is below)
    ∙ ap (λ l. new ∷ l) (in_place branches (rest_rises x branches rise) ∙ sym stay.1)
    ∙ ap (λ b. cond b new x ∷ replaced name state branches) (sym e))
    (λ e.
    let below = below_all x branches rise in
    let new : Branch = record { name = name; state = state } in
    let later = sym (ap (λ b. is_some (cond b (Some x) (find (is_branch name) branches))) e) ∙ found in
    ap (λ b. fold (placed branch_cmp) (new ∷ []) (cond (not b) (x ∷ without_branch name branches) (without_branch name branches))) e
    ∙ ap (λ l. fold (placed branch_cmp) l (without_branch name branches)) (placed_stop branch_cmp x new [] (before_named x name state branches below later))
    ∙ fold_past x (new ∷ []) (without_branch name branches) (below_without x name branches below)
    ∙ ap (λ l. x ∷ l) (put_in_place name state branches (rest_rises x branches rise) later)
    ∙ ap (λ b. cond b new x ∷ replaced name state branches) (sym e))

replacing_name : (name : List ℕ) (state : BranchState) (branch : Branch) → (replacing name state branch).name ≡ branch.name
replacing_name name state branch = by (bytes_eq branch.name name) refl where
  by : (t : Bool) → bytes_eq branch.name name ≡ t → (cond t (record { name = name; state = state }) branch).name ≡ branch.name
  by true e = sym ((bytes_decides branch.name name).0 e)
  by false e = refl

-- the same names are found
pub still_found : (name : List ℕ) (state : BranchState) (other : List ℕ) (branches : List Branch) → is_some (state_of (replaced name state branches) other) ≡ is_some (state_of branches other)
still_found name state other [] = refl
still_found name state other (x ∷ branches) =
    ap (λ n. is_some (option_map (λ (b : Branch). b.state) (cond (bytes_eq n other) (Some (replacing name state x)) (find (is_branch other) (replaced name state branches))))) (replacing_name name state x)
    ∙ by (bytes_eq x.name other) (still_found name state other branches) where
      by : (t : Bool) → is_some (state_of (replaced name state branches) other) ≡ is_some (state_of branches other)
          → is_some (option_map (λ (b : Branch). b.state) (cond t (Some (replacing name state x)) (find (is_branch other) (replaced name state branches))))
          ≡ is_some (option_map (λ (b : Branch). b.state) (cond t (Some x) (find (is_branch other) branches)))
      by true rest = refl
      by false rest = rest
