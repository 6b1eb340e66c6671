-- Each kind of turn, by what comes first on both sides.
use Rattle.std.proofs.Common.{◌≡◌, ℕ, suc, Bool, true, false, cond, List, [], ◌∷◌, ◌++◌, drop, refl, sym, ap, ◌∙◌, subst, append-nil, arith}
use Rattle.std.specs.Str.{bytes_eq}
use Rattle.std.specs.Ordering.{nat_cmp}
use Rattle.std.specs.declared.cmp.Ordering.{Ordering}
use Rattle.std.specs.declared.cmp.Ordering.TheVariants.{Less, Equal, Greater}
use Rattle.std.proofs.lemmas.Cmp.{nat_cmp_total, nat_list_cmp_total, tied_itself}
use Rattle.std.proofs.lemmas.Slice.Eq.{bytes_eq-Decides}
use Rattle.tuple_codec.specs.Nodes.{Item}
use Rattle.tuple_codec.specs.Edits.{added, changed, order, removed, replaced}
use Rattle.prolly_tree.specs.Found.{Nodes, each_of, items_of, rows_at}
use Rattle.prolly_tree.specs.Heads.{item_of, level_of}
use Rattle.prolly_tree.specs.declared.steps.WalkHead.{WalkHead}
use Rattle.prolly_tree.specs.Fronts.{Front, nodes_of, rows_ahead, rows_of}
use Rattle.pair_walk.specs.Counts.{counted}
use Rattle.pair_walk.specs.Heads.{IsFirst, descended, skipped}
use Rattle.pair_walk.specs.Pairs.{AreAligned, differing, pair_sum}
use Rattle.pair_walk.specs.Turns.{Compared, IsTurn}
use Rattle.pair_walk.proofs.ChangeLaws.{changed_added, changed_kept, changed_removed, changed_replaced, common_prefix}
use Rattle.pair_walk.proofs.TurnLemmas.{turn_added, turn_new_opened, turn_old_opened, turn_passed, turn_removed}

heads_alike : (nodes : Nodes) (front others : Front) (m n : ℕ) (item other : Item) → front ≡ (m, item) ∷ drop 1 front → others ≡ (n, other) ∷ drop 1 others
    → AreAligned nodes front others → AreAligned nodes ((m, item) ∷ drop 1 front) ((n, other) ∷ drop 1 others)
heads_alike nodes front others m n item other first second a =
    subst (AreAligned nodes ((m, item) ∷ drop 1 front)) second (subst (λ (f : Front). AreAligned nodes f others) first a)

unlike_rows : (nodes : Nodes) (front others : Front) (row other : Item) → front ≡ (0, row) ∷ drop 1 front → others ≡ (0, other) ∷ drop 1 others
    → (order other.key row.key ≡ Equal → ⊥) → AreAligned nodes front others → ⊥
unlike_rows nodes front others row other first second apart a =
    let b = heads_alike nodes front others 0 0 row other first second a in
    apart (ap (λ (k : List ℕ). order k row.key) (sym b.1) ∙ tied_itself nat_list_cmp_total row.key)

unlike_levels : (nodes : Nodes) (front others : Front) (m n : ℕ) (item other : Item) → front ≡ (m, item) ∷ drop 1 front → others ≡ (n, other) ∷ drop 1 others
    → (m ≡ n → ⊥) → AreAligned nodes front others → ⊥
unlike_levels nodes front others m n item other first second apart a = apart (heads_alike nodes front others m n item other first second a).0

old_over : (nodes : Nodes) (front others more : Front) (p : ℕ × Item) → front ≡ [] → others ≡ p ∷ more → AreAligned nodes front others → ⊥
old_over nodes front others more p over first a = subst (AreAligned nodes []) first (subst (λ (f : Front). AreAligned nodes f others) over a)

new_over : (nodes : Nodes) (front others more : Front) (p : ℕ × Item) → front ≡ p ∷ more → others ≡ [] → AreAligned nodes front others → ⊥
new_over nodes front others more p first over a = subst (AreAligned nodes (p ∷ more)) over (subst (λ (f : Front). AreAligned nodes f others) first a)

less_apart : (o : Ordering) → o ≡ Less → o ≡ Equal → ⊥
less_apart o e f = cc

greater_apart : (o : Ordering) → o ≡ Greater → o ≡ Equal → ⊥
greater_apart o e f = cc

-- a row of the new tree alone
pub arm_added : (c : Compared) (row other : Item) → c.old_walk.front ≡ (0, row) ∷ drop 1 c.old_walk.front → c.new_walk.front ≡ (0, other) ∷ drop 1 c.new_walk.front
    → order other.key row.key ≡ Less → IsTurn c (record { old_walk = c.old_walk; new_walk = skipped c.new_walk; found = c.found ++ added other ∷ []; reads = c.reads })
arm_added c row other first second less =
    let rest = rows_of (skipped c.old_walk) in
    let more = rows_of (skipped c.new_walk) in
    let rows : rows_of c.old_walk ≡ row ∷ rest = ap (rows_ahead (nodes_of c.old_walk.parts)) first in
    turn_added c other second
    (ap (λ (l : List Item). changed l (other ∷ more)) rows ∙ changed_added row other rest more less ∙ ap (λ (l : List Item). added other ∷ changed l more) (sym rows))
    (unlike_rows (nodes_of c.old_walk.parts) c.old_walk.front c.new_walk.front row other first second (less_apart (order other.key row.key) less))

pub arm_added_last : (c : Compared) (other : Item) → c.old_walk.front ≡ [] → c.new_walk.front ≡ (0, other) ∷ drop 1 c.new_walk.front
    → IsTurn c (record { old_walk = c.old_walk; new_walk = skipped c.new_walk; found = c.found ++ added other ∷ []; reads = c.reads })
arm_added_last c other over second =
    let more = rows_of (skipped c.new_walk) in
    let rows : rows_of c.old_walk ≡ [] = ap (rows_ahead (nodes_of c.old_walk.parts)) over in
    turn_added c other second
    (ap (λ (l : List Item). changed l (other ∷ more)) rows ∙ ap (λ (l : List Item). added other ∷ changed l more) (sym rows))
    (old_over (nodes_of c.old_walk.parts) c.old_walk.front c.new_walk.front (drop 1 c.new_walk.front) (0, other) over second)

-- a row of the old tree alone
pub arm_removed : (c : Compared) (row other : Item) → c.old_walk.front ≡ (0, row) ∷ drop 1 c.old_walk.front → c.new_walk.front ≡ (0, other) ∷ drop 1 c.new_walk.front
    → order other.key row.key ≡ Greater → IsTurn c (record { old_walk = skipped c.old_walk; new_walk = c.new_walk; found = c.found ++ removed row ∷ []; reads = c.reads })
arm_removed c row other first second greater =
    let rest = rows_of (skipped c.old_walk) in
    let more = rows_of (skipped c.new_walk) in
    let others : rows_of c.new_walk ≡ other ∷ more = ap (rows_ahead (nodes_of c.new_walk.parts)) second in
    turn_removed c row first
    (ap (changed (row ∷ rest)) others ∙ changed_removed row other rest more greater ∙ ap (λ (l : List Item). removed row ∷ changed rest l) (sym others))
    (unlike_rows (nodes_of c.old_walk.parts) c.old_walk.front c.new_walk.front row other first second (greater_apart (order other.key row.key) greater))

pub arm_removed_last : (c : Compared) (row : Item) → c.old_walk.front ≡ (0, row) ∷ drop 1 c.old_walk.front → c.new_walk.front ≡ []
    → IsTurn c (record { old_walk = skipped c.old_walk; new_walk = c.new_walk; found = c.found ++ removed row ∷ []; reads = c.reads })
arm_removed_last c row first over =
    let rest = rows_of (skipped c.old_walk) in
    let others : rows_of c.new_walk ≡ [] = ap (rows_ahead (nodes_of c.new_walk.parts)) over in
    turn_removed c row first
    (ap (changed (row ∷ rest)) others ∙ ap (λ (l : List Item). removed row ∷ changed rest l) (sym others))
    (new_over (nodes_of c.old_walk.parts) c.old_walk.front c.new_walk.front (drop 1 c.old_walk.front) (0, row) first over)

first_rows : (c : Compared) (row other : Item) → c.old_walk.front ≡ (0, row) ∷ drop 1 c.old_walk.front → c.new_walk.front ≡ (0, other) ∷ drop 1 c.new_walk.front
    → changed (rows_of c.old_walk) (rows_of c.new_walk) ≡ changed (row ∷ rows_of (skipped c.old_walk)) (other ∷ rows_of (skipped c.new_walk))
first_rows c row other first second =
    ap (λ (l : List Item). changed l (rows_of c.new_walk)) (ap (rows_ahead (nodes_of c.old_walk.parts)) first)
    ∙ ap (changed (row ∷ rows_of (skipped c.old_walk))) (ap (rows_ahead (nodes_of c.new_walk.parts)) second)

-- rows of one key
pub arm_kept : (c : Compared) (row other : Item) → c.new_walk.parts ≡ c.old_walk.parts → c.old_walk.front ≡ (0, row) ∷ drop 1 c.old_walk.front
    → c.new_walk.front ≡ (0, other) ∷ drop 1 c.new_walk.front → order other.key row.key ≡ Equal → bytes_eq other.body row.body ≡ true
    → IsTurn c (record { old_walk = skipped c.old_walk; new_walk = skipped c.new_walk; found = c.found; reads = c.reads })
arm_kept c row other parts first second tied same =
    turn_passed c 0 row other [] c.found parts first second
    (first_rows c row other first second ∙ changed_kept row other (rows_of (skipped c.old_walk)) (rows_of (skipped c.new_walk)) tied same)
    (sym (append-nil c.found)) refl

pub arm_replaced : (c : Compared) (row other : Item) → c.new_walk.parts ≡ c.old_walk.parts → c.old_walk.front ≡ (0, row) ∷ drop 1 c.old_walk.front
    → c.new_walk.front ≡ (0, other) ∷ drop 1 c.new_walk.front → order other.key row.key ≡ Equal → bytes_eq other.body row.body ≡ false
    → IsTurn c (record { old_walk = skipped c.old_walk; new_walk = skipped c.new_walk; found = c.found ++ replaced row other ∷ []; reads = c.reads })
arm_replaced c row other parts first second tied apart =
    turn_passed c 0 row other (replaced row other ∷ []) (c.found ++ replaced row other ∷ []) parts first second
    (first_rows c row other first second ∙ changed_replaced row other (rows_of (skipped c.old_walk)) (rows_of (skipped c.new_walk)) tied apart)
    refl refl

-- nodes of one address
pub arm_shared : (c : Compared) (level : ℕ) (item other : Item) → c.new_walk.parts ≡ c.old_walk.parts → c.old_walk.front ≡ (suc level, item) ∷ drop 1 c.old_walk.front
    → c.new_walk.front ≡ (suc level, other) ∷ drop 1 c.new_walk.front → item.body ≡ other.body
    → IsTurn c (record { old_walk = skipped c.old_walk; new_walk = skipped c.new_walk; found = c.found; reads = c.reads })
arm_shared c level item other parts first second same =
    let nodes = nodes_of c.old_walk.parts in
    let below = rows_at nodes (suc level) item in
    let rest = rows_of (skipped c.old_walk) in
    let more = rows_of (skipped c.new_walk) in
    let rows : rows_of c.old_walk ≡ below ++ rest = ap (rows_ahead nodes) first in
    let shared : rows_at (nodes_of c.new_walk.parts) (suc level) other ≡ below =
    ap (λ (n : Nodes). rows_at n (suc level) other) (ap nodes_of parts) ∙ ap (λ (a : List ℕ). each_of (rows_at nodes level) (items_of (nodes level a))) (sym same) in
    let others : rows_of c.new_walk ≡ below ++ more = ap (rows_ahead (nodes_of c.new_walk.parts)) second ∙ ap (λ (l : List Item). l ++ more) shared in
    turn_passed c (suc level) item other [] c.found parts first second
    (ap (λ (l : List Item). changed l (rows_of c.new_walk)) rows ∙ ap (changed (below ++ rest)) others ∙ common_prefix below rest more)
    (sym (append-nil c.found))
    (ap (λ (b : Bool). cond b 0 (suc (pair_sum (differing nodes level) (items_of (nodes level item.body)) (items_of (nodes level other.body))))) ((bytes_eq-Decides item.body other.body).1 same))

-- a node on one side alone, or above what is on the other
pub arm_old_last : (c : Compared) (level : ℕ) (item : Item) → c.old_walk.front ≡ (suc level, item) ∷ drop 1 c.old_walk.front → c.new_walk.front ≡ []
    → IsTurn c (record { old_walk = descended c.old_walk; new_walk = c.new_walk; found = c.found; reads = counted c.reads 1 })
arm_old_last c level item first over =
    turn_old_opened c level item first (new_over (nodes_of c.old_walk.parts) c.old_walk.front c.new_walk.front (drop 1 c.old_walk.front) (suc level, item) first over)

pub arm_old_higher : (c : Compared) (level n : ℕ) (item other : Item) → c.old_walk.front ≡ (suc level, item) ∷ drop 1 c.old_walk.front
    → c.new_walk.front ≡ (n, other) ∷ drop 1 c.new_walk.front → (suc level ≡ n → ⊥)
    → IsTurn c (record { old_walk = descended c.old_walk; new_walk = c.new_walk; found = c.found; reads = counted c.reads 1 })
arm_old_higher c level n item other first second apart =
    turn_old_opened c level item first (unlike_levels (nodes_of c.old_walk.parts) c.old_walk.front c.new_walk.front (suc level) n item other first second apart)

pub arm_new_last : (c : Compared) (level : ℕ) (item : Item) → c.old_walk.front ≡ [] → c.new_walk.front ≡ (suc level, item) ∷ drop 1 c.new_walk.front
    → IsTurn c (record { old_walk = c.old_walk; new_walk = descended c.new_walk; found = c.found; reads = counted c.reads 1 })
arm_new_last c level item over second =
    turn_new_opened c level item second (old_over (nodes_of c.old_walk.parts) c.old_walk.front c.new_walk.front (drop 1 c.new_walk.front) (suc level, item) over second)

pub arm_new_higher : (c : Compared) (m level : ℕ) (item other : Item) → c.old_walk.front ≡ (m, item) ∷ drop 1 c.old_walk.front
    → c.new_walk.front ≡ (suc level, other) ∷ drop 1 c.new_walk.front → (m ≡ suc level → ⊥)
    → IsTurn c (record { old_walk = c.old_walk; new_walk = descended c.new_walk; found = c.found; reads = counted c.reads 1 })
arm_new_higher c m level item other first second apart =
    turn_new_opened c level other second (unlike_levels (nodes_of c.old_walk.parts) c.old_walk.front c.new_walk.front m (suc level) item other first second apart)

-- the same, by the heads themselves
first_at : (front : Front) (head : WalkHead) (n : ℕ) → IsFirst front head → level_of head ≡ n → front ≡ (n, item_of head) ∷ drop 1 front
first_at front head n first level = subst (λ (m : ℕ). front ≡ (m, item_of head) ∷ drop 1 front) level first

pub head_old_last : (c : Compared) (level : ℕ) (head : WalkHead) → IsFirst c.old_walk.front head → level_of head ≡ suc level → c.new_walk.front ≡ []
    → IsTurn c (record { old_walk = descended c.old_walk; new_walk = c.new_walk; found = c.found; reads = counted c.reads 1 })
head_old_last c level head first is over = arm_old_last c level (item_of head) (first_at c.old_walk.front head (suc level) first is) over

pub head_new_last : (c : Compared) (level : ℕ) (head : WalkHead) → c.old_walk.front ≡ [] → IsFirst c.new_walk.front head → level_of head ≡ suc level
    → IsTurn c (record { old_walk = c.old_walk; new_walk = descended c.new_walk; found = c.found; reads = counted c.reads 1 })
head_new_last c level head over second is = arm_new_last c level (item_of head) over (first_at c.new_walk.front head (suc level) second is)

row_below : (level : ℕ) → 0 ≡ suc level → ⊥
row_below level e = omega (arith, e)

row_above : (level : ℕ) → suc level ≡ 0 → ⊥
row_above level e = omega (arith, e)

pub head_old_higher : (c : Compared) (level : ℕ) (head other : WalkHead) → IsFirst c.old_walk.front head → IsFirst c.new_walk.front other → level_of head ≡ suc level → level_of other ≡ 0
    → IsTurn c (record { old_walk = descended c.old_walk; new_walk = c.new_walk; found = c.found; reads = counted c.reads 1 })
head_old_higher c level head other first second is row =
    arm_old_higher c level 0 (item_of head) (item_of other) (first_at c.old_walk.front head (suc level) first is) (first_at c.new_walk.front other 0 second row) (row_above level)

pub head_new_higher : (c : Compared) (level : ℕ) (head other : WalkHead) → IsFirst c.old_walk.front head → IsFirst c.new_walk.front other → level_of head ≡ 0 → level_of other ≡ suc level
    → IsTurn c (record { old_walk = c.old_walk; new_walk = descended c.new_walk; found = c.found; reads = counted c.reads 1 })
head_new_higher c level head other first second row is =
    arm_new_higher c 0 level (item_of head) (item_of other) (first_at c.old_walk.front head 0 first row) (first_at c.new_walk.front other (suc level) second is) (row_below level)

-- levels that are not the same
pub lower_apart : (a b : ℕ) → Less ≡ nat_cmp a b → suc a ≡ suc b → ⊥
lower_apart a b lower e =
    let same : a ≡ b = omega (arith, e) in
    less_apart (nat_cmp a b) (sym lower) (ap (λ (n : ℕ). nat_cmp n b) same ∙ tied_itself nat_cmp_total b)

pub higher_apart : (a b : ℕ) → Greater ≡ nat_cmp a b → suc a ≡ suc b → ⊥
higher_apart a b higher e =
    let same : a ≡ b = omega (arith, e) in
    greater_apart (nat_cmp a b) (sym higher) (ap (λ (n : ℕ). nat_cmp n b) same ∙ tied_itself nat_cmp_total b)
