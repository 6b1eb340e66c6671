-- The turns of a comparison: what they leave comes to the same, and it is less.
use Rattle.std.proofs.Common.{◌≡◌, ◌<◌, ◌≤◌, ◌+◌, ◌-◌, ◌*◌, ◌^◌, ℕ, zero, suc, Bool, false, cond, List, [], ◌∷◌, ◌++◌, drop, refl, sym, ap, ◌∙◌, subst, append_assoc, arith}
use Rattle.std.specs.Str.{bytes_eq}
use Rattle.tuple_codec.specs.Nodes.{Item}
use Rattle.tuple_codec.specs.Edits.{added, changed, removed}
use Rattle.tuple_codec.specs.declared.edits.ItemChange.{ItemChange}
use Rattle.prolly_tree.specs.Found.{Nodes, items_of, rows_at}
use Rattle.prolly_tree.specs.Fronts.{Front, nodes_of, on_level, opened, rows_ahead, rows_of, sum_of, weight}
use Rattle.prolly_tree.proofs.FrontLemmas.{rows_on}
use Rattle.pair_walk.specs.Counts.{IsCount, counted}
use Rattle.pair_walk.specs.Heads.{descended, skipped}
use Rattle.pair_walk.specs.Pairs.{AllPairs, AreAligned, HaveSameKeys, differing, differing_ahead, pair_sum}
use Rattle.pair_walk.specs.Turns.{AreAlikeAhead, Compared, IsTurn, load, load_of}

load_append : (nodes : Nodes) (front more : Front) → load nodes (front ++ more) ≡ load nodes front + load nodes more
load_append nodes [] more = let e : load nodes more ≡ 0 + load nodes more = omega arith in e
load_append nodes (p ∷ front) more = let rest = load_append nodes front more in omega (arith, rest)

load_on : (nodes : Nodes) (level : ℕ) (items : List Item) → load nodes (on_level level items) ≡ sum_of (weight nodes level) items
load_on nodes level [] = refl
load_on nodes level (item ∷ items) = ap (λ (n : ℕ). weight nodes level item + n) (load_on nodes level items)

rows_append : (nodes : Nodes) (front more : Front) → rows_ahead nodes (front ++ more) ≡ rows_ahead nodes front ++ rows_ahead nodes more
rows_append nodes [] more = refl
rows_append nodes (p ∷ front) more =
    ap (λ (l : List Item). rows_at nodes p.0 p.1 ++ l) (rows_append nodes front more) ∙ sym (append_assoc (rows_at nodes p.0 p.1) (rows_ahead nodes front) (rows_ahead nodes more))

opened_rows : (nodes : Nodes) (level : ℕ) (item : Item) (front : Front) → rows_ahead nodes (opened nodes ((level, item) ∷ front)) ≡ rows_ahead nodes ((level, item) ∷ front)
opened_rows nodes zero item front = refl
opened_rows nodes (suc level) item front =
    let items = items_of (nodes level item.body) in
    rows_append nodes (on_level level items) front ∙ ap (λ (l : List Item). l ++ rows_ahead nodes front) (rows_on nodes level items)

-- what is opened leads to the same rows
pub open_rows : (nodes : Nodes) (front : Front) → rows_ahead nodes (opened nodes front) ≡ rows_ahead nodes front
open_rows nodes [] = refl
open_rows nodes (p ∷ front) = opened_rows nodes p.0 p.1 front

-- and has one item less
pub open_load : (nodes : Nodes) (front : Front) (level : ℕ) (item : Item) → front ≡ (suc level, item) ∷ drop 1 front
    → load nodes front ≡ suc (load nodes (opened nodes front))
open_load nodes front level item first =
    let items = items_of (nodes level item.body) in
    let after : load nodes (opened nodes front) ≡ load nodes (on_level level items ++ drop 1 front) = ap (λ (f : Front). load nodes (opened nodes f)) first in
    let before : load nodes front ≡ suc (sum_of (weight nodes level) items) + load nodes (drop 1 front) = ap (load nodes) first in
    let parts = load_append nodes (on_level level items) (drop 1 front) in
    let whole = load_on nodes level items in
    omega (arith, after, before, parts, whole)

more_counted : (reads : ℕ) → IsCount reads → (reads ≤ counted reads 1) × IsCount (counted reads 1)
more_counted reads count = (omega arith, omega arith)

none_counted : (reads : ℕ) → IsCount reads → (reads ≤ reads) × IsCount reads
none_counted reads count = (omega arith, count)

both_counted : (reads : ℕ) → IsCount reads → (reads ≤ counted (counted reads 1) 1) × IsCount (counted (counted reads 1) 1)
both_counted reads count = (omega arith, omega arith)

-- ---- turns on one side, where the sides aren't alike

pub turn_removed : (c : Compared) (row : Item) → c.old_walk.front ≡ (0, row) ∷ drop 1 c.old_walk.front
    → changed (row ∷ rows_of (skipped c.old_walk)) (rows_of c.new_walk) ≡ removed row ∷ changed (rows_of (skipped c.old_walk)) (rows_of c.new_walk)
    → (AreAlikeAhead c → ⊥)
    → IsTurn c (record { old_walk = skipped c.old_walk; new_walk = c.new_walk; found = c.found ++ removed row ∷ []; reads = c.reads })
turn_removed c row first step unlike =
    let nodes = nodes_of c.old_walk.parts in
    let rows : rows_of c.old_walk ≡ row ∷ rows_of (skipped c.old_walk) = ap (rows_ahead nodes) first in
    let weights : load_of c.old_walk ≡ 1 + load_of (skipped c.old_walk) = ap (load nodes) first in
    record {
      old_parts = refl;
      new_parts = refl;
      changes = append_assoc c.found (removed row ∷ []) (changed (rows_of (skipped c.old_walk)) (rows_of c.new_walk))
          ∙ ap (λ (l : List ItemChange). c.found ++ l) (sym (ap (λ (l : List Item). changed l (rows_of c.new_walk)) rows ∙ step));
      less = omega (arith, weights);
      alike = λ a. absurd (unlike a);
      reads = λ a. absurd (unlike a);
      rises = none_counted c.reads;
    }

pub turn_added : (c : Compared) (row : Item) → c.new_walk.front ≡ (0, row) ∷ drop 1 c.new_walk.front
    → changed (rows_of c.old_walk) (row ∷ rows_of (skipped c.new_walk)) ≡ added row ∷ changed (rows_of c.old_walk) (rows_of (skipped c.new_walk))
    → (AreAlikeAhead c → ⊥)
    → IsTurn c (record { old_walk = c.old_walk; new_walk = skipped c.new_walk; found = c.found ++ added row ∷ []; reads = c.reads })
turn_added c row first step unlike =
    let nodes = nodes_of c.new_walk.parts in
    let rows : rows_of c.new_walk ≡ row ∷ rows_of (skipped c.new_walk) = ap (rows_ahead nodes) first in
    let weights : load_of c.new_walk ≡ 1 + load_of (skipped c.new_walk) = ap (load nodes) first in
    record {
      old_parts = refl;
      new_parts = refl;
      changes = append_assoc c.found (added row ∷ []) (changed (rows_of c.old_walk) (rows_of (skipped c.new_walk)))
          ∙ ap (λ (l : List ItemChange). c.found ++ l) (sym (ap (changed (rows_of c.old_walk)) rows ∙ step));
      less = omega (arith, weights);
      alike = λ a. absurd (unlike a);
      reads = λ a. absurd (unlike a);
      rises = none_counted c.reads;
    }

pub turn_old_opened : (c : Compared) (level : ℕ) (item : Item) → c.old_walk.front ≡ (suc level, item) ∷ drop 1 c.old_walk.front → (AreAlikeAhead c → ⊥)
    → IsTurn c (record { old_walk = descended c.old_walk; new_walk = c.new_walk; found = c.found; reads = counted c.reads 1 })
turn_old_opened c level item first unlike =
    let nodes = nodes_of c.old_walk.parts in
    let weights = open_load nodes c.old_walk.front level item first in
    record {
      old_parts = refl;
      new_parts = refl;
      changes = ap (λ (l : List Item). c.found ++ changed l (rows_of c.new_walk)) (open_rows nodes c.old_walk.front);
      less = omega (arith, weights);
      alike = λ a. absurd (unlike a);
      reads = λ a. absurd (unlike a);
      rises = more_counted c.reads;
    }

pub turn_new_opened : (c : Compared) (level : ℕ) (item : Item) → c.new_walk.front ≡ (suc level, item) ∷ drop 1 c.new_walk.front → (AreAlikeAhead c → ⊥)
    → IsTurn c (record { old_walk = c.old_walk; new_walk = descended c.new_walk; found = c.found; reads = counted c.reads 1 })
turn_new_opened c level item first unlike =
    let nodes = nodes_of c.new_walk.parts in
    let weights = open_load nodes c.new_walk.front level item first in
    record {
      old_parts = refl;
      new_parts = refl;
      changes = ap (λ (l : List Item). c.found ++ changed (rows_of c.old_walk) l) (open_rows nodes c.new_walk.front);
      less = omega (arith, weights);
      alike = λ a. absurd (unlike a);
      reads = λ a. absurd (unlike a);
      rises = more_counted c.reads;
    }

-- ---- turns on both sides

aligned_rest : (nodes : Nodes) (front others : Front) → AreAligned nodes front others → AreAligned nodes (drop 1 front) (drop 1 others)
aligned_rest nodes [] [] a = tt
aligned_rest nodes [] (q ∷ others) a = absurd a
aligned_rest nodes (p ∷ front) [] a = absurd a
aligned_rest nodes (p ∷ front) (q ∷ others) a = a.2

-- both go past what comes first, where no pair of nodes differs there
pub turn_passed : (c : Compared) (level : ℕ) (item other : Item) (more found : List ItemChange) → c.new_walk.parts ≡ c.old_walk.parts
    → c.old_walk.front ≡ (level, item) ∷ drop 1 c.old_walk.front → c.new_walk.front ≡ (level, other) ∷ drop 1 c.new_walk.front
    → changed (rows_of c.old_walk) (rows_of c.new_walk) ≡ more ++ changed (rows_of (skipped c.old_walk)) (rows_of (skipped c.new_walk))
    → found ≡ c.found ++ more → differing (nodes_of c.old_walk.parts) level item other ≡ 0
    → IsTurn c (record { old_walk = skipped c.old_walk; new_walk = skipped c.new_walk; found = found; reads = c.reads })
turn_passed c level item other more found parts first other_first step is none =
    let nodes = nodes_of c.old_walk.parts in
    let weights : load_of c.old_walk ≡ weight nodes level item + load_of (skipped c.old_walk) = ap (load nodes) first in
    let others : load_of c.new_walk ≡ weight (nodes_of c.new_walk.parts) level other + load_of (skipped c.new_walk) = ap (load (nodes_of c.new_walk.parts)) other_first in
    let some = weight_some nodes level item in
    let differ : differing_ahead nodes c.old_walk.front c.new_walk.front ≡ differing nodes level item other + differing_ahead nodes (drop 1 c.old_walk.front) (drop 1 c.new_walk.front) =
    ap (λ (f : Front). differing_ahead nodes f c.new_walk.front) first ∙ ap (differing_ahead nodes ((level, item) ∷ drop 1 c.old_walk.front)) other_first in
    let ahead : differing_ahead nodes c.old_walk.front c.new_walk.front ≡ differing_ahead nodes (drop 1 c.old_walk.front) (drop 1 c.new_walk.front) = omega (arith, differ, none) in
    record {
      old_parts = refl;
      new_parts = refl;
      changes = ap (λ (l : List ItemChange). l ++ changed (rows_of (skipped c.old_walk)) (rows_of (skipped c.new_walk))) is
          ∙ append_assoc c.found more (changed (rows_of (skipped c.old_walk)) (rows_of (skipped c.new_walk)))
          ∙ ap (λ (l : List ItemChange). c.found ++ l) (sym step);
      less = omega (arith, weights, others, some);
      alike = λ a. aligned_rest nodes c.old_walk.front c.new_walk.front a;
      reads = λ a. ap (λ (n : ℕ). counted c.reads (2 * n)) (sym ahead);
      rises = none_counted c.reads;
    } where
      weight_some : (nodes : Nodes) (level : ℕ) (item : Item) → 0 < weight nodes level item
      weight_some nodes zero item = omega arith
      weight_some nodes (suc level) item = omega arith

aligned_on : (nodes : Nodes) (level : ℕ) (items others : List Item) (front more : Front) → AllPairs (HaveSameKeys nodes level) items others → AreAligned nodes front more
    → AreAligned nodes (on_level level items ++ front) (on_level level others ++ more)
aligned_on nodes level [] [] front more pairs a = a
aligned_on nodes level [] (other ∷ others) front more pairs a = absurd pairs
aligned_on nodes level (item ∷ items) [] front more pairs a = absurd pairs
aligned_on nodes level (item ∷ items) (other ∷ others) front more pairs a = (refl, pairs.0, aligned_on nodes level items others front more pairs.1 a)

differing_on : (nodes : Nodes) (level : ℕ) (items others : List Item) (front more : Front) → AllPairs (HaveSameKeys nodes level) items others
    → differing_ahead nodes (on_level level items ++ front) (on_level level others ++ more) ≡ pair_sum (differing nodes level) items others + differing_ahead nodes front more
differing_on nodes level [] [] front more pairs = let e : differing_ahead nodes front more ≡ 0 + differing_ahead nodes front more = omega arith in e
differing_on nodes level [] (other ∷ others) front more pairs = absurd pairs
differing_on nodes level (item ∷ items) [] front more pairs = absurd pairs
differing_on nodes level (item ∷ items) (other ∷ others) front more pairs =
    let rest = differing_on nodes level items others front more pairs.1 in
    omega (arith, rest)

-- two reads for one pair
pub two_counted : (reads pairs : ℕ) → counted (counted (counted reads 1) 1) (2 * pairs) ≡ counted reads (2 * suc pairs)
two_counted reads pairs = omega arith

-- two nodes that differ are both opened
pub turn_both_opened : (c : Compared) (level : ℕ) (item other : Item) → c.new_walk.parts ≡ c.old_walk.parts
    → c.old_walk.front ≡ (suc level, item) ∷ drop 1 c.old_walk.front → c.new_walk.front ≡ (suc level, other) ∷ drop 1 c.new_walk.front
    → bytes_eq item.body other.body ≡ false
    → IsTurn c (record { old_walk = descended c.old_walk; new_walk = descended c.new_walk; found = c.found; reads = counted (counted c.reads 1) 1 })
turn_both_opened c level item other parts first other_first apart =
    let nodes = nodes_of c.old_walk.parts in
    let news = nodes_of c.new_walk.parts in
    let same : news ≡ nodes = ap nodes_of parts in
    let items = items_of (nodes level item.body) in
    let others = items_of (nodes level other.body) in
    let weights = open_load nodes c.old_walk.front level item first in
    let other_weights = open_load news c.new_walk.front level other other_first in
    let old_after : opened nodes c.old_walk.front ≡ on_level level items ++ drop 1 c.old_walk.front = ap (opened nodes) first in
    let new_after : opened news c.new_walk.front ≡ on_level level others ++ drop 1 c.new_walk.front =
    ap (opened news) other_first ∙ ap (λ (n : Nodes). on_level level (items_of (n level other.body)) ++ drop 1 c.new_walk.front) same in
    let pairs : (a : AreAlikeAhead c) → HaveSameKeys nodes (suc level) item other × AreAligned nodes (drop 1 c.old_walk.front) (drop 1 c.new_walk.front) = λ a.
    let b : AreAligned nodes ((suc level, item) ∷ drop 1 c.old_walk.front) ((suc level, other) ∷ drop 1 c.new_walk.front) =
    subst (AreAligned nodes ((suc level, item) ∷ drop 1 c.old_walk.front)) other_first (subst (λ (f : Front). AreAligned nodes f c.new_walk.front) first a) in
    (b.1, b.2) in
    let parted : differing_ahead nodes c.old_walk.front c.new_walk.front ≡ suc (pair_sum (differing nodes level) items others) + differing_ahead nodes (drop 1 c.old_walk.front) (drop 1 c.new_walk.front) =
    ap (λ (f : Front). differing_ahead nodes f c.new_walk.front) first ∙ ap (differing_ahead nodes ((suc level, item) ∷ drop 1 c.old_walk.front)) other_first
    ∙ ap (λ (b : Bool). cond b 0 (suc (pair_sum (differing nodes level) items others)) + differing_ahead nodes (drop 1 c.old_walk.front) (drop 1 c.new_walk.front)) apart in
    let differ : differing_ahead nodes c.old_walk.front c.new_walk.front ≡ suc (pair_sum (differing nodes level) items others + differing_ahead nodes (drop 1 c.old_walk.front) (drop 1 c.new_walk.front)) =
    omega (arith, parted) in
    record {
      old_parts = refl;
      new_parts = refl;
      changes = ap (λ (l : List Item). c.found ++ changed l (rows_of (descended c.new_walk))) (open_rows nodes c.old_walk.front)
          ∙ ap (λ (l : List Item). c.found ++ changed (rows_of c.old_walk) l) (open_rows news c.new_walk.front);
      less = omega (arith, weights, other_weights);
      alike = λ a. subst (AreAligned nodes (opened nodes c.old_walk.front)) (sym new_after) (subst (λ (f : Front). AreAligned nodes f (on_level level others ++ drop 1 c.new_walk.front)) (sym old_after)
          (aligned_on nodes level items others (drop 1 c.old_walk.front) (drop 1 c.new_walk.front) (pairs a).0.1 (pairs a).1));
      reads = λ a.
          let after : differing_ahead nodes (opened nodes c.old_walk.front) (opened news c.new_walk.front) ≡ pair_sum (differing nodes level) items others + differing_ahead nodes (drop 1 c.old_walk.front) (drop 1 c.new_walk.front) =
          ap (λ (f : Front). differing_ahead nodes f (opened news c.new_walk.front)) old_after ∙ ap (differing_ahead nodes (on_level level items ++ drop 1 c.old_walk.front)) new_after
          ∙ differing_on nodes level items others (drop 1 c.old_walk.front) (drop 1 c.new_walk.front) (pairs a).0.1 in
          ap (λ (n : ℕ). counted (counted (counted c.reads 1) 1) (2 * n)) after
          ∙ two_counted c.reads (pair_sum (differing nodes level) items others + differing_ahead nodes (drop 1 c.old_walk.front) (drop 1 c.new_walk.front))
          ∙ ap (λ (n : ℕ). counted c.reads (2 * n)) (sym differ);
      rises = both_counted c.reads;
    }
