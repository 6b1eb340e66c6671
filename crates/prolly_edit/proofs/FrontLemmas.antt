-- What is left of a walk, as it takes and opens nodes.
use Rattle.std.proofs.Common.{◌≡◌, ◌<◌, ◌+◌, ℕ, suc, ◌==◌, true, false, List, [], ◌∷◌, ◌++◌, length, Some, refl, sym, ap, ◌∙◌, subst, append_assoc, append-nil, arith}
use Rattle.std.specs.List.{AllByRecursion}
use Rattle.std.proofs.Math.Dec.{eqb-suc-zero}
use Rattle.tuple_codec.specs.Nodes.{Item, Node}
use Rattle.chunk_store.specs.Chunks.{Chunks}
use Rattle.prolly_tree.specs.Found.{ButLast, IsCanonical, IsEnded, IsOrdered, Nodes, each_of, nodes_in, rows_at}
use Rattle.prolly_tree.specs.Standing.{IsNodeFound}
use Rattle.prolly_tree.proofs.StandingReads.{items_there}
use Rattle.prolly_edit.specs.Fronts.{AreParts, EndsBefore, HaveNames, IsPart, front_of, is_over, load, rest}
use Rattle.prolly_tree.specs.Fronts.{Front, on_level, sum_of, weight}

-- ---- steps of a path

pub front_last : (steps : List Node) (step : Node) → front_of (steps ++ step ∷ []) ≡ on_level step.level step.items ++ front_of steps
front_last [] step = sym (append-nil (on_level step.level step.items))
front_last (first ∷ steps) step =
    ap (λ (l : Front). l ++ on_level first.level first.items) (front_last steps step) ∙ append_assoc (on_level step.level step.items) (front_of steps) (on_level first.level first.items)

pub over_is : (level : ℕ) (items : List Item) → is_over (on_level level items) ≡ (length items == 0)
over_is level [] = refl
over_is level (item ∷ items) = sym (eqb-suc-zero (length items))

-- a path without a step has no node left, and one with a step has
pub over_path : (steps : List Node) → HaveNames steps → is_over (front_of steps) ≡ (length steps == 0)
over_path [] have = refl
over_path (step ∷ steps) have = some step (front_of steps) have.0 ∙ sym (eqb-suc-zero (length steps)) where
  some : (step : Node) (front : Front) → 0 < length step.items → is_over (front ++ on_level step.level step.items) ≡ false
  some step (part ∷ front) one = refl
  some step [] one = over step.level step.items one where
    over : (level : ℕ) (items : List Item) → 0 < length items → is_over (on_level level items) ≡ false
    over level [] one = absurd (omega (arith, one))
    over level (item ∷ items) one = refl

-- where a step had one name, none of it is left
pub taken_last : (steps : List Node) (step now : Node) (name : Item) (level : ℕ) → step.items ≡ name ∷ now.items → level ≡ step.level
    → is_over (on_level now.level now.items) ≡ true → front_of (steps ++ step ∷ []) ≡ (level, name) ∷ front_of steps
taken_last steps step now name level items is over =
    front_last steps step ∙ ap (λ (l : List Item). on_level step.level l ++ front_of steps) items
    ∙ ap (λ (l : List Item). (step.level, name) ∷ (on_level step.level l ++ front_of steps)) (none now.level now.items over)
    ∙ ap (λ (n : ℕ). (n, name) ∷ front_of steps) (sym is) where
      none : (level : ℕ) (items : List Item) → is_over (on_level level items) ≡ true → items ≡ []
      none level [] over = refl
      none level (item ∷ items) over = absurd cc

-- else the others are put back
pub taken_first : (steps : List Node) (step now : Node) (name : Item) (level : ℕ) → step.items ≡ name ∷ now.items → level ≡ step.level → now.level ≡ step.level
    → front_of (steps ++ step ∷ []) ≡ (level, name) ∷ front_of (steps ++ now ∷ [])
taken_first steps step now name level items is same =
    front_last steps step ∙ ap (λ (l : List Item). on_level step.level l ++ front_of steps) items
    ∙ ap (λ (n : ℕ). (step.level, name) ∷ (on_level n now.items ++ front_of steps)) (sym same)
    ∙ ap (λ (n : ℕ). (n, name) ∷ (on_level now.level now.items ++ front_of steps)) (sym is)
    ∙ ap (λ (f : Front). (level, name) ∷ f) (sym (front_last steps now))

-- ---- rows and loads

pub rest_join : (nodes : Nodes) (front more : Front) → rest nodes (front ++ more) ≡ rest nodes front ++ rest nodes more
rest_join nodes [] more = refl
rest_join nodes (part ∷ front) more =
    ap (λ (l : List Item). rows_at nodes (suc part.0) part.1 ++ l) (rest_join nodes front more) ∙ sym (append_assoc (rows_at nodes (suc part.0) part.1) (rest nodes front) (rest nodes more))

pub rest_level : (nodes : Nodes) (level : ℕ) (items : List Item) → rest nodes (on_level level items) ≡ each_of (rows_at nodes (suc level)) items
rest_level nodes level [] = refl
rest_level nodes level (item ∷ items) = ap (λ (l : List Item). rows_at nodes (suc level) item ++ l) (rest_level nodes level items)

pub load_join : (nodes : Nodes) (level : ℕ) (items : List Item) (front : Front) → load nodes (on_level level items ++ front) ≡ sum_of (weight nodes (suc level)) items + load nodes front
load_join nodes level [] front = omega arith
load_join nodes level (item ∷ items) front = let more = load_join nodes level items front in omega (arith, more)

-- ---- parts

module _ (a : List ℕ → List ℕ) (chunks : Chunks) where
  ends_join : (level : ℕ) (items : List Item) (front : Front) → ButLast (IsCanonical a (nodes_in chunks) (suc level)) (IsEnded a (nodes_in chunks) (suc level)) items
      → (0 < length front → AllByRecursion (IsEnded a (nodes_in chunks) (suc level)) items) → EndsBefore a (nodes_in chunks) front
      → EndsBefore a (nodes_in chunks) (on_level level items ++ front)
  ends_join level [] front each all end = end
  ends_join level (item ∷ []) [] each all end = tt
  ends_join level (item ∷ []) (part ∷ front) each all end = let ended = all (omega arith) in (ended.0, end)
  ends_join level (item ∷ other ∷ items) front each all end = (each.1, ends_join level (other ∷ items) front each.2 (λ some. (all some).1) end)

  parts_each : (level : ℕ) (items : List Item) (front : Front) → level < 255 → AllByRecursion (IsNodeFound chunks (suc level)) items
      → AllByRecursion (IsCanonical a (nodes_in chunks) (suc level)) items → AllByRecursion (IsOrdered (nodes_in chunks) (suc level)) items
      → AllByRecursion (λ (part : ℕ × Item). IsPart a chunks part.0 part.1) front → AllByRecursion (λ (part : ℕ × Item). IsPart a chunks part.0 part.1) (on_level level items ++ front)
  parts_each level [] front low found canonical ordered each = each
  parts_each level (item ∷ items) front low found canonical ordered each = (
    record { low = low; found = found.0; canonical = canonical.0; ordered = ordered.0 },
    parts_each level items front low found.1 canonical.1 ordered.1 each,
  )

  all_of : (P Q : Item → Type 0) (items : List Item) → ButLast P Q items → AllByRecursion P items
  all_of P Q [] each = tt
  all_of P Q (item ∷ []) each = (each, tt)
  all_of P Q (item ∷ other ∷ items) each = (each.0, all_of P Q (other ∷ items) each.2)

  same_items : (x y : List Item) → Some x ≡ Some y → x ≡ y
  same_items x y e = cc

  -- the nodes below a node come in its place
  pub parts_below : (level : ℕ) (item : Item) (front : Front) → IsNodeFound chunks (suc level) item → IsCanonical a (nodes_in chunks) (suc level) item → IsOrdered (nodes_in chunks) (suc level) item
      → (0 < length front → IsEnded a (nodes_in chunks) (suc level) item) → AreParts a chunks front → (found : IsNodeFound chunks (suc level) item)
      → (below : ℕ) → level ≡ suc below → AreParts a chunks (on_level below found.0 ++ front)
  parts_below level item front _ canonical ordered ended parts found below is =
      let items = found.0 in
      let there = items_there chunks item.body level items found.1 in
      let low = found.1.is_node.header.level_fits in
      let P : List Item → Type 0 = λ l. ButLast (IsCanonical a (nodes_in chunks) level) (IsEnded a (nodes_in chunks) level) l in
      let each = subst P (same_items canonical.0 items (sym canonical.1 ∙ there)) canonical.2 in
      let Q : List Item → Type 0 = λ l. AllByRecursion (IsOrdered (nodes_in chunks) level) l in
      let order = subst Q (same_items ordered.0 items (sym ordered.1 ∙ there)) ordered.2 in
      let all = λ (some : 0 < length front).
      (let e = ended some in
      let R : List Item → Type 0 = λ l. AllByRecursion (IsEnded a (nodes_in chunks) level) l in
      subst R (same_items e.0 items (sym e.1 ∙ there)) e.2) in
      record {
        each = parts_each below items front (omega (arith, low, is)) (subst (λ n. AllByRecursion (IsNodeFound chunks n) items) is found.2)
            (subst (λ n. AllByRecursion (IsCanonical a (nodes_in chunks) n) items) is (all_of (IsCanonical a (nodes_in chunks) level) (IsEnded a (nodes_in chunks) level) items each))
            (subst (λ n. AllByRecursion (IsOrdered (nodes_in chunks) n) items) is order) parts.each;
        end = ends_join below items front (subst (λ n. ButLast (IsCanonical a (nodes_in chunks) n) (IsEnded a (nodes_in chunks) n) items) is each)
            (λ some. subst (λ n. AllByRecursion (IsEnded a (nodes_in chunks) n) items) is (all some)) parts.end;
      }
