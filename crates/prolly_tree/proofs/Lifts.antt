-- A node that is the one into which its items are cut is what its rows are lifted to, and where it ended its rows end at each level.
use Rattle.std.proofs.Common.{◌≡◌, ◌+◌, ℕ, zero, suc, List, [], ◌∷◌, ◌++◌, Some, sym, refl, ap, subst, ◌∙◌, arith}
use Rattle.std.specs.List.{AllByRecursion}
use Rattle.std.proofs.lemmas.List.{append-nil}
use Rattle.tuple_codec.specs.Nodes.{Item}
use Rattle.tuple_codec.specs.Trees.{cut, names}
use Rattle.prolly_tree.specs.Found.{Nodes, items_of, each_of, rows_at, left, lift, Ended, IsEnded, IsCanonical, ButLast}
use Rattle.prolly_tree.proofs.Cuts.{ended_join, lift_apart}

module _ (a : List ℕ → List ℕ) where
  -- the last level of a lift
  pub lift_last : (rise level : ℕ) (items : List Item) → lift a (suc rise) level items ≡ names a (level + rise) (cut a (level + rise) (lift a rise level items))
  lift_last zero level items =
      let e : level ≡ level + 0 = omega arith in
      ap (λ n. names a n (cut a n items)) e
  lift_last (suc rise) level items =
      let e : suc level + rise ≡ level + suc rise = omega arith in
      lift_last rise (suc level) (names a level (cut a level items))
      ∙ ap (λ n. names a n (cut a n (lift a (suc rise) level items))) e

  pub ended_last : (rise level : ℕ) (items : List Item) → Ended a rise level items → left a (level + rise) [] (lift a rise level items) ≡ []
      → Ended a (suc rise) level items
  ended_last zero level items ended over =
      let e : level + 0 ≡ level = omega arith in
      (ap (λ n. left a n [] items) (sym e) ∙ over, tt)
  ended_last (suc rise) level items ended over =
      let e : suc level + rise ≡ level + suc rise = omega arith in
      (ended.0, ended_last rise (suc level) (names a level (cut a level items)) ended.1 (ap (λ n. left a n [] (lift a (suc rise) level items)) e ∙ over))

  module _ (nodes : Nodes) where
    -- what is found at an address
    found : (level : ℕ) (item : Item) (items : List Item) → nodes level item.body ≡ Some items
        → rows_at nodes (suc level) item ≡ each_of (rows_at nodes level) items
    found level item items is = ap (λ o. each_of (rows_at nodes level) (items_of o)) is

    -- lists of items that are such, given that each item is
    module _ (level : ℕ) (lifts : (item : Item) → IsCanonical a nodes level item → lift a level 0 (rows_at nodes level item) ≡ item ∷ [])
        (ends : (item : Item) → IsCanonical a nodes level item → IsEnded a nodes level item → Ended a level 0 (rows_at nodes level item)) where
      nothing_ends : (rise from : ℕ) → Ended a rise from []
      nothing_ends zero from = tt
      nothing_ends (suc rise) from = (refl, nothing_ends rise (suc from))

      nothing_lifts : (rise from : ℕ) → lift a rise from [] ≡ []
      nothing_lifts zero from = refl
      nothing_lifts (suc rise) from = nothing_lifts rise (suc from)

      all_canonical : (items : List Item) → ButLast (IsCanonical a nodes level) (IsEnded a nodes level) items → AllByRecursion (IsCanonical a nodes level) items
      all_canonical [] each = tt
      all_canonical (item ∷ []) each = (each, tt)
      all_canonical (item ∷ other ∷ items) each = (each.0, all_canonical (other ∷ items) each.2)

      all_end : (items : List Item) → AllByRecursion (IsCanonical a nodes level) items → AllByRecursion (IsEnded a nodes level) items
          → Ended a level 0 (each_of (rows_at nodes level) items)
      all_end [] canonical ended = nothing_ends level 0
      all_end (item ∷ items) canonical ended =
          ended_join a level 0 (rows_at nodes level item) (each_of (rows_at nodes level) items) (ends item canonical.0 ended.0) (all_end items canonical.1 ended.1)

      pub all_lift : (items : List Item) → ButLast (IsCanonical a nodes level) (IsEnded a nodes level) items
          → lift a level 0 (each_of (rows_at nodes level) items) ≡ items
      all_lift [] each = nothing_lifts level 0
      all_lift (item ∷ []) each = ap (lift a level 0) (append-nil (rows_at nodes level item)) ∙ lifts item each
      all_lift (item ∷ other ∷ items) each =
          lift_apart a level 0 (rows_at nodes level item) (each_of (rows_at nodes level) (other ∷ items)) (ends item each.0 each.1)
          ∙ ap (λ l. l ++ lift a level 0 (each_of (rows_at nodes level) (other ∷ items))) (lifts item each.0)
          ∙ ap (λ l. item ∷ l) (all_lift (other ∷ items) each.2)

    some_is : (x y : List Item) → Some x ≡ Some y → x ≡ y
    some_is x y e = cc

    both : (level : ℕ) → ((item : Item) → IsCanonical a nodes level item → lift a level 0 (rows_at nodes level item) ≡ item ∷ [])
        × ((item : Item) → IsCanonical a nodes level item → IsEnded a nodes level item → Ended a level 0 (rows_at nodes level item))
    both zero = (λ item canonical. refl, λ item canonical ended. tt)
    both (suc level) =
        let below = both level in
        let z : 0 + level ≡ level = omega arith in
        let up = λ (item : Item) (items : List Item) (is : nodes level item.body ≡ Some items) (each : ButLast (IsCanonical a nodes level) (IsEnded a nodes level) items).
        ap (lift a level 0) (found level item items is) ∙ all_lift level below.0 below.1 items each in (
          λ item canonical.
              lift_last level 0 (rows_at nodes (suc level) item)
              ∙ ap (λ n. names a n (cut a n (lift a level 0 (rows_at nodes (suc level) item)))) z
              ∙ ap (λ l. names a level (cut a level l)) (up item canonical.0 canonical.1 canonical.2) ∙ canonical.3,
          λ item canonical ended.
              let same : ended.0 ≡ canonical.0 = some_is ended.0 canonical.0 (sym ended.1 ∙ canonical.1) in
              let P : List Item → Type 0 = λ l. AllByRecursion (IsEnded a nodes level) l in
              let Q : List Item → Type 0 = λ l. Ended a level 0 l in
              ended_last level 0 (rows_at nodes (suc level) item)
              (subst Q (sym (found level item canonical.0 canonical.1))
              (all_end level below.0 below.1 canonical.0 (all_canonical level below.0 below.1 canonical.0 canonical.2) (subst P same ended.2)))
              (ap (λ n. left a n [] (lift a level 0 (rows_at nodes (suc level) item))) z
              ∙ ap (left a level []) (up item canonical.0 canonical.1 canonical.2 ∙ sym same) ∙ ended.3),
        )

    -- the rows below a canonical node are lifted to it
    pub lifts : (level : ℕ) (item : Item) → IsCanonical a nodes level item → lift a level 0 (rows_at nodes level item) ≡ item ∷ []
    lifts level = (both level).0

    -- where it ended, so do they at each level
    pub ends : (level : ℕ) (item : Item) → IsCanonical a nodes level item → IsEnded a nodes level item → Ended a level 0 (rows_at nodes level item)
    ends level = (both level).1
