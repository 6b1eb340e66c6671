-- The root's name is what rows are lifted to, so many levels up.
use Rattle.std.proofs.Common.{◌≡◌, ◌≤◌, ◌<◌, ◌+◌, ◌*◌, ◌^◌, ℕ, zero, suc, List, [], ◌∷◌, ◌++◌, length, map, inl, inr, refl, ap, arith}
use Rattle.std.proofs.lemmas.Bool.{cases_lt}
use Rattle.std.proofs.lemmas.Grind.{pow_more}
use Rattle.std.proofs.Math.Nat.{pow-le-pow_right}
use Rattle.tuple_codec.specs.Nodes.{Item}
use Rattle.tuple_codec.specs.Trees.{bytes_of, cut, inner_chunks, names, top}
use Rattle.prolly_tree.specs.Found.{lift}
use Rattle.prolly_tree.proofs.Cuts.{names_short}
use Rattle.prolly_tree.proofs.StandingLists.{cut_some, names_length}
use Rattle.node_chunker.specs.Subtrees.{lift_chunks}
use Rattle.node_chunker.specs.Towers.{row_chunks, row_top}

-- so many items have at most so many levels above them
abbrev HasFew : ℕ → ℕ → Type 0
HasFew zero count = 1 ≤ count
HasFew (suc rise) count = 2 ^ suc rise + 2 ≤ 2 * count

few_up : (rise count more : ℕ) → HasFew rise count → 2 * count ≤ more + 1 → 2 ≤ more → HasFew (suc rise) more
few_up zero count more few half many = omega arith
few_up (suc rise) count more few half many = omega (arith, pow_more 2 (suc rise))

few_low : (rise count : ℕ) → HasFew rise count → count < 2 ^ 63 → rise < 255
few_low zero count few most = omega arith
few_low (suc rise) count few most =
    elim (cases_lt (suc rise) 64) [
      | inl low ↦ omega arith
      | inr high ↦ absurd (omega (arith, pow-le-pow_right {n = 2} (omega arith) {i = 64} {j = suc rise} high))
    ]

module _ (a : List ℕ → List ℕ) where
  record IsTopped (turns level : ℕ) (items : List Item) : Type 0 where
    rise : ℕ
    few : HasFew rise (length items)
    comes : lift a rise level items ≡ top a turns level items ∷ []
    chunks : lift_chunks a rise level items ≡ inner_chunks a turns level items

  topped : (turns level : ℕ) (items : List Item) → 0 < length items → length items ≤ suc turns → IsTopped turns level items
  topped turns level [] some short = absurd (omega arith)
  topped turns level (x ∷ []) some short = record { rise = 0; few = omega arith; comes = refl; chunks = refl }
  topped zero level (x ∷ y ∷ items) some short = absurd (omega arith)
  topped (suc turns) level (x ∷ y ∷ items) some short =
      let all = x ∷ y ∷ items in
      let next = names a level (cut a level all) in
      let half = names_short a level [] all in
      let same = names_length a level (cut a level all) in
      let one = cut_some a level [] all (omega arith) in
      let more = topped turns (suc level) next (omega arith) (omega arith) in
      record {
        rise = suc more.rise;
        few = few_up more.rise (length next) (length all) more.few (omega arith) (omega arith);
        comes = more.comes;
        chunks = ap (λ l. map (bytes_of level) (cut a level all) ++ l) more.chunks;
      }

  -- rows are lifted to the name of the one node that they come to
  pub record IsLifted (turns : ℕ) (rows : List Item) : Type 0 where
    pub rise : ℕ
    pub low : rise < 256
    pub comes : lift a (suc rise) 0 rows ≡ row_top a turns rows ∷ []
    pub chunks : lift_chunks a (suc rise) 0 rows ≡ row_chunks a turns rows

  pub lifted : (turns : ℕ) (rows : List Item) → 0 < length rows → length rows ≤ turns → length rows < 2 ^ 63 → IsLifted turns rows
  lifted turns rows some short most =
      let next = names a 0 (cut a 0 rows) in
      let half = names_short a 0 [] rows in
      let same = names_length a 0 (cut a 0 rows) in
      let one = cut_some a 0 [] rows some in
      let above = topped turns 1 next (omega arith) (omega arith) in
      let low = few_low above.rise (length next) above.few (omega arith) in
      record {
        rise = above.rise;
        low = omega arith;
        comes = above.comes;
        chunks = ap (λ l. map (bytes_of 0) (cut a 0 rows) ++ l) above.chunks;
      }
