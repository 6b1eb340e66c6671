-- Rows that stand among those of both lists, one row more.
use Rattle.std.proofs.Common.{◌≡◌, refl, ap, ℕ, suc, ◌+◌, ◌≤◌, Bool, true, List, [], ◌∷◌, length, arith}
use Rattle.std.specs.List.{list_all}
use Rattle.tuple_codec.specs.Rows.{Cells}
use Rattle.plain_writes.proofs.RowOrderLemmas.{both_so, left_so, right_so}
use Rattle.sql_write.specs.Weaving.{Fate, Stays, Leaves, Comes, IsWoven, after, before, come, gone}

pub none_woven : IsWoven [] [] [] []
none_woven = record { fates = []; all_are = refl; rows_are = refl; old_are = refl; new_are = refl }

module _ {all rows old new : List Cells} (row : Cells) (woven : IsWoven all rows old new) where
  abbrev more : List Cells → List Cells
  more rows = row ∷ rows

  pub one_stays : IsWoven (row ∷ all) (row ∷ rows) old new
  one_stays = record { fates = Stays row ∷ woven.fates; all_are = ap more woven.all_are; rows_are = ap more woven.rows_are; old_are = woven.old_are; new_are = woven.new_are }

  pub one_leaves : IsWoven (row ∷ all) rows (row ∷ old) new
  one_leaves = record { fates = Leaves row ∷ woven.fates; all_are = ap more woven.all_are; rows_are = woven.rows_are; old_are = ap more woven.old_are; new_are = woven.new_are }

  pub one_comes : IsWoven all (row ∷ rows) old (row ∷ new)
  one_comes = record { fates = Comes row ∷ woven.fates; all_are = woven.all_are; rows_are = ap more woven.rows_are; old_are = woven.old_are; new_are = ap more woven.new_are }

-- no others
pub all_woven : (all rows : List Cells) → IsWoven all rows all rows
all_woven [] [] = none_woven
all_woven [] (row ∷ rows) = one_comes row (all_woven [] rows)
all_woven (row ∷ all) rows = one_leaves row (all_woven all rows)

-- ---- what holds of all rows

pub gone_all : (p : Cells → Bool) (fates : List Fate) → list_all p (before fates) ≡ true → list_all p (gone fates) ≡ true
gone_all p [] e = refl
gone_all p (Stays row ∷ fates) e = gone_all p fates (right_so (p row) (list_all p (before fates)) e)
gone_all p (Leaves row ∷ fates) e = both_so (left_so (p row) (list_all p (before fates)) e) (gone_all p fates (right_so (p row) (list_all p (before fates)) e))
gone_all p (Comes row ∷ fates) e = gone_all p fates e

pub come_all : (p : Cells → Bool) (fates : List Fate) → list_all p (after fates) ≡ true → list_all p (come fates) ≡ true
come_all p [] e = refl
come_all p (Stays row ∷ fates) e = come_all p fates (right_so (p row) (list_all p (after fates)) e)
come_all p (Leaves row ∷ fates) e = come_all p fates e
come_all p (Comes row ∷ fates) e = both_so (left_so (p row) (list_all p (after fates)) e) (come_all p fates (right_so (p row) (list_all p (after fates)) e))

-- ---- how many they are

one_wider : (a b : ℕ) → a ≤ b → a ≤ suc b
one_wider a b few = omega (arith, few)

both_wider : (a b : ℕ) → a ≤ b → suc a ≤ suc b
both_wider a b few = omega (arith, few)

pub gone_few : (fates : List Fate) → length (gone fates) ≤ length (before fates)
gone_few [] = omega arith
gone_few (Stays row ∷ fates) = one_wider (length (gone fates)) (length (before fates)) (gone_few fates)
gone_few (Leaves row ∷ fates) = both_wider (length (gone fates)) (length (before fates)) (gone_few fates)
gone_few (Comes row ∷ fates) = gone_few fates

one_stays_more : (a b c d : ℕ) → a + b ≡ c + d → suc a + b ≡ suc c + d
one_stays_more a b c d same = omega (arith, same)

one_leaves_more : (a b c d : ℕ) → a + b ≡ c + d → a + suc b ≡ suc c + d
one_leaves_more a b c d same = omega (arith, same)

one_comes_more : (a b c d : ℕ) → a + b ≡ c + d → suc a + b ≡ c + suc d
one_comes_more a b c d same = omega (arith, same)

pub as_many : (fates : List Fate) → length (after fates) + length (gone fates) ≡ length (before fates) + length (come fates)
as_many [] = refl
as_many (Stays row ∷ fates) = one_stays_more (length (after fates)) (length (gone fates)) (length (before fates)) (length (come fates)) (as_many fates)
as_many (Leaves row ∷ fates) = one_leaves_more (length (after fates)) (length (gone fates)) (length (before fates)) (length (come fates)) (as_many fates)
as_many (Comes row ∷ fates) = one_comes_more (length (after fates)) (length (gone fates)) (length (before fates)) (length (come fates)) (as_many fates)
