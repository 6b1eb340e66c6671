use Rattle.std.specs.Prelude.{ℕ, ◌+◌, ◌<◌, ◌≤◌, ◌≡◌, List}

-- what a pool has: how many free pages, and for how many the list has room in which those stay that a sealed region doesn't use
pub record Pooled : Type 0 where
  pub free : ℕ
  pub room : ℕ

-- what a region has: the bytes written on each of its pages, in the order in which these were taken, how many pages of its pool are free
-- and how many it has taken, and the room of the pool's list
pub record Holding : Type 0 where
  pub pages : List (List ℕ)
  pub free : ℕ
  pub taken : ℕ
  pub room : ℕ

-- all pages that belong to the pool, free or taken
abbrev pub all_pages : Holding → ℕ
all_pages held = held.free + held.taken

-- a piece was placed: no page is lost, none is made while the pool had a free one, and at most one otherwise
pub record TakesAtMostOne (old new : Holding) : Type 0 where
  pub none_lost : all_pages old ≤ all_pages new
  pub none_made : 0 < old.free → all_pages new ≡ all_pages old
  pub one_made : all_pages new ≤ all_pages old + 1

-- nothing is changed, but for the room of the list, which may be more
pub record IsSame (old new : Holding) : Type 0 where
  pub pages : new.pages ≡ old.pages
  pub free : new.free ≡ old.free
  pub taken : new.taken ≡ old.taken
  pub room : old.room ≤ new.room
