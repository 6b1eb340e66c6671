-- What stands at a place of a list.
use Rattle.std.proofs.Common.{◌≡◌, ℕ, zero, suc, ◌+◌, ◌-◌, ◌<◌, ◌≤◌, Bool, true, List, [], ◌∷◌, Some, length, map, set, slice_get, ap, arith}
use Rattle.std.specs.List.{list_all, range_with_len}
use Rattle.std.specs.Option.{option_map}
use Rattle.std.proofs.lemmas.List.{set_past}
use Rattle.std.proofs.lemmas.Option.{slice_get-map}
use Rattle.plain_writes.specs.declared.inserting.Given.{Given}
use Rattle.plain_writes.specs.Seen.{given_seen}

-- what holds of each item of a list holds of the item at a place
pub all_at : {X : Type 0} (p : X → Bool) (xs : List X) (i : ℕ) (y : X) → list_all p xs ≡ true → slice_get xs i ≡ Some y → p y ≡ true
all_at p [] i y holds at = grind arith
all_at p (x ∷ xs) zero y holds at = grind arith
all_at p (x ∷ xs) (suc i) y holds at = all_at p xs i y (grind arith) at

pub given_at : (said : List Given) (at : ℕ) → slice_get (map given_seen said) at ≡ option_map given_seen (slice_get said at)
given_at said at = slice_get-map given_seen said at

-- a list stays as it is where its places are fewer
pub set_behind : {X : Type 0} (xs : List X) (i : ℕ) (y : X) → length xs ≤ i → set xs i y ≡ xs
set_behind xs i y behind = set_past xs i y behind

-- numbers that are left to count, the next one first
pub range_from : (at count : ℕ) → at < count → range_with_len at (count - at) ≡ at ∷ range_with_len (at + 1) (count - (at + 1))
range_from at count before = let left : count - at ≡ suc (count - (at + 1)) = omega arith in ap (range_with_len at) left
