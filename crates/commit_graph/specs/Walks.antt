-- Walks from commits to their ancestors, height falling, and then by address.
use Rattle.std.specs.Prelude.{◌≡◌, ◌+◌, ◌^◌, ◌<◌, ◌≤◌, ◌==◌, ◌&&◌, ◌||◌, ℕ, Bool, true, List, [], ◌∷◌, map, Option, None, Some}
use Rattle.std.specs.List.{flat_map, list_all}
use Rattle.schema_model.specs.PlainTables.{rises}
use Rattle.schema_model.specs.PlainCommits.{Commits, ancestors, commit_cmp, has_address, height_of, in_commit_order, is_known}
use Rattle.tuple_codec.specs.declared.addresses.Address.{Address}
use Rattle.commit_graph.specs.declared.walks.Rank.{Rank}

abbrev pub address_in : Rank → List ℕ
address_in rank = rank.address

abbrev pub height_at : Rank → ℕ
height_at rank = rank.height.0

abbrev pub addresses_of : List Rank → List (List ℕ)
addresses_of ranks = map address_in ranks

-- there is such a commit, and the height is its
abbrev pub is_rank : Commits → Rank → Bool
is_rank commits rank = is_known commits (address_in rank) && height_at rank == height_of commits (address_in rank)

-- commits with their heights, in order
pub record AreRanks (commits : Commits) (ranks : List Rank) : Type 0 where
  pub each : list_all (is_rank commits) ranks ≡ true
  pub rise : rises (commit_cmp commits) (addresses_of ranks) ≡ true

-- the commits and their ancestors, each once
abbrev pub all_ancestors : Commits → List (List ℕ) → List (List ℕ)
all_ancestors commits ks = in_commit_order commits (flat_map (ancestors commits) ks)

-- what a walk still comes to
abbrev pub left : Commits → List Rank → List (List ℕ)
left commits ranks = all_ancestors commits (addresses_of ranks)

-- a number that falls where a commit gives way to two that are lower
abbrev pub weight : List ℕ → ℕ
weight [] = 0
weight (height ∷ heights) = 3 ^ height + weight heights

abbrev pub weight_of : List Rank → ℕ
weight_of ranks = weight (map height_at ranks)

-- the walk comes to the commit's ancestors
pub record WalksAncestors (commits : Commits) (k : List ℕ) (walk : List Rank) : Type 0 where
  pub ranks : AreRanks commits walk
  pub all : left commits walk ≡ ancestors commits k

abbrev pub first_address : List Rank → Option (List ℕ)
first_address [] = None
first_address (rank ∷ ranks) = Some (address_in rank)

-- the walk came to the first of what was left, if anything was
abbrev pub CameTo : Commits → List Rank → List Rank → Option Address → Type 0
CameTo commits old new None = (old ≡ []) × (left commits old ≡ [])
CameTo commits old new (Some k) = (first_address old ≡ Some k.0) × (left commits old ≡ k.0 ∷ left commits new) × (weight_of new < weight_of old)

pub record Steps (commits : Commits) (old new : List Rank) (found : Option Address) : Type 0 where
  pub ranks : AreRanks commits new
  pub came : CameTo commits old new found

-- these came to those that wait
pub record Waits (commits : Commits) (ks : List (List ℕ)) (old new : List Rank) : Type 0 where
  pub ranks : AreRanks commits new
  pub has : (k : List ℕ) → has_address (addresses_of new) k ≡ (has_address ks k || has_address (addresses_of old) k)
  pub light : weight_of new ≤ weight (map (height_of commits) ks) + weight_of old

-- some of these came to those that wait
pub record WaitsForSome (commits : Commits) (ks : List (List ℕ)) (old new : List Rank) : Type 0 where
  pub ranks : AreRanks commits new
  pub kept : (k : List ℕ) → has_address (addresses_of old) k ≡ true → has_address (addresses_of new) k ≡ true
  pub only : (k : List ℕ) → has_address (addresses_of new) k ≡ true → (has_address ks k || has_address (addresses_of old) k) ≡ true

-- what a walk still comes to is as it was
pub record KeepsLeft (commits : Commits) (old new : List Rank) : Type 0 where
  pub ranks : AreRanks commits new
  pub all : left commits new ≡ left commits old
