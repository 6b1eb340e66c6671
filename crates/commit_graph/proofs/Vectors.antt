-- A commit whose bytes are known, read back.
use Rattle.std.proofs.Common.{◌≡◌, ℕ, pos, List, [], ◌∷◌, ◌++◌, replicate, take, Some, None, refl}
use Rattle.schema_model.specs.Reading as read
use Rattle.schema_model.specs.WrittenForms.{CommitParts, commit_bytes}
use Rattle.commit_graph.specs.Reading.{commit_at, commit_of}

merge : CommitParts
merge = record {
  root = replicate 20 7;
  parents = replicate 20 9 ∷ replicate 20 8 ∷ [];
  height = 3;
  date = pos 1700000000;
  committer = 97 ∷ 100 ∷ 97 ∷ [];
  message = 109 ∷ 101 ∷ 114 ∷ 103 ∷ 101 ∷ [];
}

merge_bytes : List ℕ
merge_bytes =
    5 ∷ (replicate 20 7 ++ (2 ∷ (replicate 20 9 ++ (replicate 20 8 ++ (0 ∷ 0 ∷ 0 ∷ 0 ∷ 0 ∷ 0 ∷ 0 ∷ 3 ∷ 0 ∷ 0 ∷ 0 ∷ 0 ∷ 101 ∷ 83 ∷ 241 ∷ 0
    ∷ 0 ∷ 3 ∷ 97 ∷ 100 ∷ 97 ∷ 0 ∷ 5 ∷ 109 ∷ 101 ∷ 114 ∷ 103 ∷ 101 ∷ [])))))

written : commit_bytes merge ≡ merge_bytes
unfolding merge merge_bytes
written = refl

read_back : commit_of merge_bytes ≡ Some merge
unfolding commit_at merge merge_bytes read.items_at
read_back = refl

cut_short : commit_of (take 89 merge_bytes) ≡ None
unfolding commit_at merge_bytes read.items_at
cut_short = refl

other_kind : commit_of (6 ∷ []) ≡ None
unfolding commit_at
other_kind = refl
