-- Worked examples of commits: h, then a and b on h, then c on a and b. Each has the height that its parents give it.
use Rattle.std.proofs.Common.{◌≡◌, ℕ, pos, List, [], ◌∷◌, None, refl}
use Rattle.schema_model.specs.PlainCommits.{Commits, IsGrown, PlainCommit, ancestors, with_commit}

commit_on : List (List ℕ) → ℕ → PlainCommit
commit_on parents height = record { database = []; parents = parents; height = height; date = pos 7; committer = 119 ∷ []; message = 109 ∷ [] }

h : List ℕ
h = 1 ∷ []

a : List ℕ
a = 2 ∷ []

b : List ℕ
b = 3 ∷ []

c : List ℕ
c = 4 ∷ []

no_commit : Commits
no_commit k = None

first_commit : Commits
first_commit = with_commit h (commit_on [] 1) no_commit

both : Commits
both = with_commit b (commit_on (h ∷ []) 2) (with_commit a (commit_on (h ∷ []) 2) first_commit)

merged : Commits
merged = with_commit c (commit_on (a ∷ b ∷ []) 3) both

first_grown : IsGrown no_commit (commit_on [] 1)
unfolding commit_on no_commit
first_grown = record { parents = refl; height = refl }

next_grown : IsGrown first_commit (commit_on (h ∷ []) 2)
unfolding commit_on first_commit no_commit h
next_grown = record { parents = refl; height = refl }

merged_grown : IsGrown both (commit_on (a ∷ b ∷ []) 3)
unfolding commit_on both first_commit no_commit h a b
merged_grown = record { parents = refl; height = refl }

ancestors_of_a : ancestors merged a ≡ a ∷ h ∷ []
unfolding merged both first_commit no_commit commit_on h a b c
ancestors_of_a = refl
