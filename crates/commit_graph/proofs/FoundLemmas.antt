-- What is found of commits that stand.
use Rattle.std.proofs.Common.{◌≡◌, refl, sym, ◌∙◌, ap, subst, ℕ, ◌≤◌, true, List, length, Option, Some, None}
use Rattle.std.specs.List.{list_all}
use Rattle.tuple_codec.proofs.Options.{some_is, some_there as some_known}
use Rattle.schema_model.specs.PlainCommits.{AreGrown, Commits, PlainCommit, commit_parts, height_in, height_of, is_known, parents_in, parents_of}
use Rattle.schema_model.specs.WrittenForms.{CommitParts}
use Rattle.chunk_store.specs.Chunks.{Chunks}
use Rattle.commit_graph.specs.Commits.{HasCommit, IsCommitFound}
use Rattle.commit_graph.specs.Standing.{CommitsStand}
use Rattle.commit_graph.proofs.CommitLemmas.{one_spelling}
use Rattle.commit_graph.proofs.StandingLemmas.{commit_found}

all_known_by : (commits : Commits) → AreGrown commits → (k : List ℕ) (o : Option PlainCommit) → commits k ≡ o → list_all (is_known commits) (parents_in o) ≡ true
all_known_by commits grown k None e = refl
all_known_by commits grown k (Some commit) e = (grown k commit e).parents

pub parents_known : (commits : Commits) → AreGrown commits → (k : List ℕ) → list_all (is_known commits) (parents_of commits k) ≡ true
parents_known commits grown k = all_known_by commits grown k (commits k) refl

same_parts : (chunks : Chunks) (k : List ℕ) (a b : CommitParts) → IsCommitFound chunks k a → IsCommitFound chunks k b → a ≡ b
same_parts chunks k a b ha hb = one_spelling a b ha.is_commit hb.is_commit (some_is _ _ (sym ha.held ∙ hb.held))

module _ (address : List ℕ → List ℕ) (chunks : Chunks) (commits : Commits) (stand : CommitsStand address chunks commits) (k : List ℕ) (known : is_known commits k ≡ true) where
  known_commit : (commit : PlainCommit) × (commits k ≡ Some commit)
  known_commit = some_known (commits k) known

  its_parts : IsCommitFound chunks k (commit_parts address known_commit.0)
  its_parts = commit_found address chunks k known_commit.0 (stand.each k known_commit.0 known_commit.1)

  pub has_commit : HasCommit chunks k
  has_commit = (commit_parts address known_commit.0, its_parts)

  pub found_parents : (parts : CommitParts) → IsCommitFound chunks k parts → parts.parents ≡ parents_of commits k
  found_parents parts found = ap (λ (c : CommitParts). c.parents) (same_parts chunks k parts (commit_parts address known_commit.0) found its_parts) ∙ ap parents_in (sym known_commit.1)

  pub found_height : (n : ℕ) → ((parts : CommitParts) → IsCommitFound chunks k parts → n ≡ parts.height) → n ≡ height_of commits k
  found_height n is = is (commit_parts address known_commit.0) its_parts ∙ ap height_in (sym known_commit.1)

  pub few_parents : length (parents_of commits k) ≤ 2
  few_parents = subst (λ o. length (parents_in o) ≤ 2) (sym known_commit.1) its_parts.is_commit.limits.few
