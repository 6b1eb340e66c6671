-- What is found of commits that stand.
use Rattle.std.proofs.Common.{◌≡◌, refl, sym, ◌∙◌, ap, subst, ℕ, true, List, ◌∷◌, [], Some}
use Rattle.std.proofs.lemmas.Bool.{and_from, and_parts}
use Rattle.std.proofs.lemmas.Option.{same_Some}
use Rattle.tuple_codec.proofs.Options.{some_there as some_known}
use Rattle.chunk_store.specs.Chunks.{Chunks}
use Rattle.commit_graph.specs.Commits.{HasCommit, HasOneSpelling, IsCommitFound}
use Rattle.commit_graph.specs.Standing.{CommitsFollow}
use Rattle.table_root.specs.Kept.{IsKeptAt}
use Rattle.plain_sessions.specs.Records.{database_in, root_of}
use Rattle.plain_sessions.specs.Sessions.{Transaction, own_root}
use Rattle.plain_sessions.specs.SystemTables.{committed}
use Rattle.schema_model.specs.PlainCommits.{Commits, PlainCommit, commit_parts, is_known, parents_in, parents_of}
use Rattle.schema_model.specs.PlainTables.{PlainDatabase}
use Rattle.schema_model.specs.WrittenForms.{CommitParts, database_address}
use Rattle.tuple_codec.specs.Rows.{Cells}
use Rattle.tuple_codec.specs.declared.values.Value.TheVariants as cell
use Rattle.system_tables.specs.Changes.{IsRootOf}
use Rattle.system_tables.specs.Rows.{AreKnown}

module _ (address : List ℕ → List ℕ) (chunks : Chunks) (k : List ℕ) (follow : CommitsFollow) (commits : Commits) (are : AreKnown address chunks commits (k ∷ [])) where
  one : (commit : PlainCommit) × (commits k ≡ Some commit)
  one = some_known (commits k) (and_parts (is_known commits k) true are.known).0

  its_parts : IsCommitFound chunks k (commit_parts address one.0)
  its_parts = follow.found address chunks k one.0 (are.stand.each k one.0 one.1)

  pub has_commit : HasCommit chunks k
  has_commit = (commit_parts address one.0, its_parts)

  module _ (spelling : HasOneSpelling) (parts : CommitParts) (found : IsCommitFound chunks k parts) where
    same_parts : parts ≡ commit_parts address one.0
    same_parts = spelling parts (commit_parts address one.0) found.is_commit its_parts.is_commit (same_Some _ _ (sym found.held ∙ its_parts.held))

    pub shown : cell.Text parts.committer ∷ cell.Int parts.date ∷ cell.Text parts.message ∷ [] ≡ committed (commits k)
    shown = ap (λ (c : CommitParts). let cells : Cells = cell.Text c.committer ∷ cell.Int c.date ∷ cell.Text c.message ∷ [] in cells) same_parts ∙ sym (ap committed one.1)

    pub found_parents : parts.parents ≡ parents_of commits k
    found_parents = ap (λ (c : CommitParts). c.parents) same_parts ∙ sym (ap parents_in one.1)

-- the database of a transaction's head
module _ (address : List ℕ → List ℕ) (chunks : Chunks) (k : List ℕ) (follow : CommitsFollow) (t : Transaction) (of : IsRootOf address chunks k t) where
  pub known_root : AreKnown address chunks t.commits (k ∷ [])
  known_root = record { stand = of.stand; known = and_from _ _ of.known refl }

  pub root_kept : (spelling : HasOneSpelling) (parts : CommitParts) (found : IsCommitFound chunks k parts) → IsKeptAt address chunks parts.root (own_root t)
  root_kept spelling parts found =
      let here = one address chunks k follow t.commits known_root in
      let commit = here.0 in
      let same = same_parts address chunks k follow t.commits known_root spelling parts found in
      let there = of.stand.each k commit here.1 in
      let kept : IsKeptAt address chunks (database_address address commit.database) commit.database = record { stands = there.database; within = of.within k commit here.1 } in
      let own : commit.database ≡ own_root t = sym (ap database_in here.1) ∙ ap (root_of t.commits) of.is in
      subst (λ (root : List ℕ). IsKeptAt address chunks root (own_root t)) (sym (ap (λ (c : CommitParts). c.root) same))
      (subst (λ (database : PlainDatabase). IsKeptAt address chunks (database_address address commit.database) database) own kept)
