-- The database of a commit, read from a draft.
use Rattle.std.proofs.Common.{◌≡◌, refl, sym, ap, ◌∙◌, subst, ℕ, true, List, Option, None, Some}
use Rattle.std.specs.Prelude.{is_some}
use Rattle.std.proofs.lemmas.Option.{same_Some}
use Rattle.schema_model.specs.PlainCommits.{Commits, PlainCommit, commit_parts, height_in, height_of, is_known}
use Rattle.schema_model.specs.PlainTables.{PlainDatabase}
use Rattle.schema_model.specs.WrittenForms.{CommitParts, commit_bytes, database_address}
use Rattle.chunk_store.specs.Chunks.{Extends, chunk_bytes}
use Rattle.chunk_store.specs.Drafts.{DraftParts, chunks_of}
use Rattle.chunk_store.specs.Laws.{ChunksFollow}
use Rattle.commit_graph.specs.Commits.{HasCommit, HasOneSpelling, IsCommitFound, parts_of}
use Rattle.commit_graph.specs.Standing.{CommitsFollow}
use Rattle.commit_graph.specs.declared.commits.CommitRecord.{CommitRecord}
use Rattle.table_root.specs.Kept.{IsKeptAt}
use Rattle.table_root.specs.Standing.{DatabasesStand}
use Rattle.plain_sessions.specs.Records.{database_in, root_of}
use Rattle.session_state.specs.Commits.{CommitsAreThere}

module _ (address : List ℕ → List ℕ) (chunks : ChunksFollow) (law : CommitsFollow) (d : DraftParts) (commits : Commits) (there : CommitsAreThere address (chunk_bytes d.base) commits) (k : List ℕ) where
  more : Extends (chunk_bytes d.base) (chunks_of d)
  more = chunks.extends_left d.base d.own

  found_by : (o : Option PlainCommit) → commits k ≡ o → is_some o ≡ true → (commit : PlainCommit) × (commits k ≡ Some commit)
  found_by None is known = absurd (cc)
  found_by (Some commit) is known = (commit, is)

  pub commit_of : is_known commits k ≡ true → (commit : PlainCommit) × (commits k ≡ Some commit)
  commit_of known = found_by (commits k) refl known

  found : (commit : PlainCommit) → commits k ≡ Some commit → IsCommitFound (chunks_of d) k (commit_parts address commit)
  found commit is =
      let stand = there.stand in
      let at = law.found address (chunk_bytes d.base) k commit (stand.each k commit is) in
      record { is_commit = at.is_commit; held = more k (commit_bytes (commit_parts address commit)) at.held }

  pub has_commit : is_known commits k ≡ true → HasCommit (chunks_of d) k
  has_commit known = let one = commit_of known in (commit_parts address one.0, found one.0 one.1)

  -- a commit's height is the one that is found
  pub height_is : is_known commits k ≡ true → (result : ℕ) → ((commit : CommitParts) → IsCommitFound (chunks_of d) k commit → result ≡ commit.height) → result ≡ height_of commits k
  height_is known result told = let one = commit_of known in told (commit_parts address one.0) (found one.0 one.1) ∙ sym (ap height_in one.1)

  pub root_kept : HasOneSpelling → DatabasesStand → is_known commits k ≡ true → (read : CommitRecord) → IsCommitFound (chunks_of d) k (parts_of read)
      → IsKeptAt address (chunks_of d) read.root.0 (root_of commits k)
  root_kept spelling databases known read at =
      let one = commit_of known in
      let commit = one.0 in
      let stand = there.stand in
      let here = stand.each k commit one.1 in
      let other = found commit one.1 in
      let bytes : commit_bytes (parts_of read) ≡ commit_bytes (commit_parts address commit) = same_Some (commit_bytes (parts_of read)) (commit_bytes (commit_parts address commit)) (sym at.held ∙ other.held) in
      let same = spelling (parts_of read) (commit_parts address commit) at.is_commit other.is_commit bytes in
      let root : read.root.0 ≡ database_address address commit.database = ap (λ (parts : CommitParts). parts.root) same in
      let database : root_of commits k ≡ commit.database = ap database_in one.1 in
      subst (λ (other : PlainDatabase). IsKeptAt address (chunks_of d) read.root.0 other) (sym database)
      (subst (λ (root : List ℕ). IsKeptAt address (chunks_of d) root commit.database) (sym root)
      (record {
        stands = databases.later address (chunk_bytes d.base) (chunks_of d) (database_address address commit.database) commit.database more here.database;
        within = there.within k commit one.1;
      }))
