-- Commits that stand: an address stands for one, and they stand together.
use Rattle.std.proofs.Common.{◌≡◌, refl, sym, ◌∙◌, ap, subst, ℕ, ℤ, suc, Bool, true, false, cond, List, [], ◌∷◌, map, Option, Some, None}
use Rattle.std.specs.Prelude.{bytes_eq, is_some}
use Rattle.std.specs.List.{list_all}
use Rattle.std.specs.Cmp.Lexicographic.{bytes_decides}
use Rattle.std.proofs.lemmas.Bool.{and_parts, and_from}
use Rattle.tuple_codec.proofs.Options.{some_is}
use Rattle.schema_model.specs.PlainCommits.{AreGrown, Commits, IsGrown, PlainCommit, commit_address, commit_parts, greatest, height_in, height_of, is_known, plain_commit_bytes, with_commit}
use Rattle.schema_model.specs.PlainTables.{PlainDatabase}
use Rattle.schema_model.specs.WrittenForms.{CommitParts, database_address}
use Rattle.chunk_store.specs.Chunks.{Chunks, Extends}
use Rattle.prolly_tree.proofs.Growing.{there_later}
use Rattle.table_root.specs.Standing.{DatabasesStand}
use Rattle.commit_graph.specs.Commits.{IsCommitFound}
use Rattle.commit_graph.specs.Standing.{CommitsFollow, CommitsStand, IsCommitAt, IsCommitThere, first_of, in_either}
use Rattle.commit_graph.proofs.CommitLemmas.{one_spelling}

commit_as : PlainDatabase → List (List ℕ) → ℕ → ℤ → List ℕ → List ℕ → PlainCommit
commit_as database parents height date committer message =
    record { database = database; parents = parents; height = height; date = date; committer = committer; message = message }

same_commit : (a b : PlainCommit) → a.database ≡ b.database → a.parents ≡ b.parents → a.height ≡ b.height → a.date ≡ b.date → a.committer ≡ b.committer
    → a.message ≡ b.message → a ≡ b
unfolding commit_as
same_commit a b database parents height date committer message =
    ap (λ x. commit_as x a.parents a.height a.date a.committer a.message) database ∙ ap (λ x. commit_as b.database x a.height a.date a.committer a.message) parents
    ∙ ap (λ x. commit_as b.database b.parents x a.date a.committer a.message) height ∙ ap (λ x. commit_as b.database b.parents b.height x a.committer a.message) date
    ∙ ap (λ x. commit_as b.database b.parents b.height b.date x a.message) committer ∙ ap (λ x. commit_as b.database b.parents b.height b.date b.committer x) message

pub commit_found : (address : List ℕ → List ℕ) (chunks : Chunks) (k : List ℕ) (commit : PlainCommit) → IsCommitThere address chunks k commit → IsCommitFound chunks k (commit_parts address commit)
commit_found address chunks k commit is = record { is_commit = is.is_commit; held = ap chunks (sym is.named) ∙ is.there.0 }

-- ---- look-ups that agree

-- what the one has, the other has, too
abbrev Keeps : Commits → Commits → Type 0
Keeps commits more = (k : List ℕ) (commit : PlainCommit) → commits k ≡ Some commit → more k ≡ Some commit

known_by : (commits more : Commits) → Keeps commits more → (k : List ℕ) (o : Option PlainCommit) → commits k ≡ o → is_some o ≡ true → more k ≡ o
known_by commits more keeps k None e h = absurd cc
known_by commits more keeps k (Some commit) e h = keeps k commit e

known_more : (commits more : Commits) → Keeps commits more → (k : List ℕ) → is_known commits k ≡ true → commits k ≡ more k
known_more commits more keeps k h = sym (known_by commits more keeps k (commits k) refl h)

all_known : (commits more : Commits) → Keeps commits more → (ks : List (List ℕ)) → list_all (is_known commits) ks ≡ true → list_all (is_known more) ks ≡ true
all_known commits more keeps [] h = refl
all_known commits more keeps (k ∷ ks) h =
    let both = and_parts (is_known commits k) (list_all (is_known commits) ks) h in
    and_from (is_known more k) _ (ap is_some (sym (known_more commits more keeps k both.0)) ∙ both.0) (all_known commits more keeps ks both.1)

same_heights : (commits more : Commits) → Keeps commits more → (ks : List (List ℕ)) → list_all (is_known commits) ks ≡ true → map (height_of commits) ks ≡ map (height_of more) ks
same_heights commits more keeps [] h = refl
same_heights commits more keeps (k ∷ ks) h =
    let both = and_parts (is_known commits k) (list_all (is_known commits) ks) h in
    ap (λ n. n ∷ map (height_of commits) ks) (ap height_in (known_more commits more keeps k both.0)) ∙ ap (λ ns. height_of more k ∷ ns) (same_heights commits more keeps ks both.1)

grown_more : (commits more : Commits) → Keeps commits more → (commit : PlainCommit) → IsGrown commits commit → IsGrown more commit
grown_more commits more keeps commit is = record {
  parents = all_known commits more keeps commit.parents is.parents;
  height = is.height ∙ ap (λ ns. suc (greatest ns)) (same_heights commits more keeps commit.parents is.parents);
}

-- ---- one address, one commit

module _ (laws : DatabasesStand) (address : List ℕ → List ℕ) (chunks : Chunks) where
  one_commit : (k : List ℕ) (commit other : PlainCommit) → IsCommitThere address chunks k commit → IsCommitThere address chunks k other → commit ≡ other
  one_commit k commit other a b =
      let bytes : plain_commit_bytes address commit ≡ plain_commit_bytes address other = some_is _ _ (sym a.there.0 ∙ ap chunks (a.named ∙ sym b.named) ∙ b.there.0) in
      let parts : commit_parts address commit ≡ commit_parts address other = one_spelling (commit_parts address commit) (commit_parts address other) a.is_commit b.is_commit bytes in
      same_commit commit other
      ((laws.exactly address chunks (database_address address commit.database) (database_address address other.database) commit.database other.database a.database b.database).0
      (ap (λ (p : CommitParts). p.root) parts))
      (ap (λ (p : CommitParts). p.parents) parts) (ap (λ (p : CommitParts). p.height) parts) (ap (λ (p : CommitParts). p.date) parts)
      (ap (λ (p : CommitParts). p.committer) parts) (ap (λ (p : CommitParts). p.message) parts)

  either_by : (o p : Option PlainCommit) (k : List ℕ) (commit : PlainCommit) → ((c : PlainCommit) → o ≡ Some c → IsCommitThere address chunks k c)
      → ((c : PlainCommit) → p ≡ Some c → IsCommitThere address chunks k c) → first_of o p ≡ Some commit → IsCommitThere address chunks k commit
  either_by None p k commit first second e = second commit e
  either_by (Some c) p k commit first second e = first commit e

  keeps_first : (o p : Option PlainCommit) (commit : PlainCommit) → o ≡ Some commit → first_of o p ≡ Some commit
  keeps_first None p commit e = absurd cc
  keeps_first (Some c) p commit e = e

  keeps_second : (o p : Option PlainCommit) (k : List ℕ) (commit : PlainCommit) → ((c : PlainCommit) → o ≡ Some c → IsCommitThere address chunks k c)
      → IsCommitThere address chunks k commit → p ≡ Some commit → first_of o p ≡ Some commit
  keeps_second None p k commit first there e = e
  keeps_second (Some c) p k commit first there e = ap Some (one_commit k c commit (first c refl) there)

  grown_by : (commits others more : Commits) → Keeps commits more → Keeps others more → AreGrown commits → AreGrown others → (k : List ℕ) (o : Option PlainCommit) (commit : PlainCommit)
      → commits k ≡ o → first_of o (others k) ≡ Some commit → IsGrown more commit
  grown_by commits others more keeps keeps_others first second k None commit at e = grown_more others more keeps_others commit (second k commit e)
  grown_by commits others more keeps keeps_others first second k (Some c) commit at e = grown_more commits more keeps commit (first k commit (at ∙ e))

  both_stand : (commits others : Commits) → CommitsStand address chunks commits → CommitsStand address chunks others → CommitsStand address chunks (in_either commits others)
  both_stand commits others a b = record {
    each = λ k commit e. either_by (commits k) (others k) k commit (λ c at. a.each k c at) (λ c at. b.each k c at) e;
    grown = λ k commit e.
        grown_by commits others (in_either commits others) (λ l c at. keeps_first (commits l) (others l) c at)
        (λ l c at. keeps_second (commits l) (others l) l c (λ d is. a.each l d is) (b.each l c at) at) a.grown b.grown k (commits k) commit refl e;
  }

  -- ---- one more

  with_by : (commits : Commits) (k : List ℕ) (commit : PlainCommit) → IsCommitThere address chunks k commit → (other : List ℕ) (same : Bool) (c : PlainCommit) → bytes_eq other k ≡ same
      → ((d : PlainCommit) → commits other ≡ Some d → IsCommitThere address chunks other d) → cond same (Some commit) (commits other) ≡ Some c → IsCommitThere address chunks other c
  with_by commits k commit there other true c e each at =
      subst (λ (x : PlainCommit). IsCommitThere address chunks other x) (some_is commit c at)
      (subst (λ (j : List ℕ). IsCommitThere address chunks j commit) (sym ((bytes_decides other k).0 e)) there)
  with_by commits k commit there other false c e each at = each c at

  keeps_by : (commits : Commits) (k : List ℕ) (commit : PlainCommit) → IsCommitThere address chunks k commit → (other : List ℕ) (same : Bool) (c : PlainCommit) → bytes_eq other k ≡ same
      → IsCommitThere address chunks other c → commits other ≡ Some c → cond same (Some commit) (commits other) ≡ Some c
  keeps_by commits k commit there other true c e is at =
      ap Some (one_commit k commit c there (subst (λ (j : List ℕ). IsCommitThere address chunks j c) ((bytes_decides other k).0 e) is))
  keeps_by commits k commit there other false c e is at = at

  grown_with : (commits more : Commits) (commit : PlainCommit) → IsGrown more commit → (other : List ℕ) (same : Bool) (c : PlainCommit)
      → ((d : PlainCommit) → commits other ≡ Some d → IsGrown more d) → cond same (Some commit) (commits other) ≡ Some c → IsGrown more c
  grown_with commits more commit is other true c each at = subst (IsGrown more) (some_is commit c at) is
  grown_with commits more commit is other false c each at = each c at

  stands_with : (commits : Commits) (k : List ℕ) (commit : PlainCommit) → CommitsStand address chunks commits → IsCommitThere address chunks k commit → IsGrown commits commit
      → CommitsStand address chunks (with_commit k commit commits)
  stands_with commits k commit stand there grown =
      let more = with_commit k commit commits in
      let keeps : Keeps commits more = λ other c at. keeps_by commits k commit there other (bytes_eq other k) c refl (stand.each other c at) at in
      record {
        each = λ other c at. with_by commits k commit there other (bytes_eq other k) c refl (λ d is. stand.each other d is) at;
        grown = λ other c at.
            grown_with commits more commit (grown_more commits more keeps commit grown) other (bytes_eq other k) c (λ d is. grown_more commits more keeps d (stand.grown other d is)) at;
      }

  commits_same : (k l : List ℕ) (commit other : PlainCommit) → IsCommitAt address chunks k commit → IsCommitAt address chunks l other → ((k ≡ l) → (commit ≡ other)) × ((commit ≡ other) → (k ≡ l))
  commits_same k l commit other a b =
      let first = a.1.each k commit a.2 in
      let second = b.1.each l other b.2 in (
        λ same. one_commit l commit other (subst (λ (j : List ℕ). IsCommitThere address chunks j commit) same first) second,
        λ same. sym first.named ∙ ap (commit_address address) same ∙ second.named,
      )

commits_later : DatabasesStand → (address : List ℕ → List ℕ) (old new : Chunks) (commits : Commits) → Extends old new → CommitsStand address old commits → CommitsStand address new commits
commits_later laws address old new commits more stand = record {
  each = λ k commit at. let is = stand.each k commit at in record {
    is_commit = is.is_commit;
    named = is.named;
    there = there_later address old new more (plain_commit_bytes address commit) is.there;
    database = laws.later address old new (database_address address commit.database) commit.database more is.database;
  };
  grown = stand.grown;
}

pub commits_follow : DatabasesStand → CommitsFollow
commits_follow laws = record {
  found = commit_found;
  one = one_commit laws;
  exactly = commits_same laws;
  later = commits_later laws;
  either = both_stand laws;
  put = λ address chunks commits k commit. stands_with laws address chunks commits k commit;
}
