-- The commits that stand in chunks, and no others: they are determined, and grow with the chunks.
use Rattle.std.proofs.Common.{◌≡◌, refl, ◌∙◌, sym, ap, subst, ℕ, zero, suc, Bool, true, false, true≢false, cond, ◌||◌, List, [], ◌∷◌, ◌++◌, ◌⊎◌, inl, inr, Option, Some, None}
use Rattle.std.specs.Prelude.{bytes_eq, is_some}
use Rattle.std.specs.List.{list_all}
use Rattle.std.specs.Cmp.Lexicographic.{bytes_decides, pointwise_decides}
use Rattle.std.proofs.lemmas.Bool.Decides.{Decides-and, Decides-eqb, Decides-int_eq}
use Rattle.std.proofs.lemmas.Option.{cond_some, same_Some}
use Rattle.tuple_codec.proofs.Options.{some_there as what_is_known}
use Rattle.schema_model.specs.Limits.{is_database_within_limits}
use Rattle.schema_model.specs.PlainCommits.{AreGrown, Commits, IsAncestor, IsAncestorBy, IsGrown, PlainCommit, commit_address, has_address, is_known, parents_in, parents_of, plain_commit_bytes, with_commit}
use Rattle.schema_model.specs.Sameness.{SamenessIsEquality}
use Rattle.chunk_store.specs.Chunks.{Chunk, Chunks, Extends, chunk_bytes}
use Rattle.chunk_store.specs.Kinds.{is_commit}
use Rattle.chunk_store.specs.Laws.{ChunksFollow}
use Rattle.chunk_store.proofs.ChunkLemmas.{at_join, either_some}
use Rattle.commit_graph.specs.Standing as graph
use Rattle.commit_graph.specs.Standing.{IsCommitThere, first_of, in_either}
use Rattle.plain_sessions.specs.Records.{added_at, is_same_commit, with_new_commit}
use Rattle.plain_sessions.specs.Moments.{commits_with}
use Rattle.plain_sessions.specs.StateLimits.{IsFirst}
use Rattle.plain_writes.proofs.InsertionLemmas.{two, left_so, right_so}
use Rattle.session_state.specs.Commits.{AreAmong, CommitsAreThere, HasNoCommit}
use Rattle.session_state.specs.Laws.{CommitsFollow}

-- ---- what is known

pub known_among : (commits others : Commits) → AreAmong commits others → (k : List ℕ) → is_known commits k ≡ true → is_known others k ≡ true
known_among commits others among k known =
    let commit = what_is_known (commits k) known in ap is_some (among k commit.0 commit.1)

either_known : (o p : Option PlainCommit) → is_some (first_of o p) ≡ true → (is_some o ≡ true) ⊎ (is_some p ≡ true)
either_known None p known = inr known
either_known (Some commit) p known = inl refl

known_first : (o p : Option PlainCommit) → is_some o ≡ true → is_some (first_of o p) ≡ true
known_first None p known = cc
known_first (Some commit) p known = refl

known_second : (o p : Option PlainCommit) → is_some p ≡ true → is_some (first_of o p) ≡ true
known_second None p known = known
known_second (Some commit) p known = refl

-- ---- ancestors where more is known

has_parent : (commits : Commits) (ks : List (List ℕ)) (k : List ℕ) → list_all (is_known commits) ks ≡ true → has_address ks k ≡ true → is_known commits k ≡ true
has_parent commits [] k all has = cc
has_parent commits (other ∷ ks) k all has = two (bytes_eq k other)
    (λ e. ap (is_known commits) ((bytes_decides k other).0 e) ∙ left_so (is_known commits other) (list_all (is_known commits) ks) all)
    (λ e. has_parent commits ks k (right_so (is_known commits other) (list_all (is_known commits) ks) all) (sym (ap (λ b. b || has_address ks k) e) ∙ has))

parent_known : (commits : Commits) → AreGrown commits → (o : Option PlainCommit) (k parent : List ℕ) → commits k ≡ o → has_address (parents_of commits k) parent ≡ true → is_known commits parent ≡ true
parent_known commits grown None k parent at has = absurd (cc)
parent_known commits grown (Some commit) k parent at has =
    has_parent commits commit.parents parent (grown k commit at).parents (sym (ap (λ o. has_address (parents_in o) parent) at) ∙ has)

same_at : (commits others : Commits) → AreAmong commits others → (k : List ℕ) → is_known commits k ≡ true → commits k ≡ others k
same_at commits others among k known = let commit = what_is_known (commits k) known in commit.1 ∙ sym (among k commit.0 commit.1)

-- a walk from a known commit stays among those
walk_stays : (commits others : Commits) → AreAmong commits others → AreGrown commits → (steps : ℕ) (k last : List ℕ) → is_known commits k ≡ true → IsAncestorBy others steps k last
    → is_known commits last ≡ true
walk_stays commits others among grown zero k last known (there, is) = subst (λ (j : List ℕ). is_known commits j ≡ true) is known
walk_stays commits others among grown (suc steps) k last known (parent, has, rest) =
    let here : has_address (parents_of commits k) parent ≡ true = ap (λ (o : Option PlainCommit). has_address (parents_in o) parent) (same_at commits others among k known) ∙ has in
    walk_stays commits others among grown steps parent last (parent_known commits grown (commits k) k parent refl here) rest

has_more : (commits others : Commits) → AreAmong commits others → (o : Option PlainCommit) (k parent : List ℕ) → commits k ≡ o → has_address (parents_of commits k) parent ≡ true
    → has_address (parents_of others k) parent ≡ true
has_more commits others among None k parent at has =
    absurd (true≢false (sym has ∙ ap (λ (o : Option PlainCommit). has_address (parents_in o) parent) at))
has_more commits others among (Some commit) k parent at has =
    ap (λ (o : Option PlainCommit). has_address (parents_in o) parent) (among k commit at ∙ sym at) ∙ has

ancestor_more : (commits others : Commits) → AreAmong commits others → (steps : ℕ) (k last : List ℕ) → IsAncestorBy commits steps k last → IsAncestorBy others steps k last
ancestor_more commits others among zero k last (there, is) = (known_among commits others among k there, is)
ancestor_more commits others among (suc steps) k last (parent, has, rest) =
    (parent, has_more commits others among (commits k) k parent refl has, ancestor_more commits others among steps parent last rest)

ancestor_joins : (commits : Commits) (steps : ℕ) (k middle last : List ℕ) → IsAncestorBy commits steps k middle → IsAncestor commits middle last → IsAncestor commits k last
ancestor_joins commits zero k middle last (there, is) more = subst (λ (j : List ℕ). IsAncestor commits j last) (sym is) more
ancestor_joins commits (suc steps) k middle last (parent, has, rest) more =
    let found = ancestor_joins commits steps parent middle last rest more in (suc found.0, (parent, has, found.1))

-- two look-ups that go on from a third, which has a commit: the first of the one is the first of both
first_of_both : (base some others both : Commits) → AreAmong base some → AreAmong base others → AreAmong some both → AreAmong others both → AreGrown base
    → ((k : List ℕ) → is_known both k ≡ true → (is_known some k ≡ true) ⊎ (is_known others k ≡ true))
    → (k first last : List ℕ) → is_known base k ≡ true → IsFirst some first → IsFirst others last → IsFirst both first
first_of_both base some others both in_some in_others some_in others_in grown either k first last known is_first is_last j known_both =
    let walk = is_last k (known_among base others in_others k known) in
    let middle = is_first last (known_among base some in_some last (walk_stays base others in_others grown walk.0 k last known walk.1)) in
    elim (either j known_both) [
      | inl l ↦ (let way = is_first j l in (way.0, ancestor_more some both some_in way.0 j first way.1))
      | inr r ↦ (let way = is_last j r in
          ancestor_joins both way.0 j last first (ancestor_more others both others_in way.0 j last way.1) (middle.0, ancestor_more some both some_in middle.0 last first middle.1))
    ]

-- ---- commits that are the same

commit_told : SamenessIsEquality → (a b : PlainCommit) → a ≡ b → is_same_commit a b ≡ true
commit_told same a b is =
    (Decides-and _ _ (Decides-and _ _ (Decides-and _ _ (Decides-and _ _ (Decides-and _ _ (same.databases a.database b.database) (pointwise_decides bytes_decides a.parents b.parents))
    (Decides-eqb a.height b.height)) (Decides-int_eq a.date b.date)) (bytes_decides a.committer b.committer)) (bytes_decides a.message b.message)).1 (
      (
        (((ap (λ (c : PlainCommit). c.database) is, ap (λ (c : PlainCommit). c.parents) is), ap (λ (c : PlainCommit). c.height) is), ap (λ (c : PlainCommit). c.date) is),
        ap (λ (c : PlainCommit). c.committer) is,
      ),
      ap (λ (c : PlainCommit). c.message) is,
    )

-- ---- what stands

only_one : (o p : Option PlainCommit) (k : List ℕ) (P : PlainCommit → Type 0) (commit : PlainCommit) → ((c : PlainCommit) → o ≡ Some c → P c) → ((c : PlainCommit) → p ≡ Some c → P c)
    → first_of o p ≡ Some commit → P commit
only_one None p k P commit first second e = second commit e
only_one (Some c) p k P commit first second e = first commit e

itself : (o p : Option PlainCommit) → ((c : PlainCommit) → p ≡ Some c → o ≡ Some c) → o ≡ first_of o p
itself None None among = refl
itself None (Some c) among = among c refl
itself (Some d) p among = refl

either_itself : (commits base : Commits) → AreAmong base commits → commits ≡ in_either commits base
either_itself commits base among = λ i k. itself (commits k) (base k) (among k) i

module _ (laws : graph.CommitsFollow) (address : List ℕ → List ℕ) where
  pub all_among : (old new : Chunks) (commits others : Commits) → Extends old new → CommitsAreThere address old commits → CommitsAreThere address new others → AreAmong commits others
  all_among old new commits others more a b k commit at =
      let is = (laws.later address old new commits more a.stand).each k commit at in
      let held : new k ≡ Some (plain_commit_bytes address commit) = ap new (sym is.named) ∙ is.there.0 in
      let other = what_is_known (others k) (b.no_others k (plain_commit_bytes address commit) held refl) in
      other.1 ∙ ap Some (laws.one address new k other.0 commit (b.stand.each k other.0 other.1) is)

  same_by : (commits others : Commits) → AreAmong commits others → AreAmong others commits → (k : List ℕ) (o p : Option PlainCommit) → commits k ≡ o → others k ≡ p → commits k ≡ others k
  same_by commits others here there k None None e f = e ∙ sym f
  same_by commits others here there k None (Some c) e f = there k c f ∙ sym f
  same_by commits others here there k (Some c) p e f = e ∙ sym (here k c e)

  pub same_commits : (chunks : Chunks) (commits others : Commits) → CommitsAreThere address chunks commits → CommitsAreThere address chunks others → (k : List ℕ) → commits k ≡ others k
  same_commits chunks commits others a b k =
      let itself_more : Extends chunks chunks = λ j bytes held. held in
      same_by commits others (all_among chunks chunks commits others itself_more a b) (all_among chunks chunks others commits itself_more b a) k (commits k) (others k) refl refl

module _ (chunk_laws : ChunksFollow) (laws : graph.CommitsFollow) (address : List ℕ → List ℕ) where
  in_one : (store more : List Chunk) (k bytes : List ℕ) → chunk_bytes (store ++ more) k ≡ Some bytes → (chunk_bytes store k ≡ Some bytes) ⊎ (chunk_bytes more k ≡ Some bytes)
  in_one store more k bytes held = either_some (chunk_bytes store k) (chunk_bytes more k) bytes (sym (at_join store more k) ∙ held)

  still_there : (store more : List Chunk) (commits : Commits) → ((k bytes : List ℕ) → chunk_bytes more k ≡ Some bytes → is_commit bytes ≡ true → is_known commits k ≡ true)
      → CommitsAreThere address (chunk_bytes store) commits → CommitsAreThere address (chunk_bytes (store ++ more)) commits
  still_there store more commits none there = record {
    stand = laws.later address (chunk_bytes store) (chunk_bytes (store ++ more)) commits (chunk_laws.extends_left store more) there.stand;
    no_others = λ k bytes held is. elim (in_one store more k bytes held) [ inl l ↦ there.no_others k bytes l is | inr r ↦ none k bytes r is ];
    within = there.within;
    first = there.first;
  }

  pub there_beside : (store more : List Chunk) (commits : Commits) → HasNoCommit more → CommitsAreThere address (chunk_bytes store) commits → CommitsAreThere address (chunk_bytes (store ++ more)) commits
  there_beside store more commits none there = still_there store more commits (λ k bytes held is. absurd (none k bytes held is)) there

  -- ---- one more

  from_parent : (commits after : Commits) (k parent first : List ℕ) (commit : PlainCommit) → AreAmong commits after → IsGrown commits commit → after k ≡ Some commit
      → has_address commit.parents parent ≡ true → IsFirst commits first → IsAncestor after k first
  from_parent commits after k parent first commit among grown at has is_first =
      let way = is_first parent (has_parent commits commit.parents parent grown.parents has) in
      (suc way.0, (parent, ap (λ (o : Option PlainCommit). has_address (parents_in o) parent) at ∙ has, ancestor_more commits after among way.0 parent first way.1))

  with_among : (commits : Commits) (k j : List ℕ) (commit c : PlainCommit) (same : Bool) → commits k ≡ None → bytes_eq j k ≡ same → commits j ≡ Some c → cond same (Some commit) (commits j) ≡ Some c
  with_among commits k j commit c true none e at = absurd (nothing c (sym none ∙ ap commits (sym ((bytes_decides j k).0 e)) ∙ at)) where
    nothing : (x : PlainCommit) → ◌≡◌ {A = Option PlainCommit} None (Some x) → ⊥
    nothing x is = cc
  with_among commits k j commit c false none e at = at

  with_itself : (commits : Commits) (k : List ℕ) (commit : PlainCommit) → with_commit k commit commits k ≡ Some commit
  with_itself commits k commit = ap (λ b. cond b (Some commit) (commits k)) ((bytes_decides k k).1 refl)

  within_with : (commits : Commits) (commit c : PlainCommit) (j : List ℕ) (same : Bool) → ((d : PlainCommit) → commits j ≡ Some d → is_database_within_limits d.database ≡ true)
      → is_database_within_limits commit.database ≡ true → cond same (Some commit) (commits j) ≡ Some c → is_database_within_limits c.database ≡ true
  within_with commits commit c j true each is e = subst (λ (d : PlainCommit). is_database_within_limits d.database ≡ true) (same_Some commit c e) is
  within_with commits commit c j false each is e = each c e

  first_with : (commits after : Commits) (k j first : List ℕ) (same : Bool) (o : Option PlainCommit) → AreAmong commits after → IsFirst commits first → IsAncestor after k first
      → bytes_eq j k ≡ same → cond same o (commits j) ≡ after j → is_known after j ≡ true → IsAncestor after j first
  first_with commits after k j first true o among is_first new e at known = subst (λ (i : List ℕ). IsAncestor after i first) (sym ((bytes_decides j k).0 e)) new
  first_with commits after k j first false o among is_first new e at known =
      let way = is_first j (ap is_some at ∙ known) in (way.0, ancestor_more commits after among way.0 j first way.1)

  module _ (same : SamenessIsEquality) where
    one_by : (store more : List Chunk) (commits : Commits) (commit : PlainCommit) (o : Option PlainCommit) → commits (commit_address address commit) ≡ o
        → CommitsAreThere address (chunk_bytes store) commits → IsCommitThere address (chunk_bytes (store ++ more)) (commit_address address commit) commit → IsGrown commits commit
        → is_database_within_limits commit.database ≡ true → (parent : List ℕ) → has_address commit.parents parent ≡ true
        → ((k bytes : List ℕ) → chunk_bytes more k ≡ Some bytes → is_commit bytes ≡ true → k ≡ commit_address address commit)
        → (after : Commits) × (added_at (commit_address address commit) commit o commits ≡ Some after) × CommitsAreThere address (chunk_bytes (store ++ more)) after
    one_by store more commits commit None at there is grown within parent has only =
        let k = commit_address address commit in
        let after = with_commit k commit commits in
        let extends = chunk_laws.extends_left store more in
        let among : AreAmong commits after = λ j c here. with_among commits k j commit c (bytes_eq j k) at refl here in
        let known : is_known after k ≡ true = ap is_some (with_itself commits k commit) in (
          after,
          refl,
          record {
            stand = laws.put address (chunk_bytes (store ++ more)) commits k commit (laws.later address (chunk_bytes store) (chunk_bytes (store ++ more)) commits extends there.stand) is grown;
            no_others = λ j bytes held five. elim (in_one store more j bytes held) [
              | inl l ↦ known_among commits after among j (there.no_others j bytes l five)
              | inr r ↦ ap (is_known after) (only j bytes r five) ∙ known
            ];
            within = λ j c here. within_with commits commit c j (bytes_eq j k) (there.within j) within here;
            first = (
              there.first.0,
              λ j here. first_with commits after k j there.first.0 (bytes_eq j k) (Some commit) among there.first.1
                  (from_parent commits after k parent there.first.0 commit among grown (with_itself commits k commit) has there.first.1) refl refl here,
            );
          },
        )
    one_by store more commits commit (Some other) at there is grown within parent has only =
        let k = commit_address address commit in
        let extends = chunk_laws.extends_left store more in
        let stands = (laws.later address (chunk_bytes store) (chunk_bytes (store ++ more)) commits extends there.stand).each k other at in
        let told = commit_told same commit other (laws.one address (chunk_bytes (store ++ more)) k commit other is stands) in (
          commits,
          ap (λ b. cond b (Some commits) None) told,
          still_there store more commits (λ j bytes held five. ap (is_known commits) (only j bytes held five) ∙ ap is_some at) there,
        )

    pub there_with_one : (store more : List Chunk) (commits : Commits) (commit : PlainCommit) → CommitsAreThere address (chunk_bytes store) commits
        → IsCommitThere address (chunk_bytes (store ++ more)) (commit_address address commit) commit → IsGrown commits commit → is_database_within_limits commit.database ≡ true
        → (parent : List ℕ) → has_address commit.parents parent ≡ true
        → ((k bytes : List ℕ) → chunk_bytes more k ≡ Some bytes → is_commit bytes ≡ true → k ≡ commit_address address commit)
        → (after : Commits) × (with_new_commit address commit commits ≡ Some after) × CommitsAreThere address (chunk_bytes (store ++ more)) after
    there_with_one store more commits commit = one_by store more commits commit (commits (commit_address address commit)) refl

-- ---- a commit that was made over some of the commits, made over all

module _ (same : SamenessIsEquality) (address : List ℕ → List ℕ) (base commits over : Commits) (among : AreAmong base commits)
    (one : (k : List ℕ) (c d : PlainCommit) → commits k ≡ Some c → over k ≡ Some d → d ≡ c) where
  beside_at : (k j : List ℕ) (commit : PlainCommit) (t : Bool) → bytes_eq j k ≡ t → commits k ≡ None → cond t (Some commit) (commits j) ≡ first_of (commits j) (cond t (Some commit) (base j))
  beside_at k j commit true e none = sym (ap (λ (o : Option PlainCommit). first_of o (Some commit)) (ap commits ((bytes_decides j k).0 e) ∙ none))
  beside_at k j commit false e none = itself (commits j) (base j) (among j)

  held_at : (k j : List ℕ) (commit d : PlainCommit) (t : Bool) → bytes_eq j k ≡ t → commits k ≡ Some d → commits j ≡ first_of (commits j) (cond t (Some commit) (base j))
  held_at k j commit d true e some =
      let at : commits j ≡ Some d = ap commits ((bytes_decides j k).0 e) ∙ some in at ∙ sym (ap (λ (o : Option PlainCommit). first_of o (Some commit)) at)
  held_at k j commit d false e some = itself (commits j) (base j) (among j)

  new_by : (k : List ℕ) (commit : PlainCommit) (o p : Option PlainCommit) → base k ≡ o → commits k ≡ p → added_at k commit o base ≡ Some over
      → added_at k commit p commits ≡ Some (in_either commits over)
  new_by k commit None None e f is =
      ap Some (subst (λ (x : Commits). with_commit k commit commits ≡ in_either commits x) (same_Some (with_commit k commit base) over is)
      (λ i j. beside_at k j commit (bytes_eq j k) refl f i))
  new_by k commit None (Some d) e f is =
      let made : with_commit k commit base ≡ over = same_Some (with_commit k commit base) over is in
      let at : over k ≡ Some commit = ap (λ (x : Commits). x k) (sym made) ∙ ap (λ b. cond b (Some commit) (base k)) ((bytes_decides k k).1 refl) in
      ap (λ b. cond b (Some commits) None) (commit_told same commit d (one k d commit f at))
      ∙ ap Some (subst (λ (x : Commits). commits ≡ in_either commits x) made (λ i j. held_at k j commit d (bytes_eq j k) refl f i))
  new_by k commit (Some c) p e f is =
      let parts = cond_some (is_same_commit commit c) base over is in
      subst (λ (q : Option PlainCommit). added_at k commit q commits ≡ Some (in_either commits over)) (sym (among k c e) ∙ f)
      (ap (λ b. cond b (Some commits) None) parts.0 ∙ ap Some (subst (λ (x : Commits). commits ≡ in_either commits x) parts.1 (either_itself commits base among)))

  made_by : (made : Option PlainCommit) → commits_with address made base ≡ Some over → commits_with address made commits ≡ Some (in_either commits over)
  made_by None is = ap Some (subst (λ (x : Commits). commits ≡ in_either commits x) (same_Some base over is) (either_itself commits base among))
  made_by (Some commit) is = new_by (commit_address address commit) commit (base (commit_address address commit)) (commits (commit_address address commit)) refl refl is

second_keeps : (o p : Option PlainCommit) (c : PlainCommit) → ((d : PlainCommit) → o ≡ Some d → d ≡ c) → p ≡ Some c → first_of o p ≡ Some c
second_keeps None p c same at = at
second_keeps (Some d) p c same at = ap Some (same d refl)

-- what was made over a store whose commits are among those found, where both are held together with it
module _ (laws : graph.CommitsFollow) (same : SamenessIsEquality) (address : List ℕ → List ℕ) (store found planned all : Chunks) (base commits over : Commits)
    (in_found : Extends store found) (in_planned : Extends store planned) (found_in : Extends found all) (planned_in : Extends planned all)
    (base_there : CommitsAreThere address store base) (commits_there : CommitsAreThere address found commits) (over_there : CommitsAreThere address planned over) where
  abbrev base_found : AreAmong base commits
  base_found = all_among laws address store found base commits in_found base_there commits_there

  abbrev base_planned : AreAmong base over
  base_planned = all_among laws address store planned base over in_planned base_there over_there

  both_one : (k : List ℕ) (c d : PlainCommit) → commits k ≡ Some c → over k ≡ Some d → d ≡ c
  both_one k c d here there =
      laws.one address all k d c ((laws.later address planned all over planned_in over_there.stand).each k d there) ((laws.later address found all commits found_in commits_there.stand).each k c here)

  made_over : (made : Option PlainCommit) → commits_with address made base ≡ Some over → commits_with address made commits ≡ Some (in_either commits over)
  made_over = made_by same address base commits over base_found both_one

  over_known : (k : List ℕ) → is_known over k ≡ true → is_known (in_either commits over) k ≡ true
  over_known k known = known_second (commits k) (over k) known

  commits_known : (k : List ℕ) → is_known commits k ≡ true → is_known (in_either commits over) k ≡ true
  commits_known k known = known_first (commits k) (over k) known

  both_there : (head : List ℕ) → is_known base head ≡ true → ((k bytes : List ℕ) → all k ≡ Some bytes → (found k ≡ Some bytes) ⊎ (planned k ≡ Some bytes))
      → CommitsAreThere address all (in_either commits over)
  both_there head known only = record {
    stand = laws.either address all commits over (laws.later address found all commits found_in commits_there.stand) (laws.later address planned all over planned_in over_there.stand);
    no_others = λ k bytes held is. elim (only k bytes held) [
      | inl l ↦ commits_known k (commits_there.no_others k bytes l is)
      | inr r ↦ over_known k (over_there.no_others k bytes r is)
    ];
    within = λ k c at. only_one (commits k) (over k) k (λ (d : PlainCommit). is_database_within_limits d.database ≡ true) c (commits_there.within k) (over_there.within k) at;
    first = (
      commits_there.first.0,
      first_of_both base commits over (in_either commits over) base_found base_planned
          (λ k c at. ap (λ (o : Option PlainCommit). first_of o (over k)) at)
          (λ k c at. second_keeps (commits k) (over k) c (λ d here. sym (both_one k d c here at)) at)
          base_there.stand.grown (λ k here. either_known (commits k) (over k) here) head commits_there.first.0 over_there.first.0 known commits_there.first.1 over_there.first.1,
    );
  }

  pub made_over_all : (made : Option PlainCommit) (head : List ℕ) → commits_with address made base ≡ Some over → is_known base head ≡ true
      → ((k bytes : List ℕ) → all k ≡ Some bytes → (found k ≡ Some bytes) ⊎ (planned k ≡ Some bytes))
      → (commits_with address made commits ≡ Some (in_either commits over)) × CommitsAreThere address all (in_either commits over)
      × ((k : List ℕ) → is_known over k ≡ true → is_known (in_either commits over) k ≡ true) × ((k : List ℕ) → is_known commits k ≡ true → is_known (in_either commits over) k ≡ true)
  made_over_all made head is known only = (made_over made is, both_there head known only, over_known, commits_known)

pub commits_follow : ChunksFollow → graph.CommitsFollow → SamenessIsEquality → CommitsFollow
commits_follow chunk_laws laws same = record {
  one = λ address. same_commits laws address;
  among = λ address. all_among laws address;
  beside = λ address. there_beside chunk_laws laws address;
  with_one = λ address. there_with_one chunk_laws laws address same;
}
