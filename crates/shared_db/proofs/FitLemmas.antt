-- A record that is fit to be settled stands for a change.
use Rattle.std.proofs.Common.{◌≡◌, refl, sym, ap, ◌∙◌, subst, ℕ, suc, ◌≤◌, ◌<◌, Bool, true, false, cond, not, List, [], ◌∷◌, ◌++◌, ◌⊎◌, inl, inr, map, filter, is_some, Option, Some, None, arith}
use Rattle.std.specs.Prelude.{bytes_eq}
use Rattle.std.specs.List.{list_all}
use Rattle.std.specs.Option.{IfSome, option_map_or}
use Rattle.std.specs.Cmp.Lexicographic.{bytes_decides}
use Rattle.tuple_codec.proofs.Arithmetic.{at_least as no_less}
use Rattle.tuple_codec.proofs.Options.{some_there}
use Rattle.tuple_codec.specs.declared.records.BranchRecord.{BranchRecord}
use Rattle.schema_model.specs.PlainCommits.{Commits, IsGrown, PlainCommit, commit_address, greatest, height_in, height_of, is_known, plain_commit_bytes}
use Rattle.chunk_store.specs.Chunks.{Chunk, Chunks, chunk_bytes}
use Rattle.chunk_store.specs.Kinds.{is_commit}
use Rattle.chunk_store.specs.Laws.{ChunksFollow}
use Rattle.chunk_store.proofs.ChunkLemmas.{at_join, either, either_some, right_else}
use Rattle.commit_graph.specs.Standing as graph
use Rattle.commit_graph.specs.Standing.{CommitsStand, IsCommitAt, IsCommitThere, first_of, in_either}
use Rattle.script_text.specs.declared.replies.Reply.{Reply}
use Rattle.plain_writes.proofs.InsertionLemmas.{both_so, left_so, right_so, two}
use Rattle.plain_sessions.specs.Moments.{commits_with}
use Rattle.plain_sessions.specs.Records.{BranchState}
use Rattle.session_state.specs.Changes.{ChangeStands}
use Rattle.session_state.specs.Commits.{CommitsAreThere}
use Rattle.session_state.specs.Laws.{CommitsFollow}
use Rattle.shared_db.specs.Settling.{FitsFollow, IsFit, made_over}

-- ---- the chunks that a store lacks

abbrev lacks : List Chunk → Chunk → Bool
lacks store c = not (is_some (chunk_bytes store c.0))

abbrev lacked : List Chunk → List Chunk → List Chunk
lacked store sealed = filter (lacks store) sealed

lacked_at : (store sealed : List Chunk) (k : List ℕ) → chunk_bytes store k ≡ None → chunk_bytes (lacked store sealed) k ≡ chunk_bytes sealed k
lacked_at store [] k none = refl
lacked_at store (c ∷ sealed) k none = two (bytes_eq c.0 k)
    (λ e.
    let here : lacks store c ≡ true = ap (λ (j : List ℕ). not (is_some (chunk_bytes store j))) ((bytes_decides c.0 k).0 e) ∙ ap (λ (o : Option (List ℕ)). not (is_some o)) none in
    ap (λ b. chunk_bytes (cond b (c ∷ lacked store sealed) (lacked store sealed)) k) here
    ∙ ap (λ b. cond b (Some c.1) (chunk_bytes (lacked store sealed) k)) e ∙ sym (ap (λ b. cond b (Some c.1) (chunk_bytes sealed k)) e))
    (λ e. kept (lacks store c) e ∙ lacked_at store sealed k none ∙ sym (ap (λ b. cond b (Some c.1) (chunk_bytes sealed k)) e))
  where
    kept : (b : Bool) → bytes_eq c.0 k ≡ false → chunk_bytes (cond b (c ∷ lacked store sealed) (lacked store sealed)) k ≡ chunk_bytes (lacked store sealed) k
    kept true e = ap (λ b. cond b (Some c.1) (chunk_bytes (lacked store sealed) k)) e
    kept false e = refl

none_held : (store sealed : List Chunk) (k bytes : List ℕ) → chunk_bytes (lacked store sealed) k ≡ Some bytes → chunk_bytes store k ≡ None
none_held store [] k bytes held = absurd (cc)
none_held store (c ∷ sealed) k bytes held = by (chunk_bytes store c.0) refl (λ later. none_held store sealed k bytes later) held where
  first : (t : Bool) → bytes_eq c.0 k ≡ t → chunk_bytes store c.0 ≡ None → (chunk_bytes (lacked store sealed) k ≡ Some bytes → chunk_bytes store k ≡ None)
      → cond t (Some c.1) (chunk_bytes (lacked store sealed) k) ≡ Some bytes → chunk_bytes store k ≡ None
  first true e none rest at = ap (chunk_bytes store) (sym ((bytes_decides c.0 k).0 e)) ∙ none
  first false e none rest at = rest at

  by : (o : Option (List ℕ)) → chunk_bytes store c.0 ≡ o → (chunk_bytes (lacked store sealed) k ≡ Some bytes → chunk_bytes store k ≡ None)
      → chunk_bytes (cond (not (is_some o)) (c ∷ lacked store sealed) (lacked store sealed)) k ≡ Some bytes → chunk_bytes store k ≡ None
  by None none rest at = first (bytes_eq c.0 k) refl none rest at
  by (Some other) some rest at = rest at

same_by : (store sealed : List Chunk) (k : List ℕ) (o : Option (List ℕ)) → chunk_bytes store k ≡ o → chunk_bytes (store ++ lacked store sealed) k ≡ chunk_bytes (store ++ sealed) k
same_by store sealed k None none = right_else store (lacked store sealed) k none ∙ lacked_at store sealed k none ∙ sym (right_else store sealed k none)
same_by store sealed k (Some bytes) some =
    at_join store (lacked store sealed) k ∙ ap (λ o. either o (chunk_bytes (lacked store sealed) k)) some
    ∙ sym (at_join store sealed k ∙ ap (λ o. either o (chunk_bytes sealed k)) some)

-- the same is found beside them
same_found : (store sealed : List Chunk) → chunk_bytes (store ++ lacked store sealed) ≡ chunk_bytes (store ++ sealed)
same_found store sealed = λ i k. same_by store sealed k (chunk_bytes store k) refl i

-- ---- heights

same_first : (o p : Option PlainCommit) → is_some o ≡ true → first_of o p ≡ o
same_first None p known = absurd (cc)
same_first (Some commit) p known = refl

heights_kept : (commits others : Commits) (ks : List (List ℕ)) → list_all (is_known commits) ks ≡ true → map (height_of (in_either commits others)) ks ≡ map (height_of commits) ks
heights_kept commits others [] all = refl
heights_kept commits others (k ∷ ks) all =
    λ i. height_in (same_first (commits k) (others k) (left_so (is_known commits k) (list_all (is_known commits) ks) all) i)
    ∷ heights_kept commits others ks (right_so (is_known commits k) (list_all (is_known commits) ks) all) i

none_known : (o : Option PlainCommit) → is_some o ≡ false → o ≡ None
none_known None e = refl
none_known (Some commit) e = absurd (cc)

module _ (chunks : ChunksFollow) (laws : CommitsFollow) (graphs : graph.CommitsFollow) (address : List ℕ → List ℕ) (store sealed : List Chunk) (commits : Commits) (rec : BranchRecord)
    (state : BranchState) (head : PlainCommit) (there : CommitsAreThere address (chunk_bytes store) commits) (fit : IsFit address store sealed rec state head) where
  abbrev all : Chunks
  all = chunk_bytes (store ++ sealed)

  -- a commit that stands is found
  abbrev found_at : (k : List ℕ) (commit : PlainCommit) → IsCommitThere address all k commit → all k ≡ Some (plain_commit_bytes address commit)
  found_at k commit is = ap all (sym is.named) ∙ is.there.0

  known_or_head : (k : List ℕ) (commit : PlainCommit) → IsCommitThere address all k commit → (is_known commits k ≡ true) ⊎ (k ≡ state.head)
  known_or_head k commit is =
      let held : all k ≡ Some (plain_commit_bytes address commit) = found_at k commit is in
      elim (either_some (chunk_bytes store k) (chunk_bytes sealed k) (plain_commit_bytes address commit) (sym (at_join store sealed k) ∙ held)) [
        | inl l ↦ inl (there.no_others k (plain_commit_bytes address commit) l refl)
        | inr r ↦ elim (fit.brings k (plain_commit_bytes address commit) r refl) [
          | inl l ↦ inl (there.no_others k (plain_commit_bytes address commit) l refl)
          | inr e ↦ inr e
        ]
      ]

  -- a commit beside the store, which lacks it, is the head
  is_head : (k bytes : List ℕ) → chunk_bytes (lacked store sealed) k ≡ Some bytes → is_commit bytes ≡ true → k ≡ state.head
  is_head k bytes held is =
      let none = none_held store sealed k bytes held in
      elim (fit.brings k bytes (sym (lacked_at store sealed k none) ∙ held) is) [
        | inl l ↦ absurd (let bad : ◌≡◌ {A = Option (List ℕ)} None (Some bytes) = sym none ∙ l in absurd (cc))
        | inr e ↦ e
      ]

  head_there : IsCommitThere address all state.head head
  head_there = fit.head_stands.1.each state.head head fit.head_stands.2

  -- the record stands where all commits are known
  stands_with : (after : Commits) (made : Option PlainCommit) (reply : Reply) → commits_with address made commits ≡ Some after → CommitsAreThere address all after
      → ChangeStands address store sealed commits rec (record { becomes = state; made = made; reply = reply })
  stands_with after made reply is all_there = record {
    after = after;
    is = is;
    stands = record {
      head = fit.is_head;
      working = fit.working;
      staged = fit.staged;
      merging = fit.is_merging;
      head_known = all_there.no_others state.head (plain_commit_bytes address head) (found_at state.head head head_there) refl;
      merging_known = known_if state.merging fit.merging_stands;
    };
    commits_after = all_there;
    named = fit.named;
  } where
    known_by : (k : List ℕ) (commit : PlainCommit) → IsCommitAt address all k commit → is_known after k ≡ true
    known_by k commit (others, stand, at) = all_there.no_others k (plain_commit_bytes address commit) (found_at k commit (stand.each k commit at)) refl

    known_if : (o : Option (List ℕ)) → IfSome o (λ k. (commit : PlainCommit) × IsCommitAt address all k commit) → option_map_or (is_known after) o true ≡ true
    known_if None stands = refl
    known_if (Some k) (commit, stands) = known_by k commit stands

  -- ---- a head that is known

  known_fits : (reply : Reply) → is_known commits state.head ≡ true → ChangeStands address store sealed commits rec (record { becomes = state; made = None; reply = reply })
  known_fits reply known =
      let beside = laws.beside address store (lacked store sealed) commits (λ k bytes held is. not_lacked k bytes held (is_head k bytes held is)) there in
      stands_with commits None reply refl (subst (λ (c : Chunks). CommitsAreThere address c commits) (same_found store sealed) beside)
    where
      not_lacked : (k bytes : List ℕ) → chunk_bytes (lacked store sealed) k ≡ Some bytes → k ≡ state.head → ⊥
      not_lacked k bytes held e =
          let commit = some_there (commits state.head) known in
          let stands = there.stand.each state.head commit.0 commit.1 in
          let held_there : chunk_bytes store state.head ≡ Some (plain_commit_bytes address commit.0) = ap (chunk_bytes store) (sym stands.named) ∙ stands.there.0 in
          let bad : ◌≡◌ {A = Option (List ℕ)} None (Some (plain_commit_bytes address commit.0)) =
          sym (none_held store sealed k bytes held) ∙ ap (chunk_bytes store) e ∙ held_there in
          absurd (cc)

  -- ---- a head that is new

  module _ (new : is_known commits state.head ≡ false) where
    abbrev others : Commits
    others = fit.head_stands.0

    abbrev both : Commits
    both = in_either commits others

    both_stand : CommitsStand address all both
    both_stand = graphs.either address all commits others (graphs.later address (chunk_bytes store) all commits (chunks.extends_left store sealed) there.stand) fit.head_stands.1

    head_at : both state.head ≡ Some head
    head_at = ap (λ (o : Option PlainCommit). first_of o (others state.head)) (none_known (commits state.head) new) ∙ fit.head_stands.2

    grown : IsGrown both head
    grown = both_stand.grown state.head head head_at

    -- a lower commit was known
    lower_known : (k : List ℕ) → is_known both k ≡ true → height_of both k < head.height → is_known commits k ≡ true
    lower_known k known lower =
        let commit = some_there (both k) known in
        elim (known_or_head k commit.0 (both_stand.each k commit.0 commit.1)) [
          | inl l ↦ l
          | inr e ↦ (let same : height_of both k ≡ head.height = ap (height_of both) e ∙ ap height_in head_at in absurd (omega (arith, same, lower)))
        ]

    parents_known : (ks : List (List ℕ)) → list_all (is_known both) ks ≡ true → greatest (map (height_of both) ks) < head.height → list_all (is_known commits) ks ≡ true
    parents_known [] known lower = refl
    parents_known (k ∷ ks) known lower =
        let parts = no_less _ (height_of both k) (greatest (map (height_of both) ks)) refl in
        both_so (lower_known k (left_so (is_known both k) (list_all (is_known both) ks) known) (omega (arith, parts.0, lower)))
        (parents_known ks (right_so (is_known both k) (list_all (is_known both) ks) known) (omega (arith, parts.1, lower)))

    grown_here : IsGrown commits head
    grown_here =
        let known : list_all (is_known commits) head.parents ≡ true = parents_known head.parents grown.parents (omega (arith, grown.height)) in
        record { parents = known; height = grown.height ∙ ap (λ ns. suc (greatest ns)) (heights_kept commits others head.parents known) }

    not_stored : (o : Option (List ℕ)) → chunk_bytes store state.head ≡ o → o ≡ None
    not_stored None at = refl
    not_stored (Some bytes) at =
        let same : all state.head ≡ Some bytes = at_join store sealed state.head ∙ ap (λ o. either o (chunk_bytes sealed state.head)) at in
        let is : bytes ≡ plain_commit_bytes address head = same_bytes bytes (plain_commit_bytes address head) (sym same ∙ found_at state.head head head_there) in
        let known = there.no_others state.head bytes at (ap is_commit is) in
        let bad : true ≡ false = sym known ∙ new in absurd (cc)
      where
        same_bytes : (a b : List ℕ) → Some a ≡ Some b → a ≡ b
        same_bytes a b e = cc

    new_fits : (reply : Reply) → ChangeStands address store sealed commits rec (record { becomes = state; made = Some head; reply = reply })
    new_fits reply =
        let parent = fit.has_parent (not_stored (chunk_bytes store state.head) refl) in
        let at_address : IsCommitThere address all (commit_address address head) head = subst (λ (k : List ℕ). IsCommitThere address all k head) (sym head_there.named) head_there in
        let beside : IsCommitThere address (chunk_bytes (store ++ lacked store sealed)) (commit_address address head) head =
        subst (λ (c : Chunks). IsCommitThere address c (commit_address address head) head) (sym (same_found store sealed)) at_address in
        let made = laws.with_one address store (lacked store sealed) commits head there beside grown_here fit.head_within parent.0 parent.1
        (λ k bytes held is. is_head k bytes held is ∙ sym head_there.named) in
        stands_with made.0 (Some head) reply made.1 (subst (λ (c : Chunks). CommitsAreThere address c made.0) (same_found store sealed) made.2)

  fits : (reply : Reply) (known : Bool) → is_known commits state.head ≡ known
      → ChangeStands address store sealed commits rec (record { becomes = state; made = cond known None (Some head); reply = reply })
  fits reply true known = known_fits reply known
  fits reply false known = new_fits known reply

pub fits_follow : ChunksFollow → CommitsFollow → graph.CommitsFollow → FitsFollow
fits_follow chunks laws graphs address store sealed commits rec state head reply there fit =
    fits chunks laws graphs address store sealed commits rec state head there fit reply (is_known commits state.head) refl
