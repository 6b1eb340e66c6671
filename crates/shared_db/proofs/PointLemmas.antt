-- Points: the commit that a name tells, and the record of a branch made at it.
use Rattle.std.proofs.Common.{◌≡◌, ◌≢◌, refl, sym, ap, ◌∙◌, subst, ℕ, zero, suc, ◌+◌, ◌*◌, ◌/◌, ◌%◌, ◌^◌, ◌<◌, ◌≤◌, Bool, true, false, cond, ◌&&◌, true≢false, List, [], ◌∷◌, ◌++◌, length, map, find, is_some, Option, Some, None, option_map, arith}
use Rattle.std.specs.Prelude.{bytes_eq, slice_index}
use Rattle.std.specs.Cmp.Lexicographic.{bytes_decides}
use Rattle.std.proofs.lemmas.Option.{same_Some}
use Rattle.tuple_codec.specs.AddressTexts.{IsAddress, ReadsAddress, address_bytes, address_text, five_bytes, number_of_eight}
use Rattle.tuple_codec.specs.declared.addresses.Address.{Address}
use Rattle.tuple_codec.proofs.AddressLemmas.{one_text, one_address, text_length}
use Rattle.schema_model.specs.PlainCommits.{Commits, PlainCommit, commit_parts, is_known}
use Rattle.schema_model.specs.WrittenForms.{CommitParts}
use Rattle.chunk_store.specs.Chunks.{Chunk, Chunks}
use Rattle.chunk_store.specs.Kinds.{is_commit}
use Rattle.commit_graph.specs.Commits.{IsCommitFound, HasCommit, is_commit_found}
use Rattle.table_root.specs.Kept.{IsKeptAt}
use Rattle.table_root.specs.Standing.{IsDatabaseAt}
use Rattle.plain_writes.proofs.InsertionLemmas.{two, clash, left_so, right_so}
use Rattle.plain_sessions.specs.Branching.{commit_named, or_commit, resolved}
use Rattle.plain_sessions.specs.Records.{Branch, clean_at, database_in, root_of}
use Rattle.plain_sessions.specs.Sessions.{Head, Session, heads_in, new_session}
use Rattle.script_text.specs.declared.outputs.BranchLine.{BranchLine}
use Rattle.session_state.specs.Changes.{BranchStands, Paired}
use Rattle.session_state.specs.Commits.{CommitsAreThere}
use Rattle.session_state.specs.Records.{RecordStands}
use Rattle.shared_db.specs.Stepping.{IsCleanAt}
use Rattle.tuple_codec.specs.declared.records.BranchRecord.{BranchRecord}

-- ---- the bytes of a text

small_five : (n : ℕ) (rest : List ℕ) → ((i : ℕ) → slice_index rest i < 256) → (i : ℕ) → slice_index (five_bytes n ++ rest) i < 256
small_five n rest fit zero = omega arith
small_five n rest fit (suc zero) = omega arith
small_five n rest fit (suc (suc zero)) = omega arith
small_five n rest fit (suc (suc (suc zero))) = omega arith
small_five n rest fit (suc (suc (suc (suc zero)))) = omega arith
small_five n rest fit (suc (suc (suc (suc (suc i))))) = fit i

small : (xs : List ℕ) (i : ℕ) → slice_index (address_bytes xs) i < 256
small [] i = omega arith
small (a ∷ []) i = omega arith
small (a ∷ b ∷ []) i = omega arith
small (a ∷ b ∷ c ∷ []) i = omega arith
small (a ∷ b ∷ c ∷ d ∷ []) i = omega arith
small (a ∷ b ∷ c ∷ d ∷ e ∷ []) i = omega arith
small (a ∷ b ∷ c ∷ d ∷ e ∷ f ∷ []) i = omega arith
small (a ∷ b ∷ c ∷ d ∷ e ∷ f ∷ g ∷ []) i = omega arith
small (a ∷ b ∷ c ∷ d ∷ e ∷ f ∷ g ∷ h ∷ rest) i = small_five (number_of_eight (a ∷ b ∷ c ∷ d ∷ e ∷ f ∷ g ∷ h ∷ [])) (address_bytes rest) (small rest) i

pub bytes_length : (k : ℕ) (xs : List ℕ) → length xs ≡ 8 * k → length (address_bytes xs) ≡ 5 * k
bytes_length zero [] e = refl
bytes_length zero (a ∷ xs) e = absurd (omega arith)
bytes_length (suc k) [] e = absurd (omega arith)
bytes_length (suc k) (a ∷ []) e = absurd (omega arith)
bytes_length (suc k) (a ∷ b ∷ []) e = absurd (omega arith)
bytes_length (suc k) (a ∷ b ∷ c ∷ []) e = absurd (omega arith)
bytes_length (suc k) (a ∷ b ∷ c ∷ d ∷ []) e = absurd (omega arith)
bytes_length (suc k) (a ∷ b ∷ c ∷ d ∷ e' ∷ []) e = absurd (omega arith)
bytes_length (suc k) (a ∷ b ∷ c ∷ d ∷ e' ∷ f ∷ []) e = absurd (omega arith)
bytes_length (suc k) (a ∷ b ∷ c ∷ d ∷ e' ∷ f ∷ g ∷ []) e = absurd (omega arith)
bytes_length (suc k) (a ∷ b ∷ c ∷ d ∷ e' ∷ f ∷ g ∷ h ∷ rest) e = let more : length (address_bytes rest) ≡ 5 * k = bytes_length k rest (omega arith) in omega (arith, more)

-- the bytes of an address's text are the address
pub read_back : (a name : List ℕ) → IsAddress a → address_text a ≡ name → address_bytes name ≡ a
read_back a name is e =
    let long : length name ≡ 8 * 4 = ap length (sym e) ∙ text_length a is in
    one_text (address_bytes name) a (bytes_length 4 name long, small name) is (one_address a name is e ∙ sym e)

-- ---- commits by their chunks

module _ (address : List ℕ → List ℕ) (chunks : Chunks) (commits : Commits) (there : CommitsAreThere address chunks commits) where
  found_by : (k : List ℕ) (one : Option PlainCommit) → commits k ≡ one → (found : Option (List ℕ)) → chunks k ≡ found → is_some one ≡ is_commit_found found
  found_by k (Some commit) e found f =
      let is = there.stand.each k commit e in
      ap is_commit_found (sym (ap chunks (sym is.named) ∙ is.there.0) ∙ f)
  found_by k None e None f = refl
  found_by k None e (Some bytes) f = two (is_commit bytes)
      (λ t. clash (there.no_others k bytes f t) (ap is_some e))
      (λ t. sym t)

  -- the commits are the chunks that begin as one's
  pub known_by_chunk : (k : List ℕ) → is_known commits k ≡ is_commit_found (chunks k)
  known_by_chunk k = found_by k (commits k) refl (chunks k) refl

  address_of_known : (k : List ℕ) (one : Option PlainCommit) → commits k ≡ one → is_some one ≡ true → length k ≡ 20
  address_of_known k (Some commit) e t = let is = there.stand.each k commit e in ap length (sym is.named) ∙ is.there.1
  address_of_known k None e t = cc

  pub known_length : (k : List ℕ) → is_known commits k ≡ true → length k ≡ 20
  known_length k t = address_of_known k (commits k) refl t

  -- a name that is no address's text tells no commit
  pub none_named : (name : List ℕ) → ReadsAddress name None → None ≡ commit_named commits name
  none_named name none = two (bytes_eq (address_text (address_bytes name)) name && is_known commits (address_bytes name))
      (λ t. absurd (none (address_bytes name)
      (known_length (address_bytes name) (right_so (bytes_eq (address_text (address_bytes name)) name) (is_known commits (address_bytes name)) t), small name)
      ((bytes_decides (address_text (address_bytes name)) name).0 (left_so (bytes_eq (address_text (address_bytes name)) name) (is_known commits (address_bytes name)) t))))
      (λ t. sym (ap (λ b. cond b (Some (address_bytes name)) None) t))

  -- one that is tells the commit of that address, where the chunk is a commit's
  pub named_by : (a name : List ℕ) → IsAddress a → address_text a ≡ name → commit_named commits name ≡ cond (is_commit_found (chunks a)) (Some a) None
  named_by a name is e =
      let back = read_back a name is e in
      ap (λ k. cond (bytes_eq (address_text k) name && is_known commits k) (Some k) None) back
      ∙ ap (λ b. cond (b && is_known commits a) (Some a) None) ((bytes_decides (address_text a) name).1 e)
      ∙ ap (λ b. cond b (Some a) None) (known_by_chunk a)

  found_commit : (k : List ℕ) (one : Option PlainCommit) → commits k ≡ one → is_some one ≡ true → HasCommit chunks k
  found_commit k (Some commit) e t =
      let is = there.stand.each k commit e in (commit_parts address commit, record { is_commit = is.is_commit; held = ap chunks (sym is.named) ∙ is.there.0 })
  found_commit k None e t = cc

  pub has_commit : (k : List ℕ) → is_known commits k ≡ true → HasCommit chunks k
  has_commit k t = found_commit k (commits k) refl t

  clean_by : (k : List ℕ) (one : Option PlainCommit) → commits k ≡ one → is_some one ≡ true → (rec : BranchRecord) → rec.head.0 ≡ k → rec.staged ≡ rec.working → rec.merging ≡ None
      → ((commit : CommitParts) → IsCommitFound chunks k commit → rec.working.0 ≡ commit.root) → RecordStands address chunks commits rec (clean_at k (database_in one))
  clean_by k (Some commit) e t rec head staged merging root =
      let is = there.stand.each k commit e in
      let found : IsCommitFound chunks k (commit_parts address commit) = record { is_commit = is.is_commit; held = ap chunks (sym is.named) ∙ is.there.0 } in
      let kept : IsKeptAt address chunks rec.working.0 commit.database = record {
        stands = subst (λ (at : List ℕ). IsDatabaseAt address chunks at commit.database) (sym (root (commit_parts address commit) found)) is.database;
        within = there.within k commit e;
      } in
      record {
        head = head;
        working = kept;
        staged = subst (λ (at : Address). IsKeptAt address chunks at.0 commit.database) (sym staged) kept;
        merging = ap (option_map (λ (k : Address). k.0)) merging;
        head_known = ap is_some e;
        merging_known = refl;
      }
  clean_by k None e t rec head staged merging root = cc

  pub clean_stands : (rec : BranchRecord) → is_known commits rec.head.0 ≡ true → rec.staged ≡ rec.working → rec.merging ≡ None
      → ((commit : CommitParts) → IsCommitFound chunks rec.head.0 commit → rec.working.0 ≡ commit.root)
      → RecordStands address chunks commits rec (clean_at rec.head.0 (root_of commits rec.head.0))
  clean_stands rec t staged merging root = clean_by rec.head.0 (commits rec.head.0) refl t rec refl staged merging root

-- ---- points of a state

module _ (address : List ℕ → List ℕ) (chunks : List Chunk) (commits : Commits) where
  known_name : (name k : List ℕ) → commit_named commits name ≡ Some k → is_known commits k ≡ true
  known_name name k e = two (bytes_eq (address_text (address_bytes name)) name && is_known commits (address_bytes name))
      (λ t. ap (is_known commits) (same_Some k (address_bytes name) (sym e ∙ ap (λ b. cond b (Some (address_bytes name)) None) t))
      ∙ right_so (bytes_eq (address_text (address_bytes name)) name) (is_known commits (address_bytes name)) t)
      (λ t. let bad : ◌≡◌ {A = Option (List ℕ)} None (Some k) = sym (ap (λ b. cond b (Some (address_bytes name)) None) t) ∙ e in absurd (cc))

  -- the commit that a name tells is known
  pub known_told : (name k : List ℕ) (lines : List BranchLine) (branches : List Branch) → Paired (BranchStands address chunks commits) lines branches
      → resolved (heads_in branches) commits name ≡ Some k → is_known commits k ≡ true
  known_told name k [] [] stand e = known_name name k e
  known_told name k [] (b ∷ branches) stand e = absurd stand
  known_told name k (x ∷ lines) [] stand e = absurd stand
  known_told name k (x ∷ lines) (b ∷ branches) stand e = by (bytes_eq b.name name) (known_told name k lines branches stand.1) e where
    by : (t : Bool) → (resolved (heads_in branches) commits name ≡ Some k → is_known commits k ≡ true)
        → or_commit commits name (cond t (Some (record { name = b.name; commit = b.state.head })) (find (λ (head : Head). bytes_eq head.name name) (heads_in branches))) ≡ Some k
        → is_known commits k ≡ true
    by true rest here = ap (is_known commits) (same_Some k b.state.head (sym here)) ∙ stand.0.stands.head_known
    by false rest here = rest here

pub some_there : (o : Option (List ℕ)) → o ≢ None → (x : List ℕ) × (o ≡ Some x)
some_there None there = absurd (there refl)
some_there (Some x) there = (x, refl)

-- a session of this number on this branch
abbrev pub someone : ℕ → List ℕ → Session
someone number name = record (new_session number []) { branch = name }

pub clean_none : (address : List ℕ → List ℕ) (chunks : Chunks) (commits : Commits) (point : Option (List ℕ)) (result : Option BranchRecord) → None ≡ point → result ≡ None
    → IsCleanAt address chunks commits point result
clean_none address chunks commits point result e none =
    subst (λ r. IsCleanAt address chunks commits point r) (sym none) (subst (λ o. IsCleanAt address chunks commits o None) e tt)

pub clean_some : (address : List ℕ → List ℕ) (chunks : Chunks) (commits : Commits) (k : List ℕ) (point : Option (List ℕ)) (rec : BranchRecord) → Some k ≡ point
    → RecordStands address chunks commits rec (clean_at k (root_of commits k)) → IsCleanAt address chunks commits point (Some rec)
clean_some address chunks commits k point rec e stands = subst (λ o. IsCleanAt address chunks commits o (Some rec)) e stands
