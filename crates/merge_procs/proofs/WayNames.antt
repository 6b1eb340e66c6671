-- The commit that a name tells, by its branches and its commits' chunks.
use Rattle.std.proofs.Common.{◌≡◌, refl, sym, ap, ◌∙◌, subst, ℕ, zero, suc, ◌<◌, Bool, true, false, cond, ◌&&◌, List, [], ◌∷◌, ◌++◌, length, find, is_some, Option, Some, None, option_map, arith}
use Rattle.std.specs.Prelude.{bytes_eq, slice_index}
use Rattle.std.specs.List.{list_all}
use Rattle.std.specs.Cmp.Lexicographic.{bytes_decides}
use Rattle.std.proofs.lemmas.Option.{same_Some}
use Rattle.tuple_codec.specs.AddressTexts.{IsAddress, ReadsAddress, address_bytes, address_text, five_bytes, number_of_eight}
use Rattle.schema_model.specs.PlainCommits.{Commits, PlainCommit, is_known}
use Rattle.chunk_store.specs.Chunks.{Chunks}
use Rattle.chunk_store.specs.Kinds.{is_commit}
use Rattle.commit_graph.specs.Commits.{is_commit_found}
use Rattle.plain_writes.proofs.InsertionLemmas.{two, clash, left_so, right_so}
use Rattle.plain_sessions.specs.Branching.{commit_named, or_commit, resolved}
use Rattle.plain_sessions.specs.Sessions.{Head}
use Rattle.session_state.specs.Commits.{CommitsAreThere}
use Rattle.merge_procs.specs.Ways.{head_at}
use Rattle.shared_db.proofs.PointLemmas.{read_back}

-- ---- the bytes of a text

small_five : (n : ℕ) (rest : List ℕ) → ((i : ℕ) → slice_index rest i < 256) → (i : ℕ) → slice_index (five_bytes n ++ rest) i < 256
small_five n rest fit zero = omega arith
small_five n rest fit (suc zero) = omega arith
small_five n rest fit (suc (suc zero)) = omega arith
small_five n rest fit (suc (suc (suc zero))) = omega arith
small_five n rest fit (suc (suc (suc (suc zero)))) = omega arith
small_five n rest fit (suc (suc (suc (suc (suc i))))) = fit i

small : (xs : List ℕ) (i : ℕ) → slice_index (address_bytes xs) i < 256
small [] i = omega arith
small (a ∷ []) i = omega arith
small (a ∷ b ∷ []) i = omega arith
small (a ∷ b ∷ c ∷ []) i = omega arith
small (a ∷ b ∷ c ∷ d ∷ []) i = omega arith
small (a ∷ b ∷ c ∷ d ∷ e ∷ []) i = omega arith
small (a ∷ b ∷ c ∷ d ∷ e ∷ f ∷ []) i = omega arith
small (a ∷ b ∷ c ∷ d ∷ e ∷ f ∷ g ∷ []) i = omega arith
small (a ∷ b ∷ c ∷ d ∷ e ∷ f ∷ g ∷ h ∷ rest) i = small_five (number_of_eight (a ∷ b ∷ c ∷ d ∷ e ∷ f ∷ g ∷ h ∷ [])) (address_bytes rest) (small rest) i

-- ---- commits by their chunks

module _ (address : List ℕ → List ℕ) (chunks : Chunks) (commits : Commits) (there : CommitsAreThere address chunks commits) where
  found_by : (k : List ℕ) (one : Option PlainCommit) → commits k ≡ one → (found : Option (List ℕ)) → chunks k ≡ found → is_some one ≡ is_commit_found found
  found_by k (Some commit) e found f =
      let is = there.stand.each k commit e in
      ap is_commit_found (sym (ap chunks (sym is.named) ∙ is.there.0) ∙ f)
  found_by k None e None f = refl
  found_by k None e (Some bytes) f = two (is_commit bytes)
      (λ t. clash (there.no_others k bytes f t) (ap is_some e))
      (λ t. sym t)

  -- the commits are the chunks that begin as one's
  known_by_chunk : (k : List ℕ) → is_known commits k ≡ is_commit_found (chunks k)
  known_by_chunk k = found_by k (commits k) refl (chunks k) refl

  address_of_known : (k : List ℕ) (one : Option PlainCommit) → commits k ≡ one → is_some one ≡ true → length k ≡ 20
  address_of_known k (Some commit) e t = let is = there.stand.each k commit e in ap length (sym is.named) ∙ is.there.1
  address_of_known k None e t = cc

  -- a name that is no address's text tells no commit
  pub none_named : (name : List ℕ) → ReadsAddress name None → None ≡ commit_named commits name
  none_named name none = two (bytes_eq (address_text (address_bytes name)) name && is_known commits (address_bytes name))
      (λ t. absurd (none (address_bytes name) (
        address_of_known (address_bytes name) (commits (address_bytes name)) refl
            (right_so (bytes_eq (address_text (address_bytes name)) name) (is_known commits (address_bytes name)) t),
        small name,
      )
      ((bytes_decides (address_text (address_bytes name)) name).0 (left_so (bytes_eq (address_text (address_bytes name)) name) (is_known commits (address_bytes name)) t))))
      (λ t. sym (ap (λ b. cond b (Some (address_bytes name)) None) t))

  -- one that is tells the commit of that address, where the chunk is a commit's
  pub named_by : (a name : List ℕ) → IsAddress a → address_text a ≡ name → commit_named commits name ≡ cond (is_commit_found (chunks a)) (Some a) None
  named_by a name is e =
      let back = read_back a name is e in
      ap (λ k. cond (bytes_eq (address_text k) name && is_known commits k) (Some k) None) back
      ∙ ap (λ b. cond (b && is_known commits a) (Some a) None) ((bytes_decides (address_text a) name).1 e)
      ∙ ap (λ b. cond b (Some a) None) (known_by_chunk a)

-- ---- what is resolved

-- the head of a branch, and else a commit
resolved_by : (commits : Commits) (name : List ℕ) (found : Option Head) → (k : Option (List ℕ)) → k ≡ option_map (λ (head : Head). head.commit) found
    → ((commit : List ℕ) → k ≡ Some commit → Some commit ≡ or_commit commits name found) × (k ≡ None → or_commit commits name found ≡ commit_named commits name)
resolved_by commits name (Some head) k e = ((λ commit is. sym is ∙ e), (λ is. let bad : ◌≡◌ {A = Option (List ℕ)} None (Some head.commit) = sym is ∙ e in absurd (cc)))
resolved_by commits name None k e = ((λ commit is. let bad : ◌≡◌ {A = Option (List ℕ)} None (Some commit) = sym e ∙ is in absurd (cc)), (λ is. refl))

pub resolved_branch : (heads : List Head) (commits : Commits) (name k : List ℕ) → Some k ≡ head_at name heads → Some k ≡ resolved heads commits name
resolved_branch heads commits name k e = (resolved_by commits name (find (λ (head : Head). bytes_eq head.name name) heads) (head_at name heads) refl).0 k (sym e)

pub resolved_commit : (heads : List Head) (commits : Commits) (name : List ℕ) → None ≡ head_at name heads → resolved heads commits name ≡ commit_named commits name
resolved_commit heads commits name e = (resolved_by commits name (find (λ (head : Head). bytes_eq head.name name) heads) (head_at name heads) refl).1 (sym e)

-- the commit that a name tells is known
known_name : (commits : Commits) (name k : List ℕ) → commit_named commits name ≡ Some k → is_known commits k ≡ true
known_name commits name k e = two (bytes_eq (address_text (address_bytes name)) name && is_known commits (address_bytes name))
    (λ t. ap (is_known commits) (same_Some k (address_bytes name) (sym e ∙ ap (λ b. cond b (Some (address_bytes name)) None) t))
    ∙ right_so (bytes_eq (address_text (address_bytes name)) name) (is_known commits (address_bytes name)) t)
    (λ t. let bad : ◌≡◌ {A = Option (List ℕ)} None (Some k) = sym (ap (λ b. cond b (Some (address_bytes name)) None) t) ∙ e in absurd (cc))

pub known_told : (commits : Commits) (name k : List ℕ) (heads : List Head) → list_all (λ (head : Head). is_known commits head.commit) heads ≡ true
    → resolved heads commits name ≡ Some k → is_known commits k ≡ true
known_told commits name k [] known e = known_name commits name k e
known_told commits name k (head ∷ heads) known e =
    by (bytes_eq head.name name) (known_told commits name k heads (right_so (is_known commits head.commit) (list_all (λ (other : Head). is_known commits other.commit) heads) known)) e where
      by : (t : Bool) → (resolved heads commits name ≡ Some k → is_known commits k ≡ true)
          → or_commit commits name (cond t (Some head) (find (λ (other : Head). bytes_eq other.name name) heads)) ≡ Some k → is_known commits k ≡ true
      by true rest here = ap (is_known commits) (same_Some k head.commit (sym here)) ∙ left_so (is_known commits head.commit) (list_all (λ (other : Head). is_known commits other.commit) heads) known
      by false rest here = rest here
