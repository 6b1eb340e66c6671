-- Ancestors are known, and a table of commits shows what stands at the head.
use Rattle.std.proofs.Common.{◌≡◌, refl, ◌∙◌, ap, ℕ, zero, suc, true, ◌||◌, List, [], ◌∷◌, bytes_eq}
use Rattle.std.specs.List.{list_all, list_any}
use Rattle.std.specs.Cmp.Lexicographic.{bytes_decides}
use Rattle.std.proofs.lemmas.Bool.{and_from}
use Rattle.tuple_codec.proofs.Truths.{or_late}
use Rattle.chunk_store.specs.Chunks.{Chunks}
use Rattle.plain_sessions.specs.Sessions.{Transaction}
use Rattle.schema_model.specs.PlainCommits.{AncestorsFollow, Commits, IsAncestor, ancestors, has_address, is_known}
use Rattle.schema_model.proofs.AncestorLemmas.{known_there as known_by}
use Rattle.tuple_codec.specs.Rows.{Cells}
use Rattle.tuple_codec.specs.declared.addresses.Address.{Address}
use Rattle.system_tables.specs.Rows.{AreKnown, IsAtHead, all_parent_rows, bytes_of, commit_rows}

all_of : (commits : Commits) (ks : List (List ℕ)) → ((x : List ℕ) → has_address ks x ≡ true → is_known commits x ≡ true) → list_all (is_known commits) ks ≡ true
all_of commits [] h = refl
all_of commits (k ∷ ks) h =
    and_from _ _
    (h k (ap (λ b. b || list_any (bytes_eq k) ks) ((bytes_decides k k).1 refl)))
    (all_of commits ks (λ x m. h x (or_late (bytes_eq x k) m)))

ancestors_known : AncestorsFollow → (commits : Commits) (k : List ℕ) → list_all (is_known commits) (ancestors commits k) ≡ true
ancestors_known follow commits k = all_of commits (ancestors commits k) (λ x m. let is : IsAncestor commits k x = follow.only commits k x m in known_by commits is.0 k x is.1)

module _ (address : List ℕ → List ℕ) (chunks : Chunks) (k : List ℕ) (t : Transaction) (at : IsAtHead address chunks k t) (found : List Address) (is : bytes_of found ≡ ancestors t.commits k) where
  pub are_known : AncestorsFollow → AreKnown address chunks t.commits (bytes_of found)
  are_known follow = record { stand = at.stand; known = ap (list_all (is_known t.commits)) is ∙ ancestors_known follow t.commits k }

  of_head : bytes_of found ≡ ancestors t.commits t.own.head
  of_head = is ∙ ap (ancestors t.commits) at.is

  pub logged : (rows : List Cells) → rows ≡ commit_rows t.commits (bytes_of found) → rows ≡ commit_rows t.commits (ancestors t.commits t.own.head)
  logged rows are = are ∙ ap (commit_rows t.commits) of_head

  pub parents_logged : (rows : List Cells) → rows ≡ all_parent_rows t.commits (bytes_of found) → rows ≡ all_parent_rows t.commits (ancestors t.commits t.own.head)
  parents_logged rows are = are ∙ ap (all_parent_rows t.commits) of_head
