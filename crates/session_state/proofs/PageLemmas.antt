-- A session with other pages.
use Rattle.std.proofs.Common.{◌≡◌, ◌∙◌, ℕ, List, Result, Ok, Err, OnOk, OnErr, ap, subst, sym}
use Rattle.chunk_store.specs.Chunks.{Chunk}
use Rattle.chunk_store.specs.Drafts.{Drafting, DraftParts}
use Rattle.plain_sessions.specs.Sessions as plain
use Rattle.session_state.specs.Pages.{with_free}
use Rattle.session_state.specs.Standing.{SessionStands}
use Rattle.session_state.specs.declared.sessions.Session.{Session}

free_stands : {D : Type 0} (address : List ℕ → List ℕ) (session : Session D) (free : ℕ) (p : plain.Session) → SessionStands address session p → SessionStands address (with_free free session) p
free_stands address session free p stands = record {
  name = stands.name;
  number = stands.number;
  branch = stands.branch;
  autocommit = stands.autocommit;
  allow = stands.allow;
  force = stands.force;
  position = stands.position;
  transaction = stands.transaction;
  named = stands.named;
  plain_own = stands.plain_own;
  committer = stands.committer;
}

-- whatever its free pages are, it stands for the same plain session
pub still_stands : {D : Type 0} (address : List ℕ → List ℕ) (old new : Session D) (free : ℕ) (p : plain.Session) → new ≡ with_free free old → SessionStands address old p → SessionStands address new p
still_stands {D = D} address old new free p is stands = subst (λ (session : Session D). SessionStands address session p) (sym is) (free_stands address old free p stands)

abbrev drafting : DraftParts → List (List Chunk) → ℕ → ℕ → Drafting
drafting chunks segments free taken = record { chunks = chunks; segments = segments; free = free; taken = taken }

filled : (old new : Drafting) (free : ℕ) → new.chunks ≡ old.chunks → new.segments ≡ old.segments → new.taken ≡ old.taken → new.free ≡ free → new ≡ record old { free = free }
filled old new free chunks segments taken is =
    ap (λ (c : DraftParts). drafting c new.segments new.free new.taken) chunks
    ∙ ap (λ (s : List (List Chunk)). drafting old.chunks s new.free new.taken) segments
    ∙ ap (λ (n : ℕ). drafting old.chunks old.segments n new.taken) is
    ∙ ap (λ (n : ℕ). drafting old.chunks old.segments free n) taken

abbrev with_draft : {D : Type 0} → Drafting → Session D → Session D
with_draft draft session = record session { draft = draft }

-- its draft was filled up to so many free pages, or is as it was
pub raised_so : {D A B : Type 0} (old : Session D) (draft : Drafting) (free : ℕ) (result : Result A B) → draft.chunks ≡ old.draft.chunks → draft.segments ≡ old.draft.segments
    → draft.taken ≡ old.draft.taken → OnOk result (draft.free ≡ free) → OnOk result (with_draft draft old ≡ with_free free old)
raised_so old draft free (Ok x) chunks segments taken is = ap (λ (d : Drafting). with_draft d old) (filled old.draft draft free chunks segments taken is)
raised_so old draft free (Err x) chunks segments taken is = is

pub kept_so : {D A B : Type 0} (old : Session D) (draft : Drafting) (result : Result A B) → OnErr result (draft ≡ old.draft) → OnErr result (with_draft draft old ≡ old)
kept_so old draft (Ok x) is = is
kept_so old draft (Err x) is = ap (λ (d : Drafting). with_draft d old) is
