-- A session with more free pages.
use Rattle.std.proofs.Common.{◌≡◌, ◌≤◌, ◌⊎◌, ◌+◌, inl, inr, ℕ, List, Result, Ok, Err, ap, arith, max, subst, sym, OnOk, OnErr}
use Rattle.chunk_store.specs.Drafts.{pages_in}
use Rattle.plain_sessions.specs.Sessions as plain
use Rattle.session_state.specs.Pages.{with_free}
use Rattle.session_state.specs.Standing.{SessionStands}
use Rattle.session_state.specs.declared.sessions.Session.{Session}
use Rattle.session_state.proofs.PageLemmas.{still_stands}

-- raised, or as it was
abbrev pub IsFilled : {D : Type 0} → Session D → Session D → Type 0
IsFilled old new = (new ≡ with_free (max old.draft.free 16) old) ⊎ (new ≡ old)

pub either_way : {A B P Q : Type 0} (result : Result A B) → OnOk result P → OnErr result Q → P ⊎ Q
either_way (Ok x) p q = inl p
either_way (Err x) p q = inr q

pub filled_stands : {D : Type 0} (address : List ℕ → List ℕ) (old new : Session D) (p : plain.Session) → IsFilled old new → SessionStands address old p → SessionStands address new p
filled_stands {D = D} address old new p (inl more) stands = still_stands address old new (max old.draft.free 16) p more stands
filled_stands {D = D} address old new p (inr same) stands = subst (λ (session : Session D). SessionStands address session p) (sym same) stands

pub filled_branch : {D : Type 0} (old new : Session D) → IsFilled old new → new.branch ≡ old.branch
filled_branch {D = D} old new (inl more) = ap (λ (session : Session D). session.branch) more
filled_branch {D = D} old new (inr same) = ap (λ (session : Session D). session.branch) same

more_pages : (free taken : ℕ) → free + taken ≤ max free 16 + taken
more_pages free taken = omega arith

same_pages : (pages : ℕ) → pages ≤ pages
same_pages pages = omega arith

pub filled_pages : {D : Type 0} (old new : Session D) → IsFilled old new → pages_in old.draft ≤ pages_in new.draft
filled_pages {D = D} old new (inl more) =
    subst (λ (session : Session D). pages_in old.draft ≤ pages_in session.draft) (sym more) (more_pages old.draft.free old.draft.taken)
filled_pages {D = D} old new (inr same) = subst (λ (session : Session D). pages_in old.draft ≤ pages_in session.draft) (sym same) (same_pages (pages_in old.draft))
