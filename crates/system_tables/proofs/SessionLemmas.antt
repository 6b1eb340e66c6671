-- What stands for a session in a transaction.
use Rattle.std.proofs.Common.{◌≡◌, ◌∙◌, ap, subst, sym, refl, ℕ, true, List, Option, None, Some}
use Rattle.std.proofs.lemmas.Option.{same_Some}
use Rattle.chunk_store.specs.Drafts.{DraftParts, chunks_of}
use Rattle.chunk_store.specs.Chunks.{chunk_bytes}
use Rattle.chunk_store.specs.Laws.{ChunksFollow}
use Rattle.commit_graph.specs.Standing.{CommitsFollow, CommitsStand}
use Rattle.table_root.specs.Kept.{IsKeptAt}
use Rattle.plain_sessions.specs.Sessions as plain
use Rattle.plain_sessions.specs.Sessions.{Transaction, own_root}
use Rattle.schema_model.specs.PlainCommits.{is_known}
use Rattle.session_state.specs.Transactions.{StartStands, TransactionStands}
use Rattle.session_state.specs.Standing.{SessionStands}
use Rattle.session_state.specs.declared.sessions.Session.{Session}
use Rattle.table_root.specs.declared.heads.Look.{Look}
use Rattle.tuple_codec.specs.declared.records.BranchRecord.{BranchRecord}
use Rattle.system_tables.specs.Changes.{AreStates, IsRootOf}
use Rattle.system_tables.specs.Rows.{AreHeadsOf, IsAtHead}

-- a look from which the transaction began
pub record Begun (address : List ℕ → List ℕ) (draft : DraftParts) (start : Option Look) (own : BranchRecord) (t : Transaction) : Type 0 where
  pub look : Look
  pub is : start ≡ Some look
  pub stands : TransactionStands address draft look own t

begun_by : (address : List ℕ → List ℕ) (draft : DraftParts) (start : Option Look) (own : BranchRecord) (found : Option Transaction) (t : Transaction) → found ≡ Some t
    → StartStands address draft start own found → Begun address draft start own t
begun_by address draft None own None t is stands = absurd (cc)
begun_by address draft None own (Some other) t is stands = absurd stands
begun_by address draft (Some look) own None t is stands = absurd stands
begun_by address draft (Some look) own (Some other) t is stands =
    record { look = look; is = refl; stands = subst (λ (u : Transaction). TransactionStands address draft look own u) (same_Some other t is) stands }

module _ {D : Type 0} (address : List ℕ → List ℕ) (session : Session D) (p : plain.Session) (t : Transaction) (stands : SessionStands address session p) (there : p.transaction ≡ Some t) where
  pub begun : Begun address session.draft.chunks session.start session.own t
  begun = begun_by address session.draft.chunks session.start session.own p.transaction t there stands.transaction

  pub working_kept : IsKeptAt address (chunks_of session.draft.chunks) session.own.working.0 t.own.working
  working_kept = let b = begun in let s = b.stands in s.own_stands.working

  module _ (chunks : ChunksFollow) (commits : CommitsFollow) where
    all_stand : CommitsStand address (chunks_of session.draft.chunks) t.commits
    all_stand =
        let b = begun in
        let s = b.stands in
        let d = session.draft.chunks in
        commits.later address (chunk_bytes d.base) (chunks_of d) t.commits (chunks.extends_left d.base d.own) s.commits.stand

    head_known : is_known t.commits session.own.head.0 ≡ true
    head_known = let b = begun in let s = b.stands in ap (is_known t.commits) s.own_stands.head ∙ s.own_stands.head_known

    pub at_head : IsAtHead address (chunks_of session.draft.chunks) session.own.head.0 t
    at_head = let b = begun in let s = b.stands in record { stand = all_stand; known = head_known; is = s.own_stands.head }

    pub root_is : IsRootOf address (chunks_of session.draft.chunks) session.own.head.0 t
    root_is = let b = begun in let s = b.stands in record { stand = all_stand; known = head_known; is = s.own_stands.head; within = s.commits.within }

    pub heads_are : (look : Look) → session.start ≡ Some look → AreHeadsOf address (chunks_of session.draft.chunks) look.heads t
    heads_are look is =
        let b = begun in
        let s = b.stands in
        let same : b.look ≡ look = same_Some b.look look (sym b.is ∙ is) in
        subst (λ (l : Look). AreHeadsOf address (chunks_of session.draft.chunks) l.heads t) same (record { stand = all_stand; are = s.heads; known = s.heads_known })

    pub states_are : (root : List ℕ) → IsKeptAt address (chunks_of session.draft.chunks) root (own_root t)
        → AreStates address (chunks_of session.draft.chunks) root session.own.staged.0 session.own.working.0 t
    states_are root kept = let b = begun in let s = b.stands in record { head_stands = kept; staged_stands = s.own_stands.staged; working_stands = s.own_stands.working }
