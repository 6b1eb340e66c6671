-- A session's own record, in its draft and in one that grew.
use Rattle.std.proofs.Common.{◌≡◌, subst, ℕ, List, Option, None, Some}
use Rattle.tuple_codec.specs.declared.records.BranchRecord.{BranchRecord}
use Rattle.chunk_store.specs.Drafts.{DraftParts, Longer, chunks_of}
use Rattle.table_root.specs.declared.heads.Look.{Look}
use Rattle.plain_sessions.specs.Records.{BranchState}
use Rattle.plain_sessions.specs.Sessions as plain
use Rattle.plain_sessions.specs.Sessions.{Transaction, with_own}
use Rattle.session_state.specs.Laws.{TransactionsFollow}
use Rattle.session_state.specs.Records.{RecordStands}
use Rattle.session_state.specs.Transactions.{StartStands, TransactionStands}
use Rattle.session_state.specs.Standing.{SessionStands}
use Rattle.session_state.specs.declared.sessions.Session.{Session}
use Rattle.session_plan.specs.Calls.{OwnStands}

-- its own record stands in its draft
own_by : (address : List ℕ → List ℕ) (draft : DraftParts) (start : Option Look) (own : BranchRecord) (found : Option Transaction) (t : Transaction) → found ≡ Some t
    → StartStands address draft start own found → OwnStands address draft own t.commits t.own
own_by address draft None own None t is stands = absurd (cc)
own_by address draft None own (Some other) t is stands = absurd stands
own_by address draft (Some look) own None t is stands = absurd stands
own_by address draft (Some look) own (Some other) t is stands =
    let same : other ≡ t = cc in
    subst (λ (u : Transaction). OwnStands address draft own u.commits u.own) same (record { stands = stands.own_stands; all_there = stands.commits })

pub own_in : {D : Type 0} (address : List ℕ → List ℕ) (session : Session D) (p : plain.Session) (t : Transaction) → SessionStands address session p → p.transaction ≡ Some t
    → OwnStands address session.draft.chunks session.own t.commits t.own
own_in address session p t stands there = own_by address session.draft.chunks session.start session.own p.transaction t there stands.transaction

pub grown_by : (address : List ℕ → List ℕ) (old new : DraftParts) (start : Option Look) (own rec : BranchRecord) (found : Option Transaction) (t : Transaction) (state : BranchState)
    → TransactionsFollow → found ≡ Some t → Longer old new → StartStands address old start own found
    → (RecordStands address (chunks_of old) t.commits own t.own → RecordStands address (chunks_of new) t.commits rec state)
    → StartStands address new start rec (Some (with_own state t))
grown_by address old new None own rec None t state follow is longer stands made = absurd (cc)
grown_by address old new None own rec (Some other) t state follow is longer stands made = absurd stands
grown_by address old new (Some look) own rec None t state follow is longer stands made = absurd stands
grown_by address old new (Some look) own rec (Some other) t state follow is longer stands made =
    let same : other ≡ t = cc in
    let here = subst (λ (u : Transaction). TransactionStands address old look own u) same stands in
    follow.grown address old new look own rec t state longer here (made here.own_stands)
