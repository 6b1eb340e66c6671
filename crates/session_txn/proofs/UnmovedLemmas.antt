-- A COMMIT on a branch that hasn't moved: what would be worked in a draft over the look's store is what the session's own draft has.
use Rattle.std.proofs.Common.{◌≡◌, refl, ◌∙◌, sym, subst, ℕ, Bool, true, List, ◌++◌, Option, None, Some, Ok, Err}
use Rattle.std.specs.Prelude.{IfSome}
use Rattle.tuple_codec.specs.declared.records.BranchRecord.{BranchRecord}
use Rattle.chunk_store.specs.Chunks.{Chunk, Extends, chunk_bytes}
use Rattle.chunk_store.specs.Drafts.{Drafting, IsSound, chunks_of}
use Rattle.chunk_store.specs.Kinds.{is_data}
use Rattle.chunk_store.specs.Laws.{ChunksFollow, DraftsFollow}
use Rattle.chunk_store.specs.Stores.{IsBrought, all_chunks}
use Rattle.chunk_store.proofs.ChunkLemmas.{single_fewer}
use Rattle.chunk_store.proofs.GrowthLemmas.{grows_itself}
use Rattle.expr_eval.specs.Binding.{Outcome}
use Rattle.schema_model.specs.PlainCommits.{is_known}
use Rattle.script_text.specs.declared.replies.Reply.TheVariants.{Done}
use Rattle.table_root.specs.declared.heads.Look.{Look}
use Rattle.plain_sessions.specs.CommitRule.{decide}
use Rattle.plain_sessions.specs.Moments.{ruled}
use Rattle.plain_sessions.specs.Records.{BranchState, Shared, is_same_state}
use Rattle.plain_sessions.specs.Replies.{done}
use Rattle.plain_sessions.specs.Sessions as plain
use Rattle.plain_sessions.specs.Sessions.{Transaction, Variables}
use Rattle.root_merge.specs.Deciding.{set}
use Rattle.root_merge.specs.States.{BranchStateStands, IsCandidate}
use Rattle.root_merge.specs.declared.candidates.Candidate.{Candidate}
use Rattle.root_merge.specs.declared.candidates.Candidate.TheVariants as made
use Rattle.session_state.specs.Laws.{CommitsFollow, RecordsFollow}
use Rattle.session_state.specs.Records.{RecordStands}
use Rattle.session_state.specs.Transactions.{StartStands, TransactionStands}
use Rattle.session_state.specs.Standing.{SessionStands}
use Rattle.session_state.specs.declared.sessions.Session.{Session}
use Rattle.shared_db.specs.Plans.{PlanIs}
use Rattle.shared_db.specs.declared.changes.DecisionPlan.{DecisionPlan}
use Rattle.session_plan.specs.Answering.{Decides}
use Rattle.session_txn.specs.Committing.{IsDecisionFor, IsOwnFor}
use Rattle.session_plan.specs.Committing.{IsPlannedOf, IsWorkOf}
use Rattle.session_plan.proofs.CommitLemmas.{decided_known, state_in, record_in, decided_by, stands, more, present_stands}
use Rattle.session_txn.proofs.CommitLemmas.{planned_told}

-- ---- a branch that hasn't moved: what would be worked in a draft over the look's store is what the session's own draft has

abbrev own_work : {D : Type 0} → Session D → Look → Drafting
own_work session look = record {
  chunks = record { base = all_chunks look.store; own = session.draft.chunks.own };
  segments = look.store.segments;
  free = 0;
  taken = 0;
}

-- what `unmoved_candidate` says of its answer
abbrev pub IsByOwn : {D : Type 0} → (List ℕ → List ℕ) → Session D → Candidate → Type 0
IsByOwn address session m = (s q own : BranchState) (autocommit : Bool) → is_same_state q s ≡ true → BranchStateStands address (chunks_of session.draft.chunks) session.own own
    → IsCandidate address (chunks_of session.draft.chunks) m (decide s q own (set autocommit session.allow session.force))

module _ {D : Type 0} (address : List ℕ → List ℕ) (chunks : ChunksFollow) (records : RecordsFollow) (session : Session D) (look start : Look) (started : session.start ≡ Some start)
    (rec : BranchRecord) (sealed : List Chunk) (o : IsOwnFor session look sealed) (p : plain.Session) (t : Transaction) (shared : Shared) (present : BranchState)
    (d : Decides address session look p t shared present) where
  abbrev kept : List Chunk
  kept = session.draft.chunks.own

  abbrev over : List Chunk
  over = all_chunks look.store ++ kept

  as_work : IsWorkOf session look (own_work session look)
  as_work = record { base = refl; own = refl; segments = refl; agree = o.agree; single = o.single }

  is_sealed_as : (plan : DecisionPlan) → IsDecisionFor rec sealed plan → IsPlannedOf (own_work session look) rec Done plan
  is_sealed_as plan is = record {
    change = is.change;
    reply_is = is.reply;
    sealed = subst (IsBrought look.store.segments kept) (sym (is.brings ∙ o.is)) (record {
      all = λ k bytes listed. listed;
      only = (chunks.listed_either (all_chunks look.store) kept).1;
    });
  }

  is_sound : IsSound address session.draft.chunks → IsSound address (own_work session look).chunks
  is_sound sound = record {
    single = chunks.single_join (all_chunks look.store) kept o.single
        (single_fewer kept (session.draft.chunks.base ++ kept) (chunks.listed_either session.draft.chunks.base kept).1 sound.single) o.agree;
    named = sound.named;
  }

  further : Extends (chunks_of session.draft.chunks) (chunk_bytes over)
  further = more address chunks records session look start started (own_work session look) as_work p t shared present d

  began : TransactionStands address session.draft.chunks start session.own t
  began = stands address chunks records session look start started (own_work session look) as_work p t shared present d

  now_there : RecordStands address (chunk_bytes over) shared.commits look.rec present
  now_there = records.later address (chunk_bytes (all_chunks look.store)) (chunk_bytes over) shared.commits shared.commits look.rec present (chunks.extends_left (all_chunks look.store) kept)
      (λ k known. known) (present_stands address chunks records session look start started (own_work session look) as_work p t shared present d)

  start_there : RecordStands address (chunk_bytes over) t.commits start.rec t.start
  start_there = records.later address (chunks_of session.draft.chunks) (chunk_bytes over) t.commits t.commits start.rec t.start further (λ k known. known) began.start

  module _ (same : look.rec ≡ start.rec) where
    stays : present ≡ t.start
    stays = records.one address (chunk_bytes over) shared.commits t.commits start.rec present t.start
        (subst (λ (r : BranchRecord). RecordStands address (chunk_bytes over) shared.commits r present) same now_there) start_there

    candidate_over : (v : Variables) (outcome : Outcome BranchState) → decide t.start present t.own v ≡ outcome → IsCandidate address (chunks_of session.draft.chunks) (made.Record rec) outcome
        → IsCandidate address (chunk_bytes over) (made.Record rec) outcome
    candidate_over v (Err number) decided is = absurd is
    candidate_over v (Ok state) decided is = state_in address (chunk_bytes over) t.commits rec state
        (records.later address (chunks_of session.draft.chunks) (chunk_bytes over) t.commits t.commits rec state further (λ k known. known)
        (record_in address (chunks_of session.draft.chunks) t.commits rec state is
        (decided_known t.commits t.start present t.own state v (began.own_stands.head_known, began.own_stands.merging_known)
        (subst (λ (s : BranchState). is_known t.commits s.head ≡ true) (sym stays) began.start.head_known) decided)))

    by_own : (m : Candidate) → IsByOwn address session m → IsCandidate address (chunks_of session.draft.chunks) m (decided_by session p t present)
    by_own m is = is t.start present t.own p.variables.autocommit ((records.told present t.start).1 stays)
        (state_in address (chunks_of session.draft.chunks) t.commits session.own t.own began.own_stands)

    own_planned : (drafts : DraftsFollow) (commits : CommitsFollow) → IsSound address session.draft.chunks → (m : Candidate) (plan : DecisionPlan) → m ≡ made.Record rec → IsByOwn address session m
        → IsDecisionFor rec sealed plan → PlanIs address look shared.commits plan (ruled p t present done)
    own_planned drafts commits sound m plan is stood decides =
        planned_told address chunks records session look start started (own_work session look) as_work p t shared present d drafts (own_work session look) (grows_itself is_data (own_work session look))
        (is_sound sound) commits (made.Record rec) rec (Ok plan) refl
        (candidate_over (set p.variables.autocommit session.allow session.force) (decided_by session p t present) refl
        (subst (λ (c : Candidate). IsCandidate address (chunks_of session.draft.chunks) c (decided_by session p t present)) is (by_own m stood)))
        (is_sealed_as plan decides)

pub own_told : {D : Type 0} (address : List ℕ → List ℕ) (chunks : ChunksFollow) (records : RecordsFollow) (drafts : DraftsFollow) (commits : CommitsFollow) (session : Session D) (look : Look)
    (rec : BranchRecord) (sealed : List Chunk) (p : plain.Session) (t : Transaction) (shared : Shared) (present : BranchState) → Decides address session look p t shared present
    → IfSome session.start (λ start. look.rec ≡ start.rec) → IsSound address session.draft.chunks → (m : Candidate) (plan : DecisionPlan) → m ≡ made.Record rec → IsByOwn address session m
    → IsOwnFor session look sealed → IsDecisionFor rec sealed plan → PlanIs address look shared.commits plan (ruled p t present done)
own_told address chunks records drafts commits session look rec sealed p t shared present d unmoved sound m plan is stood o decides =
    by session.start refl unmoved d.session_stands.transaction
  where
    by : (found : Option Look) → session.start ≡ found → IfSome found (λ start. look.rec ≡ start.rec) → StartStands address session.draft.chunks found session.own p.transaction
        → PlanIs address look shared.commits plan (ruled p t present done)
    by None started same begun = absurd (subst (λ (one : Option Transaction). StartStands address session.draft.chunks None session.own one) d.transaction begun)
    by (Some start) started same begun = own_planned address chunks records session look start started rec sealed o p t shared present d same drafts commits sound m plan is stood decides

-- what was decided of the transaction's own record, where the branch has the record of its start
pub own_decided : {D : Type 0} (address : List ℕ → List ℕ) (chunks : ChunksFollow) (records : RecordsFollow) (session : Session D) (look : Look) (sealed : List Chunk) (p : plain.Session)
    (t : Transaction) (shared : Shared) (present : BranchState) → Decides address session look p t shared present → IfSome session.start (λ start. look.rec ≡ start.rec) → IsOwnFor session look sealed
    → (m : Candidate) → IsByOwn address session m → IsCandidate address (chunks_of session.draft.chunks) m (decided_by session p t present)
own_decided address chunks records session look sealed p t shared present d unmoved o m stood = by session.start refl unmoved d.session_stands.transaction where
  by : (found : Option Look) → session.start ≡ found → IfSome found (λ start. look.rec ≡ start.rec) → StartStands address session.draft.chunks found session.own p.transaction
      → IsCandidate address (chunks_of session.draft.chunks) m (decided_by session p t present)
  by None started same begun = absurd (subst (λ (one : Option Transaction). StartStands address session.draft.chunks None session.own one) d.transaction begun)
  by (Some start) started same begun = by_own address chunks records session look start started look.rec sealed o p t shared present d same m stood

pub own_state : {D : Type 0} (address : List ℕ → List ℕ) (session : Session D) (p : plain.Session) (t : Transaction) → SessionStands address session p → p.transaction ≡ Some t
    → (state : BranchState) × BranchStateStands address (chunks_of session.draft.chunks) session.own state
own_state address session p t stands is =
    by session.start (subst (λ (one : Option Transaction). StartStands address session.draft.chunks session.start session.own one) is stands.transaction)
  where
    by : (found : Option Look) → StartStands address session.draft.chunks found session.own (Some t) → (state : BranchState) × BranchStateStands address (chunks_of session.draft.chunks) session.own state
    by None begun = absurd begun
    by (Some start) begun = (t.own, state_in address (chunks_of session.draft.chunks) t.commits session.own t.own begun.own_stands)
