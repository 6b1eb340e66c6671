-- What stands in the draft over a look's store, by the session's own state and by what the branch has now, and what the decided state names.
use Rattle.std.proofs.Common.{◌≡◌, refl, ◌∙◌, sym, ap, subst, inl, inr, ℕ, Bool, true, false, ◌&&◌, ◌||◌, not, cond, arith, List, [], ◌∷◌, ◌++◌, Option, None, Some, Result, Ok, Err}
use Rattle.std.specs.Prelude.{IfOk, IfErr, IsErr, IsErrAnd, OnOk, is_some}
use Rattle.std.specs.Option.{option_map_or}
use Rattle.std.proofs.lemmas.Bool.Decides.{nat_tests}
use Rattle.std.proofs.lemmas.Option.{same_Some}
use Rattle.tuple_codec.specs.declared.records.BranchRecord.{BranchRecord}
use Rattle.chunk_store.specs.Chunks.{Agree, AreNamed, Chunk, Chunks, Extends, IsSingle, Listed, chunk_bytes}
use Rattle.chunk_store.specs.Clashes.{IsCause, IsReason}
use Rattle.chunk_store.specs.Drafts.{AreOfKind, Drafting, DraftParts, Grows, IsSound, chunks_of}
use Rattle.chunk_store.specs.Kinds.{is_commit, is_data}
use Rattle.chunk_store.specs.Laws.{ChunksFollow, DraftsFollow}
use Rattle.chunk_store.specs.Stores.{Stored, all_chunks, joined}
use Rattle.chunk_store.specs.declared.faults.PutFault.{PutFault}
use Rattle.chunk_store.specs.declared.faults.PutFault.TheVariants.{Memory, Collision}
use Rattle.chunk_store.proofs.ChunkLemmas.{at_join, either_some}
use Rattle.expr_eval.specs.Binding.{Outcome, and_then}
use Rattle.plain_sql.specs.Lists.{unless}
use Rattle.schema_merge.specs.RootMerge.{root3}
use Rattle.schema_model.specs.Limits.{is_database_within_limits}
use Rattle.schema_model.specs.PlainCommits.{Commits, PlainCommit, is_known}
use Rattle.schema_model.specs.PlainTables.{PlainDatabase}
use Rattle.script_text.specs.Collisions.{IsFault}
use Rattle.table_root.specs.declared.heads.Look.{Look}
use Rattle.plain_sessions.specs.CommitRule.{both_merged, candidate, decide, is_in_conflict, is_in_violation, is_unsettled, judged, merged, recorded, without_conflicts}
use Rattle.plain_sessions.specs.Moments.{Change}
use Rattle.plain_sessions.specs.Records.{BranchState, Shared, is_same_state, state_of}
use Rattle.plain_sessions.specs.Sessions as plain
use Rattle.plain_sessions.specs.Sessions.{Transaction, Variables}
use Rattle.root_merge.specs.Deciding.{AreStates, set}
use Rattle.root_merge.specs.States.{BranchStateStands, IsCandidate}
use Rattle.root_merge.specs.declared.candidates.Candidate.{Candidate}
use Rattle.root_merge.specs.declared.candidates.Candidate.TheVariants as made
use Rattle.session_state.specs.Commits.{AreAmong, HasNoCommit}
use Rattle.session_state.specs.Laws.{CommitsFollow, RecordsFollow}
use Rattle.session_state.specs.Records.{RecordStands}
use Rattle.session_state.specs.Transactions.{StartStands, TransactionStands}
use Rattle.session_state.specs.Standing.{SessionStands}
use Rattle.session_state.specs.declared.sessions.Session.{Session}
use Rattle.shared_db.specs.Plans.{IsRefusedBy, PlanIs}
use Rattle.shared_db.specs.declared.changes.DecisionPlan.{DecisionPlan}
use Rattle.session_plan.specs.Answering.{Decides}
use Rattle.session_plan.specs.Committing.{IsWorkOf}
use Rattle.session_plan.proofs.CommittingLemmas.{fault_told as told_by}

-- ---- chunks

pub of_kind : (kind : List ℕ → Bool) (cs : List Chunk) (k bytes : List ℕ) → AreOfKind kind cs → Listed cs k bytes → kind bytes ≡ true
of_kind kind [] k bytes all listed = absurd listed
of_kind kind (c ∷ cs) k bytes all (inl is) = ap kind (sym is.1) ∙ all.0
of_kind kind (c ∷ cs) k bytes all (inr listed) = of_kind kind cs k bytes all.1 listed

pub data_apart : (bytes : List ℕ) → is_data bytes ≡ true → is_commit bytes ≡ true → ⊥
data_apart [] h is = absurd (cc)
data_apart (byte ∷ bytes) h is =
    let five : byte ≡ 5 = grind (arith, nat_tests) in
    let wrong : false ≡ true = ap (λ (n : ℕ). is_data (n ∷ bytes)) (sym five) ∙ h in absurd (cc)

-- data more are no commits
pub no_commit_more : ChunksFollow → (own more : List Chunk) → HasNoCommit own → AreOfKind is_data more → HasNoCommit (own ++ more)
no_commit_more laws own more none all k bytes there is =
    elim (either_some (chunk_bytes own k) (chunk_bytes more k) bytes (sym (at_join own more k) ∙ there)) [
      | inl here ↦ none k bytes here is
      | inr here ↦ data_apart bytes (of_kind is_data more k bytes all (laws.is_listed more k bytes here)) is
    ]

-- ---- what the decided state names

abbrev pub Known : Commits → BranchState → Type 0
Known commits state = (is_known commits state.head ≡ true) × (option_map_or (is_known commits) state.merging true ≡ true)

abbrev ok_or : {A : Type 0} → Outcome A → A → A
ok_or (Ok a) other = a
ok_or (Err number) other = other

pub ok_same : {A : Type 0} (a b : A) → ◌≡◌ {A = Outcome A} (Ok a) (Ok b) → a ≡ b
ok_same a b e = ap (λ o. ok_or o a) e

pub gives : {A B : Type 0} (P : Type 0) (x : Outcome A) (f : A → Outcome B) (y : B) → and_then x f ≡ Ok y → ((a : A) → x ≡ Ok a → f a ≡ Ok y → P) → P
gives P (Ok a) f y is next = next a refl is
gives P (Err number) f y is next = absurd (cc)

pub past_unless : {A : Type 0} (wrong : Bool) (number : ℕ) (next : Outcome A) (y : A) → unless wrong number next ≡ Ok y → next ≡ Ok y
past_unless true number next y is = absurd (cc)
past_unless false number next y is = is

judged_same : (v : Variables) (state other : BranchState) → judged v state ≡ Ok other → state ≡ other
judged_same v state other is =
    ok_same state other
    (past_unless (is_in_violation state && not v.force) 9003 (Ok state) other
    (past_unless (is_in_conflict state && not v.allow && not v.force) 9002 (unless (is_in_violation state && not v.force) 9003 (Ok state)) other is))

abbrev both_of : BranchState → PlainDatabase → PlainDatabase → BranchState
both_of present working staged = record { head = present.head; working = recorded working; staged = staged; merging = None }

both_known : (commits : Commits) (present state : BranchState) (working staged : PlainDatabase) → is_known commits present.head ≡ true → both_merged present working staged ≡ Ok state
    → Known commits state
both_known commits present state working staged known is =
    subst (Known commits)
    (ok_same (both_of present working staged) state
    (past_unless (not (is_database_within_limits working && is_database_within_limits staged)) 9010 (Ok (both_of present working staged)) state is))
    (known, refl)

merged_known : (commits : Commits) (start present own state : BranchState) → is_known commits present.head ≡ true → merged start present own ≡ Ok state → Known commits state
merged_known commits start present own state known is =
    gives (Known commits state) (without_conflicts (root3 start.working present.working own.working)) both state
    (past_unless (is_unsettled present || is_unsettled start || is_unsettled own) 1213 (and_then (without_conflicts (root3 start.working present.working own.working)) both) state is)
    (λ working _ e. gives (Known commits state) (without_conflicts (root3 start.staged present.staged own.staged)) (both_merged present working) state e
    (λ staged _ f. both_known commits present state working staged known f))
  where
    both : PlainDatabase → Outcome BranchState
    both working = and_then (without_conflicts (root3 start.staged present.staged own.staged)) (λ staged. both_merged present working staged)

candidate_known : (commits : Commits) (start present own state : BranchState) → Known commits own → is_known commits present.head ≡ true → candidate start present own ≡ Ok state
    → Known commits state
candidate_known commits start present own state own_known known is = by (is_same_state present start) is where
  by : (same : Bool) → cond same (Ok own) (merged start present own) ≡ Ok state → Known commits state
  by true e = subst (Known commits) (ok_same own state e) own_known
  by false e = merged_known commits start present own state known e

pub decided_known : (commits : Commits) (start present own state : BranchState) (v : Variables) → Known commits own → is_known commits present.head ≡ true
    → decide start present own v ≡ Ok state → Known commits state
unfolding decide
decided_known commits start present own state v own_known known is =
    gives (Known commits state) (candidate start present own) (judged v) state is
    (λ found e f. subst (Known commits) (judged_same v found state f) (candidate_known commits start present own found own_known known e))

-- ---- records

pub state_in : (address : List ℕ → List ℕ) (chunks : Chunks) (commits : Commits) (rec : BranchRecord) (state : BranchState) → RecordStands address chunks commits rec state
    → BranchStateStands address chunks rec state
state_in address chunks commits rec state stands = record { head = stands.head; working = stands.working; staged = stands.staged; merging = stands.merging }

pub record_in : (address : List ℕ → List ℕ) (chunks : Chunks) (commits : Commits) (rec : BranchRecord) (state : BranchState) → BranchStateStands address chunks rec state → Known commits state
    → RecordStands address chunks commits rec state
record_in address chunks commits rec state stands known = record {
  head = stands.head;
  working = stands.working;
  staged = stands.staged;
  merging = stands.merging;
  head_known = known.0;
  merging_known = known.1;
}

pub known_more : (o p : Option PlainCommit) → ((c : PlainCommit) → o ≡ Some c → p ≡ Some c) → is_some o ≡ true → is_some p ≡ true
known_more None p among known = absurd (cc)
known_more (Some c) p among known = ap is_some (among c refl)

pub merging_more : (commits others : Commits) → AreAmong commits others → (o : Option (List ℕ)) → option_map_or (is_known commits) o true ≡ true → option_map_or (is_known others) o true ≡ true
merging_more commits others among None known = refl
merging_more commits others among (Some k) known = known_more (commits k) (others k) (among k) known

-- ---- by the session's variables

set_as : {D : Type 0} (address : List ℕ → List ℕ) (session : Session D) (p : plain.Session) → SessionStands address session p
    → set p.variables.autocommit session.allow session.force ≡ p.variables
set_as address session p stands = λ i. record { autocommit = p.variables.autocommit; allow = stands.allow i; force = stands.force i }

-- what was decided by these
abbrev pub decided_by : {D : Type 0} → Session D → plain.Session → Transaction → BranchState → Outcome BranchState
decided_by session p t present = decide t.start present t.own (set p.variables.autocommit session.allow session.force)

pub decided_so : {D : Type 0} (address : List ℕ → List ℕ) (found : Chunks) (session : Session D) (p : plain.Session) (t : Transaction) (present : BranchState) (m other : Candidate)
    → SessionStands address session p → m ≡ other → IsCandidate address found m (decided_by session p t present)
    → IsCandidate address found other (decide t.start present t.own p.variables)
decided_so address found session p t present m other stands is stood =
    subst (λ (v : Variables). IsCandidate address found other (decide t.start present t.own v)) (set_as address session p stands)
    (subst (λ (c : Candidate). IsCandidate address found c (decided_by session p t present)) is stood)

-- ---- the work

pub work_by : {D : Type 0} (session : Session D) (look : Look) (store : Stored) (result : Result Drafting PutFault) → store.segments ≡ look.store.segments → IsSingle (all_chunks look.store)
    → IfOk result (λ work. work.chunks ≡ record { base = all_chunks store; own = session.draft.chunks.own }) → IfOk result (λ work. work.segments ≡ store.segments)
    → OnOk result (Agree (chunk_bytes (all_chunks store)) (chunk_bytes session.draft.chunks.own)) → IfOk result (λ work. IsWorkOf session look work)
work_by session look store (Err fault) shared single chunks segments agree = tt
work_by session look store (Ok work) shared single chunks segments agree = record {
  base = ap (λ (parts : DraftParts). parts.base) chunks ∙ ap joined shared;
  own = ap (λ (parts : DraftParts). parts.own) chunks;
  segments = segments ∙ shared;
  agree = subst (λ (kept : List (List Chunk)). Agree (chunk_bytes (joined kept)) (chunk_bytes session.draft.chunks.own)) shared agree;
  single = single;
}

-- where the look's store doesn't take the session's chunks, two strings have one address
pub work_fault : {D : Type 0} (address : List ℕ → List ℕ) (session : Session D) (look : Look) (store : Stored) (result : Result Drafting PutFault) → ChunksFollow
    → AreNamed address (all_chunks look.store) → AreNamed address session.draft.chunks.own → store.segments ≡ look.store.segments
    → IfErr result (IsCause (chunk_bytes (all_chunks store)) (chunk_bytes session.draft.chunks.own)) → IfErr result (IsFault address)
work_fault address session look store (Ok work) chunks held own shared cause = tt
work_fault address session look store (Err Memory) chunks held own shared cause = tt
work_fault address session look store (Err (Collision clash)) chunks held own shared cause = record {
  first = chunks.is_named address (joined store.segments) clash.address.0 clash.first (subst (λ (kept : List (List Chunk)). AreNamed address (joined kept)) (sym shared) held) cause.is_held;
  second = chunks.is_named address session.draft.chunks.own clash.address.0 clash.second own cause.is_brought;
  differ = cause.differ;
}

transaction_in : (address : List ℕ → List ℕ) (draft : DraftParts) (start : Option Look) (own : BranchRecord) (found : Option Transaction) (look : Look) (t : Transaction) → start ≡ Some look
    → found ≡ Some t → StartStands address draft start own found → TransactionStands address draft look own t
transaction_in address draft start own found look t started there stands =
    subst (λ (o : Option Look). StartStands address draft o own (Some t)) started (subst (λ (o : Option Transaction). StartStands address draft start own o) there stands)

module _ {D : Type 0} (address : List ℕ → List ℕ) (chunks : ChunksFollow) (records : RecordsFollow) (session : Session D) (look start : Look) (started : session.start ≡ Some start)
    (work : Drafting) (w : IsWorkOf session look work) (p : plain.Session) (t : Transaction) (shared : Shared) (present : BranchState)
    (d : Decides address session look p t shared present) where
  abbrev store : List Chunk
  store = all_chunks look.store

  abbrev pub own : List Chunk
  own = session.draft.chunks.own

  pub stands : TransactionStands address session.draft.chunks start session.own t
  stands = transaction_in address session.draft.chunks session.start session.own p.transaction start t started d.transaction d.session_stands.transaction

  pub base_extends : Extends (chunk_bytes session.draft.chunks.base) (chunk_bytes store)
  base_extends = chunks.lists_extends session.draft.chunks.base store w.single d.later

  pub more : Extends (chunks_of session.draft.chunks) (chunk_bytes (store ++ own))
  more = chunks.joined_extends session.draft.chunks.base store own base_extends w.agree

  at_work : chunk_bytes (store ++ own) ≡ chunks_of work.chunks
  at_work = λ i. chunk_bytes (sym w.base i ++ sym w.own i)

  is_present : d.look_is.state ≡ present
  is_present = same_Some d.look_is.state present (sym d.look_is.there ∙ ap (state_of shared.branches) d.branch ∙ d.present_is)

  pub present_stands : RecordStands address (chunk_bytes store) shared.commits look.rec present
  present_stands = subst (λ (state : BranchState). RecordStands address (chunk_bytes store) shared.commits look.rec state) is_present d.look_is.stands

  pub states_in : AreStates address (chunks_of work.chunks) start.rec look.rec session.own t.start present t.own
  states_in = subst (λ (found : Chunks). AreStates address found start.rec look.rec session.own t.start present t.own) at_work (record {
    start_stands = state_in address (chunk_bytes (store ++ own)) t.commits start.rec t.start
        (records.later address (chunks_of session.draft.chunks) (chunk_bytes (store ++ own)) t.commits t.commits start.rec t.start more (λ k known. known) stands.start);
    present_stands = state_in address (chunk_bytes (store ++ own)) shared.commits look.rec present
        (records.later address (chunk_bytes store) (chunk_bytes (store ++ own)) shared.commits shared.commits look.rec present (chunks.extends_left store own) (λ k known. known) present_stands);
    own_stands = state_in address (chunk_bytes (store ++ own)) t.commits session.own t.own
        (records.later address (chunks_of session.draft.chunks) (chunk_bytes (store ++ own)) t.commits t.commits session.own t.own more (λ k known. known) stands.own_stands);
  })

  module _ (drafts : DraftsFollow) (after : Drafting) (grown : Grows is_data work after) (sound : IsSound address after.chunks) where
    pub fault_told : {A : Type 0} (result : Result A PutFault) (fault : PutFault) → IsReason address (chunks_of after.chunks) fault
        → IsErr result × IsErrAnd result (λ told. told ≡ fault) → IfErr result (IsFault address)
    fault_told result fault reason told =
        told_by address chunks drafts work.chunks after.chunks (subst (AreNamed address) (sym w.base) d.look_is.named) (record { more = grown.more; base = grown.base; own = grown.own }) sound
        result fault reason told

  module _ (commits : CommitsFollow) where
    pub among : AreAmong t.commits shared.commits
    among = commits.among address (chunk_bytes session.draft.chunks.base) (chunk_bytes store) t.commits shared.commits base_extends stands.commits d.look_is.commits

    pub own_known : Known shared.commits t.own
    own_known = (
      known_more (t.commits t.own.head) (shared.commits t.own.head) (among t.own.head) stands.own_stands.head_known,
      merging_more t.commits shared.commits among t.own.merging stands.own_stands.merging_known,
    )

-- ---- refusals

pub refused_by : (address : List ℕ → List ℕ) (found : Chunks) (look : Look) (commits : Commits) (number : ℕ) (plan : DecisionPlan) (outcome : Outcome BranchState) (f : BranchState → Change)
    → IsRefusedBy number plan → IsCandidate address found (made.Refused number) outcome → PlanIs address look commits plan (and_then outcome (λ (state : BranchState). Ok (f state)))
refused_by address found look commits number plan (Err refusal) f is same = subst (λ (n : ℕ). IsRefusedBy n plan) same is
refused_by address found look commits number plan (Ok state) f is same = absurd same
