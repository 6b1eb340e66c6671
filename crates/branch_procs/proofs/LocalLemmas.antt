-- A session after a call that stages tables or sets them back.
use Rattle.std.proofs.Common.{◌≡◌, refl, sym, ◌∙◌, ap, subst, inl, inr, ℕ, true, true≢false, List, length, nat_lt, Option, Some, Ok, Err}
use Rattle.tuple_codec.proofs.Options.{some_there as has_one}
use Rattle.tuple_codec.specs.declared.addresses.Address.{Address}
use Rattle.tuple_codec.specs.declared.records.BranchRecord.{BranchRecord}
use Rattle.chunk_store.specs.Chunks.{Chunk}
use Rattle.chunk_store.specs.Clashes.{IsReason}
use Rattle.chunk_store.specs.Drafts.{Drafting, DraftParts, Grows, IsNamed, IsSound, chunks_of, cut_to}
use Rattle.chunk_store.specs.Kinds.{is_data, is_database}
use Rattle.chunk_store.specs.Laws.{ChunksFollow, DraftsFollow, DraftsGrow}
use Rattle.chunk_store.specs.declared.faults.PutFault.{PutFault}
use Rattle.chunk_store.specs.declared.faults.PutFault.TheVariants.{Memory, Collision}
use Rattle.table_root.specs.Kept.{IsKeptAt}
use Rattle.expr_eval.specs.Binding.{Outcome}
use Rattle.schema_model.specs.Limits.{most_tables}
use Rattle.schema_model.specs.PlainCommits.{Commits, is_known}
use Rattle.schema_model.specs.PlainTables.{PlainDatabase}
use Rattle.script_text.specs.Collisions.{TellsTruly}
use Rattle.script_text.specs.Output.{shortage}
use Rattle.script_text.specs.declared.replies.Reply.{Reply}
use Rattle.script_text.specs.declared.replies.Reply.TheVariants.{Refused}
use Rattle.plain_sql.specs.Lists.{each}
use Rattle.sql_procedures.specs.declared.requests.Reset.{Reset}
use Rattle.sql_procedures.specs.declared.requests.Reset.TheVariants as reset
use Rattle.sql_procedures.specs.declared.requests.Tables.{Tables}
use Rattle.sql_procedures.specs.declared.requests.Tables.TheVariants as tables
use Rattle.plain_sessions.specs.Branching.{add, is_open, may_reset, may_stage, reset_to, staged_as, taking_all}
use Rattle.plain_sessions.specs.Moments.{is_in_transaction}
use Rattle.plain_sessions.specs.Records.{BranchState, clean_at, root_of}
use Rattle.plain_sessions.specs.Replies.{is_refusal, refused}
use Rattle.plain_sessions.specs.Sessions as plain
use Rattle.plain_sessions.specs.Sessions.{Said, Transaction, own_root, with_own, within}
use Rattle.plain_sessions.specs.Statements.{staged, worked}
use Rattle.plain_sessions.specs.declared.commands.Command.TheVariants as command
use Rattle.plain_sessions.specs.declared.commands.Work.{Work}
use Rattle.plain_sessions.specs.declared.commands.Work.TheVariants.{Ask, Change, Add, ResetTo, Commit, Merge, Resolve, Verify}
use Rattle.root_merge.specs.States.{BranchStateStands, IsCandidate}
use Rattle.root_merge.specs.declared.candidates.Candidate.{Candidate}
use Rattle.root_merge.specs.declared.candidates.Candidate.TheVariants as cand
use Rattle.session_state.specs.Commits.{HasNoCommit}
use Rattle.session_state.specs.Laws.{TransactionsFollow}
use Rattle.session_state.specs.Transactions.{StartStands}
use Rattle.session_state.specs.Standing.{SessionStands}
use Rattle.session_state.specs.declared.sessions.Session.{Session}
use Rattle.session_plan.specs.Answering.{AnswersAlone}
use Rattle.session_plan.specs.Showing.{IsDue, is_sound_reply}
use Rattle.session_plan.proofs.AloneLemmas.{answers_due, answers_so, collides, starves, takes_none, worked_ill, worked_well}
use Rattle.session_plan.proofs.ShowLemmas.{due_truly}
use Rattle.session_plan.proofs.CommitLemmas.{Known, gives, no_commit_more, ok_same, past_unless, record_in, state_in}
use Rattle.session_plan.proofs.CommittingLemmas.{database_is_data, fault_is}
use Rattle.session_plan.proofs.LocalLemmas.{grown_by, own_in}
use Rattle.branch_procs.specs.Calls.{IsExcused, IsTold, Settles, Stages, staged_by, stages}
use Rattle.session_plan.specs.Calls.{OwnStands, status_reply}
use Rattle.branch_procs.specs.Staging.{StandsOn}

-- ---- what the state names

module _ (commits : Commits) (own made : BranchState) (known : Known commits own) where
  known_staged : (database : PlainDatabase) → staged_as own database ≡ Ok made → Known commits made
  known_staged database is =
      let after : BranchState = record own { staged = database } in
      subst (Known commits) (ok_same after made (past_unless (nat_lt most_tables (length database)) 9010 (Ok after) made is)) known

  known_added : (which : Tables) → add which own ≡ Ok made → Known commits made
  known_added tables.All is = known_staged own.working (past_unless (is_open own.working) 9011 (staged_as own own.working) made is)
  known_added (tables.Named names) is =
      gives (Known commits made) (each (may_stage own) names) (λ named. staged_as own (taking_all own.working own.staged named)) made is
      (λ named _ e. known_staged (taking_all own.working own.staged named) e)

  known_reset : (root : PlainDatabase) (which : Reset) → reset_to root which own ≡ Ok made → Known commits made
  known_reset root reset.Hard is = subst (Known commits) (ok_same (clean_at own.head root) made is) (known.0, refl)
  known_reset root (reset.Tables tables.All) is = let after : BranchState = record own { staged = root } in subst (Known commits) (ok_same after made is) known
  known_reset root (reset.Tables (tables.Named names)) is =
      gives (Known commits made) (each (may_reset root own) names) (λ named. staged_as own (taking_all root own.staged named)) made is
      (λ named _ e. known_staged (taking_all root own.staged named) e)

  -- its commits are those that were named before
  pub known_after : (root : PlainDatabase) (asked : Work) → staged_by root asked own ≡ Ok made → Known commits made
  known_after root (Add which) is = known_added which is
  known_after root (ResetTo which) is = known_reset root which is
  known_after root (Ask one) is = subst (Known commits) (ok_same own made is) known
  known_after root (Change write) is = subst (Known commits) (ok_same own made is) known
  known_after root (Commit request) is = subst (Known commits) (ok_same own made is) known
  known_after root (Merge request) is = subst (Known commits) (ok_same own made is) known
  known_after root (Resolve request) is = subst (Known commits) (ok_same own made is) known
  known_after root (Verify way) is = subst (Known commits) (ok_same own made is) known

-- ---- the head

pub head_known_at : (address : List ℕ → List ℕ) (draft : DraftParts) (own : BranchRecord) (commits : Commits) (state : BranchState) → OwnStands address draft own commits state
    → is_known commits own.head.0 ≡ true
head_known_at address draft own commits state at = let stands = at.stands in ap (is_known commits) stands.head ∙ stands.head_known

pub on_head : (address : List ℕ → List ℕ) (draft : DraftParts) (own : BranchRecord) (commits : Commits) (state : BranchState) → OwnStands address draft own commits state → (root : Address)
    → IsKeptAt address (chunks_of draft) root.0 (root_of commits own.head.0) → StandsOn address (chunks_of draft) own root state (root_of commits state.head)
on_head address draft own commits state at root kept =
    let stands = at.stands in
    record {
      stands = state_in address (chunks_of draft) commits own state stands;
      root_stands = subst (λ (k : List ℕ). IsKeptAt address (chunks_of draft) root.0 (root_of commits k)) stands.head kept;
    }

-- ---- the draft

-- ---- the call on the own record

pub done_so : (address : List ℕ → List ℕ) (old new : Drafting) (before after : BranchRecord) (m : Candidate) (wanted : Outcome BranchState) (reply : Reply) → m ≡ cand.Record after
    → IsCandidate address (chunks_of new.chunks) m wanted → Grows is_database old new → reply ≡ status_reply → Stages address old new before after wanted reply
done_so address old new before after m wanted reply is stood grows told = by wanted (subst (λ (c : Candidate). IsCandidate address (chunks_of new.chunks) c wanted) is stood) where
  by : (wanted : Outcome BranchState) → IsCandidate address (chunks_of new.chunks) (cand.Record after) wanted → Stages address old new before after wanted reply
  by (Ok state) stood = inl (record { made = state; is = refl; reply_is = told; stands = stood; grows = grows })
  by (Err number) stood = absurd stood

undone : (address : List ℕ → List ℕ) (old mid new : Drafting) (before : BranchRecord) (mark : ℕ) (wanted : Outcome BranchState) (reply : Reply) → DraftsFollow → DraftsGrow
    → mark ≡ length old.chunks.own → Grows is_database old mid → new.chunks ≡ cut_to mark mid.chunks → IsExcused wanted reply → Stages address old new before before wanted reply
undone address old mid new before mark wanted reply drafts growth at grows cut excused = inr (record {
  chunks = cut ∙ ap (λ (n : ℕ). cut_to n mid.chunks) at ∙ drafts.comes_back old.chunks mid.chunks (growth.is_longer is_database old mid grows);
  record_is = refl;
  excused = excused;
})

pub refused_so : (address : List ℕ → List ℕ) (old mid new : Drafting) (before : BranchRecord) (mark : ℕ) (m : Candidate) (number : ℕ) (wanted : Outcome BranchState) (reply : Reply) → DraftsFollow → DraftsGrow
    → mark ≡ length old.chunks.own → Grows is_database old mid → new.chunks ≡ cut_to mark mid.chunks → m ≡ cand.Refused number → IsCandidate address (chunks_of mid.chunks) m wanted
    → IsDue 1 (Refused number) reply → Stages address old new before before wanted reply
refused_so address old mid new before mark m number wanted reply drafts growth at grows cut is stood owed =
    undone address old mid new before mark wanted reply drafts growth at grows cut (by wanted (subst (λ (c : Candidate). IsCandidate address (chunks_of mid.chunks) c wanted) is stood))
  where
    by : (wanted : Outcome BranchState) → IsCandidate address (chunks_of mid.chunks) (cand.Refused number) wanted → IsExcused wanted reply
    by (Ok state) stood = absurd stood
    by (Err other) same = inl (number, ap (λ (n : ℕ). let o : Outcome BranchState = Err n in o) (sym same), owed)

pub failed_so : (address : List ℕ → List ℕ) (old mid new : Drafting) (before : BranchRecord) (mark : ℕ) (fault : PutFault) (wanted : Outcome BranchState) (reply : Reply) → DraftsFollow → DraftsGrow
    → mark ≡ length old.chunks.own → Grows is_database old mid → new.chunks ≡ cut_to mark mid.chunks → IsTold fault reply → Stages address old new before before wanted reply
failed_so address old mid new before mark Memory wanted reply drafts growth at grows cut told = undone address old mid new before mark wanted reply drafts growth at grows cut (inr (inl told))
failed_so address old mid new before mark (Collision clash) wanted reply drafts growth at grows cut told =
    undone address old mid new before mark wanted reply drafts growth at grows cut (inr (inr (clash, told)))

-- a collision that is told is one
pub fails_truly : (address : List ℕ → List ℕ) (old mid : Drafting) (fault : PutFault) (reply : Reply) → ChunksFollow → DraftsFollow → DraftsGrow → IsNamed address old.chunks
    → IsSound address mid.chunks → Grows is_database old mid → IsReason address (chunks_of mid.chunks) fault → IsTold fault reply → TellsTruly address reply
fails_truly address old mid Memory reply chunks drafts growth named sound grows reason told = subst (λ (r : Reply). TellsTruly address r) (sym told) tt
fails_truly address old mid (Collision clash) reply chunks drafts growth named sound grows reason told =
    let longer = growth.is_longer is_database old mid grows in
    subst (λ (r : Reply). TellsTruly address r) (sym told) (fault_is address chunks drafts old.chunks mid.chunks named longer sound (Collision clash) reason)

pub settled_so : (address : List ℕ → List ℕ) (old mid new : Drafting) (before after : BranchRecord) (mark : ℕ) (m : Candidate) (wanted : Outcome BranchState) (reply : Reply) → DraftsFollow → DraftsGrow
    → mark ≡ length old.chunks.own → Grows is_database old mid → IsCandidate address (chunks_of mid.chunks) m wanted → Settles mark mid new before after m reply
    → Stages address old new before after wanted reply
settled_so address old mid new before after mark (cand.Record rec) wanted reply drafts growth at grows stood s =
    done_so address old new before after (cand.Record rec) wanted reply (ap cand.Record (sym s.1))
    (subst (λ (d : Drafting). IsCandidate address (chunks_of d.chunks) (cand.Record rec) wanted) (sym s.0) stood)
    (subst (λ (d : Drafting). Grows is_database old d) (sym s.0) grows) s.2
settled_so address old mid new before after mark (cand.Refused number) wanted reply drafts growth at grows stood s =
    subst (λ (r : BranchRecord). Stages address old new before r wanted reply) (sym s.1)
    (refused_so address old mid new before mark (cand.Refused number) number wanted reply drafts growth at grows s.0 refl stood s.2)

pub status_sound : (reply : Reply) → reply ≡ status_reply → is_sound_reply reply ≡ true
status_sound reply is = ap is_sound_reply is ∙ refl

pub status_truly : (address : List ℕ → List ℕ) (reply : Reply) → reply ≡ status_reply → TellsTruly address reply
status_truly address reply is = subst (λ (r : Reply). TellsTruly address r) (sym is) tt

pub base_back : (old mid new : DraftParts) (mark : ℕ) → mid.base ≡ old.base → new ≡ cut_to mark mid → new.base ≡ old.base
base_back old mid new mark same cut = ap (λ (d : DraftParts). d.base) cut ∙ same

-- ---- the session

abbrev with_record : {D : Type 0} → Session D → BranchRecord → Drafting → Session D
with_record session own d = record session { own = own; draft = d }

done_stands : {D : Type 0} (address : List ℕ → List ℕ) (old : Session D) (d : Drafting) (own : BranchRecord) (p : plain.Session) (t : Transaction) (state : BranchState)
    → ChunksFollow → DraftsFollow → DraftsGrow → TransactionsFollow → p.transaction ≡ Some t → SessionStands address old p → BranchStateStands address (chunks_of d.chunks) own state
    → Known t.commits state → Grows is_database old.draft d → SessionStands address (with_record old own d) (within p (with_own state t))
done_stands address old d own p t state chunks drafts growth follow there stands stood known grows =
    let longer = growth.is_longer is_database old.draft d grows in
    let wide = growth.wider is_database is_data old.draft d database_is_data grows in
    record {
      name = stands.name;
      number = stands.number;
      branch = stands.branch;
      autocommit = stands.autocommit;
      allow = stands.allow;
      force = stands.force;
      position = stands.position;
      transaction = grown_by address old.draft.chunks d.chunks old.start old.own own p.transaction t state follow there longer stands.transaction
          (λ before. record_in address (chunks_of d.chunks) t.commits own state stood known);
      named = drafts.still_named address old.draft.chunks d.chunks longer stands.named;
      plain_own = subst (λ (cs : List Chunk). HasNoCommit cs) (sym wide.own) (no_commit_more chunks old.draft.chunks.own wide.more stands.plain_own wide.kinds);
      committer = stands.committer;
    }

undone_stands : {D : Type 0} (address : List ℕ → List ℕ) (old : Session D) (d : Drafting) (own : BranchRecord) (p : plain.Session) → SessionStands address old p
    → d.chunks ≡ old.draft.chunks → own ≡ old.own → SessionStands address (with_record old own d) p
undone_stands address old d own p stands same back = record {
  name = stands.name;
  number = stands.number;
  branch = stands.branch;
  autocommit = stands.autocommit;
  allow = stands.allow;
  force = stands.force;
  position = stands.position;
  transaction = subst (λ (chunks : DraftParts). StartStands address chunks old.start own p.transaction) (sym same)
      (subst (λ (rec : BranchRecord). StartStands address old.draft.chunks old.start rec p.transaction) (sym back) stands.transaction);
  named = subst (λ (chunks : DraftParts). IsNamed address chunks) (sym same) stands.named;
  plain_own = subst (λ (chunks : DraftParts). HasNoCommit chunks.own) (sym same) stands.plain_own;
  committer = stands.committer;
}

-- ---- what is answered

worked_staged : (p : plain.Session) (t : Transaction) (asked : Work) (outcome : Outcome BranchState) → stages asked ≡ true → staged_by (own_root t) asked t.own ≡ outcome
    → worked p t asked ≡ staged outcome
unfolding worked
worked_staged p t (Add which) outcome h is = ap staged is
worked_staged p t (ResetTo which) outcome h is = ap staged is
worked_staged p t (Ask one) outcome h is = absurd (cc)
worked_staged p t (Change write) outcome h is = absurd (cc)
worked_staged p t (Commit request) outcome h is = absurd (cc)
worked_staged p t (Merge request) outcome h is = absurd (cc)
worked_staged p t (Resolve request) outcome h is = absurd (cc)
worked_staged p t (Verify way) outcome h is = absurd (cc)

excused : {D : Type 0} (address : List ℕ → List ℕ) (session : Session D) (p : plain.Session) (t : Transaction) (asked : Work) (reply : Reply) → stages asked ≡ true
    → p.transaction ≡ Some t → SessionStands address session p → IsExcused (staged_by (own_root t) asked t.own) reply → AnswersAlone address p (command.Data asked) session reply
excused address session p t asked reply h there stands (inl refusal) =
    answers_due address session p p (command.Data asked) (refused refusal.0) reply
    (worked_ill p t asked refusal.0 there (worked_staged p t asked (Err refusal.0) h refusal.1)) refusal.2 stands stands
excused address session p t asked reply h there stands (inr (inl is)) = starves address session p (command.Data asked) reply stands is
excused address session p t asked reply h there stands (inr (inr clash)) =
    collides address session p (command.Data asked) clash.0 reply clash.1 (takes_none p t asked there) stands

answers_in : {D : Type 0} (address : List ℕ → List ℕ) (old : Session D) (d : Drafting) (own : BranchRecord) (p : plain.Session) (t : Transaction) (asked : Work) (reply : Reply)
    → ChunksFollow → DraftsFollow → DraftsGrow → TransactionsFollow → stages asked ≡ true → p.transaction ≡ Some t → SessionStands address old p
    → Stages address old.draft d old.own own (staged_by (own_root t) asked t.own) reply
    → AnswersAlone address p (command.Data asked) (with_record old own d) reply
answers_in address old d own p t asked reply chunks drafts growth follow h there stands (inl done) =
    let state = done.made in
    let before = own_in address old p t stands there in
    let kept = before.stands in
    answers_so address (with_record old own d) p (within p (with_own state t)) (command.Data asked) reply
    (worked_well p t asked status_reply state there (worked_staged p t asked (Ok state) h done.is)
    ∙ ap (λ (r : Reply). let said : Option Said = Some (within p (with_own state t), r) in said) (sym done.reply_is))
    (ap shortage done.reply_is)
    (done_stands address old d own p t state chunks drafts growth follow there stands done.stands
    (known_after t.commits t.own state (kept.head_known, kept.merging_known) (own_root t) asked done.is) done.grows)
answers_in address old d own p t asked reply chunks drafts growth follow h there stands (inr undone) =
    excused address (with_record old own d) p t asked reply h there (undone_stands address old d own p stands undone.chunks undone.record_is) undone.excused

pub answers : {D : Type 0} (address : List ℕ → List ℕ) (old : Session D) (d : Drafting) (own : BranchRecord) (p : plain.Session) (asked : Work) (reply : Reply)
    → ChunksFollow → DraftsFollow → DraftsGrow → TransactionsFollow → stages asked ≡ true → is_in_transaction p ≡ true → SessionStands address old p
    → ((commits : Commits) (state : BranchState) → OwnStands address old.draft.chunks old.own commits state
    → Stages address old.draft d old.own own (staged_by (root_of commits state.head) asked state) reply)
    → AnswersAlone address p (command.Data asked) (with_record old own d) reply
answers address old d own p asked reply chunks drafts growth follow h inside stands done =
    let found = has_one p.transaction inside in
    let t = found.0 in
    answers_in address old d own p t asked reply chunks drafts growth follow h found.1 stands (done t.commits t.own (own_in address old p t stands found.1))

pub settled_truly : (address : List ℕ → List ℕ) (mid new : Drafting) (before after : BranchRecord) (mark : ℕ) (m : Candidate) (reply : Reply) → Settles mark mid new before after m reply
    → TellsTruly address reply
settled_truly address mid new before after mark (cand.Record rec) reply s = status_truly address reply s.2
settled_truly address mid new before after mark (cand.Refused number) reply s = due_truly address 1 (Refused number) reply s.2

-- ---- a refusal leaves the session as it was

pub left_by : (address : List ℕ → List ℕ) (old new : Drafting) (before after : BranchRecord) (wanted : Outcome BranchState) (reply : Reply) → Stages address old new before after wanted reply
    → is_refusal reply ≡ true → (after ≡ before) × (new.chunks ≡ old.chunks)
left_by address old new before after wanted reply (inl done) h = absurd (true≢false (sym h ∙ ap is_refusal done.reply_is))
left_by address old new before after wanted reply (inr undone) h = (undone.record_is, undone.chunks)

pub left_at : {D : Type 0} (old : Session D) (d : Drafting) (own : BranchRecord) → own ≡ old.own → with_record old own d ≡ record old { draft = d }
left_at old d own back = ap (λ (rec : BranchRecord). with_record old rec d) back
