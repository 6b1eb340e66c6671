-- Decisions by the commit rule: what goes on standing where the work is sealed, and refusals.
use Rattle.std.proofs.Common.{◌≡◌, refl, ◌∙◌, sym, ap, subst, ℕ, List, ◌++◌, Some, Result, Ok, Err}
use Rattle.std.specs.Prelude.{IfOk}
use Rattle.tuple_codec.specs.declared.records.BranchRecord.{BranchRecord}
use Rattle.chunk_store.specs.Chunks.{AreNamed, Chunk, Chunks, chunk_bytes}
use Rattle.chunk_store.specs.Drafts.{Drafting, Grows, IsSound, chunks_of}
use Rattle.chunk_store.specs.Kinds.{is_data}
use Rattle.chunk_store.specs.Laws.{ChunksFollow, DraftsFollow}
use Rattle.chunk_store.specs.Stores.{IsBrought, all_chunks, joined}
use Rattle.chunk_store.specs.declared.faults.PutFault.{PutFault}
use Rattle.expr_eval.specs.Binding.{Outcome, and_then}
use Rattle.schema_model.specs.PlainCommits.{Commits}
use Rattle.table_root.specs.declared.heads.Look.{Look}
use Rattle.plain_sessions.specs.CommitRule.{decide}
use Rattle.plain_sessions.specs.Moments.{ruled, without_commit}
use Rattle.plain_sessions.specs.Records.{BranchState, Shared}
use Rattle.plain_sessions.specs.Replies.{done}
use Rattle.plain_sessions.specs.Sessions as plain
use Rattle.plain_sessions.specs.Sessions.{Transaction}
use Rattle.root_merge.specs.States.{BranchStateStands, IsCandidate}
use Rattle.root_merge.specs.declared.candidates.Candidate.{Candidate}
use Rattle.root_merge.specs.declared.candidates.Candidate.TheVariants as made
use Rattle.session_state.specs.Commits.{CommitsAreThere, HasNoCommit}
use Rattle.session_state.specs.Laws.{CommitsFollow, RecordsFollow}
use Rattle.session_state.specs.Records.{RecordStands}
use Rattle.session_state.specs.Standing.{SessionStands}
use Rattle.session_state.specs.declared.sessions.Session.{Session}
use Rattle.shared_db.specs.Plans.{IsRefusedBy, PlanIs, brought}
use Rattle.shared_db.specs.declared.changes.DecisionPlan.{DecisionPlan}
use Rattle.session_plan.specs.Answering.{Decides}
use Rattle.session_plan.specs.Committing.{IsPlannedOf, IsWorkOf}
use Rattle.script_text.specs.declared.replies.Reply.TheVariants.{Done}
use Rattle.session_plan.proofs.CommitLemmas as decisions
use Rattle.session_plan.proofs.CommitLemmas.{Known, decided_by, decided_known, decided_so, no_commit_more, record_in, refused_by}
use Rattle.session_plan.proofs.SealLemmas.{named_sealed, same_sealed}

module _ {D : Type 0} (address : List ℕ → List ℕ) (chunks : ChunksFollow) (records : RecordsFollow) (session : Session D) (look start : Look) (started : session.start ≡ Some start)
    (work : Drafting) (w : IsWorkOf session look work) (p : plain.Session) (t : Transaction) (shared : Shared) (present : BranchState)
    (d : Decides address session look p t shared present) (drafts : DraftsFollow) (after : Drafting) (grown : Grows is_data work after)
    (sound : IsSound address after.chunks) (commits : CommitsFollow) where
  abbrev store : List Chunk
  store = all_chunks look.store

  after_base : after.chunks.base ≡ store
  after_base = grown.base ∙ w.base

  now_there : RecordStands address (chunk_bytes store) shared.commits look.rec present
  now_there = decisions.present_stands address chunks records session look start started work w p t shared present d

  own_known : Known shared.commits t.own
  own_known = decisions.own_known address chunks records session look start started work w p t shared present d commits

  no_commit : HasNoCommit after.chunks.own
  no_commit = subst HasNoCommit (sym (grown.own ∙ ap (λ (cs : List Chunk). cs ++ grown.more) w.own))
      (no_commit_more chunks session.draft.chunks.own grown.more d.session_stands.plain_own grown.kinds)

  module _ (sealed : List Chunk) (is_sealed : IsBrought after.segments after.chunks.own sealed) where
    over_store : joined after.segments ≡ store
    over_store = ap joined (grown.segments ∙ w.segments)

    same : chunk_bytes (store ++ after.chunks.own) ≡ chunk_bytes (store ++ sealed)
    same = same_sealed address chunks drafts store d.look_is.named after after_base over_store sound sealed is_sealed

    named : AreNamed address sealed
    named = named_sealed address chunks drafts store d.look_is.named after after_base over_store sound sealed is_sealed

    there : CommitsAreThere address (chunk_bytes (store ++ sealed)) shared.commits
    there = subst (λ (found : Chunks). CommitsAreThere address found shared.commits) same
        (commits.beside address store after.chunks.own shared.commits no_commit d.look_is.commits)

    record_sealed : (rec : BranchRecord) (state : BranchState) → BranchStateStands address (chunks_of after.chunks) rec state → decide t.start present t.own p.variables ≡ Ok state
        → RecordStands address (chunk_bytes (store ++ sealed)) shared.commits rec state
    record_sealed rec state is decided =
        record_in address (chunk_bytes (store ++ sealed)) shared.commits rec state
        (subst (λ (found : Chunks). BranchStateStands address found rec state) same
        (subst (λ (base : List Chunk). BranchStateStands address (chunk_bytes (base ++ after.chunks.own)) rec state) after_base is))
        (decided_known shared.commits t.start present t.own state p.variables own_known now_there.head_known decided)

  planned_by : (rec : BranchRecord) (plan : DecisionPlan) (outcome : Outcome BranchState) → decide t.start present t.own p.variables ≡ outcome → IsPlannedOf after rec Done plan
      → IsCandidate address (chunks_of after.chunks) (made.Record rec) outcome
      → PlanIs address look shared.commits plan (and_then outcome (λ (state : BranchState). Ok (without_commit done state)))
  planned_by rec plan (Err number) decided is stood = absurd stood
  planned_by rec plan (Ok state) decided is stood = record {
    rec = rec;
    is = is.change;
    reply = is.reply_is;
    stands = record {
      after = shared.commits;
      is = refl;
      stands = record_sealed (brought plan) is.sealed rec state stood decided;
      commits_after = there (brought plan) is.sealed;
      named = named (brought plan) is.sealed;
    };
  }

  planned : (rec : BranchRecord) (plan : DecisionPlan) → IsPlannedOf after rec Done plan → IsCandidate address (chunks_of after.chunks) (made.Record rec) (decide t.start present t.own p.variables)
      → PlanIs address look shared.commits plan (ruled p t present done)
  planned rec plan is stood = planned_by rec plan (decide t.start present t.own p.variables) refl is stood

  pub planned_told : (m : Candidate) (rec : BranchRecord) (result : Result DecisionPlan PutFault) → m ≡ made.Record rec
      → IsCandidate address (chunks_of after.chunks) m (decided_by session p t present) → IfOk result (λ plan. IsPlannedOf after rec Done plan)
      → IfOk result (λ plan. PlanIs address look shared.commits plan (ruled p t present done))
  planned_told m rec (Err fault) is stood sealed = tt
  planned_told m rec (Ok plan) is stood sealed =
      planned rec plan sealed (decided_so address (chunks_of after.chunks) session p t present m (made.Record rec) d.session_stands is stood)

-- ---- refusals

pub refused : {D : Type 0} (address : List ℕ → List ℕ) (found : Chunks) (session : Session D) (look : Look) (p : plain.Session) (t : Transaction) (commits : Commits) (present : BranchState)
    (m : Candidate) (number : ℕ) (plan : DecisionPlan) → SessionStands address session p → m ≡ made.Refused number → IsCandidate address found m (decided_by session p t present)
    → IsRefusedBy number plan → PlanIs address look commits plan (ruled p t present done)
refused address found session look p t commits present m number plan stands same stood is =
    refused_by address found look commits number plan (decide t.start present t.own p.variables) (without_commit done) is
    (decided_so address found session p t present m (made.Refused number) stands same stood)
