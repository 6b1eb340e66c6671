-- Whether a merge has its decision, and a session that was only looked at.
use Rattle.std.proofs.Common.{◌≡◌, refl, sym, ap, ◌∙◌, subst, ℕ, Bool, true, false, not, is_some, List, ◌++◌, length, Ok}
use Rattle.chunk_store.specs.Chunks.{Chunks}
use Rattle.chunk_store.specs.Clashes.{IsReason}
use Rattle.chunk_store.specs.Drafts.{Drafting, DraftParts, Grows, IsNamed, IsSound, chunks_of, cut_to}
use Rattle.chunk_store.specs.Kinds.{is_data}
use Rattle.chunk_store.specs.Laws.{ChunksFollow, DraftsFollow, DraftsGrow}
use Rattle.chunk_store.specs.declared.faults.PutFault.{PutFault}
use Rattle.chunk_store.specs.declared.faults.PutFault.TheVariants.{Memory, Collision}
use Rattle.expr_eval.specs.Binding.{Outcome}
use Rattle.plain_sessions.specs.Merging.{Worked, Answers, Closes}
use Rattle.plain_sessions.specs.Records.{BranchState}
use Rattle.plain_sessions.specs.Sessions as plain
use Rattle.plain_sessions.specs.Sessions.{Transaction}
use Rattle.plain_sessions.specs.Statements.{worked}
use Rattle.plain_sessions.specs.declared.commands.Work.TheVariants as work
use Rattle.plain_sql.specs.Lists.{unless}
use Rattle.script_text.specs.Collisions.{IsFault}
use Rattle.script_text.specs.declared.replies.Reply.{Reply}
use Rattle.session_state.specs.Commits.{HasNoCommit}
use Rattle.session_state.specs.Transactions.{StartStands}
use Rattle.session_state.specs.Standing.{SessionStands}
use Rattle.session_state.specs.declared.sessions.Session.{Session}
use Rattle.sql_procedures.specs.declared.requests.MergeRequest.TheVariants as merging
use Rattle.merge_procs.specs.Closing.{IsAsBefore, is_closing}
use Rattle.merge_procs.specs.Courses.{IsMergeCourse, is_decided}
use Rattle.merge_procs.specs.declared.courses.MergeCourse.{MergeCourse}
use Rattle.merge_procs.specs.declared.courses.MergeCourse.TheVariants as course
use Rattle.merge_procs.specs.declared.steps.Step.TheVariants as step
use Rattle.schema_model.specs.PlainCommits.{Commits}

-- ---- a session that was only looked at

-- it stands for the session for which it stood
pub looked_stands : {D : Type 0} (address : List ℕ → List ℕ) (old new : Session D) (p : plain.Session) → IsAsBefore old new → SessionStands address old p → SessionStands address new p
looked_stands {D = D} address old new p before stands =
    subst (λ (session : Session D). SessionStands address session p) (sym before.same) (record {
      name = stands.name;
      number = stands.number;
      branch = stands.branch;
      autocommit = stands.autocommit;
      allow = stands.allow;
      force = stands.force;
      position = stands.position;
      transaction = subst (λ (chunks : DraftParts). StartStands address chunks old.start old.own p.transaction) (sym before.chunks) stands.transaction;
      named = subst (λ (chunks : DraftParts). IsNamed address chunks) (sym before.chunks) stands.named;
      plain_own = subst (λ (chunks : DraftParts). HasNoCommit chunks.own) (sym before.chunks) stands.plain_own;
      committer = stands.committer;
    })

-- ---- the draft

pub comes_back : (old mid new : Drafting) (mark : ℕ) → DraftsFollow → DraftsGrow → mark ≡ length old.chunks.own → Grows is_data old mid → new.chunks ≡ cut_to mark mid.chunks → new.chunks ≡ old.chunks
comes_back old mid new mark drafts growth at grows cut =
    cut ∙ ap (λ (n : ℕ). cut_to n mid.chunks) at ∙ drafts.comes_back old.chunks mid.chunks (growth.is_longer is_data old mid grows)

-- what a clash shows stands under its address
pub fails_truly : (address : List ℕ → List ℕ) (old mid : Drafting) (fault : PutFault) → ChunksFollow → DraftsFollow → DraftsGrow → IsNamed address old.chunks → IsSound address mid.chunks
    → Grows is_data old mid → IsReason address (chunks_of mid.chunks) fault → IsFault address fault
fails_truly address old mid Memory chunks drafts growth named sound grows reason = tt
fails_truly address old mid (Collision clash) chunks drafts growth named sound grows reason = record {
  first = chunks.is_named address (mid.chunks.base ++ mid.chunks.own) clash.address.0 clash.first
      (drafts.all_named address mid.chunks (drafts.still_named address old.chunks mid.chunks (growth.is_longer is_data old mid grows) named) sound) reason.is_held;
  second = reason.is_brought;
  differ = reason.differ;
}

-- ---- what closes

pub abort_stays : (p : plain.Session) (t : Transaction) → false ≡ is_closing (worked p t (work.Merge merging.Abort))
unfolding worked
abort_stays p t = by _ _ (is_some t.own.merging) where
  by : (reply : Reply) (own : BranchState) (b : Bool) → false ≡ is_closing (unless (not b) 9012 (Ok (Answers reply own)))
  by reply own true = refl
  by reply own false = refl

pub course_told : (address : List ℕ → List ℕ) (chunks : Chunks) (commits : Commits) (found : MergeCourse) (wanted : Outcome Worked) → IsMergeCourse address chunks commits found wanted
    → is_decided found ≡ is_closing wanted
course_told address chunks commits (course.Closes found) wanted is = sym (ap is_closing is.1)
course_told address chunks commits (course.Stays (step.Made made)) wanted is = sym (ap is_closing is.is)
course_told address chunks commits (course.Stays (step.Refused number)) wanted is = sym (ap is_closing is)
