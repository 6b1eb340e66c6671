-- Drafts that go back to a mark unless something was made, and sessions in drafts that grew.
use Rattle.std.proofs.Common.{◌≡◌, refl, sym, ◌∙◌, ap, subst, ℕ, Bool, true, false, true≢false, List, [], length, append-nil, Option, None, Some, Result, Ok, Err, IfOk}
use Rattle.std.specs.Prelude.{◌≤◌}
use Rattle.tuple_codec.specs.declared.records.BranchRecord.{BranchRecord}
use Rattle.chunk_store.specs.Chunks.{Chunk}
use Rattle.chunk_store.specs.Drafts.{Drafting, DraftParts, Grows, Longer, chunks_of, pages_in}
use Rattle.chunk_store.specs.Kinds.{is_data}
use Rattle.chunk_store.specs.Laws.{ChunksFollow, DraftsFollow, DraftsGrow}
use Rattle.chunk_store.specs.declared.faults.PutFault.{PutFault}
use Rattle.expr_eval.specs.Binding.{Outcome}
use Rattle.schema_model.specs.PlainCommits.{Commits}
use Rattle.table_root.specs.declared.heads.Look.{Look}
use Rattle.plain_sessions.specs.Merging.{Worked}
use Rattle.plain_sessions.specs.Sessions as plain
use Rattle.plain_sessions.specs.Sessions.{Transaction}
use Rattle.session_state.specs.Commits.{HasNoCommit}
use Rattle.session_state.specs.Laws.{RecordsFollow, TransactionsFollow}
use Rattle.session_state.specs.Transactions.{StartStands}
use Rattle.session_state.specs.Standing.{SessionStands}
use Rattle.session_state.specs.declared.sessions.Session.{Session}
use Rattle.session_plan.proofs.CommitLemmas.{no_commit_more}
use Rattle.merge_procs.specs.Courses.{IsMergeCourse, keeps_put}
use Rattle.merge_procs.specs.Steps.{IsBackUnless, IsSame, IsStep, is_made_by}
use Rattle.merge_procs.specs.declared.courses.Closing.TheVariants as closing
use Rattle.merge_procs.specs.declared.courses.MergeCourse.{MergeCourse}
use Rattle.merge_procs.specs.declared.courses.MergeCourse.TheVariants as course
use Rattle.merge_procs.specs.declared.steps.Step.{Step}
use Rattle.merge_procs.specs.declared.steps.Step.TheVariants as step
use Rattle.merge_procs.proofs.ClosingLemmas.{comes_back}

-- ---- the draft

module _ (drafts : DraftsFollow) (growth : DraftsGrow) (old mid back : Drafting) (mark : ℕ) (stays : Bool) (at : mark ≡ length old.chunks.own) (grows : Grows is_data old mid)
    (went : IsBackUnless mark stays mid back) where
  pub undone : stays ≡ false → back.chunks ≡ old.chunks
  undone none = comes_back old mid back mark drafts growth at grows (went.cut none)

  pub still_grows : Grows is_data old back
  still_grows = by stays refl where
    by : (b : Bool) → stays ≡ b → Grows is_data old back
    by true is = subst (λ (d : Drafting). Grows is_data old d) (sym (went.kept is)) grows
    by false is = record {
      more = [];
      base = ap (λ (d : DraftParts). d.base) (undone is);
      own = ap (λ (d : DraftParts). d.own) (undone is) ∙ sym (append-nil old.chunks.own);
      segments = went.segments ∙ grows.segments;
      kinds = tt;
      pages = subst (λ (n : ℕ). pages_in old ≤ n) (sym went.pages) grows.pages;
    }

-- ---- the session

-- all of it is as it was but its draft, which another takes the place of
abbrev pub with_draft : {D : Type 0} → Session D → Drafting → Session D
with_draft session d = record session { draft = d }

pub same_but : {D : Type 0} (old mid : Session D) (back : Drafting) → IsSame old mid → IsSame old (with_draft mid back)
same_but old mid back same = ap (λ s. with_draft s back) same

start_later : (address : List ℕ → List ℕ) (old new : DraftParts) (start : Option Look) (own : BranchRecord) (found : Option Transaction) → DraftsFollow → RecordsFollow → TransactionsFollow
    → Longer old new → StartStands address old start own found → StartStands address new start own found
start_later address old new None own None drafts records follow longer stands = tt
start_later address old new None own (Some t) drafts records follow longer stands = absurd stands
start_later address old new (Some look) own None drafts records follow longer stands = absurd stands
start_later address old new (Some look) own (Some t) drafts records follow longer stands =
    follow.grown address old new look own own t t.own longer stands
    (records.later address (chunks_of old) (chunks_of new) t.commits t.commits own t.own (drafts.longer_extends old new longer) (λ k known. known) stands.own_stands)

-- it goes on standing where data came into its draft
pub grown_stands : {D : Type 0} (address : List ℕ → List ℕ) (old new : Session D) (p : plain.Session) → ChunksFollow → DraftsFollow → DraftsGrow → RecordsFollow → TransactionsFollow → IsSame old new
    → Grows is_data old.draft new.draft → SessionStands address old p → SessionStands address new p
grown_stands {D = D} address old new p chunks drafts growth records follow same grows stands =
    let longer = growth.is_longer is_data old.draft new.draft grows in
    subst (λ (session : Session D). SessionStands address session p) (sym same) (record {
      name = stands.name;
      number = stands.number;
      branch = stands.branch;
      autocommit = stands.autocommit;
      allow = stands.allow;
      force = stands.force;
      position = stands.position;
      transaction = start_later address old.draft.chunks new.draft.chunks old.start old.own p.transaction drafts records follow longer stands.transaction;
      named = drafts.still_named address old.draft.chunks new.draft.chunks longer stands.named;
      plain_own = subst (λ (cs : List Chunk). HasNoCommit cs) (sym grows.own) (no_commit_more chunks old.draft.chunks.own grows.more stands.plain_own grows.kinds);
      committer = stands.committer;
    })

-- ---- what was found in the draft before

pub step_back : (address : List ℕ → List ℕ) (mid back : Drafting) (mark : ℕ) (stays : Bool) (commits : Commits) (wanted : Outcome Worked) (result : Result Step PutFault) → IsBackUnless mark stays mid back
    → stays ≡ is_made_by result → IfOk result (λ s. IsStep address (chunks_of mid.chunks) commits s wanted) → IfOk result (λ s. IsStep address (chunks_of back.chunks) commits s wanted)
step_back address mid back mark stays commits wanted (Ok (step.Made made)) went told is =
    subst (λ (d : Drafting). IsStep address (chunks_of d.chunks) commits (step.Made made) wanted) (sym (went.kept told)) is
step_back address mid back mark stays commits wanted (Ok (step.Refused number)) went told is = is
step_back address mid back mark stays commits wanted (Err fault) went told is = tt

pub course_back : (address : List ℕ → List ℕ) (mid back : Drafting) (mark : ℕ) (stays : Bool) (commits : Commits) (wanted : Outcome Worked) (result : Result MergeCourse PutFault)
    → IsBackUnless mark stays mid back → stays ≡ keeps_put result → IfOk result (λ found. IsMergeCourse address (chunks_of mid.chunks) commits found wanted)
    → IfOk result (λ found. IsMergeCourse address (chunks_of back.chunks) commits found wanted)
course_back address mid back mark stays commits wanted (Ok (course.Closes (closing.Forward other))) went told is = is
course_back address mid back mark stays commits wanted (Ok (course.Closes (closing.Join joined))) went told is =
    subst (λ (d : Drafting). IsMergeCourse address (chunks_of d.chunks) commits (course.Closes (closing.Join joined)) wanted) (sym (went.kept told)) is
course_back address mid back mark stays commits wanted (Ok (course.Stays (step.Made made))) went told is =
    subst (λ (d : Drafting). IsMergeCourse address (chunks_of d.chunks) commits (course.Stays (step.Made made)) wanted) (sym (went.kept told)) is
course_back address mid back mark stays commits wanted (Ok (course.Stays (step.Refused number))) went told is = is
course_back address mid back mark stays commits wanted (Err fault) went told is = tt

-- what was answered by a refusal wasn't made
pub unmade : (made refused : Bool) → (made ≡ true → refused ≡ false) → refused ≡ true → made ≡ false
unmade true refused well is = absurd (true≢false (sym is ∙ well refl))
unmade false refused well is = refl
