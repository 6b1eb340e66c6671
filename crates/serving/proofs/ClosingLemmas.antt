-- Calls that may have a decision of their own: how they go on, and what is planned.
use Rattle.std.proofs.Common.{◌≡◌, refl, ◌∙◌, sym, ap, subst, ℕ, ℤ, Bool, true, false, List, [], ◌∷◌, Option, Some, None, Ok, Err, IfOk, not, option_map}
use Rattle.std.specs.Prelude.{Result}
use Rattle.std.specs.Arc.{arc_value}
use Rattle.std.specs.Option.{option_map_or}
use Rattle.chunk_store.specs.Chunks.{AreNamed, Chunk, Chunks, IsSingle, Lists}
use Rattle.chunk_store.specs.Stores.{IsUnion, all_chunks}
use Rattle.chunk_store.specs.declared.faults.PutFault.{PutFault}
use Rattle.expr_eval.specs.Binding.{Outcome, and_then}
use Rattle.schema_model.specs.PlainCommits.{Commits}
use Rattle.plain_sql.specs.Lists.{unless}
use Rattle.script_text.specs.Collisions.{TellsTruly}
use Rattle.script_text.specs.Output.{shortage}
use Rattle.script_text.specs.declared.replies.Reply.{Reply}
use Rattle.sql_procedures.specs.declared.requests.CommitRequest.{CommitRequest}
use Rattle.sql_procedures.specs.declared.requests.MergeRequest.{MergeRequest}
use Rattle.table_root.specs.declared.heads.Look.{Look}
use Rattle.plain_sessions.specs.Branching.{to_commit}
use Rattle.plain_sessions.specs.CommitRule.{decide}
use Rattle.plain_sessions.specs.Merging.{Worked, Answers, Closes, Ending, Committing, Forwarding, Joining}
use Rattle.plain_sessions.specs.Moments as machine
use Rattle.plain_sessions.specs.Moments.{closed, commit_of, committed_as, forwarded, merged_as, settled, unless_moved, with_change, without_commit}
use Rattle.plain_sessions.specs.Records.{BranchState, Shared, commit_on, is_same_state, state_of}
use Rattle.plain_sessions.specs.Replies.{done, refused}
use Rattle.plain_sessions.specs.Sessions as plain
use Rattle.plain_sessions.specs.Sessions.{Transaction, own_root, within}
use Rattle.plain_sessions.specs.Statements.{worked}
use Rattle.plain_sessions.specs.declared.commands.Work.{Work}
use Rattle.plain_sessions.specs.declared.commands.Work.TheVariants as work
use Rattle.session_state.specs.Changes.{Parts, StateStands}
use Rattle.session_state.specs.Commits.{AreAmong}
use Rattle.session_state.specs.Laws.{StatesFollow, with_record}
use Rattle.session_state.specs.Transactions.{IsLookOf}
use Rattle.session_state.specs.Standing.{SessionStands}
use Rattle.session_state.specs.declared.sessions.Session.{Session}
use Rattle.session_plan.specs.Showing.{is_sound_reply}
use Rattle.branch_procs.specs.Closing.{IsVerdict}
use Rattle.merge_procs.specs.Courses.{IsClosing, IsShort}
use Rattle.merge_procs.specs.declared.courses.Closing.{Closing}
use Rattle.shared_db.specs.Plans.{PlanIs, brought}
use Rattle.shared_db.specs.Shared.{AreWith, IsSettled, changed_lines}
use Rattle.shared_db.specs.declared.changes.DecisionPlan.{DecisionPlan}
use Rattle.shared_db.specs.declared.changes.RecordChange.{RecordChange}
use Rattle.serving.specs.Closing.{ClosedAs, IsCourse, IsFound, is_commit}
use Rattle.serving.specs.Starting.{HasStarted}
use Rattle.serving.specs.declared.courses.Course.TheVariants as course
use Rattle.serving.specs.declared.courses.Found.{Found}
use Rattle.serving.specs.declared.courses.Found.TheVariants as finding
use Rattle.serving.proofs.DecisionLemmas.{brought_is, stands_still, union_with}
use Rattle.serving.proofs.GrowthLemmas.{still_closed}
use Rattle.serving.proofs.RuleLemmas.{refused_plainly}

-- ---- how it goes on

-- a DOLT_COMMIT that isn't refused has its decision, and one that is has none
module _ (address : List ℕ → List ℕ) (chunks : Chunks) (commits : Commits) (request : CommitRequest) where
  pub course_closes : (outcome : Outcome Worked) → IsVerdict None outcome → IsCourse address chunks commits (course.Closes finding.Commit) (work.Commit request) outcome
  course_closes (Ok (Closes ending)) is = (ending, refl, refl)
  course_closes (Ok (Answers reply own)) is = absurd is
  course_closes (Err number) is = absurd is

  pub course_refused : (outcome : Outcome Worked) (number : ℕ) → IsVerdict (Some number) outcome → IsCourse address chunks commits (course.Refused number) (work.Commit request) outcome
  course_refused (Ok made) number is = absurd is
  course_refused (Err other) number is = ap (λ (n : ℕ). Err n) (sym is)

-- what was found of a DOLT_MERGE
pub merge_found : (address : List ℕ → List ℕ) (chunks : Chunks) (commits : Commits) (asked : Work) (ending : Ending) (had : Found) (closing : Closing) → had ≡ finding.Merge closing
    → IsFound address chunks commits had asked ending → IsClosing address chunks commits closing ending × IsShort closing
merge_found address chunks commits asked ending had closing is has = subst (λ (one : Found). IsFound address chunks commits one asked ending) is has

-- and of a DOLT_COMMIT
pub commit_found : (address : List ℕ → List ℕ) (chunks : Chunks) (commits : Commits) (asked : Work) (ending : Ending) (had : Found) → had ≡ finding.Commit
    → IsFound address chunks commits had asked ending → is_commit asked ≡ true
commit_found address chunks commits asked ending had is has = subst (λ (one : Found). IsFound address chunks commits one asked ending) is has

abbrev ending_in : Ending → Outcome Worked → Ending
ending_in other (Ok (Closes ending)) = ending
ending_in other (Ok (Answers reply own)) = other
ending_in other (Err number) = other

committing_by : (outcome : Outcome BranchState) (message : List ℕ) (ending : Ending) → and_then {B = Worked} outcome (λ own. Ok (Closes (Committing own message))) ≡ Ok (Closes ending)
    → (own : BranchState) × (ending ≡ Committing own message)
committing_by (Ok own) message ending is = (own, sym (ap (ending_in ending) is))
committing_by (Err number) message ending is = absurd (cc)

-- a DOLT_COMMIT commits
pub committing : (p : plain.Session) (t : Transaction) (request : CommitRequest) (ending : Ending) → worked p t (work.Commit request) ≡ Ok (Closes ending)
    → (own : BranchState) × (ending ≡ Committing own request.message)
unfolding worked
committing p t request ending is = committing_by (to_commit (own_root t) request t.own) request.message ending is

-- ---- what is planned

module _ (address : List ℕ → List ℕ) (epoch e : ℤ) (e_is : e ≡ epoch) (look : Look) (p : plain.Session) (t : Transaction) (shared : Shared) (present : BranchState)
    (asked : Work) (ending : Ending) (work_is : worked p t asked ≡ Ok (Closes ending)) (result : Result DecisionPlan PutFault) where
  abbrev pub IsPlannedAt : ℤ → Ending → Type 0
  IsPlannedAt date call = IfOk result (λ plan. PlanIs address look shared.commits plan (closed address date shared.commits p t present call))

  pub commit_planned : (request : CommitRequest) → asked ≡ work.Commit request
      → ((own : BranchState) → worked p t (work.Commit request) ≡ Ok (Closes (Committing own request.message)) → IsPlannedAt e (Committing own request.message)) → IsPlannedAt epoch ending
  commit_planned request is planned =
      let said : worked p t (work.Commit request) ≡ Ok (Closes ending) = ap (worked p t) (sym is) ∙ work_is in
      let so = committing p t request ending said in
      subst (λ (date : ℤ). IsPlannedAt date ending) e_is (subst (IsPlannedAt e) (sym so.1) (planned so.0 (said ∙ ap (λ (call : Ending). Ok (Closes call)) so.1)))

  pub merge_planned : (request : MergeRequest) → asked ≡ work.Merge request → ((call : Ending) → worked p t (work.Merge request) ≡ Ok (Closes call) → IsPlannedAt e call) → IsPlannedAt epoch ending
  merge_planned request is planned = subst (λ (date : ℤ). IsPlannedAt date ending) e_is (planned ending (ap (worked p t) (sym is) ∙ work_is))

-- a plan on what was found of a DOLT_MERGE
pub merge_dated : (address : List ℕ → List ℕ) (epoch e : ℤ) → e ≡ epoch → (look : Look) (p : plain.Session) (t : Transaction) (shared : Shared) (present : BranchState) (ending : Ending)
    (result : Result DecisionPlan PutFault) → IfOk result (λ plan. PlanIs address look shared.commits plan (closed address e shared.commits p t present ending))
    → IfOk result (λ plan. PlanIs address look shared.commits plan (closed address epoch shared.commits p t present ending))
merge_dated address epoch e e_is look p t shared present ending result planned =
    subst (λ (date : ℤ). IfOk result (λ plan. PlanIs address look shared.commits plan (closed address date shared.commits p t present ending))) e_is planned

-- ---- a session in whose draft something was merged

pub started_on : {D : Type 0} (address : List ℕ → List ℕ) (old new : Session D) (parts now : Parts) (p : plain.Session) (t : Transaction) (shared : Shared) → HasStarted address old parts now p t shared
    → SessionStands address new (within p t) → new.draft.chunks.base ≡ old.draft.chunks.base → HasStarted address new parts now p t shared
started_on address old new parts now p t shared has stands base = record {
  old = has.old;
  before = has.before;
  none = has.none;
  taken_is = has.taken_is;
  now_is = has.now_is;
  stands = stands;
  later = subst (λ (cs : List Chunk). Lists cs parts.chunks) (sym base) has.later;
}

-- ---- what a decision answers

-- no want of memory, no collision, and it can be printed
pub record IsPlainly (address : List ℕ → List ℕ) (reply : Reply) : Type 0 where
  pub short : shortage reply ≡ None
  pub sound : is_sound_reply reply ≡ true
  pub truly : TellsTruly address reply

abbrev Plainly : (List ℕ → List ℕ) → Outcome machine.Change → Type 0
Plainly address (Ok change) = IsPlainly address change.reply
Plainly address (Err number) = IsPlainly address (refused number)

plainly_unmoved : (address : List ℕ → List ℕ) (t : Transaction) (present : BranchState) (change : machine.Change) → IsPlainly address change.reply → Plainly address (unless_moved t present change)
plainly_unmoved address t present change so = by (not (is_same_state present t.start)) where
  by : (moved : Bool) → Plainly address (unless moved 1213 (Ok change))
  by true = record { short = refl; sound = refl; truly = tt }
  by false = so

pub plainly_ruled : (address : List ℕ → List ℕ) (p : plain.Session) (t : Transaction) (present : BranchState) (verdict : Outcome BranchState) → decide t.start present t.own p.variables ≡ verdict
    → Plainly address (and_then verdict (λ state. Ok (without_commit done state)))
plainly_ruled address p t present (Ok state) is = record { short = refl; sound = refl; truly = tt }
plainly_ruled address p t present (Err number) is =
    let plain = refused_plainly t.start present t.own p.variables number is in
    record { short = plain.short; sound = plain.sound; truly = tt }

module _ (address : List ℕ → List ℕ) (epoch : ℤ) (shared : Shared) (p : plain.Session) (t : Transaction) (present : BranchState) where
  plainly_by : (own : BranchState) (message : List ℕ) (decided : Outcome BranchState) → decide t.start present own p.variables ≡ decided
      → Plainly address (and_then decided (λ state. Ok (committed_as address (commit_of epoch shared.commits p present message state) state)))
  plainly_by own message (Ok state) is = record { short = refl; sound = refl; truly = tt }
  plainly_by own message (Err number) is =
      let plain = refused_plainly t.start present own p.variables number is in
      record { short = plain.short; sound = plain.sound; truly = tt }

  pub plainly_closed : (ending : Ending) → Plainly address (closed address epoch shared.commits p t present ending)
  plainly_closed (Committing own message) = plainly_by own message (decide t.start present own p.variables) refl
  plainly_closed (Forwarding other) = plainly_unmoved address t present (forwarded shared.commits other) (record { short = refl; sound = refl; truly = tt })
  plainly_closed (Joining database other message) =
      plainly_unmoved address t present (merged_as address (commit_on shared.commits epoch p.name database (t.own.head ∷ other ∷ []) message)) (record { short = refl; sound = refl; truly = tt })

  plainly : (ending : Ending) (outcome : Outcome machine.Change) → closed address epoch shared.commits p t present ending ≡ outcome → Plainly address outcome
  plainly ending outcome is = subst (Plainly address) is (plainly_closed ending)

  -- the plan's reply is the outcome's
  pub planned_plainly : (look : Look) (plan : DecisionPlan) (outcome : Outcome machine.Change) → Plainly address outcome → PlanIs address look shared.commits plan outcome → IsPlainly address plan.reply
  planned_plainly look plan (Ok change) so planned = subst (IsPlainly address) (sym planned.reply) so
  planned_plainly look plan (Err number) so planned = subst (IsPlainly address) (sym planned.reply) so

  pub named_by : (look : Look) (plan : DecisionPlan) (outcome : Outcome machine.Change) → PlanIs address look shared.commits plan outcome → AreNamed address (brought plan)
  named_by look plan (Ok change) planned = planned.stands.named
  named_by look plan (Err number) planned = subst (λ (sealed : Option _). AreNamed address (option_map_or arc_value sealed [])) (sym planned.sealed) tt

  -- the plan was settled, on a state that may have grown since the one that was looked at
  pub closed_by : (found : Shared) (among : AreAmong shared.commits found.commits) (ending : Ending) (follow : StatesFollow) (parts new : Parts) (look : Look) (plan : DecisionPlan) (outcome : Outcome machine.Change)
      → closed address epoch shared.commits p t present ending ≡ outcome → state_of found.branches p.branch ≡ Some present
      → IsLookOf address look shared → look.branch ≡ p.branch → Lists (all_chunks look.store) parts.chunks → StateStands address parts found
      → PlanIs address look shared.commits plan outcome → IsSingle new.chunks
      → IsSettled p.number p.statement look.branch plan.change (option_map arc_value plan.sealed) parts new
      → ClosedAs address epoch p t ending found parts new plan.reply
  closed_by found among ending follow parts new look plan (Ok change) is there look_is branch lists stands planned single settled =
      let union : IsUnion parts.chunks (brought plan) new.chunks = subst (λ (cs : List Chunk). IsUnion parts.chunks cs new.chunks) (brought_is plan) (union_with parts.chunks new.chunks _ settled.chunks) in
      let lines : new.branches ≡ with_record p.branch planned.rec parts.branches =
      settled.branches ∙ ap (λ (c : RecordChange). changed_lines look.branch c parts.branches) planned.is ∙ ap (λ (name : List ℕ). with_record name planned.rec parts.branches) branch in
      let left = follow.settled address (all_chunks look.store) (brought plan) shared.commits parts new found p.branch look_is.state.head planned.rec present change
      look_is.commits look_is.stands.head_known lists planned.stands stands there lines settled.places union
      single in
      record {
        present = present;
        there = there;
        outcome = Ok change;
        is = still_closed address epoch shared.commits found.commits among p t present ending look plan look_is.commits.stand.grown (Ok change) is planned;
        last = with_change p.branch change found left.0;
        leaves = (ap (option_map (with_change p.branch change found)) left.1, planned.reply);
        short = (planned_plainly look plan (Ok change) (plainly ending (Ok change) is) planned).short;
        places = refl;
        state_stands = left.2;
        chunks = union.left;
        moments = settled.moments;
        numbers = settled.numbers;
      }
  closed_by found among ending follow parts new look plan (Err number) is there look_is branch lists stands planned single settled =
      let lines : new.branches ≡ parts.branches = settled.branches ∙ ap (λ (c : RecordChange). changed_lines look.branch c parts.branches) planned.change in
      let same : new.chunks ≡ parts.chunks = subst (λ (sealed : Option _). AreWith parts.chunks (option_map arc_value sealed) new.chunks) planned.sealed settled.chunks in
      record {
        present = present;
        there = there;
        outcome = Err number;
        is = still_closed address epoch shared.commits found.commits among p t present ending look plan look_is.commits.stand.grown (Err number) is planned;
        last = found;
        leaves = (refl, planned.reply);
        short = (planned_plainly look plan (Err number) (plainly ending (Err number) is) planned).short;
        places = refl;
        state_stands = stands_still follow address parts new p t found present look plan settled lines same stands;
        chunks = subst (Lists parts.chunks) (sym same) (λ k bytes listed. listed);
        moments = settled.moments;
        numbers = settled.numbers;
      }
