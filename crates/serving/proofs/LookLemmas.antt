-- A decision from its look to what was settled.
use Rattle.std.proofs.Common.{◌≡◌, ◌∙◌, sym, ap, subst, ℕ, ℤ, true, false, List, map, Some, Ok, Err, IfOk, OnOk, IfErr}
use Rattle.std.specs.Prelude.{Result}
use Rattle.std.specs.Arc.{arc_value}
use Rattle.std.specs.Option.{option_map}
use Rattle.chunk_store.specs.Chunks.{Chunk, IsSingle, Lists, chunk_bytes}
use Rattle.chunk_store.specs.Clashes.{IsCause}
use Rattle.chunk_store.specs.Laws.{ChunksFollow}
use Rattle.chunk_store.specs.Stores.{all_chunks}
use Rattle.chunk_store.specs.declared.faults.PutFault.{PutFault}
use Rattle.chunk_store.specs.declared.faults.PutFault.TheVariants.{Memory, Collision}
use Rattle.script_text.specs.Collisions.{IsFault}
use Rattle.script_text.specs.declared.replies.Reply.{Reply}
use Rattle.table_root.specs.declared.heads.Look.{Look}
use Rattle.plain_sessions.specs.Moments.{ruled}
use Rattle.plain_sessions.specs.Records.{BranchState, Shared}
use Rattle.plain_sessions.specs.Replies.{done}
use Rattle.plain_sessions.specs.Sessions as plain
use Rattle.session_state.specs.Changes.{Parts, StateStands}
use Rattle.session_state.specs.Laws.{StatesFollow, head_in}
use Rattle.session_state.specs.Transactions.{IsLookOf}
use Rattle.plain_sessions.specs.declared.commands.Command.TheVariants as command
use Rattle.session_state.specs.Standing.{SessionStands}
use Rattle.session_state.specs.declared.sessions.Session.{Session}
use Rattle.session_plan.specs.Answering.{Decides}
use Rattle.session_plan.specs.Showing.{is_sound_reply}
use Rattle.shared_db.specs.Plans.{PlanIs, brought}
use Rattle.shared_db.specs.Shared.{IsSettled, noted, record_at}
use Rattle.shared_db.specs.declared.changes.DecisionPlan.{DecisionPlan}
use Rattle.serving.specs.Serving.{IsBefore, IsHere}
use Rattle.serving.specs.Answering.{Answered}
use Rattle.serving.specs.Steps.{Decided, number_at}
use Rattle.serving.proofs.AnswerLemmas.{begun_answered, same_number}
use Rattle.serving.proofs.DecisionLemmas.{clash_met, planned_sound, settled_as}
use Rattle.serving.proofs.StateLemmas.{looks_at, present_there}

-- a look at the session's branch in these parts
pub record Looks {D : Type 0} (session : Session D) (parts : Parts) (look : Look) : Type 0 where
  pub branch : look.branch ≡ session.branch
  pub there : record_at session.branch parts.branches ≡ Some look.rec
  pub heads : look.heads ≡ map head_in parts.branches
  pub chunks : all_chunks look.store ≡ parts.chunks

pub there_again : {D : Type 0} (session : Session D) (parts : Parts) (look : Look) → Looks session parts look → record_at look.branch parts.branches ≡ Some look.rec
there_again session parts look looks = ap (λ (name : List ℕ). record_at name parts.branches) looks.branch ∙ looks.there

module _ {D : Type 0} (follow : StatesFollow) (address : List ℕ → List ℕ) (session : Session D) (parts : Parts) (look : Look) (looks : Looks session parts look) where
  pub shows : (shared : Shared) → StateStands address parts shared → IsLookOf address look shared
  shows shared stands = looks_at address parts shared look follow stands (there_again session parts look looks) looks.heads looks.chunks

  pub decides : (p : plain.Session) (t : plain.Transaction) (shared : Shared) → IsHere address session parts p shared → p.transaction ≡ Some t
      → (present : BranchState) × Decides address session look p t shared present
  decides p t shared here transaction =
      let there = present_there address session parts p shared here in (
        there.0,
        record {
          session_stands = here.session_stands;
          transaction = transaction;
          look_is = shows shared here.state_stands;
          branch = looks.branch ∙ here.session_stands.branch;
          present_is = there.1;
          later = subst (Lists session.draft.chunks.base) (sym looks.chunks) here.later;
        },
      )

  abbrev pub Planned : DecisionPlan → Type 0
  Planned plan = (p : plain.Session) (t : plain.Transaction) (shared : Shared) (present : BranchState) → Decides address session look p t shared present
      → PlanIs address look shared.commits plan (ruled p t present done)

  module _ (plan : DecisionPlan) (planned : Planned plan) where
    pub decided_ok : (new : Parts) (number : ℕ) → number ≡ number_at session.position → (result : Result Reply PutFault) → IfOk result (λ reply. reply ≡ plan.reply)
        → OnOk result (IsSettled session.number number look.branch plan.change (option_map arc_value plan.sealed) parts new) → OnOk result (IsSingle new.chunks)
        → IfOk result (λ reply. (p : plain.Session) (t : plain.Transaction) (shared : Shared) → IsHere address session parts p shared → p.transaction ≡ Some t
        → Decided address p t shared parts new reply)
    decided_ok new number is (Ok reply) said settled single = λ p t shared here transaction.
        let way = decides p t shared here transaction in
        let count : number ≡ p.statement = is ∙ same_number session.position p.statement p.place here.session_stands.position in
        let made : IsSettled p.number p.statement look.branch plan.change (option_map arc_value plan.sealed) parts new =
        subst (λ (n : ℕ). IsSettled p.number n look.branch plan.change (option_map arc_value plan.sealed) parts new) count
        (subst (λ (n : ℕ). IsSettled n number look.branch plan.change (option_map arc_value plan.sealed) parts new) here.session_stands.number settled) in
        subst (λ (r : Reply). Decided address p t shared parts new r) (sym said)
        (settled_as follow address parts new p t shared way.0 look plan way.1.present_is way.1.look_is way.1.branch looks.chunks here.state_stands (planned p t shared way.0 way.1) single made)
    decided_ok new number is (Err fault) said settled single = tt

    module _ (p : plain.Session) (t : plain.Transaction) (shared : Shared) (here : IsHere address session parts p shared) (transaction : p.transaction ≡ Some t) where
      pub sound_ok : (result : Result Reply PutFault) → IfOk result (λ reply. reply ≡ plan.reply) → IfOk result (λ reply. is_sound_reply reply ≡ true)
      sound_ok (Ok reply) said =
          let way = decides p t shared here transaction in
          ap is_sound_reply said ∙ planned_sound follow address parts parts p t shared way.0 look plan (planned p t shared way.0 way.1)
      sound_ok (Err fault) said = tt

      pub fault_is : ChunksFollow → (result : Result Reply PutFault) → IfErr result (IsCause (chunk_bytes parts.chunks) (chunk_bytes (brought plan))) → IfErr result (IsFault address)
      fault_is chunks_follow (Ok reply) cause = tt
      fault_is chunks_follow (Err Memory) cause = tt
      fault_is chunks_follow (Err (Collision clash)) cause =
          let way = decides p t shared here transaction in
          clash_met follow address parts parts p t shared way.0 look plan chunks_follow clash here.state_stands.named (planned p t shared way.0 way.1) cause

module _ {D : Type 0} (follow : StatesFollow) (address : List ℕ → List ℕ) (epoch : ℤ) (old session : Session D) (parts : Parts) (look : Look) (looks : Looks old parts look) where
  -- BEGIN took its start at this look
  pub begun_as : (new : Parts) (number : ℕ) → number ≡ number_at old.position → new ≡ noted old.number number parts → session.draft.chunks.base ≡ all_chunks look.store
      → ((p : plain.Session) (shared : Shared) → SessionStands address old p → IsLookOf address look shared
      → (t : plain.Transaction) × (plain.taken shared p ≡ Some t) × SessionStands address session (plain.within p t))
      → (p : plain.Session) (shared : Shared) → IsBefore address old parts p shared → plain.is_changed p ≡ false
      → Answered address epoch p command.Begin shared parts new session done
  begun_as new number is same base start p shared before unchanged =
      let at = start p shared before.session_stands (shows follow address old parts look looks shared before.state_stands) in
      let told : new ≡ noted p.number p.statement parts =
      same ∙ ap (λ (n : ℕ). noted n number parts) before.session_stands.number
      ∙ ap (λ (n : ℕ). noted p.number n parts) (is ∙ same_number old.position p.statement p.place before.session_stands.position) in
      subst (λ (q : Parts). Answered address epoch p command.Begin shared parts q session done) (sym told)
      (begun_answered address epoch old session parts p shared before at.0 unchanged at.1 at.2
      (subst (λ (cs : List Chunk). Lists cs parts.chunks) (sym (base ∙ looks.chunks)) (λ k bytes listed. listed)))
