-- BEGIN where it decides on a transaction that changed something.
use Rattle.std.proofs.Common.{◌≡◌, refl, ◌∙◌, sym, ap, subst, ℕ, ℤ, Bool, true, false, List, Option, Some, None, Ok, Err, IfOk}
use Rattle.std.specs.Prelude.{Result}
use Rattle.std.specs.Option.{option_map_or}
use Rattle.chunk_store.specs.Chunks.{Lists}
use Rattle.chunk_store.specs.declared.faults.PutFault.{PutFault}
use Rattle.expr_eval.specs.Binding.{Outcome}
use Rattle.script_text.specs.Output.{Shortage, shortage}
use Rattle.script_text.specs.declared.replies.Reply.{Reply}
use Rattle.script_text.specs.declared.replies.Reply.TheVariants as print
use Rattle.plain_sessions.specs.Moments.{past}
use Rattle.plain_sessions.specs.Records.{BranchState, Shared}
use Rattle.plain_sessions.specs.Sessions as plain
use Rattle.plain_sessions.specs.Sessions.{Transaction, is_changed, is_changed_since, over, within}
use Rattle.plain_sessions.specs.declared.commands.Command.TheVariants as command
use Rattle.run_laws.specs.Turns.{InOneTurn}
use Rattle.session_state.specs.Changes.{Parts}
use Rattle.session_state.specs.Standing.{SessionStands}
use Rattle.session_state.specs.declared.sessions.Session.{Session}
use Rattle.shared_history.specs.Meeting.{Tells}
use Rattle.serving.specs.Answering.{Answered}
use Rattle.serving.specs.Deciding.{HasEndedBy}
use Rattle.serving.specs.Meetings.{InOneMoment, IsBeforeAt}
use Rattle.serving.specs.Serving.{IsBefore, turn_at}
use Rattle.serving.specs.Steps.{ComesTo, Decided, IsStillAt}
use Rattle.serving.specs.declared.deciding.Decision.TheVariants as decision
use Rattle.serving.proofs.AnswerLemmas.{comes_places, comes_short, over_stands}
use Rattle.serving.proofs.MomentLemmas.{BegunAfter, begun_anew, in_one_turn}

module _ {D : Type 0} (address : List ℕ → List ℕ) (epoch : ℤ) (session : Session D) (parts new : Parts) (p : plain.Session) (t : Transaction) (shared : Shared) (reply : Reply) where
  -- the decision and the start are the statement's one moment
  anew_answered : p.place ≡ plain.Before → p.transaction ≡ Some t → is_changed p ≡ true → (d : Decided address p t shared parts new reply) → (said : plain.Session)
      → BegunAfter address epoch p d.last d.verdict (said, reply) → SessionStands address session said → IsStillAt p said → Lists session.draft.chunks.base new.chunks
      → Answered address epoch p command.Begin shared parts new session reply
  anew_answered before transaction changed d said after stands still later =
      let short : shortage reply ≡ None = comes_short shared d.last p.branch reply d.verdict d.comes in
      record {
        said = said;
        last = d.last;
        is = subst (λ (answer : Option Shortage). InOneTurn address epoch answer p command.Begin (turn_at p shared d.last) (past p.statement (said, reply))) (sym short)
            (in_one_turn address epoch None shared d.last p command.Begin (said, reply) before refl
            (begun_anew address epoch shared d.last p t d.present reply d.verdict (said, reply) changed transaction d.there d.is d.comes after));
        session_stands = stands;
        still = still;
        state_stands = d.state_stands;
        places = comes_places shared d.last p.branch reply d.verdict d.comes;
        later = later;
        grown = d.chunks;
        moments = d.moments;
        numbers = d.numbers;
      }

-- where the decision was well the next transaction is begun on what it left; else the transaction is over
pub begun_by : {D : Type 0} (address : List ℕ → List ℕ) (e epoch : ℤ) (old session : Session D) (parts new : Parts) (p : plain.Session) (t : Transaction) (shared : Shared) (reply : Reply)
    → IsBefore address old parts p shared → p.transaction ≡ Some t → is_changed p ≡ true
    → HasEndedBy address epoch decision.Begin p t None old parts shared new session reply → Answered address e p command.Begin shared parts new session reply
begun_by {D = D} address e epoch old session parts new p t shared reply before transaction changed has = by has.decided.verdict refl has.decided.comes where
  d : Decided address p t shared parts new reply
  d = has.decided

  by : (verdict : Outcome BranchState) → d.verdict ≡ verdict → ComesTo shared p.branch verdict d.last reply → Answered address e p command.Begin shared parts new session reply
  by (Ok state) is comes =
      let on = has.ends.0 comes.1 in
      let begun = on.begun d.last d.state_stands in
      anew_answered address e session parts new p t shared reply before.before transaction changed d (within p begun.0)
      (subst (λ (v : Outcome BranchState). BegunAfter address e p d.last v (within p begun.0, reply)) (sym is) (begun.0, begun.1, ap (λ (r : Reply). (within p begun.0, r)) comes.1))
      begun.2 (record { number = refl; branch = refl }) on.later
  by (Err number) is comes =
      let kept = has.ends.1 (λ well. let never : print.Done ≡ print.Refused number = sym well ∙ comes.1 in absurd (cc)) in
      subst (λ (s : Session D). Answered address e p command.Begin shared parts new s reply) (sym kept)
      (anew_answered address e (record old { start = None }) parts new p t shared reply before.before transaction changed d (over p)
      (subst (λ (v : Outcome BranchState). BegunAfter address e p d.last v (over p, reply)) (sym is) (ap (λ (r : Reply). (over p, r)) comes.1))
      (over_stands address old p before.session_stands) (record { number = refl; branch = refl })
      (λ k bytes listed. d.chunks k bytes (before.later k bytes listed)))

-- what has changed is open
pub changed_open : (p : plain.Session) → is_changed p ≡ true → (t : Transaction) × (p.transaction ≡ Some t)
changed_open p changed = by p.transaction changed where
  by : (o : Option Transaction) → option_map_or is_changed_since o false ≡ true → (t : Transaction) × (o ≡ Some t)
  by None is = absurd (cc)
  by (Some t) is = (t, refl)

module _ {D : Type 0} (address : List ℕ → List ℕ) (old session : Session D) (m n : Tells) (changed : Bool) (tells : (p : plain.Session) → SessionStands address old p → changed ≡ is_changed p) where
  abbrev pub BeginsBy : ℤ → plain.Session → Reply → Type 0
  BeginsBy e p reply = InOneMoment address (λ found shared left. Answered address e p command.Begin shared found left session reply) m n

  -- BEGIN where something has changed
  pub anew_begun : changed ≡ true → (result : Result Reply PutFault)
      → IfOk result (λ reply. (e : ℤ) (p : plain.Session) (t : Transaction) → IsBeforeAt address old m p → p.transaction ≡ Some t → is_changed p ≡ true → BeginsBy e p reply)
      → IfOk result (λ reply. (e : ℤ) (p : plain.Session) → IsBeforeAt address old m p → BeginsBy e p reply)
  anew_begun is (Ok reply) answered = λ e p before.
      let more : is_changed p ≡ true = sym (tells p before.at.stands) ∙ is in
      let held = changed_open p more in
      answered e p held.0 before held.1 more
  anew_begun is (Err fault) answered = tt
