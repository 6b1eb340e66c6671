-- What a session answers by itself.
use Rattle.std.proofs.Common.{◌≡◌, refl, sym, ◌∙◌, ap, subst, inl, inr, ℕ, Bool, true, false, not, List, Option, None, Some, Ok, Err, if◌then◌else◌}
use Rattle.std.specs.Option.{option_and_then}
use Rattle.chunk_store.specs.declared.faults.Clash.{Clash}
use Rattle.script_text.specs.Output.{Clashes, Shortage, shortage}
use Rattle.script_text.specs.declared.replies.Reply.{Reply}
use Rattle.script_text.specs.declared.replies.Reply.TheVariants.{Refused, Collided}
use Rattle.expr_eval.specs.Binding.{Outcome}
use Rattle.plain_sessions.specs.Merging.{Worked, Answers}
use Rattle.plain_sessions.specs.Moments.{alone_by, effect_alone, if_answered, is_in_transaction, takes_start}
use Rattle.plain_sessions.specs.Records.{BranchState}
use Rattle.plain_sessions.specs.Replies.{refused}
use Rattle.plain_sessions.specs.Sessions as plain
use Rattle.plain_sessions.specs.Sessions.{Said, Transaction, with_own, within}
use Rattle.plain_sessions.specs.Statements.{worked}
use Rattle.plain_sessions.specs.declared.commands.Command.{Command}
use Rattle.plain_sessions.specs.declared.commands.Command.TheVariants as command
use Rattle.plain_sessions.specs.declared.commands.Work.{Work}
use Rattle.session_state.specs.Standing.{SessionStands}
use Rattle.session_state.specs.declared.sessions.Session.{Session}
use Rattle.session_plan.specs.Answering.{AnswersAlone}
use Rattle.session_plan.specs.Showing.{IsDue}
use Rattle.session_plan.proofs.ShowLemmas.{plain_told}

abbrev said : plain.Session → Reply → Option Said
said p reply = Some (p, reply)

-- there was no memory
pub starves : {D : Type 0} (address : List ℕ → List ℕ) (session : Session D) (p : plain.Session) (asked : Command) (reply : Reply) → SessionStands address session p
    → reply ≡ Refused 1 → AnswersAlone address p asked session reply
starves address session p asked reply stands is = record {
  after = p;
  is = ap (λ (r : Reply). alone_by (shortage r) p asked) is ∙ ap (said p) (sym is);
  stands = stands;
}

-- it is answered as it is due
pub answers_due : {D : Type 0} (address : List ℕ → List ℕ) (session : Session D) (p after : plain.Session) (asked : Command) (due reply : Reply)
    → effect_alone p asked ≡ said after due → IsDue 1 due reply → SessionStands address session p → SessionStands address session after → AnswersAlone address p asked session reply
answers_due address session p after asked due reply effect (inl plain) old new = record {
  after = after;
  is = ap (λ (answer : Option Shortage). alone_by answer p asked) (ap shortage plain.1 ∙ plain_told due plain.0) ∙ effect ∙ ap (said after) (sym plain.1);
  stands = new;
}
answers_due address session p after asked due reply effect (inr is) old new = starves address session p asked reply old is

-- it was done, and changed the session
pub answers_so : {D : Type 0} (address : List ℕ → List ℕ) (session : Session D) (p after : plain.Session) (asked : Command) (reply : Reply)
    → effect_alone p asked ≡ said after reply → shortage reply ≡ None → SessionStands address session after → AnswersAlone address p asked session reply
answers_so address session p after asked reply effect told stands = record {
  after = after;
  is = ap (λ (answer : Option Shortage). alone_by answer p asked) told ∙ effect;
  stands = stands;
}

-- it met two byte strings of one address
pub collides : {D : Type 0} (address : List ℕ → List ℕ) (session : Session D) (p : plain.Session) (asked : Command) (clash : Clash) (reply : Reply)
    → reply ≡ Collided clash → takes_start p asked ≡ false → SessionStands address session p → AnswersAlone address p asked session reply
collides address session p asked clash reply is started stands = record {
  after = p;
  is = ap (λ (r : Reply). alone_by (shortage r) p asked) is ∙ ap (λ (b : Bool). if b then None else said p (Collided clash)) started ∙ ap (said p) (sym is);
  stands = stands;
}

-- ---- in a transaction

-- a session is in the transaction that it is in
pub in_place : (p : plain.Session) (t : Transaction) → p.transaction ≡ Some t → within p t ≡ p
in_place p t there = ap (λ (other : Option Transaction). let q : plain.Session = record p { transaction = other } in q) (sym there)

worked_so : (p : plain.Session) (t : Transaction) (work : Work) (outcome : Outcome Worked) → p.transaction ≡ Some t → worked p t work ≡ outcome
    → effect_alone p (command.Data work) ≡ if_answered p t outcome
worked_so p t work outcome there is =
    ap (λ (found : Option Transaction). option_and_then (λ t. if_answered p t (worked p t work)) found) there ∙ ap (if_answered p t) is

-- it was answered, and the own state is another now
pub worked_well : (p : plain.Session) (t : Transaction) (work : Work) (reply : Reply) (own : BranchState) → p.transaction ≡ Some t → worked p t work ≡ Ok (Answers reply own)
    → effect_alone p (command.Data work) ≡ said (within p (with_own own t)) reply
worked_well p t work reply own there is = worked_so p t work (Ok (Answers reply own)) there is

pub worked_ill : (p : plain.Session) (t : Transaction) (work : Work) (number : ℕ) → p.transaction ≡ Some t → worked p t work ≡ Err number
    → effect_alone p (command.Data work) ≡ said p (refused number)
worked_ill p t work number there is = worked_so p t work (Err number) there is

pub takes_none : (p : plain.Session) (t : Transaction) (work : Work) → p.transaction ≡ Some t → takes_start p (command.Data work) ≡ false
takes_none p t work there = ap (λ (found : Option Transaction). takes_start (record p { transaction = found }) (command.Data work)) there
