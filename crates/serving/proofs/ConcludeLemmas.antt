-- From a session between a start and its decision to what the decision leaves, and to where it is dropped.
use Rattle.std.proofs.Common.{◌≡◌, ◌≢◌, refl, ◌∙◌, sym, ap, subst, ℕ, ◌+◌, ℤ, true, List, Option, Some, None, Ok, Err, IfOk, option_map, slice_get}
use Rattle.std.specs.Prelude.{Result}
use Rattle.chunk_store.specs.declared.faults.PutFault.{PutFault}
use Rattle.chunk_store.specs.declared.faults.PutFault.TheVariants.{Memory, Collision}
use Rattle.expr_eval.specs.Binding.{Outcome}
use Rattle.script_text.specs.Collisions.{TellsTruly}
use Rattle.script_text.specs.Output.{Shortage, AtOnce, AfterStart, Clashes, shortage}
use Rattle.script_text.specs.declared.replies.Reply.{Reply}
use Rattle.script_text.specs.declared.replies.Reply.TheVariants as print
use Rattle.plain_sessions.specs.Merging.{Ending}
use Rattle.plain_sessions.specs.Moments.{Past, decided, moment_in, past, past_moment}
use Rattle.plain_sessions.specs.Records.{BranchState, Shared}
use Rattle.plain_sessions.specs.Sessions as plain
use Rattle.plain_sessions.specs.Sessions.{Between, Place, Said, over}
use Rattle.plain_sessions.specs.declared.commands.Command.{Command}
use Rattle.plain_sessions.specs.declared.commands.Command.TheVariants.{Data}
use Rattle.plain_sessions.specs.declared.commands.Work.{Work}
use Rattle.run_laws.specs.Replaying.{dropped, reply_of}
use Rattle.session_state.specs.Changes.{Parts}
use Rattle.session_state.specs.Standing.{SessionStands}
use Rattle.session_state.specs.declared.sessions.Position.TheVariants as place
use Rattle.session_state.specs.declared.sessions.Session.{Session}
use Rattle.session_plan.specs.Showing.{is_sound_reply}
use Rattle.shared_history.specs.Meeting.{Tells}
use Rattle.serving.specs.Answering.{Concluded}
use Rattle.serving.specs.Closing.{ClosedAs}
use Rattle.serving.specs.Deciding.{Asks, EndsTo, HasEndedBy, IsOf}
use Rattle.serving.specs.Meetings.{InOneMoment, IsAtMeeting, IsBetweenAt}
use Rattle.serving.specs.Serving.{Concludes, Drops, IsBetween, IsHere}
use Rattle.serving.specs.Starting.{with_reply}
use Rattle.serving.specs.Steps.{ComesTo, Decided, after_start, fault_reply, number_at}
use Rattle.serving.specs.declared.courses.Found.{Found}
use Rattle.serving.specs.declared.deciding.Decision.{Decision}
use Rattle.serving.specs.declared.deciding.Decision.TheVariants as decision
use Rattle.serving.specs.declared.meeting.Pending.{Pending}
use Rattle.serving.specs.declared.meeting.Pending.TheVariants as pending
use Rattle.serving.proofs.AnswerLemmas.{comes_places, over_stands, same_number}
use Rattle.serving.proofs.BehindLemmas.{here_found, moment_as}
use Rattle.serving.proofs.BranchLemmas.{next_stands}
use Rattle.serving.proofs.MomentLemmas.{decided_as, verdict_said}
use Rattle.serving.proofs.SettlingLemmas.{closes_between, concluded}

-- what tells no want of memory and no collision tells truly
short_truly : (address : List ℕ → List ℕ) (reply : Reply) → shortage reply ≡ None → TellsTruly address reply
short_truly address print.Done short = tt
short_truly address (print.Count rows) short = tt
short_truly address (print.Rows answer) short = tt
short_truly address (print.Refused number) short = tt
short_truly address (print.Syntax at) short = tt
short_truly address (print.Collided clash) short = absurd (cc)

pub with_reply_sound : (reply verdict : Reply) → is_sound_reply reply ≡ true → is_sound_reply verdict ≡ true → is_sound_reply (with_reply reply verdict) ≡ true
with_reply_sound reply print.Done left right = left
with_reply_sound reply (print.Count rows) left right = right
with_reply_sound reply (print.Rows answer) left right = right
with_reply_sound reply (print.Refused number) left right = right
with_reply_sound reply (print.Syntax at) left right = right
with_reply_sound reply (print.Collided clash) left right = right

pub with_reply_truly : (address : List ℕ → List ℕ) (reply verdict : Reply) → shortage reply ≡ None → TellsTruly address verdict → TellsTruly address (with_reply reply verdict)
with_reply_truly address reply print.Done short told = short_truly address reply short
with_reply_truly address reply (print.Count rows) short told = told
with_reply_truly address reply (print.Rows answer) short told = told
with_reply_truly address reply (print.Refused number) short told = told
with_reply_truly address reply (print.Syntax at) short told = told
with_reply_truly address reply (print.Collided clash) short told = told

module _ {D : Type 0} (address : List ℕ → List ℕ) (session : Session D) (old : Parts) (q : plain.Session) (asked : Command) (reply : Reply) (shared : Shared)
    (here : IsHere address session old q shared) (at : q.place ≡ Between reply) (well : shortage reply ≡ None) where
  ends_so : (epoch : ℤ) (verdict : Outcome BranchState) (last : Shared) (decision : Reply) → ComesTo shared q.branch verdict last decision
      → verdict_said address epoch q (over q) reply verdict ≡ (over q, with_reply reply decision)
  ends_so epoch (Ok state) last decision comes = λ i. (over q, with_reply reply (sym comes.1 i))
  ends_so epoch (Err number) last decision comes = λ i. (over q, with_reply reply (sym comes.1 i))

  ends_short : (verdict : Outcome BranchState) (last : Shared) (decision : Reply) → ComesTo shared q.branch verdict last decision → shortage (with_reply reply decision) ≡ None
  ends_short (Ok state) last decision comes = ap (λ (r : Reply). shortage (with_reply reply r)) comes.1 ∙ well
  ends_short (Err number) last decision comes = ap (λ (r : Reply). shortage (with_reply reply r)) comes.1 ∙ comes.2

  concluded_so : (t : plain.Transaction) → q.transaction ≡ Some t → (new : Parts) (verdict said : Reply) → Decided address q t shared old new verdict → said ≡ with_reply reply verdict
      → (epoch : ℤ) → Concluded address epoch q asked shared old new (record session { start = None }) said
  concluded_so t has new verdict said d is epoch =
      let made : decided address (over q) reply shared q ≡ Some (d.last, Past (over q, with_reply reply verdict)) =
      decided_as address epoch shared d.last q (over q) t d.present verdict reply d.verdict has d.there d.is d.comes
      ∙ ap (λ (s : Said). Some (d.last, Past s)) (ends_so epoch d.verdict d.last verdict d.comes) in
      subst (λ (r : Reply). Concluded address epoch q asked shared old new (record session { start = None }) r) (sym is) (record {
        said = over q;
        last = d.last;
        short = ends_short d.verdict d.last verdict d.comes;
        is = ap (λ (there : Place). moment_in address epoch None shared q asked there) at ∙ made;
        session_stands = over_stands address session q here.session_stands;
        still = record { number = refl; branch = refl };
        state_stands = d.state_stands;
        places = comes_places shared d.last q.branch verdict d.verdict d.comes;
        later = λ k bytes there. d.chunks k bytes (here.later k bytes there);
        grown = d.chunks;
        moments = d.moments;
        numbers = d.numbers;
      })

-- at its moment, on whatever state that found
pub rule_concludes : {D : Type 0} (address : List ℕ → List ℕ) (epoch e : ℤ) (session gone : Session D) (old new : Tells) (q : plain.Session) (asked : Command) (reply verdict said : Reply) → said ≡ with_reply reply verdict
    → (between : IsBetweenAt address session old q asked (pending.Between reply))
    → InOneMoment address (λ found shared left. HasEndedBy address e decision.Commit q between.transaction None session found shared left gone verdict) old new
    → InOneMoment address (λ found shared left. Concluded address epoch q asked shared found left gone said) old new
rule_concludes {D = D} address epoch e session gone old new q asked reply verdict said is between =
    moment_as address (λ found shared left. HasEndedBy address e decision.Commit q between.transaction None session found shared left gone verdict)
    (λ found shared left. Concluded address epoch q asked shared found left gone said) old new
    (λ found left shared at stands so.
    subst (λ (s : Session D). Concluded address epoch q asked shared found left s said) (sym so.ends)
    (concluded_so address session found q asked reply shared (here_found address session old q between.at found shared at stands) between.awaits.0 between.awaits.2
    between.transaction between.has left verdict said so.decided is epoch))

-- so is a closing call's, by whatever its decision is
pub closing_concludes : {D : Type 0} (address : List ℕ → List ℕ) (epoch e : ℤ) → e ≡ epoch → (session gone : Session D) (old new : Tells) (asked : Work) (had : Found) (d : Decision)
    → ((q : plain.Session) (between : IsBetweenAt address session old q (Data asked) (pending.Closing had))
    → IsOf address session d q between.transaction (Some (closes_between address session old q asked had between).0))
    → ((q : plain.Session) (left : Parts) (reply : Reply) → EndsTo address d q session left gone reply → gone ≡ record session { start = None })
    → (result : Result Reply PutFault)
    → IfOk result (λ reply. (p : plain.Session) (t : plain.Transaction) (ending : Option Ending) → IsAtMeeting address session old p → Asks address session d p t ending
    → InOneMoment address (λ found shared left. HasEndedBy address e d p t ending session found shared left gone reply) old new)
    → IfOk result (λ reply. (q : plain.Session) → IsBetweenAt address session old q (Data asked) (pending.Closing had)
    → InOneMoment address (λ found shared left. Concluded address epoch q (Data asked) shared found left gone reply) old new)
closing_concludes address epoch e same session gone old new asked had d of is_over (Ok reply) told = λ q between.
    let ending = (closes_between address session old q asked had between).0 in
    let t = between.transaction in
    moment_as address (λ found shared left. HasEndedBy address e d q t (Some ending) session found shared left gone reply)
    (λ found shared left. Concluded address epoch q (Data asked) shared found left gone reply) old new
    (λ found left shared at stands so.
    concluded address session old q asked had between epoch shared found left gone reply (here_found address session old q between.at found shared at stands)
    (subst (λ (n : ℤ). ClosedAs address n q t ending shared found left reply) same so.decided) (is_over q left reply so.ends))
    (told q t (Some ending) between.at (record { stands = between.at.stands; has = between.has; of = of q between }))
closing_concludes address epoch e same session gone old new asked had d of is_over (Err fault) told = tt

-- what is asked and what is found for it may be written otherwise
pub found_concludes : {D : Type 0} (address : List ℕ → List ℕ) (epoch e : ℤ) → e ≡ epoch → (session gone : Session D) (old new : Tells) (asked one : Command) → asked ≡ one → (wanted had : Pending) → wanted ≡ had
    → (result : Result Reply PutFault)
    → IfOk result (λ reply. (q : plain.Session) → IsBetweenAt address session old q one had → InOneMoment address (λ found shared left. Concluded address e q one shared found left gone reply) old new)
    → IfOk result (λ reply. (q : plain.Session) → IsBetweenAt address session old q asked wanted → InOneMoment address (λ found shared left. Concluded address epoch q asked shared found left gone reply) old new)
found_concludes address epoch e same session gone old new asked one asked_is wanted had wanted_is (Ok reply) told = λ q between.
    subst (λ (n : ℤ). InOneMoment address (λ found shared left. Concluded address n q asked shared found left gone reply) old new) same
    (subst (λ (c : Command). InOneMoment address (λ found shared left. Concluded address e q c shared found left gone reply) old new) (sym asked_is)
    (told q (subst (λ (c : Command). IsBetweenAt address session old q c had) asked_is (subst (λ (w : Pending). IsBetweenAt address session old q asked w) wanted_is between))))
found_concludes address epoch e same session gone old new asked one asked_is wanted had wanted_is (Err fault) told = tt

pub work_concludes : {D : Type 0} (address : List ℕ → List ℕ) (epoch : ℤ) (session gone : Session D) (old new : Tells) (asked : Command) (wanted : Pending) (reply : Reply) → wanted ≡ pending.Between reply
    → (result : Result Reply PutFault)
    → IfOk result (λ said. (date : ℤ) (q : plain.Session) (one : Command) → IsBetweenAt address session old q one (pending.Between reply)
    → InOneMoment address (λ found shared left. Concluded address date q one shared found left gone said) old new)
    → IfOk result (λ said. (q : plain.Session) → IsBetweenAt address session old q asked wanted → InOneMoment address (λ found shared left. Concluded address epoch q asked shared found left gone said) old new)
work_concludes address epoch session gone old new asked wanted reply is (Ok said) told = λ q between. told epoch q asked (subst (λ (w : Pending). IsBetweenAt address session old q asked w) is between)
work_concludes address epoch session gone old new asked wanted reply is (Err fault) told = tt

-- its session goes on
pub concluded_on : {D : Type 0} (address : List ℕ → List ℕ) (epoch : ℤ) (old session gone : Session D) (number : ℕ) (parts new : Parts) (asked : Command) (wanted : Pending) (reply : Reply)
    → number ≡ number_at old.position → gone ≡ record session { position = place.Before (number + 1) } → (q : plain.Session) (shared : Shared)
    → IsBetween address old parts q asked wanted shared → Concluded address epoch q asked shared parts new session reply → Concludes address epoch q asked shared parts new gone reply
concluded_on {D = D} address epoch old session gone number parts new asked wanted reply counted is q shared between c =
    let here = between.here in
    let statement : number ≡ q.statement = counted ∙ same_number old.position q.statement q.place here.session_stands.position in
    let placed : slice_get c.last.places c.said.number ≡ Some c.said.branch =
    ap (λ (places : List (List ℕ)). slice_get places c.said.number) c.places ∙ ap (slice_get shared.places) c.still.number ∙ here.placed ∙ ap Some (sym c.still.branch) in
    subst (λ (s : Session D). Concludes address epoch q asked shared parts new s reply) (sym is) (record {
      after = (past q.statement (c.said, reply)).0;
      left = c.last;
      short = c.short;
      is = ap (option_map (past_moment q.statement)) c.is;
      next = next_stands address session number new c.said reply q c.last statement c.session_stands c.state_stands placed c.later;
      number = c.still.number;
      passes = record {
        moments = c.moments;
        numbers = c.numbers;
        others = λ at apart. ap (λ (places : List (List ℕ)). slice_get places at) c.places;
        grown = c.grown;
      };
    })

-- ---- dropped in place of its decision

abbrev pub short_of : PutFault → Shortage
short_of Memory = AfterStart
short_of (Collision clash) = Clashes clash

short_later : (fault : PutFault) → short_of fault ≢ AtOnce
short_later Memory same = absurd (cc)
short_later (Collision clash) same = absurd (cc)

reply_is : (fault : PutFault) → after_start (fault_reply fault) ≡ reply_of (short_of fault)
reply_is Memory = refl
reply_is (Collision clash) = refl

dropped_stands : {D : Type 0} (address : List ℕ → List ℕ) (session : Session D) (q : plain.Session) → SessionStands address session q
    → SessionStands address (record session { start = None; position = place.Before (number_at session.position + 1) }) (dropped q)
dropped_stands address session q stands = record {
  name = stands.name;
  number = stands.number;
  branch = stands.branch;
  autocommit = stands.autocommit;
  allow = stands.allow;
  force = stands.force;
  position = (ap (λ (n : ℕ). n + 1) (same_number session.position q.statement q.place stands.position), refl);
  transaction = tt;
  named = stands.named;
  plain_own = stands.plain_own;
  committer = stands.committer;
}

pub drops_so : {D : Type 0} (address : List ℕ → List ℕ) (session gone : Session D) (number : ℕ) → number ≡ number_at session.position
    → gone ≡ record session { start = None; position = place.Before (number + 1) } → (fault : PutFault) (said : Reply) → said ≡ after_start (fault_reply fault)
    → (q : plain.Session) → SessionStands address session q → Drops address q gone said
drops_so {D = D} address session gone number at is fault said answer q stands = record {
  short = short_of fault;
  later = short_later fault;
  is = answer ∙ reply_is fault;
  stands = subst (λ (s : Session D). SessionStands address s (dropped q)) (sym (is ∙ ap (λ (n : ℕ). record session { start = None; position = place.Before (n + 1) }) at))
      (dropped_stands address session q stands);
}
