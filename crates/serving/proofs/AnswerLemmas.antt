-- What each kind of statement comes to.
use Rattle.std.proofs.Common.{◌≡◌, refl, ◌∙◌, sym, ap, subst, ℕ, ℤ, Bool, true, false, List, Option, Some, None, Ok, Err, slice_get, if◌then◌else◌}
use Rattle.chunk_store.specs.Chunks.{Chunk, Lists}
use Rattle.chunk_store.specs.declared.faults.PutFault.{PutFault}
use Rattle.chunk_store.specs.declared.faults.PutFault.TheVariants.{Memory, Collision}
use Rattle.expr_eval.specs.Binding.{Outcome}
use Rattle.script_text.specs.Collisions.{IsFault, TellsTruly}
use Rattle.script_text.specs.Output.{Shortage, shortage}
use Rattle.script_text.specs.declared.replies.Reply.{Reply}
use Rattle.script_text.specs.declared.replies.Reply.TheVariants as print
use Rattle.plain_sessions.specs.Moments.{Past, alone_by, decided, moment_of, past, takes_start}
use Rattle.plain_sessions.specs.Records.{BranchState, Shared}
use Rattle.plain_sessions.specs.Replies.{done, is_refusal}
use Rattle.plain_sessions.specs.Sessions as plain
use Rattle.plain_sessions.specs.Sessions.{Before, Between, Transaction, is_changed, over, taken, with_own, within}
use Rattle.plain_sessions.specs.declared.commands.Command.{Command}
use Rattle.plain_sessions.specs.declared.commands.Command.TheVariants as command
use Rattle.plain_sessions.specs.declared.commands.Work.{Work}
use Rattle.run_laws.specs.Turns.{InOneTurn}
use Rattle.session_state.specs.Changes.{Parts}
use Rattle.session_state.specs.Standing.{IsAt, SessionStands}
use Rattle.session_state.specs.declared.sessions.Position.{Position}
use Rattle.session_state.specs.declared.sessions.Position.TheVariants as place
use Rattle.session_state.specs.declared.sessions.Session.{Session}
use Rattle.shared_db.specs.Shared.{noted}
use Rattle.serving.specs.Answering.{Answered}
use Rattle.serving.specs.Branching.{Went}
use Rattle.serving.specs.Serving.{IsBefore, turn_at}
use Rattle.serving.specs.Steps.{ComesTo, Decided, IsStillAt, after_start, fault_reply, number_at}
use Rattle.serving.proofs.MomentLemmas.{begun_at, decided_as, in_one_turn, verdict_said}
use Rattle.serving.proofs.StateLemmas.{stands_noted}
use Rattle.serving.proofs.WorkLemmas.{Came, kept_after, never_answered, refused_after, stays_open, waits_for_start}

pub same_number : (at : Position) (statement : ℕ) (there : plain.Place) → IsAt at statement there → number_at at ≡ statement
same_number (place.Before number) statement there is = is.0
same_number (place.Between number) statement there is = is.0

pub over_stands : {D : Type 0} (address : List ℕ → List ℕ) (session : Session D) (p : plain.Session) → SessionStands address session p
    → SessionStands address (record session { start = None }) (over p)
over_stands address session p stands = record {
  name = stands.name;
  number = stands.number;
  branch = stands.branch;
  autocommit = stands.autocommit;
  allow = stands.allow;
  force = stands.force;
  position = stands.position;
  transaction = tt;
  named = stands.named;
  plain_own = stands.plain_own;
  committer = stands.committer;
}

-- memory or an address failed where the statement took no start
pub short_alone : (fault : PutFault) (p : plain.Session) (asked : Command) → takes_start p asked ≡ false
    → alone_by (shortage (fault_reply fault)) p asked ≡ Some (p, fault_reply fault)
short_alone Memory p asked local = refl
short_alone (Collision clash) p asked local = ap (λ (test : Bool). if test then None else Some (p, print.Collided clash)) local

pub comes_short : (shared last : Shared) (branch : List ℕ) (reply : Reply) (verdict : Outcome BranchState) → ComesTo shared branch verdict last reply → shortage reply ≡ None
comes_short shared last branch reply (Ok state) comes = ap shortage comes.1
comes_short shared last branch reply (Err number) comes = ap shortage comes.1 ∙ comes.2

pub comes_places : (shared last : Shared) (branch : List ℕ) (reply : Reply) (verdict : Outcome BranchState) → ComesTo shared branch verdict last reply → last.places ≡ shared.places
comes_places shared last branch reply (Ok state) comes = ap (λ (s : Shared). s.places) comes.0
comes_places shared last branch reply (Err number) comes = ap (λ (s : Shared). s.places) comes.0

module _ {D : Type 0} (address : List ℕ → List ℕ) (epoch : ℤ) (old session : Session D) (parts : Parts) (p : plain.Session) (shared : Shared) (before : IsBefore address old parts p shared) where
  still_later : session.draft.chunks.base ≡ old.draft.chunks.base → (new : List Chunk) → Lists parts.chunks new → Lists session.draft.chunks.base new
  still_later base new grown = λ k bytes listed. grown k bytes (before.later k bytes (subst (λ (cs : List Chunk). Lists cs old.draft.chunks.base) (sym base) (λ j b l. l) k bytes listed))

  -- it stays on its branch
  pub went_of : (asked : Command) (new : Parts) (reply : Reply) → Answered address epoch p asked shared parts new session reply → Went address epoch p asked shared parts new session reply
  went_of asked new reply a = record {
    said = a.said;
    last = a.last;
    is = a.is;
    session_stands = a.session_stands;
    number = a.still.number;
    state_stands = a.state_stands;
    placed = ap (λ (places : List (List ℕ)). slice_get places p.number) a.places ∙ before.placed ∙ ap Some (sym a.still.branch);
    others = λ place apart. ap (λ (places : List (List ℕ)). slice_get places place) a.places;
    later = a.later;
    grown = a.grown;
    moments = a.moments;
    numbers = a.numbers;
  }

  -- a decision is the statement's one moment
  pub decided_answered : (asked : Command) (next : plain.Session) (t : Transaction) (new : Parts) (reply : Reply) → p.transaction ≡ Some t → (d : Decided address p t shared parts new reply)
      → alone_by None p asked ≡ None → moment_of address epoch shared p asked ≡ decided address next done shared p
      → (said : plain.Session) → verdict_said address epoch p next done d.verdict ≡ (said, reply) → SessionStands address session said → IsStillAt p said
      → session.draft.chunks.base ≡ old.draft.chunks.base → Answered address epoch p asked shared parts new session reply
  decided_answered asked next t new reply transaction d waits moment said says stands still base =
      let short : shortage reply ≡ None = comes_short shared d.last p.branch reply d.verdict d.comes in
      let made = decided_as address epoch shared d.last p next t d.present reply done d.verdict transaction d.there d.is d.comes in
      record {
        said = said;
        last = d.last;
        is = subst (λ (answer : Option Shortage). InOneTurn address epoch answer p asked (turn_at p shared d.last) (past p.statement (said, reply))) (sym short)
            (in_one_turn address epoch None shared d.last p asked (said, reply) before.before waits
            (moment ∙ made ∙ ap (λ (s : plain.Said). Some (d.last, Past s)) says));
        session_stands = stands;
        still = still;
        state_stands = d.state_stands;
        places = comes_places shared d.last p.branch reply d.verdict d.comes;
        later = still_later base new.chunks d.chunks;
        grown = d.chunks;
        moments = d.moments;
        numbers = d.numbers;
      }

  over_says : (verdict : Outcome BranchState) (last : Shared) (reply : Reply) → ComesTo shared p.branch verdict last reply → verdict_said address epoch p (over p) done verdict ≡ (over p, reply)
  over_says (Ok state) last reply comes = ap (λ (r : Reply). (over p, r)) (sym comes.1)
  over_says (Err number) last reply comes = ap (λ (r : Reply). (over p, r)) (sym comes.1)

  pub commit_answered : (t : Transaction) (new : Parts) (reply : Reply) → p.transaction ≡ Some t → is_changed p ≡ true → Decided address p t shared parts new reply
      → SessionStands address session (over p) → session.draft.chunks.base ≡ old.draft.chunks.base → Answered address epoch p command.CommitAll shared parts new session reply
  commit_answered t new reply transaction changed d stands base =
      decided_answered command.CommitAll (over p) t new reply transaction d (ap (λ (test : Bool). if test then None else Some (over p, done)) changed) refl
      (over p) (over_says d.verdict d.last reply d.comes) stands (record { number = refl; branch = refl }) base

  -- a moment of a start
  pub started_answered : (asked : Command) (said : plain.Session) (reply : Reply) → InOneTurn address epoch (shortage reply) p asked (turn_at p shared shared) (past p.statement (said, reply))
      → SessionStands address session said → IsStillAt p said → Lists session.draft.chunks.base parts.chunks
      → Answered address epoch p asked shared parts (noted p.number p.statement parts) session reply
  started_answered asked said reply is stands still later = record {
    said = said;
    last = shared;
    is = is;
    session_stands = stands;
    still = still;
    state_stands = stands_noted address p.number p.statement parts shared before.state_stands;
    places = refl;
    later = later;
    grown = λ k bytes listed. listed;
    moments = refl;
    numbers = refl;
  }

  pub begun_answered : (t : Transaction) → is_changed p ≡ false → taken shared p ≡ Some t → SessionStands address session (within p t) → Lists session.draft.chunks.base parts.chunks
      → Answered address epoch p command.Begin shared parts (noted p.number p.statement parts) session done
  begun_answered t unchanged is stands later =
      started_answered command.Begin (within p t) done (in_one_turn address epoch None shared shared p command.Begin (within p t, done) before.before refl (begun_at address epoch shared p t unchanged is))
      stands (record { number = refl; branch = refl }) later

  -- ---- database statements that took their start

  module _ (t : Transaction) (asked : Work) (after : plain.Session) (reply : Reply) (none : p.transaction ≡ None) (is : taken shared p ≡ Some t)
      (here : Came p t asked after reply) (later : Lists session.draft.chunks.base parts.chunks) where
    pub refused_answered : is_refusal reply ≡ true → SessionStands address session p
        → Answered address epoch p (command.Data asked) shared parts (noted p.number p.statement parts) session (after_start reply)
    refused_answered refusal stands =
        started_answered (command.Data asked) p (after_start reply)
        (refused_after address epoch shared p t asked after reply (never_answered p t asked reply refusal)
        before.before none is here)
        stands (record { number = refl; branch = refl }) later

    pub well_started : (said : plain.Session) → shortage reply ≡ None → moment_of address epoch shared p (command.Data asked) ≡ Some (shared, Past (said, reply))
        → InOneTurn address epoch (shortage reply) p (command.Data asked) (turn_at p shared shared) (past p.statement (said, reply))
    well_started said short moment =
        subst (λ (answer : Option Shortage). InOneTurn address epoch answer p (command.Data asked) (turn_at p shared shared) (past p.statement (said, reply))) (sym short)
        (in_one_turn address epoch None shared shared p (command.Data asked) (said, reply) before.before (waits_for_start address epoch shared p t asked none) moment)

    pub open_answered : is_refusal reply ≡ false → p.variables.autocommit ≡ false → SessionStands address session after
        → Answered address epoch p (command.Data asked) shared parts (noted p.number p.statement parts) session reply
    open_answered well off stands =
        let kept = kept_after address epoch shared p t asked after reply here well in
        let now = within p (with_own kept.own t) in
        started_answered (command.Data asked) now reply (well_started now kept.short (stays_open address epoch shared p t asked after reply none is kept off))
        (subst (λ (q : plain.Session). SessionStands address session q) kept.after_is stands) (record { number = refl; branch = refl }) later

pub decided_truly : (address : List ℕ → List ℕ) (p : plain.Session) (t : Transaction) (shared : Shared) (old new : Parts) (reply : Reply) → Decided address p t shared old new reply → TellsTruly address reply
decided_truly address p t shared old new reply d = by d.verdict d.comes where
  by : (verdict : Outcome BranchState) → ComesTo shared p.branch verdict d.last reply → TellsTruly address reply
  by (Ok state) comes = subst (TellsTruly address) (sym comes.1) tt
  by (Err number) comes = subst (TellsTruly address) (sym comes.1) tt

pub fault_truly : (address : List ℕ → List ℕ) (fault : PutFault) (reply : Reply) → IsFault address fault → reply ≡ fault_reply fault → TellsTruly address reply
fault_truly address Memory reply holds is = subst (TellsTruly address) (sym is) tt
fault_truly address (Collision clash) reply holds is = subst (TellsTruly address) (sym is) holds
