-- A session at its meeting: where it stands in what is found, where it is seated then, and how its moments join to a statement's turns.
use Rattle.std.proofs.Common.{◌≡◌, ◌≢◌, refl, ◌∙◌, sym, ap, subst, ℕ, ◌+◌, ◌-◌, ◌*◌, ◌<◌, ◌≤◌, ◌^◌, min, nat_eq, arith, Bool, true, false, List, Some, slice_get}
use Rattle.std.specs.Prelude.{slice_index_or}
use Rattle.std.proofs.lemmas.Bool.Decides.{nat_tests}
use Rattle.chunk_store.specs.Chunks.{Chunk, Chunks, Listed, Lists}
use Rattle.plain_sessions.specs.Records.{Shared}
use Rattle.plain_sessions.specs.Sessions as plain
use Rattle.plain_sessions.specs.Sessions.{Transaction, is_before_statement}
use Rattle.plain_sessions.specs.declared.commands.Command.{Command}
use Rattle.plain_sessions.specs.declared.commands.Work.{Work}
use Rattle.session_state.specs.Changes.{Parts, StateStands}
use Rattle.session_state.specs.Standing.{SessionStands}
use Rattle.session_state.specs.declared.sessions.Session.{Session}
use Rattle.shared_db.specs.Shared.{noted}
use Rattle.shared_history.specs.Fitting.{HasTurned}
use Rattle.shared_history.specs.Meeting.{Found, Tells, moments_by, room_of, turned}
use Rattle.shared_history.proofs.RoomLemmas.{room_turned}
use Rattle.serving.specs.Meetings.{HasTurnedTo, HoldsAfterThree, InOneMoment, IsAtMeeting, IsBeforeAt, IsBetweenAt, IsSeated, WaitsFree, losses_in}
use Rattle.serving.specs.Serving.{Awaits, IsBetween, IsHere, Passes}
use Rattle.serving.specs.declared.meeting.Pending.{Pending}
use Rattle.serving.specs.declared.meeting.Pending.TheVariants as pending

-- ---- in what is found

module _ {D : Type 0} (address : List ℕ → List ℕ) (session : Session D) (m : Tells) (p : plain.Session) (at : IsAtMeeting address session m p) where
  pub session_is : m.session ≡ p.number
  session_is = at.seated.number ∙ at.stands.number

  pub here_found : (found : Parts) (shared : Shared) → Found address m found → StateStands address found shared → IsHere address session found p shared
  here_found found shared is stands = record {
    session_stands = at.stands;
    state_stands = stands;
    placed = ap (λ (all : List (List ℕ)). slice_get all p.number) (sym stands.places) ∙ ap (slice_get found.places) (sym session_is) ∙ is.come.place ∙ at.seated.branch ∙ ap Some at.stands.branch;
    later = λ k bytes listed. is.come.grown k bytes (at.seated.known k bytes listed);
  }

module _ {D : Type 0} (address : List ℕ → List ℕ) (session : Session D) (m : Tells) (found : Parts) (shared : Shared) (is : Found address m found) (stands : StateStands address found shared) where
  -- between its start and its decision
  pub between_found : (q : plain.Session) (asked : Command) (wanted : Pending) → IsBetweenAt address session m q asked wanted → IsBetween address session found q asked wanted shared
  between_found q asked wanted b = record {
    here = here_found address session m q b.at found shared is stands;
    work = b.work;
    asked_is = b.asked_is;
    transaction = b.transaction;
    has = b.has;
    awaits = b.awaits;
  }

-- what a moment left says what follows of it, whatever state it found
pub moment_as : (address : List ℕ → List ℕ) (A B : Parts → Shared → Parts → Type 0) (old new : Tells)
    → ((found left : Parts) (shared : Shared) → Found address old found → StateStands address found shared → A found shared left → B found shared left)
    → InOneMoment address A old new → InOneMoment address B old new
moment_as address A B old new follows one = record {
  found = one.found;
  is = one.is;
  left = one.left;
  leaves = λ shared stands. follows one.found one.left shared one.is stands (one.leaves shared stands);
  turned = one.turned;
}

-- ---- where it is seated then

pub waits_still : (m : Tells) → m.held ≡ false → WaitsFree m m
waits_still m free = record {
  waits = record {
    session = refl;
    statement = refl;
    lone = refl;
    made = refl;
    come = record { numbers = refl; place = refl; grown = λ k bytes listed. listed };
    own = refl;
    still = λ alone. refl;
  };
  free = free;
}

-- it was answered without a moment
pub seated_waiting : {D : Type 0} (session gone : Session D) (old new : Tells) → gone.number ≡ session.number → gone.branch ≡ session.branch → gone.draft.chunks.base ≡ session.draft.chunks.base
    → IsSeated session old → WaitsFree old new → IsSeated gone new
seated_waiting session gone old new number branch base seated w = record {
  number = w.waits.session ∙ seated.number ∙ sym number;
  branch = subst (λ (n : ℕ). slice_get new.seen.places n ≡ Some gone.branch) (sym w.waits.session) (w.waits.come.place ∙ seated.branch ∙ ap Some (sym branch));
  known = λ k bytes listed. w.waits.come.grown k bytes (seated.known k bytes (subst (λ (chunks : List Chunk). Listed chunks k bytes) base listed));
  free = w.free;
}

-- its draft was put to, and that was dropped
pub before_still : {D : Type 0} (address : List ℕ → List ℕ) (session gone : Session D) (m : Tells) (p : plain.Session) → IsBeforeAt address session m p → SessionStands address gone p
    → gone.draft.chunks.base ≡ session.draft.chunks.base → IsBeforeAt address gone m p
before_still address session gone m p b stands base = record {
  at = record {
    stands = stands;
    seated = seated_waiting session gone m m (stands.number ∙ sym b.at.stands.number) (stands.branch ∙ sym b.at.stands.branch) base b.at.seated (waits_still m b.at.seated.free);
    statement = b.at.statement;
  };
  before = b.before;
}

module _ {D : Type 0} (address : List ℕ → List ℕ) (session : Session D) (old new : Tells) (found left : Parts) (to : HasTurnedTo found left old new) where
  -- a moment left it there
  pub seated_behind : (after : plain.Session) (last : Shared) → old.session ≡ after.number → SessionStands address session after → StateStands address left last
      → slice_get last.places after.number ≡ Some after.branch → Lists session.draft.chunks.base left.chunks → IsSeated session new
  seated_behind after last is stands state placed later = record {
    number = to.session ∙ is ∙ sym stands.number;
    branch = ap (slice_get new.seen.places) (to.session ∙ is) ∙ ap (λ (parts : Parts). slice_get parts.places after.number) to.seen
        ∙ ap (λ (all : List (List ℕ)). slice_get all after.number) state.places ∙ placed ∙ ap Some (sym stands.branch);
    known = subst (λ (parts : Parts). Lists session.draft.chunks.base parts.chunks) (sym to.seen) later;
    free = to.free;
  }

  pub between_behind : (q : plain.Session) (asked : Command) (wanted : Pending) (shared : Shared) → old.session ≡ q.number → old.statement ≡ q.statement
      → IsBetween address session left q asked wanted shared → IsBetweenAt address session new q asked wanted
  between_behind q asked wanted shared is statement b = record {
    at = record {
      stands = b.here.session_stands;
      seated = seated_behind q shared is b.here.session_stands b.here.state_stands b.here.placed b.here.later;
      statement = to.statement ∙ statement;
    };
    work = b.work;
    asked_is = b.asked_is;
    transaction = b.transaction;
    has = b.has;
    awaits = b.awaits;
  }

-- its decision is to come, so it isn't before a statement
pub rests_between : (address : List ℕ → List ℕ) (chunks : Chunks) (wanted : Pending) (q : plain.Session) (t : Transaction) (asked : Work) → Awaits address chunks wanted q t asked
    → is_before_statement q.place ≡ false
rests_between address chunks (pending.Between reply) q t asked awaits = ap is_before_statement awaits.0
rests_between address chunks (pending.Closing had) q t asked awaits = ap is_before_statement awaits.0

-- ---- its turns

pub turned_by : (address : List ℕ → List ℕ) (m : Tells) (number statement : ℕ) (shared last : Shared) (found left : Parts) → m.session ≡ number → m.statement ≡ statement
    → StateStands address found shared → StateStands address left last → Passes number statement shared last found left → HasTurned m.session m.statement found left
turned_by address m number statement shared last found left is at stands state p =
    subst (λ (n : ℕ). HasTurned n m.statement found left) (sym is)
    (subst (λ (n : ℕ). HasTurned number n found left) (sym at) (record {
      moments = p.moments;
      numbers = p.numbers;
      others = λ place apart. ap (λ (all : List (List ℕ)). slice_get all place) state.places ∙ p.others place apart ∙ ap (λ (all : List (List ℕ)). slice_get all place) (sym stands.places);
      grown = p.grown;
    }))

-- a start leaves all but that it was made
pub start_passes : (number statement : ℕ) (shared : Shared) (found left : Parts) → left ≡ noted number statement found → Passes number statement shared shared found left
start_passes number statement shared found left is = record {
  moments = ap (λ (at : Parts). at.moments) is;
  numbers = ap (λ (at : Parts). at.numbers) is;
  others = λ place apart. refl;
  grown = subst (λ (at : Parts). Lists found.chunks at.chunks) (sym is) (λ k bytes listed. listed);
}

-- where there was room for two there is room for one
left_for_one : (room then now : ℕ) → then + 1 ≡ now → room ≡ then → 2 ≤ now → 0 < room
left_for_one room then now one same two = omega (arith, one, same, two)

pub room_behind : (address : List ℕ → List ℕ) (old new : Tells) (found left : Parts) (statement : ℕ) → Found address old found → HasTurned old.session statement found left → HasTurnedTo found left old new
    → 2 ≤ room_of old → 0 < room_of new
room_behind address old new found left statement is turn to room =
    let some : 0 < room_of old = omega (arith, room) in
    left_for_one (room_of new) (room_of (turned found left old)) (room_of old) (room_turned address old found left statement is turn some)
    (λ i. 2 * slice_index_or (to.seen i).numbers (to.session i) 0 - moments_by (to.session i) (to.seen i).moments) room

-- ---- how often it held the value

pub holds_none : (m : Tells) → HoldsAfterThree m m
holds_none m = record { held = λ apart. absurd (apart refl); lost = omega arith }

pub holds_join : (a b c : Tells) → HoldsAfterThree a b → HoldsAfterThree b c → HoldsAfterThree a c
holds_join a b c first second = record { held = λ apart. by apart (nat_eq b.holds a.holds) refl; lost = more } where
  more : a.lost ≤ c.lost
  more =
      let before : a.lost ≤ b.lost = first.lost in
      let after : b.lost ≤ c.lost = second.lost in
      omega (arith, before, after)

  by : c.holds ≢ a.holds → (test : Bool) → nat_eq b.holds a.holds ≡ test → losses_in 3 a.lost ≤ c.lost
  by apart true test =
      let same : b.holds ≡ a.holds = grind (arith, nat_tests) in
      let lost : min (b.lost + 3) (2 ^ 64 - 1) ≤ c.lost = second.held (λ is. apart (is ∙ same)) in
      let before : a.lost ≤ b.lost = first.lost in
      omega (arith, lost, before)
  by apart false test =
      let other : b.holds ≢ a.holds = grind (arith, nat_tests) in
      let lost : min (a.lost + 3) (2 ^ 64 - 1) ≤ b.lost = first.held other in
      let after : b.lost ≤ c.lost = second.lost in
      omega (arith, lost, after)
