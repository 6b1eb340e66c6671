-- A session at its meeting: what it stands for there, and how it is led to its next moment.
use Rattle.std.proofs.Common.{◌≡◌, refl, sym, ◌∙◌, ap, subst, ℕ, ℤ, ◌||◌, Bool, true, false, List, Some, None, slice_get}
use Rattle.chunk_store.specs.Chunks.{Lists}
use Rattle.plain_sessions.specs.Records.{Shared}
use Rattle.plain_sessions.specs.Runs.{Runner}
use Rattle.plain_sessions.specs.Sessions as plain
use Rattle.plain_sessions.specs.declared.commands.Command.{Command}
use Rattle.session_state.specs.Changes.{Parts, StateStands}
use Rattle.session_state.specs.Standing.{SessionStands}
use Rattle.session_state.specs.declared.sessions.Session.{Session}
use Rattle.shared_history.specs.Lone.{IsAlone, tells_alone}
use Rattle.shared_history.specs.Meeting.{Found, Tells, room_of}
use Rattle.shared_history.specs.declared.lone.LoneDb.{LoneDb}
use Rattle.serving.specs.Meetings.{InOneMoment, IsAtMeeting, IsBeforeAt, IsBetweenAt, IsSeated, WaitsFree}
use Rattle.serving.specs.Serving.{IsBefore, IsBetween, IsHere}
use Rattle.serving.specs.Steps.{number_at}
use Rattle.serving.specs.declared.meeting.Pending.{Pending}
use Rattle.serving.proofs.AnswerLemmas.{same_number as number_is}
use Rattle.script_run.specs.Following.{IsLed, IsPlayer}
use Rattle.script_run.specs.Seats.{IsAtRest, IsSeatOf, room_at}
use Rattle.script_run.specs.declared.players.Player.{Player}
use Rattle.script_run.proofs.FollowLemmas.{player_stays}
use Rattle.script_run.proofs.GoingLemmas.{here_of, stands_of}
use Rattle.script_run.proofs.ServedLemmas.{or_true}

-- ---- a session in the seat stands for the plain one there

module _ {D : Type 0} (address : List ℕ → List ℕ) (session : Session D) (m : Tells) (seat : IsSeatOf m session) (seated : IsSeated session m) where
  at_meeting : (p : plain.Session) → SessionStands address session p → IsAtMeeting address session m p
  at_meeting p stands = record { stands = stands; seated = seated; statement = seat.statement ∙ number_is session.position p.statement p.place stands.position }

  pub before_at : (p : plain.Session) → SessionStands address session p → p.place ≡ plain.Before → IsBeforeAt address session m p
  before_at p stands before = record { at = at_meeting p stands; before = before }

  pub between_at : (parts : Parts) (q : plain.Session) (asked : Command) (wanted : Pending) (shared : Shared) → IsBetween address session parts q asked wanted shared → IsBetweenAt address session m q asked wanted
  between_at parts q asked wanted shared between = record {
    at = at_meeting q between.here.session_stands;
    work = between.work;
    asked_is = between.asked_is;
    transaction = between.transaction;
    has = between.has;
    awaits = between.awaits;
  }

pub seated_in : {D : Type 0} {address : List ℕ → List ℕ} {session : Session D} {m : Tells} {p : plain.Session} {shared : Shared} → IsHere address session m.seen p shared → IsSeatOf m session → IsSeated session m
seated_in {m = m} {p = p} here seat = record {
  number = seat.number;
  branch = ap (slice_get m.seen.places) (seat.number ∙ here.session_stands.number) ∙ ap (λ (places : List (List ℕ)). slice_get places p.number) here.state_stands.places ∙ here.placed
      ∙ ap Some (sym here.session_stands.branch);
  known = here.later;
  free = seat.free;
}

pub here_in : {D : Type 0} {address : List ℕ → List ℕ} {session : Session D} {parts : Parts} {p : plain.Session} {shared : Shared} → IsBefore address session parts p shared → IsHere address session parts p shared
here_in before = record { session_stands = before.session_stands; state_stands = before.state_stands; placed = before.placed; later = before.later }

module _ {D : Type 0} {address : List ℕ → List ℕ} {m : Tells} {shared : Shared} {place : ℕ} {runner : Runner} {player : Player D}
    (is : IsPlayer address m.seen shared place runner player) (seat : IsSeatOf m player.session) where
  pub seated_of : IsSeated player.session m
  seated_of = seated_in (here_of is) seat

  -- where only others had turns it stands where it stood
  player_found : (found : Parts) (now : Shared) → Found address m found → StateStands address found now → IsPlayer address found now place runner player
  player_found found now is_found stands =
      let session : m.session ≡ place = seat.number ∙ (stands_of is).number ∙ is.number in
      let placed : slice_get now.places place ≡ slice_get shared.places place
      = ap (λ (places : List (List ℕ)). slice_get places place) (sym stands.places)
      ∙ subst (λ n. slice_get found.places n ≡ slice_get m.seen.places n) session is_found.come.place
      ∙ ap (λ (places : List (List ℕ)). slice_get places place) (here_of is).state_stands.places in
      player_stays address m.seen found shared now stands is_found.come.grown place runner player placed is

  -- what a moment makes of the session, on whatever it finds
  pub leads_by : {n : Tells} (epoch : ℤ) (next : Player D) (Leaves : Parts → Shared → Parts → Type 0)
      → ((found : Parts) (now : Shared) (left : Parts) → IsPlayer address found now place runner player → Leaves found now left → IsLed address epoch place runner now found left next)
      → InOneMoment address Leaves m n → InOneMoment address (λ found now left. IsLed address epoch place runner now found left next) m n
  leads_by epoch next Leaves leads moment = record {
    found = moment.found;
    is = moment.is;
    left = moment.left;
    leaves = λ now stands. leads moment.found now moment.left (player_found moment.found now moment.is stands) (moment.leaves now stands);
    turned = moment.turned;
  }

-- ---- one thread leads it

-- it is still the same database, where the seat alone is another
module _ {D : Type 0} (lone seated : LoneDb D) {session statement : ℕ} (tells : tells_alone seated ≡ record (tells_alone lone) { session = session; statement = statement }) where
  pub seated_parts : seated.db.parts ≡ lone.db.parts
  seated_parts = ap (λ (m : Tells). m.seen) tells

  pub seated_room : room_of (tells_alone seated) ≡ room_at lone.db.parts session
  seated_room = ap room_of tells

  pub seat_of : (tells_alone lone).held ≡ false → (one : Session D) → session ≡ one.number → statement ≡ number_at one.position → IsSeatOf (tells_alone seated) one
  seat_of free one number at = record {
    number = ap (λ (m : Tells). m.session) tells ∙ number;
    statement = ap (λ (m : Tells). m.statement) tells ∙ at;
    free = ap (λ (m : Tells). m.held) tells ∙ free;
  }

  pub before_seated : {address : List ℕ → List ℕ} {p : plain.Session} {shared : Shared} → (tells_alone lone).held ≡ false → (one : Session D) → session ≡ one.number → statement ≡ number_at one.position
      → IsBefore address one lone.db.parts p shared → IsBeforeAt address one (tells_alone seated) p
  before_seated {address = address} {p = p} {shared = shared} free one number at before =
      let there : IsBefore address one seated.db.parts p shared = subst (λ (parts : Parts). IsBefore address one parts p shared) (sym seated_parts) before in
      let seat = seat_of free one number at in
      before_at address one (tells_alone seated) seat (seated_in (here_in there) seat) p before.session_stands before.before

-- behind a turn
pub alone_again : {D : Type 0} {address : List ℕ → List ℕ} {first lone : LoneDb D} → IsAlone address first lone → IsAlone address lone lone
alone_again at = record { opened = at.opened; log = at.log; fits = at.fits; small = at.small; session = refl }

-- no other session acted: what was found is what was seen
module _ {D : Type 0} (address : List ℕ → List ℕ) (lone seated last : LoneDb D) (same : seated.db.parts ≡ lone.db.parts) where
  pub waited_still : WaitsFree (tells_alone seated) (tells_alone last) → last.db.parts ≡ lone.db.parts
  waited_still waits = waits.waits.still (or_true (tells_alone seated).held) ∙ same

  pub led_alone : {Leaves : Parts → Shared → Parts → Type 0} → InOneMoment address Leaves (tells_alone seated) (tells_alone last) → (shared : Shared) → StateStands address lone.db.parts shared
      → Leaves lone.db.parts shared last.db.parts
  led_alone {Leaves = Leaves} moment shared stands =
      let found : moment.found ≡ lone.db.parts = moment.is.still (or_true (tells_alone seated).held) ∙ same in
      subst (λ (parts : Parts). Leaves parts shared last.db.parts) found
      (subst (λ (parts : Parts). Leaves moment.found shared parts) (sym moment.turned.seen)
      (moment.leaves shared (subst (λ (parts : Parts). StateStands address parts shared) (sym found) stands)))

  pub rests : IsAlone address seated last → (made : Bool) → {Leaves : Parts → Shared → Parts → Type 0} → (made ≡ true → InOneMoment address Leaves (tells_alone seated) (tells_alone last))
      → (made ≡ false → WaitsFree (tells_alone seated) (tells_alone last)) → IsAtRest address last
  rests at true led waits = record { alone = alone_again at; free = (led refl).turned.free }
  rests at false led waits = record { alone = alone_again at; free = (waits refl).free }
