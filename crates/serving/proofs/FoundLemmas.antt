-- What is known at what a session's call finds, and what its calls leave behind.
use Rattle.std.proofs.Common.{◌≡◌, ◌≢◌, refl, ◌∙◌, sym, ap, subst, ℕ, false, List, None, Some, Ok, Err, arith, slice_get}
use Rattle.std.specs.Prelude.{Result, IfOk, OnErr}
use Rattle.table_root.specs.declared.heads.Look.{Look}
use Rattle.plain_sessions.specs.Records.{Shared}
use Rattle.plain_sessions.specs.Sessions as plain
use Rattle.session_state.specs.Changes.{Parts, StateStands}
use Rattle.session_state.specs.declared.sessions.Session.{Session}
use Rattle.shared_db.specs.Shared.{noted}
use Rattle.shared_history.specs.Meeting.{Comes, Found, Starts, Tells, started_on, turned, with_look}
use Rattle.serving.specs.Meetings.{HasTurnedTo, HoldsAfterThree, InOneMoment, IsAtMeeting, IsBeforeAt, WaitsFree}
use Rattle.serving.specs.Serving.{IsBefore, IsHere}
use Rattle.serving.specs.Steps.{number_at}
use Rattle.serving.proofs.AnswerLemmas.{same_number}
use Rattle.serving.proofs.LookLemmas.{Looks}

-- ---- at what is found

module _ {D : Type 0} (address : List ℕ → List ℕ) (session : Session D) (m : Tells) (p : plain.Session) where
  pub number_in : IsAtMeeting address session m p → m.session ≡ p.number
  number_in at = at.seated.number ∙ at.stands.number

  -- the number of the statement that the meeting was told is the session's
  pub counted_in : IsAtMeeting address session m p → m.statement ≡ number_at session.position
  counted_in at = at.statement ∙ sym (same_number session.position p.statement p.place at.stands.position)

  pub here_found : IsAtMeeting address session m p → (found : Parts) → Found address m found → (shared : Shared) → StateStands address found shared → IsHere address session found p shared
  here_found at found is shared stands = record {
    session_stands = at.stands;
    state_stands = stands;
    placed = ap (slice_get shared.places) (sym (number_in at)) ∙ ap (λ (places : List (List ℕ)). slice_get places m.session) (sym stands.places)
        ∙ is.come.place ∙ at.seated.branch ∙ ap Some at.stands.branch;
    later = λ k bytes listed. is.come.grown k bytes (at.seated.known k bytes listed);
  }

  pub before_found : IsBeforeAt address session m p → (found : Parts) → Found address m found → (shared : Shared) → StateStands address found shared → IsBefore address session found p shared
  before_found before found is shared stands =
      let here = here_found before.at found is shared stands in
      record { session_stands = here.session_stands; before = before.before; state_stands = here.state_stands; placed = here.placed; later = here.later }

  -- the shared state has the session on a branch
  pub placed_in : IsAtMeeting address session m p → slice_get m.seen.places m.session ≢ None
  placed_in at none = let same : Some session.branch ≡ None = sym at.seated.branch ∙ none in absurd (cc)

  -- what a start leaves of what it found
  pub noted_in : IsAtMeeting address session m p → (found : Parts) → started_on found m ≡ noted session.number m.statement found
  noted_in at found = ap (λ (n : ℕ). noted n m.statement found) at.seated.number

-- ---- one moment

pub in_moment : (address : List ℕ → List ℕ) (P Q : Parts → Shared → Parts → Type 0) (old new : Tells)
    → ((found : Parts) → Found address old found → (shared : Shared) → StateStands address found shared → (left : Parts) → P found shared left → Q found shared left)
    → InOneMoment address P old new → InOneMoment address Q old new
in_moment address P Q old new each moment = record {
  found = moment.found;
  is = moment.is;
  left = moment.left;
  leaves = λ shared stands. each moment.found moment.is shared stands moment.left (moment.leaves shared stands);
  turned = moment.turned;
}

pub turned_by : (found left : Parts) (old new : Tells) → new ≡ turned found left old → HasTurnedTo found left old new
turned_by found left old new is = record {
  session = ap (λ (m : Tells). m.session) is;
  statement = ap (λ (m : Tells). m.statement) is;
  lone = ap (λ (m : Tells). m.lone) is;
  seen = ap (λ (m : Tells). m.seen) is;
  free = ap (λ (m : Tells). m.held) is;
  made = ap (λ (m : Tells). m.made) is;
}

-- the same of a start, which shows a look as well
pub started_by : (found left : Parts) (look : Look) (old new : Tells) → new ≡ turned found left (with_look look old) → HasTurnedTo found left old new
started_by found left look old new is = record {
  session = ap (λ (m : Tells). m.session) is;
  statement = ap (λ (m : Tells). m.statement) is;
  lone = ap (λ (m : Tells). m.lone) is;
  seen = ap (λ (m : Tells). m.seen) is;
  free = ap (λ (m : Tells). m.held) is;
  made = ap (λ (m : Tells). m.made) is;
}

-- a start as one moment
pub started_moment : (address : List ℕ → List ℕ) (branch : List ℕ) (look : Look) (Leaves : Parts → Shared → Parts → Type 0) (old new : Tells) (starts : Starts address branch look old new)
    → ((shared : Shared) → StateStands address starts.found shared → Leaves starts.found shared (started_on starts.found old)) → InOneMoment address Leaves old new
started_moment address branch look Leaves old new starts leaves = record {
  found = starts.found;
  is = starts.is;
  left = started_on starts.found old;
  leaves = leaves;
  turned = started_by starts.found (started_on starts.found old) look old new starts.tells;
}

-- its look is one at the session's branch
pub starts_looks : {D : Type 0} (address : List ℕ → List ℕ) (session : Session D) (look : Look) (old new : Tells) (starts : Starts address session.branch look old new) → Looks session starts.found look
starts_looks address session look old new starts =
    record { branch = starts.at.branch; there = starts.at.there; heads = starts.at.heads; chunks = starts.at.chunks }

-- ---- no moment

pub waits_free : (m : Tells) → m.held ≡ false → WaitsFree m m
waits_free m free = record {
  waits = record {
    session = refl;
    statement = refl;
    lone = refl;
    made = refl;
    come = record { numbers = refl; place = refl; grown = λ k bytes listed. listed };
    own = refl;
    still = λ alone. refl;
  };
  free = free;
}

pub comes_free : (address : List ℕ → List ℕ) (old new : Tells) → old.held ≡ false → Comes address old new → WaitsFree old new
comes_free address old new free comes =
    subst (WaitsFree old) (sym comes.tells) (record {
      waits = record { session = refl; statement = refl; lone = refl; made = refl; come = comes.is.come; own = comes.is.own; still = comes.is.still };
      free = free;
    })

pub on_err : {A E : Type 0} (result : Result A E) (P : Type 0) → P → OnErr result P
on_err (Ok made) P holds = tt
on_err (Err fault) P holds = holds

pub ok_each : {A E : Type 0} (P Q : A → Type 0) → ((made : A) → P made → Q made) → (result : Result A E) → IfOk result P → IfOk result Q
ok_each P Q each (Ok made) holds = each made holds
ok_each P Q each (Err fault) holds = tt

-- ---- counts

pub holds_same : (old new : Tells) → new.holds ≡ old.holds → new.lost ≡ old.lost → HoldsAfterThree old new
holds_same old new holds lost = record { held = λ other. absurd (other holds); lost = let same : new.lost ≡ old.lost = lost in omega (arith, same) }

pub holds_still : (m : Tells) → HoldsAfterThree m m
holds_still m = holds_same m m refl refl

pub comes_holds : (address : List ℕ → List ℕ) (old new : Tells) → Comes address old new → HoldsAfterThree old new
comes_holds address old new comes = holds_same old new (ap (λ (m : Tells). m.holds) comes.tells) (ap (λ (m : Tells). m.lost) comes.tells)

pub starts_holds : (address : List ℕ → List ℕ) (branch : List ℕ) (look : Look) (old new : Tells) → Starts address branch look old new → HoldsAfterThree old new
starts_holds address branch look old new starts = holds_same old new (ap (λ (m : Tells). m.holds) starts.tells) (ap (λ (m : Tells). m.lost) starts.tells)
