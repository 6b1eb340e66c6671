-- A statement that was served where no other session acted between its moments.
use Rattle.std.proofs.Common.{◌≡◌, ◌≢◌, refl, sym, ◌∙◌, ap, subst, ℕ, ℤ, ◌+◌, ◌≤◌, ◌||◌, Bool, true, false, Option, None, Some, List, [], ◌∷◌, ◌++◌, length, map, slice_get, append-nil, arith}
use Rattle.std.proofs.lemmas.List.{append_assoc}
use Rattle.chunk_store.specs.Chunks.{Chunk, Listed, Lists}
use Rattle.script_text.specs.Output.{Shortage, shortage}
use Rattle.script_text.specs.declared.replies.Reply.{Reply}
use Rattle.script_text.specs.declared.scripts.Moment.{Moment}
use Rattle.plain_sessions.specs.Records.{Shared}
use Rattle.plain_sessions.specs.Sessions as plain
use Rattle.plain_sessions.specs.declared.commands.Command.{Command}
use Rattle.run_laws.specs.Turns.{ServedIn, Turn, TurnsFollow, moments_of}
use Rattle.session_state.specs.Changes.{Parts, StateStands}
use Rattle.session_state.specs.Laws.{StatesFollow}
use Rattle.session_state.specs.declared.sessions.Session.{Session}
use Rattle.shared_history.specs.Meeting.{Tells}
use Rattle.serving.specs.Meetings.{IsBeforeAt, ServesAt, TurnsGo, WaitsFree}
use Rattle.serving.specs.Serving.{PassesAlone}
use Rattle.script_run.specs.Running.{Serves}

pub or_true : (b : Bool) → (b || true) ≡ true
or_true true = refl
or_true false = refl

-- the turns are of the statement of this number
abbrev AreOf : ℕ → List Turn → Type 0
AreOf statement [] = Unit {0}
AreOf statement (turn ∷ turns) = (turn.statement ≡ statement) × AreOf statement turns

module _ (address : List ℕ → List ℕ) (epoch : ℤ) (answer : Option Shortage) (p : plain.Session) (asked : Command) (said : plain.Said) where
  are_of : (turns : List Turn) → ServedIn address epoch answer p asked turns said → AreOf p.statement turns
  are_of [] is = tt
  are_of (turn ∷ []) is = (is.numbered, tt)
  are_of (start ∷ decision ∷ []) is = (is.numbered, (is.numbered_again, tt))
  are_of (first ∷ second ∷ third ∷ turns) is = absurd is

  pub two_turns : (turns : List Turn) → ServedIn address epoch answer p asked turns said → length turns ≤ 2
  two_turns [] is = omega arith
  two_turns (turn ∷ []) is = omega arith
  two_turns (start ∷ decision ∷ []) is = omega arith
  two_turns (first ∷ second ∷ third ∷ turns) is = absurd is

-- what turns of this session come to, where no other acts between them
record WentAlone (address : List ℕ → List ℕ) (session : ℕ) (shared : Shared) (old : Parts) (turns : List Turn) (new : Parts) : Type 0 where
  last : Shared
  follows : TurnsFollow shared turns last
  stands : StateStands address new last
  moments : new.moments ≡ old.moments ++ moments_of session turns
  numbers : new.numbers ≡ old.numbers
  others : (place : ℕ) → place ≢ session → slice_get new.places place ≡ slice_get old.places place
  grown : Lists old.chunks new.chunks

module _ (follow : StatesFollow) (address : List ℕ → List ℕ) (session statement : ℕ) where
  went_alone : (turns : List Turn) (m n : Tells) (shared : Shared) → m.session ≡ session → m.statement ≡ statement → m.lone ≡ true → StateStands address m.seen shared → AreOf statement turns
      → TurnsGo address m turns n → WentAlone address session shared m.seen turns n.seen
  went_alone [] m n shared own numbered lone stands are goes =
      let same : n.seen ≡ m.seen = goes.waits.still (ap (λ (b : Bool). m.held || b) lone ∙ or_true m.held) in
      subst (λ (parts : Parts). WentAlone address session shared m.seen [] parts) (sym same) (record {
        last = shared;
        follows = refl;
        stands = stands;
        moments = sym (append-nil m.seen.moments);
        numbers = refl;
        others = λ place apart. refl;
        grown = λ k bytes listed. listed;
      })
  went_alone (turn ∷ turns) m n shared own numbered lone stands are goes =
      let found = goes.0 in
      let left = goes.1 in
      let between = goes.2 in
      let turned = goes.6 in
      let to = goes.7 in
      let same : found ≡ m.seen = goes.3.still (ap (λ (b : Bool). m.held || b) lone ∙ or_true m.held) in
      let is : turn.found ≡ shared = follow.one address m.seen turn.found shared (subst (λ (parts : Parts). StateStands address parts turn.found) same goes.4) stands in
      let rest = went_alone turns between n turn.left (to.session ∙ own) (to.statement ∙ numbered) (to.lone ∙ lone)
      (subst (λ (parts : Parts). StateStands address parts turn.left) (sym to.seen) goes.5) are.1 goes.8 in
      let moment : Moment = record { session = session; statement = turn.statement } in
      let first : between.seen.moments ≡ m.seen.moments ++ moment ∷ []
      = ap (λ (parts : Parts). parts.moments) to.seen ∙ turned.moments ∙ ap (λ (parts : Parts). parts.moments ++ record { session = m.session; statement = m.statement } ∷ []) same
      ∙ ap (λ s. m.seen.moments ++ record { session = s; statement = m.statement } ∷ []) own ∙ ap (λ s. m.seen.moments ++ record { session = session; statement = s } ∷ []) (numbered ∙ sym are.0) in
      record {
        last = rest.last;
        follows = (is, rest.follows);
        stands = rest.stands;
        moments = rest.moments ∙ ap (λ (ms : List Moment). ms ++ moments_of session turns) first ∙ append_assoc m.seen.moments (moment ∷ []) (moments_of session turns);
        numbers = rest.numbers ∙ ap (λ (parts : Parts). parts.numbers) to.seen ∙ turned.numbers ∙ ap (λ (parts : Parts). parts.numbers) same;
        others = λ place apart. rest.others place apart ∙ ap (λ (parts : Parts). slice_get parts.places place) to.seen ∙ turned.others place (λ e. apart (e ∙ own))
            ∙ ap (λ (parts : Parts). slice_get parts.places place) same;
        grown = λ k bytes listed. rest.grown k bytes (subst (λ (parts : Parts). Listed parts.chunks k bytes) (sym to.seen) (turned.grown k bytes (subst (λ (parts : Parts). Listed parts.chunks k bytes) (sym same) listed)));
      }

-- the statement whole
pub served_alone : {D : Type 0} (follow : StatesFollow) (address : List ℕ → List ℕ) (epoch : ℤ) (p : plain.Session) (asked : Command) (shared : Shared) (m n : Tells) (session : Session D) (reply : Reply)
    → m.session ≡ p.number → m.statement ≡ p.statement → m.lone ≡ true → StateStands address m.seen shared → ServesAt address epoch p asked m n session reply
    → Serves address epoch p asked shared m.seen n.seen session reply
served_alone follow address epoch p asked shared m n session reply own numbered lone stands serves =
    let went = went_alone follow address p.number p.statement serves.turns m n shared own numbered lone stands (are_of address epoch (shortage reply) p asked (serves.after, reply) serves.turns serves.is) serves.goes in
    record {
      after = serves.after;
      last = went.last;
      turns = serves.turns;
      is = serves.is;
      follows = went.follows;
      next = record {
        session_stands = serves.stands;
        before = serves.before;
        state_stands = went.stands;
        placed = ap (λ (places : List (List ℕ)). slice_get places serves.after.number) (sym went.stands.places) ∙ ap (slice_get n.seen.places) (sym (serves.seated.number ∙ serves.stands.number))
            ∙ serves.seated.branch ∙ ap Some serves.stands.branch;
        later = serves.seated.known;
      };
      moments = went.moments;
      numbers = went.numbers;
      number = serves.number;
      others = λ place apart. ap (λ (places : List (List ℕ)). slice_get places place) (sym went.stands.places) ∙ went.others place apart ∙ ap (λ (places : List (List ℕ)). slice_get places place) stands.places;
      grown = went.grown;
    }

-- a meeting that wasn't used
pub waits_still : (m : Tells) → m.held ≡ false → WaitsFree m m
waits_still m free = record {
  waits = record {
    session = refl;
    statement = refl;
    lone = refl;
    made = refl;
    come = record { numbers = refl; place = refl; grown = λ k bytes listed. listed };
    own = refl;
    still = λ kept. refl;
  };
  free = free;
}

-- a statement without a moment
pub passes_at : {D : Type 0} (address : List ℕ → List ℕ) (epoch : ℤ) (p : plain.Session) (asked : Command) (m : Tells) (old new : Session D) (reply : Reply) → IsBeforeAt address old m p
    → new.number ≡ old.number → new.branch ≡ old.branch → new.draft.chunks.base ≡ old.draft.chunks.base → PassesAlone address p asked new reply → ServesAt address epoch p asked m m new reply
passes_at address epoch p asked m old new reply before number branch base passes = record {
  after = passes.after;
  turns = [];
  is = passes.is;
  goes = waits_still m before.at.seated.free;
  stands = passes.stands;
  before = passes.before;
  number = passes.number;
  seated = record {
    number = before.at.seated.number ∙ sym number;
    branch = before.at.seated.branch ∙ ap Some (sym branch);
    known = subst (λ (chunks : List Chunk). Lists chunks m.seen.chunks) (sym base) before.at.seated.known;
    free = before.at.seated.free;
  };
}
