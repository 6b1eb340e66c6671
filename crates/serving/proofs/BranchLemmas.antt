-- Steps on the list of branches, from the shared database's step to the machine's moment.
use Rattle.std.proofs.Common.{◌≡◌, ◌≢◌, refl, ◌∙◌, sym, ap, subst, ℕ, ◌+◌, ℤ, Bool, true, false, List, [], ◌∷◌, ◌++◌, Option, Some, None, Ok, Err, set, slice_get, if◌then◌else◌}
use Rattle.std.proofs.lemmas.Option.{same_Some}
use Rattle.chunk_store.specs.Chunks.{Chunk, Lists}
use Rattle.expr_eval.specs.Binding.{Outcome}
use Rattle.tuple_codec.specs.declared.answers.Answer.{Answer}
use Rattle.script_text.specs.Collisions.{TellsTruly}
use Rattle.script_text.specs.Output.{Shortage, shortage}
use Rattle.script_text.specs.declared.replies.Reply.{Reply}
use Rattle.script_text.specs.declared.replies.Reply.TheVariants.{Refused, Rows}
use Rattle.sql_procedures.specs.declared.requests.BranchRequest.{BranchRequest}
use Rattle.sql_procedures.specs.declared.requests.BranchRequest.TheVariants as branch
use Rattle.sql_procedures.specs.declared.requests.CheckoutRequest.{CheckoutRequest}
use Rattle.sql_procedures.specs.declared.requests.CheckoutRequest.TheVariants as checkout
use Rattle.plain_sessions.specs.Branching.{checkout_name, moved_to, status, switched_to}
use Rattle.plain_sessions.specs.Moments.{Past, alone_by, moment_of, past, stepped}
use Rattle.plain_sessions.specs.Records.{Shared}
use Rattle.plain_sessions.specs.Replies.{one_row, refused}
use Rattle.plain_sessions.specs.Sessions as plain
use Rattle.plain_sessions.specs.Sessions.{Said, is_changed}
use Rattle.plain_sessions.specs.declared.commands.Command.{Command}
use Rattle.plain_sessions.specs.declared.commands.Command.TheVariants as command
use Rattle.run_laws.specs.Turns.{InOneTurn}
use Rattle.run_laws.proofs.ListLemmas.{get_put, get_put_other}
use Rattle.session_state.specs.Changes.{Parts, StateStands}
use Rattle.session_state.specs.Standing.{SessionStands}
use Rattle.session_state.specs.declared.sessions.Position.TheVariants as place
use Rattle.session_state.specs.declared.sessions.Session.{Session}
use Rattle.session_plan.specs.Showing.{is_sound_reply}
use Rattle.shared_db.specs.Stepping.{Ends, IsPlainStep, IsStepped, StepsFollow, number_of, places_after, plain_step, step_of_branch, step_of_checkout}
use Rattle.shared_db.specs.declared.changes.BranchReply.{BranchReply}
use Rattle.shared_db.specs.declared.changes.BranchReply.TheVariants as ended
use Rattle.shared_db.specs.declared.changes.BranchStep.{BranchStep}
use Rattle.shared_history.specs.Meeting.{Steps, Tells}
use Rattle.serving.specs.Branching.{Went, step_reply}
use Rattle.serving.specs.Meetings.{HoldsAfterThree, InOneMoment}
use Rattle.serving.specs.Serving.{IsBefore, MeetsOnce, turn_at}
use Rattle.serving.specs.Steps.{number_at}
use Rattle.serving.proofs.AnswerLemmas.{same_number}
use Rattle.serving.proofs.FoundLemmas.{holds_same, turned_by}
use Rattle.serving.proofs.MomentLemmas.{in_one_turn}
use Rattle.serving.proofs.StateLemmas.{stands_noted}

-- ---- what is answered

-- a step that is refused by a number is answered so
record IsRefused (row : Answer) (number : ℕ) (answer : BranchReply) : Type 0 where
  reply : step_reply row answer ≡ refused number
  short : shortage (step_reply row answer) ≡ None
  not_done : answer ≢ ended.Done

told : (row : Answer) (number : ℕ) (answer : BranchReply) → number_of answer ≡ Some number → IsRefused row number answer
told row number ended.Done is = absurd (cc)
told row number ended.NoSuch is = record { reply = ap (λ n. Refused n) (same_Some _ _ is); short = refl; not_done = λ same. absurd (cc) }
told row number ended.Exists is = record { reply = ap (λ n. Refused n) (same_Some _ _ is); short = refl; not_done = λ same. absurd (cc) }
told row number ended.Full is = record { reply = ap (λ n. Refused n) (same_Some _ _ is); short = refl; not_done = λ same. absurd (cc) }
told row number ended.CheckedOut is = record { reply = ap (λ n. Refused n) (same_Some _ _ is); short = refl; not_done = λ same. absurd (cc) }

-- ---- the step at its moment

module _ {D : Type 0} (address : List ℕ → List ℕ) (epoch : ℤ) (old session : Session D) (parts new : Parts) (number : ℕ) (taken : BranchStep) (answer : BranchReply) (row : Answer) where
  -- what is known of the session after the step
  pub record Follows (p next : plain.Session) (good : Reply) : Type 0 where
    pub row_is : Rows row ≡ good
    pub base : session.draft.chunks.base ≡ old.draft.chunks.base
    pub done : answer ≡ ended.Done → SessionStands address session next
    pub same : answer ≢ ended.Done → session ≡ old
    pub number_is : next.number ≡ p.number
    pub placed : answer ≡ ended.Done → slice_get (places_after old.number taken parts.places) p.number ≡ Some next.branch
    pub others : (at : ℕ) → at ≢ p.number → slice_get (places_after old.number taken parts.places) at ≡ slice_get parts.places at

  module _ (counted : number ≡ number_at old.position) (steps : IsStepped old.number number taken answer parts new)
      (plainly : IsPlainStep old.number (λ (shared : Shared) (p : plain.Session). plain_step shared p taken) answer parts new)
      (p : plain.Session) (shared : Shared) (before : IsBefore address old parts p shared) where
    statement_is : number ≡ p.statement
    statement_is = counted ∙ same_number old.position p.statement p.place before.session_stands.position

    moments_are : new.moments ≡ parts.moments ++ record { session = p.number; statement = p.statement } ∷ []
    moments_are =
        steps.moments ∙ ap (λ (n : ℕ). parts.moments ++ record { session = n; statement = number } ∷ []) before.session_stands.number
        ∙ ap (λ (n : ℕ). parts.moments ++ record { session = p.number; statement = n } ∷ []) statement_is

    all_there : Lists parts.chunks new.chunks
    all_there = subst (Lists parts.chunks) (sym steps.chunks) (λ k bytes listed. listed)

    module _ (asked : Command) (next : plain.Session) (good : Reply) (follows : Follows p next good) (waits : alone_by None p asked ≡ None) where
      later_on : Lists session.draft.chunks.base new.chunks
      later_on =
          subst (λ (cs : List Chunk). Lists cs new.chunks) (sym follows.base)
          (λ k bytes listed. all_there k bytes (before.later k bytes listed))

      answered_so : (left : Shared) (said : Said) → step_reply row answer ≡ said.1 → shortage (step_reply row answer) ≡ None → moment_of address epoch shared p asked ≡ Some (left, Past said)
          → InOneTurn address epoch (shortage (step_reply row answer)) p asked (turn_at p shared left) (past p.statement (said.0, step_reply row answer))
      answered_so left said is short moment =
          subst (λ (want : Option Shortage). InOneTurn address epoch want p asked (turn_at p shared left) (past p.statement (said.0, step_reply row answer))) (sym short)
          (subst (λ (reply : Reply). InOneTurn address epoch None p asked (turn_at p shared left) (past p.statement (said.0, reply))) (sym is)
          (in_one_turn address epoch None shared left p asked said before.before waits moment))

      -- it was done
      went_on : (left : Shared) → moment_of address epoch shared p asked ≡ Some (left, Past (next, good)) → answer ≡ ended.Done → StateStands address new left
          → Went address epoch p asked shared parts new session (step_reply row answer)
      went_on left moment so stands =
          let places : left.places ≡ places_after old.number taken parts.places = sym stands.places ∙ steps.places so in
          record {
            said = next;
            last = left;
            is = answered_so left (next, good) (ap (step_reply row) so ∙ follows.row_is) (ap (λ (a : BranchReply). shortage (step_reply row a)) so) moment;
            session_stands = follows.done so;
            number = follows.number_is;
            state_stands = stands;
            placed = ap (λ (all : List (List ℕ)). slice_get all p.number) places ∙ follows.placed so;
            others = λ at other. ap (λ (all : List (List ℕ)). slice_get all at) places ∙ follows.others at other ∙ ap (λ (all : List (List ℕ)). slice_get all at) before.state_stands.places;
            later = later_on;
            grown = all_there;
            moments = moments_are;
            numbers = steps.numbers;
          }

      -- it was refused
      stayed : (n : ℕ) → moment_of address epoch shared p asked ≡ Some (shared, Past (p, refused n)) → number_of answer ≡ Some n
          → Went address epoch p asked shared parts new session (step_reply row answer)
      stayed n moment is =
          let refusal = told row n answer is in
          record {
            said = p;
            last = shared;
            is = answered_so shared (p, refused n) refusal.reply refusal.short moment;
            session_stands = subst (λ (s : Session D). SessionStands address s p) (sym (follows.same refusal.not_done)) before.session_stands;
            number = refl;
            state_stands = subst (λ (q : Parts). StateStands address q shared) (sym (steps.same refusal.not_done)) (stands_noted address old.number number parts shared before.state_stands);
            placed = before.placed;
            others = λ at other. refl;
            later = later_on;
            grown = all_there;
            moments = moments_are;
            numbers = steps.numbers;
          }

      pub went_by : moment_of address epoch shared p asked ≡ Some (stepped shared p (next, good) (plain_step shared p taken))
          → Went address epoch p asked shared parts new session (step_reply row answer)
      went_by moment =
          by (plain_step shared p taken) refl (plainly address shared p before.state_stands (record { number = sym before.session_stands.number; placed = before.placed }))
        where
          by : (outcome : Outcome Shared) → plain_step shared p taken ≡ outcome → Ends address outcome answer new → Went address epoch p asked shared parts new session (step_reply row answer)
          by (Ok left) is ends = went_on left (moment ∙ ap (λ (o : Outcome Shared). Some (stepped shared p (next, good) o)) is) ends.0 ends.1
          by (Err n) is ends = stayed n (moment ∙ ap (λ (o : Outcome Shared). Some (stepped shared p (next, good) o)) is) ends

-- ---- the step over a meeting

module _ (address : List ℕ → List ℕ) (old new : Tells) (taken : BranchStep) (answer : BranchReply) (steps : Steps address taken answer old new) where
  pub stepped_moment : (Leaves : Parts → Shared → Parts → Type 0) → ((shared : Shared) → StateStands address steps.found shared → Leaves steps.found shared steps.left) → InOneMoment address Leaves old new
  stepped_moment Leaves leaves =
      record { found = steps.found; is = steps.is; left = steps.left; leaves = leaves; turned = turned_by steps.found steps.left old new steps.tells }

  pub stepped_own : (number : ℕ) → old.session ≡ number → IsStepped number old.statement taken answer steps.found steps.left
  stepped_own number is = subst (λ (n : ℕ). IsStepped n old.statement taken answer steps.found steps.left) is steps.stepped

  pub plainly_own : (number : ℕ) → old.session ≡ number → IsPlainStep number (λ (shared : Shared) (p : plain.Session). plain_step shared p taken) answer steps.found steps.left
  plainly_own number is = subst (λ (n : ℕ). IsPlainStep n (λ (shared : Shared) (p : plain.Session). plain_step shared p taken) answer steps.found steps.left) is steps.is_plain

  pub steps_holds : HoldsAfterThree old new
  steps_holds = holds_same old new (ap (λ (m : Tells). m.holds) steps.tells) (ap (λ (m : Tells). m.lost) steps.tells)

-- ---- replies

pub step_sound : (row : Answer) (good : Reply) (answer : BranchReply) → Rows row ≡ good → is_sound_reply good ≡ true → is_sound_reply (step_reply row answer) ≡ true
step_sound row good ended.Done is sound = ap is_sound_reply is ∙ sound
step_sound row good ended.NoSuch is sound = refl
step_sound row good ended.Exists is sound = refl
step_sound row good ended.Full is sound = refl
step_sound row good ended.CheckedOut is sound = refl

pub step_truly : (address : List ℕ → List ℕ) (row : Answer) (answer : BranchReply) → TellsTruly address (step_reply row answer)
step_truly address row ended.Done = tt
step_truly address row ended.NoSuch = tt
step_truly address row ended.Exists = tt
step_truly address row ended.Full = tt
step_truly address row ended.CheckedOut = tt

-- ---- DOLT_BRANCH

same_places : (number : ℕ) (request : BranchRequest) (places : List (List ℕ)) → places_after number (step_of_branch request) places ≡ places
same_places number (branch.Create made) places = refl
same_places number (branch.Delete name) places = refl

module _ {D : Type 0} (follow : StepsFollow) (address : List ℕ → List ℕ) (session : Session D) (parts new : Parts) (number : ℕ) (taken : BranchStep) (answer : BranchReply) (row : Answer)
    (request : BranchRequest) (is : taken ≡ step_of_branch request) (row_is : Rows row ≡ one_row (status ∷ [])) (counted : number ≡ number_at session.position)
    (steps : IsStepped session.number number taken answer parts new)
    (plainly : IsPlainStep session.number (λ (shared : Shared) (p : plain.Session). plain_step shared p taken) answer parts new) where
  pub branches_went : (epoch : ℤ) (p : plain.Session) (shared : Shared) → IsBefore address session parts p shared
      → Went address epoch p (command.OnBranches request) shared parts new session (step_reply row answer)
  branches_went epoch p shared before =
      let places : places_after session.number taken parts.places ≡ parts.places = ap (λ (t : BranchStep). places_after session.number t parts.places) is ∙ same_places session.number request parts.places in
      let follows : Follows address epoch session session parts new number taken answer row p p (one_row (status ∷ [])) = record {
        row_is = row_is;
        base = refl;
        done = λ so. before.session_stands;
        same = λ other. refl;
        number_is = refl;
        placed = λ so. ap (λ (all : List (List ℕ)). slice_get all p.number) (places ∙ before.state_stands.places) ∙ before.placed;
        others = λ at other. ap (λ (all : List (List ℕ)). slice_get all at) places;
      } in
      went_by address epoch session session parts new number taken answer row counted steps plainly p shared before (command.OnBranches request) p (one_row (status ∷ [])) follows refl
      (ap (λ (o : Outcome Shared). Some (stepped shared p (p, one_row (status ∷ [])) o)) (sym (follow.branches shared p request) ∙ ap (plain_step shared p) (sym is)))

-- ---- DOLT_CHECKOUT

moved_stands : {D : Type 0} (address : List ℕ → List ℕ) (session : Session D) (name : List ℕ) (p : plain.Session) → SessionStands address session p
    → SessionStands address (record session { branch = name; start = None }) (moved_to name p)
moved_stands address session name p stands = record {
  name = stands.name;
  number = stands.number;
  branch = refl;
  autocommit = stands.autocommit;
  allow = stands.allow;
  force = stands.force;
  position = stands.position;
  transaction = tt;
  named = stands.named;
  plain_own = stands.plain_own;
  committer = stands.committer;
}

-- the session that arrived, and the row that tells of it, by the name that was asked for
pub arrived_at : {D : Type 0} (old session : Session D) (name asked : List ℕ) (answer : BranchReply) → name ≡ asked → (answer ≡ ended.Done → session ≡ record old { branch = name; start = None })
    → answer ≡ ended.Done → session ≡ record old { branch = asked; start = None }
arrived_at old session name asked answer is done so = done so ∙ ap (λ (n : List ℕ). record old { branch = n; start = None }) is

pub row_at : (row : Answer) (bytes name asked : List ℕ) → Rows row ≡ switched_to bytes → bytes ≡ name → name ≡ asked → Rows row ≡ switched_to asked
row_at row bytes name asked told read is = told ∙ ap switched_to (read ∙ is)

set_places : (number : ℕ) (request : CheckoutRequest) (places : List (List ℕ)) → places_after number (step_of_checkout request) places ≡ set places number (checkout_name request)
set_places number (checkout.Existing name) places = refl
set_places number (checkout.New made) places = refl

module _ {D : Type 0} (follow : StepsFollow) (address : List ℕ → List ℕ) (old session : Session D) (parts new : Parts) (number : ℕ) (taken : BranchStep) (answer : BranchReply) (row : Answer)
    (request : CheckoutRequest) (is : taken ≡ step_of_checkout request) (row_is : Rows row ≡ switched_to (checkout_name request)) (counted : number ≡ number_at old.position)
    (steps : IsStepped old.number number taken answer parts new)
    (plainly : IsPlainStep old.number (λ (shared : Shared) (p : plain.Session). plain_step shared p taken) answer parts new)
    (done : answer ≡ ended.Done → session ≡ record old { branch = checkout_name request; start = None }) (same : answer ≢ ended.Done → session ≡ old)
    (base : session.draft.chunks.base ≡ old.draft.chunks.base) where
  pub checkout_went : (epoch : ℤ) (p : plain.Session) (shared : Shared) → IsBefore address old parts p shared → is_changed p ≡ false
      → Went address epoch p (command.Checkout request) shared parts new session (step_reply row answer)
  checkout_went epoch p shared before unchanged =
      let name = checkout_name request in
      let places : places_after old.number taken parts.places ≡ set parts.places p.number name =
      ap (λ (t : BranchStep). places_after old.number t parts.places) is ∙ set_places old.number request parts.places
      ∙ ap (λ (n : ℕ). set parts.places n name) before.session_stands.number in
      let there : slice_get parts.places p.number ≡ Some p.branch = ap (λ (all : List (List ℕ)). slice_get all p.number) before.state_stands.places ∙ before.placed in
      let follows : Follows address epoch old session parts new number taken answer row p (moved_to name p) (switched_to name) = record {
        row_is = row_is;
        base = base;
        done = λ so. subst (λ (s : Session D). SessionStands address s (moved_to name p)) (sym (done so)) (moved_stands address old name p before.session_stands);
        same = same;
        number_is = refl;
        placed = λ so. ap (λ (all : List (List ℕ)). slice_get all p.number) places ∙ get_put parts.places p.number p.branch name there;
        others = λ at other. ap (λ (all : List (List ℕ)). slice_get all at) places ∙ get_put_other parts.places p.number at name other;
      } in
      went_by address epoch old session parts new number taken answer row counted steps plainly p shared before (command.Checkout request) (moved_to name p) (switched_to name) follows
      (ap (λ (test : Bool). if test then Some (p, refused 9006) else None) unchanged)
      (ap (λ (o : Outcome Shared). Some (stepped shared p (moved_to name p, switched_to name) o)) (sym (follow.checkouts shared p request) ∙ ap (plain_step shared p) (sym is)))

-- ---- to the next statement

-- before its next statement the session stands on the branch that it is on then
pub next_stands : {D : Type 0} (address : List ℕ → List ℕ) (session : Session D) (number : ℕ) (new : Parts) (said : plain.Session) (reply : Reply) (p : plain.Session) (last : Shared)
    → number ≡ p.statement → SessionStands address session said → StateStands address new last → slice_get last.places said.number ≡ Some said.branch → Lists session.draft.chunks.base new.chunks
    → IsBefore address (record session { position = place.Before (number + 1) }) new (past p.statement (said, reply)).0 last
next_stands address session number new said reply p last statement stands state placed later = record {
  session_stands = record {
    name = stands.name;
    number = stands.number;
    branch = stands.branch;
    autocommit = stands.autocommit;
    allow = stands.allow;
    force = stands.force;
    position = (ap (λ n. n + 1) statement, refl);
    transaction = stands.transaction;
    named = stands.named;
    plain_own = stands.plain_own;
    committer = stands.committer;
  };
  before = refl;
  state_stands = state;
  placed = placed;
  later = later;
}

pub gone_on : {D : Type 0} (address : List ℕ → List ℕ) (epoch : ℤ) (old session gone : Session D) (number : ℕ) (parts new : Parts) (asked : Command) (reply : Reply)
    → number ≡ number_at old.position → gone ≡ record session { position = place.Before (number + 1) } → (p : plain.Session) (shared : Shared) → IsBefore address old parts p shared
    → Went address epoch p asked shared parts new session reply → MeetsOnce address epoch p asked shared parts new gone reply
gone_on {D = D} address epoch old session gone number parts new asked reply counted is p shared before w =
    let statement : number ≡ p.statement = counted ∙ same_number old.position p.statement p.place before.session_stands.position in
    let placed : slice_get w.last.places w.said.number ≡ Some w.said.branch = ap (slice_get w.last.places) w.number ∙ w.placed in
    subst (λ (s : Session D). MeetsOnce address epoch p asked shared parts new s reply) (sym is) (record {
      after = (past p.statement (w.said, reply)).0;
      left = w.last;
      is = w.is;
      next = next_stands address session number new w.said reply p w.last statement w.session_stands w.state_stands placed w.later;
      number = w.number;
      passes = record { moments = w.moments; numbers = w.numbers; others = w.others; grown = w.grown };
    })
