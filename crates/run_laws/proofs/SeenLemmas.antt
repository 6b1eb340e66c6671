-- What the machine has of a session that follows a given order.
use Rattle.std.proofs.Common.{◌≡◌, ◌≢◌, refl, sym, ◌∙◌, ap, ℕ, ℤ, zero, suc, ◌+◌, true, false, not, List, [], ◌∷◌, ◌++◌, Option, Some, None, slice_get, slice_set, arith, if◌then◌else◌}
use Rattle.std.specs.Prelude.{is_some}
use Rattle.std.specs.Option.{option_and_then, option_map, option_map_or}
use Rattle.script_text.specs.Output.{Shortage, AtOnce, AfterStart, Clashes}
use Rattle.script_text.specs.declared.replies.Reply.{Reply}
use Rattle.plain_sessions.specs.Records.{Shared}
use Rattle.plain_sessions.specs.Sessions.{Place, Before, Between, Closing, Said, Session, Transaction, is_before_statement}
use Rattle.plain_sessions.specs.declared.commands.Command.{Command}
use Rattle.plain_sessions.specs.declared.commands.Command.TheVariants.{Data}
use Rattle.plain_sessions.specs.declared.commands.Work.{Work}
use Rattle.plain_sessions.specs.Moments.{Past, alone, alone_by, if_answered, moment_at, moment_in, past, past_moment}
use Rattle.plain_sessions.specs.Statements.{worked}
use Rattle.plain_sessions.specs.Runs.{Runner, Shortages, advance, awaiting, went_on}
use Rattle.run_laws.specs.Replaying.{pending_by, reply_of, seen, seen_all, seen_at}

-- ---- all sessions, and one of them

pub seen_found : (answers : Shortages) (place i : ℕ) (runners : List Runner) (runner : Runner) → slice_get runners i ≡ Some runner
    → slice_get (seen_all answers place runners) i ≡ Some (seen (answers (place + i)) runner)
seen_found answers place i [] runner h = cc
seen_found answers place zero (first ∷ runners) runner h =
    let same : first ≡ runner = cc in
    let here : place ≡ place + 0 = omega arith in
    ap (λ (r : Runner). Some (seen (answers place) r)) same ∙ ap (λ n. Some (seen (answers n) runner)) here
seen_found answers place (suc i) (first ∷ runners) runner h =
    let e : place + 1 + i ≡ place + suc i = omega arith in
    seen_found answers (place + 1) i runners runner h ∙ ap (λ n. Some (seen (answers n) runner)) e

pub seen_put : (answers : Shortages) (place i : ℕ) (runners : List Runner) (next : Runner)
    → slice_set (seen_all answers place runners) i (seen (answers (place + i)) next) ≡ seen_all answers place (slice_set runners i next)
seen_put answers place i [] next = refl
seen_put answers place zero (first ∷ runners) next =
    let here : place + 0 ≡ place = omega arith in
    ap (λ n. seen (answers n) next ∷ seen_all answers (place + 1) runners) here
seen_put answers place (suc i) (first ∷ runners) next =
    let e : place + suc i ≡ place + 1 + i = omega arith in
    ap (λ n. seen (answers place) first ∷ slice_set (seen_all answers (place + 1) runners) i (seen (answers n) next)) e
    ∙ ap (λ more. seen (answers place) first ∷ more) (seen_put answers (place + 1) i runners next)

-- ---- one session

pub seen_before : (answers : ℕ → Option Shortage) (session : Session) (replies : List Reply) (todo : List Command) → is_before_statement session.place ≡ true
    → seen answers (record { session = session; replies = replies; todo = todo }) ≡ advance answers todo replies session
seen_before answers session replies todo before = ap (λ test. seen_at answers session replies test todo) before

pub seen_pending : (answers : ℕ → Option Shortage) (session : Session) (replies : List Reply) (command : Command) (todo : List Command) → is_before_statement session.place ≡ false
    → seen answers (record { session = session; replies = replies; todo = command ∷ todo }) ≡ pending_by answers session replies command todo (answers session.statement)
seen_pending answers session replies command todo between = ap (λ test. seen_at answers session replies test (command ∷ todo)) between

-- a statement without a moment leaves the machine's view as it is
pub local_seen : (answers : ℕ → Option Shortage) (session : Session) (replies : List Reply) (command : Command) (todo : List Command) (said : Said)
    → is_before_statement session.place ≡ true → is_before_statement said.0.place ≡ true → alone (answers session.statement) session command ≡ Some said
    → seen answers (record { session = session; replies = replies; todo = command ∷ todo })
    ≡ seen answers (record { session = said.0; replies = replies ++ said.1 ∷ []; todo = todo })
local_seen answers session replies command todo said before after is =
    seen_before answers session replies (command ∷ todo) before
    ∙ ap (λ (answer : Option Said). option_map_or (λ (s : Said). advance answers todo (replies ++ s.1 ∷ []) s.0)
    answer (record { session = session; replies = replies; todo = command ∷ todo })) is
    ∙ sym (seen_before answers said.0 (replies ++ said.1 ∷ []) todo after)

-- a session that waits for its moment
pub waiting_seen : (answers : ℕ → Option Shortage) (session : Session) (replies : List Reply) (command : Command) (todo : List Command)
    → is_before_statement session.place ≡ true → alone (answers session.statement) session command ≡ None
    → seen answers (record { session = session; replies = replies; todo = command ∷ todo }) ≡ record { session = session; replies = replies; todo = command ∷ todo }
waiting_seen answers session replies command todo before none =
    seen_before answers session replies (command ∷ todo) before
    ∙ ap (λ (answer : Option Said). option_map_or (λ (s : Said). advance answers todo (replies ++ s.1 ∷ []) s.0)
    answer (record { session = session; replies = replies; todo = command ∷ todo })) none

-- ---- starts of database statements

place_is : (place : Place) → is_before_statement place ≡ true → place ≡ Before
place_is Before h = refl
place_is (Between reply) h = absurd (cc)
place_is Closing h = absurd (cc)

by_answer : (session : Session) (work : Work) → session.transaction ≡ None → (answer : Option Shortage) → answer ≢ Some AtOnce → alone_by answer session (Data work) ≡ None
by_answer session work none None other = ap (option_and_then (λ t. if_answered session t (worked session t work))) none
by_answer session work none (Some AtOnce) other = absurd (other refl)
by_answer session work none (Some AfterStart) other = refl
by_answer session work none (Some (Clashes clash)) other = ap (λ (t : Option Transaction). if not (is_some t) then None else Some (session, reply_of (Clashes clash))) none

-- whatever it will be answered, if not 1, it waits for its start
pub start_waits : (session : Session) (work : Work) → session.transaction ≡ None → (answer : Option Shortage) → answer ≢ Some AtOnce → alone answer session (Data work) ≡ None
start_waits session work none answer other =
    elim (is_before_statement session.place) as (λ test. option_map (past session.statement) (if test then alone_by answer session (Data work) else None) ≡ None) [
      | true ↦ ap (option_map (past session.statement)) (by_answer session work none answer other)
      | false ↦ refl
    ]

-- where it will be answered 2 or 3, the start is all
pub start_short : (address : List ℕ → List ℕ) (epoch : ℤ) (shared : Shared) (session : Session) (work : Work) (short : Shortage) → session.transaction ≡ None → is_before_statement session.place ≡ true → short ≢ AtOnce
    → moment_at address epoch (Some short) shared session (Data work) ≡ Some (shared, Past (past session.statement (session, reply_of short)))
start_short address epoch shared session work AtOnce none before other = absurd (other refl)
start_short address epoch shared session work AfterStart none before other =
    ap (λ place. option_map (past_moment session.statement) (moment_in address epoch (Some AfterStart) shared session (Data work) place)) (place_is session.place before)
    ∙ ap (λ (t : Option Transaction). option_map (past_moment session.statement) (if not (is_some t) then Some (shared, Past (session, reply_of AfterStart)) else None)) none
start_short address epoch shared session work (Clashes clash) none before other =
    ap (λ place. option_map (past_moment session.statement) (moment_in address epoch (Some (Clashes clash)) shared session (Data work) place)) (place_is session.place before)
    ∙ ap (λ (t : Option Transaction). option_map (past_moment session.statement) (if not (is_some t) then Some (shared, Past (session, reply_of (Clashes clash))) else None)) none

-- a start whose decision is to come, by what the statement will be answered
pub started_seen : (answers : ℕ → Option Shortage) (session : Session) (replies : List Reply) (command : Command) (todo : List Command) (transaction : Transaction) (place : Place)
    → session.transaction ≡ None → is_before_statement place ≡ false → (short : Shortage) → answers session.statement ≡ Some short
    → went_on answers session command todo replies (Past (past session.statement (session, reply_of short)))
    ≡ seen answers (record { session = awaiting session transaction place; replies = replies; todo = command ∷ todo })
started_seen answers session replies command todo transaction place none between short is =
    ap (λ (t : Option Transaction). advance answers todo (replies ++ reply_of short ∷ []) (record session { transaction = t; statement = session.statement + 1; place = Before })) none
    ∙ ap (pending_by answers (awaiting session transaction place) replies command todo) (sym is)
    ∙ sym (seen_pending answers (awaiting session transaction place) replies command todo between)
