-- One session on its way: what the machine has of it before a statement without a moment, before a moment and behind it.
use Rattle.std.proofs.Common.{◌≡◌, ◌≢◌, refl, sym, ◌∙◌, ap, subst, ℕ, ℤ, ◌+◌, ◌<◌, true, false, List, [], ◌∷◌, ◌++◌, length, Option, Some, None, slice_get, arith}
use Rattle.std.specs.Option.{option_and_then}
use Rattle.std.proofs.lemmas.List.{length_push}
use Rattle.script_text.specs.Output.{Shortage, AtOnce, AfterStart, Clashes, shortage}
use Rattle.script_text.specs.declared.replies.Reply.{Reply}
use Rattle.plain_sessions.specs.Records.{Shared}
use Rattle.plain_sessions.specs.Sessions.{Place, Said, Session, Transaction, is_before_statement}
use Rattle.plain_sessions.specs.declared.commands.Command.{Command}
use Rattle.plain_sessions.specs.declared.commands.Command.TheVariants.{Data}
use Rattle.plain_sessions.specs.declared.commands.Work.{Work}
use Rattle.plain_sessions.specs.Moments.{After, Past, Still, alone, moment_at, past}
use Rattle.plain_sessions.specs.Runs.{Runner, awaiting, went_on}
use Rattle.run_laws.specs.Replaying.{AgreesWith, dropped, pending_by, reply_of, seen}
use Rattle.run_laws.proofs.ListLemmas.{get_behind, get_front}
use Rattle.run_laws.proofs.SeenLemmas.{local_seen, seen_before, seen_pending, start_short, start_waits, started_seen, waiting_seen}
use Rattle.run_laws.proofs.Steps.{alone_past, moment_past}

-- ---- who agrees with more replies agrees with fewer

told_before : (answers : ℕ → Option Shortage) (session : Session) (replies : List Reply) (reply : Reply) (todo : List Command)
    → AgreesWith answers (record { session = session; replies = replies ++ reply ∷ []; todo = todo }) → (at : ℕ) → at < length replies → answers (at + 1) ≡ option_and_then shortage (slice_get replies at)
told_before answers session replies reply todo agrees at below =
    let more : at < length (replies ++ reply ∷ []) = omega (arith, length_push replies reply) in
    agrees.told at more ∙ ap (option_and_then shortage) (get_front replies (reply ∷ []) at below)

told_last : (answers : ℕ → Option Shortage) (session : Session) (replies : List Reply) (reply : Reply) (todo : List Command)
    → AgreesWith answers (record { session = session; replies = replies ++ reply ∷ []; todo = todo }) → answers (length replies + 1) ≡ shortage reply
told_last answers session replies reply todo agrees =
    let less : length replies < length (replies ++ reply ∷ []) = omega (arith, length_push replies reply) in
    agrees.told (length replies) less ∙ ap (option_and_then shortage) (get_behind replies reply)

pub known : (answers : ℕ → Option Shortage) (session later : Session) (replies : List Reply) (reply : Reply) (todo : List Command) → session.statement ≡ length replies + 1
    → AgreesWith answers (record { session = later; replies = replies ++ reply ∷ []; todo = todo }) → answers session.statement ≡ shortage reply
known answers session later replies reply todo number agrees = ap answers number ∙ told_last answers later replies reply todo agrees

-- before a statement nothing is started
pub agrees_unstarted : (answers : ℕ → Option Shortage) (session later : Session) (replies : List Reply) (reply : Reply) (command : Command) (todo : List Command) → is_before_statement session.place ≡ true
    → AgreesWith answers (record { session = later; replies = replies ++ reply ∷ []; todo = todo }) → AgreesWith answers (record { session = session; replies = replies; todo = command ∷ todo })
agrees_unstarted answers session later replies reply command todo before agrees = record {
  told = told_before answers later replies reply todo agrees;
  started = λ between. let apart : false ≡ true = sym between ∙ before in absurd (cc);
}

-- behind a start the answer is known by the reply
pub agrees_started : (answers : ℕ → Option Shortage) (session later : Session) (replies : List Reply) (reply : Reply) (command : Command) (todo : List Command) → session.statement ≡ length replies + 1 → shortage reply ≢ Some AtOnce
    → AgreesWith answers (record { session = later; replies = replies ++ reply ∷ []; todo = todo }) → AgreesWith answers (record { session = session; replies = replies; todo = command ∷ todo })
agrees_started answers session later replies reply command todo number other agrees = record {
  told = told_before answers later replies reply todo agrees;
  started = λ between at_once. other (sym (known answers session later replies reply todo number agrees) ∙ at_once);
}

-- a reply tells the shortage that it was made of
pub told_short : (short : Shortage) → shortage (reply_of short) ≡ Some short
told_short AtOnce = refl
told_short AfterStart = refl
told_short (Clashes clash) = refl

pub only_at_once : (short : Shortage) → shortage (reply_of short) ≡ Some AtOnce → short ≡ AtOnce
only_at_once AtOnce h = refl
only_at_once AfterStart h = absurd (cc)
only_at_once (Clashes clash) h = absurd (cc)

-- ---- what the machine has of the session

-- at the moment, which leaves this state, the machine comes to what it has of the session behind it
abbrev pub Comes : (List ℕ → List ℕ) → ℤ → (ℕ → Option Shortage) → Shared → Session → List Reply → Command → List Command → Shared → Runner → Type 0
Comes address epoch answers shared session replies command todo left next =
    (after : After) × (moment_at address epoch (answers session.statement) shared session command ≡ Some (left, after)) × (went_on answers session command todo replies after ≡ seen answers next)

module _ (answers : ℕ → Option Shortage) (session : Session) (replies : List Reply) (command : Command) (todo : List Command) where
  pub local_stays : (said : Said) → session.statement ≡ length replies + 1 → is_before_statement session.place ≡ true → alone (shortage said.1) session command ≡ Some said
      → AgreesWith answers (record { session = said.0; replies = replies ++ said.1 ∷ []; todo = todo })
      → seen answers (record { session = session; replies = replies; todo = command ∷ todo }) ≡ seen answers (record { session = said.0; replies = replies ++ said.1 ∷ []; todo = todo })
  local_stays said number before is agrees =
      local_seen answers session replies command todo said before (alone_past (shortage said.1) session command said is).1
      (subst (λ answer. alone answer session command ≡ Some said) (sym (known answers session said.0 replies said.1 todo number agrees)) is)

  pub dropped_back : (short : Shortage) → session.statement ≡ length replies + 1 → short ≢ AtOnce
      → AgreesWith answers (record { session = dropped session; replies = replies ++ reply_of short ∷ []; todo = todo })
      → AgreesWith answers (record { session = session; replies = replies; todo = command ∷ todo })
  dropped_back short number other agrees =
      agrees_started answers session (dropped session) replies (reply_of short) command todo number (λ at_once. other (only_at_once short at_once)) agrees

  pub dropped_stays : (short : Shortage) → session.statement ≡ length replies + 1 → is_before_statement session.place ≡ false
      → AgreesWith answers (record { session = dropped session; replies = replies ++ reply_of short ∷ []; todo = todo })
      → seen answers (record { session = session; replies = replies; todo = command ∷ todo }) ≡ seen answers (record { session = dropped session; replies = replies ++ reply_of short ∷ []; todo = todo })
  dropped_stays short number between agrees =
      seen_pending answers session replies command todo between
      ∙ ap (pending_by answers session replies command todo) (known answers session (dropped session) replies (reply_of short) todo number agrees ∙ told_short short)

  pub moment_needed : (said : Said) → session.statement ≡ length replies + 1 → alone (shortage said.1) session command ≡ None
      → AgreesWith answers (record { session = said.0; replies = replies ++ said.1 ∷ []; todo = todo })
      → alone (answers session.statement) session command ≡ None
  moment_needed said number waits agrees =
      subst (λ answer. alone answer session command ≡ None) (sym (known answers session said.0 replies said.1 todo number agrees)) waits

  pub moment_waits : (said : Said) → session.statement ≡ length replies + 1 → is_before_statement session.place ≡ true → alone (shortage said.1) session command ≡ None
      → AgreesWith answers (record { session = said.0; replies = replies ++ said.1 ∷ []; todo = todo })
      → seen answers (record { session = session; replies = replies; todo = command ∷ todo }) ≡ record { session = session; replies = replies; todo = command ∷ todo }
  moment_waits said number before waits agrees =
      waiting_seen answers session replies command todo before (moment_needed said number waits agrees)

  pub moment_comes : (address : List ℕ → List ℕ) (epoch : ℤ) (shared left : Shared) (said : Said) → session.statement ≡ length replies + 1
      → moment_at address epoch (shortage said.1) shared session command ≡ Some (left, Past said)
      → AgreesWith answers (record { session = said.0; replies = replies ++ said.1 ∷ []; todo = todo })
      → Comes address epoch answers shared session replies command todo left (record { session = said.0; replies = replies ++ said.1 ∷ []; todo = todo })
  moment_comes address epoch shared left said number is agrees = (
    Past said,
    subst (λ answer. moment_at address epoch answer shared session command ≡ Some (left, Past said)) (sym (known answers session said.0 replies said.1 todo number agrees)) is,
    sym (seen_before answers said.0 (replies ++ said.1 ∷ []) todo (moment_past address epoch (shortage said.1) shared session command left said is).1),
  )

  pub decision_back : (said : Said) → session.statement ≡ length replies + 1 → shortage said.1 ≡ None
      → AgreesWith answers (record { session = said.0; replies = replies ++ said.1 ∷ []; todo = todo })
      → AgreesWith answers (record { session = session; replies = replies; todo = command ∷ todo })
  decision_back said number well agrees =
      agrees_started answers session said.0 replies said.1 command todo number (λ at_once. let apart : ◌≡◌ {A = Option Shortage} None (Some AtOnce) = sym well ∙ at_once in absurd (cc)) agrees

  pub decision_waits : (said : Said) → session.statement ≡ length replies + 1 → is_before_statement session.place ≡ false → shortage said.1 ≡ None
      → AgreesWith answers (record { session = said.0; replies = replies ++ said.1 ∷ []; todo = todo })
      → seen answers (record { session = session; replies = replies; todo = command ∷ todo }) ≡ record { session = session; replies = replies; todo = command ∷ todo }
  decision_waits said number between well agrees =
      seen_pending answers session replies command todo between
      ∙ ap (pending_by answers session replies command todo) (known answers session said.0 replies said.1 todo number agrees ∙ well)

-- the start of a database statement whose decision is to come
module _ (answers : ℕ → Option Shortage) (session : Session) (replies : List Reply) (work : Work) (todo : List Command) (transaction : Transaction) (place : Place) where
  pub start_back : is_before_statement session.place ≡ true → AgreesWith answers (record { session = awaiting session transaction place; replies = replies; todo = Data work ∷ todo })
      → AgreesWith answers (record { session = session; replies = replies; todo = Data work ∷ todo })
  start_back before agrees = record { told = agrees.told; started = λ other. let apart : true ≡ false = sym before ∙ other in absurd (cc) }

  pub start_needed : session.transaction ≡ None → is_before_statement place ≡ false
      → AgreesWith answers (record { session = awaiting session transaction place; replies = replies; todo = Data work ∷ todo })
      → alone (answers session.statement) session (Data work) ≡ None
  start_needed none between agrees = start_waits session work none (answers session.statement) (agrees.started between)

  pub start_is_waited : is_before_statement session.place ≡ true → session.transaction ≡ None → is_before_statement place ≡ false
      → AgreesWith answers (record { session = awaiting session transaction place; replies = replies; todo = Data work ∷ todo })
      → seen answers (record { session = session; replies = replies; todo = Data work ∷ todo }) ≡ record { session = session; replies = replies; todo = Data work ∷ todo }
  start_is_waited before none between agrees =
      waiting_seen answers session replies (Data work) todo before (start_needed none between agrees)

  pub start_comes : (address : List ℕ → List ℕ) (epoch : ℤ) (shared : Shared) → is_before_statement session.place ≡ true → session.transaction ≡ None
      → moment_at address epoch None shared session (Data work) ≡ Some (shared, Still transaction place) → is_before_statement place ≡ false
      → AgreesWith answers (record { session = awaiting session transaction place; replies = replies; todo = Data work ∷ todo })
      → Comes address epoch answers shared session replies (Data work) todo shared (record { session = awaiting session transaction place; replies = replies; todo = Data work ∷ todo })
  start_comes address epoch shared before none is between agrees =
      let next : Runner = record { session = awaiting session transaction place; replies = replies; todo = Data work ∷ todo } in
      elim (answers session.statement) as (λ answer. answers session.statement ≡ answer → Comes address epoch answers shared session replies (Data work) todo shared next) [
        | None ↦ λ known_as. (
          Still transaction place,
          ap (λ answer. moment_at address epoch answer shared session (Data work)) known_as ∙ is,
          ap (pending_by answers (awaiting session transaction place) replies (Data work) todo) (sym known_as) ∙ sym (seen_pending answers (awaiting session transaction place) replies (Data work) todo between),
        )
        | Some short ↦ λ known_as. (
          Past (past session.statement (session, reply_of short)),
          ap (λ answer. moment_at address epoch answer shared session (Data work)) known_as
              ∙ start_short address epoch shared session work short none before (λ at_once. agrees.started between (known_as ∙ ap (λ (s : Shortage). Some s) at_once)),
          started_seen answers session replies (Data work) todo transaction place none between short known_as,
        )
      ] refl
