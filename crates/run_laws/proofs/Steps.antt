-- One step of the machine, and what a session says to its statement.
use Rattle.std.proofs.Common.{◌≡◌, sym, ◌∙◌, ap, ℕ, ℤ, Bool, true, false, ◌==◌, ◌&&◌, List, [], ◌∷◌, Option, Some, None, slice_get, slice_set, arith, if◌then◌else◌}
use Rattle.std.specs.Option.{option_map, option_and_then}
use Rattle.std.specs.Prelude.{is_none}
use Rattle.std.proofs.lemmas.Bool.{and_from}
use Rattle.std.proofs.lemmas.Bool.Decides.{nat_tests}
use Rattle.tuple_codec.proofs.Truths.{if_true}
use Rattle.script_text.specs.Output.{Shortage}
use Rattle.script_text.specs.declared.replies.Reply.{Reply}
use Rattle.script_text.specs.declared.scripts.Moment.{Moment}
use Rattle.plain_sessions.specs.Records.{Shared}
use Rattle.plain_sessions.specs.Sessions.{Said, Session, is_before_statement}
use Rattle.plain_sessions.specs.declared.commands.Command.{Command}
use Rattle.plain_sessions.specs.Moments.{After, Past, Still, alone, alone_by, moment_at, moment_in, past, past_moment}
use Rattle.plain_sessions.specs.Runs.{Runner, Shortages, needs_moment, put_runner, step, step_of, went_on}
use Rattle.run_laws.specs.Turns.{Turn, IsPast, ServedIn}

-- a runner that waits, at the moment of its statement
pub step_of_waiting : (address : List ℕ → List ℕ) (epoch : ℤ) (answers : ℕ → Option Shortage) (number : ℕ) (shared : Shared) (session : Session) (replies : List Reply) (command : Command) (todo : List Command) (after : Shared × After)
    → session.statement ≡ number → alone (answers session.statement) session command ≡ None
    → moment_at address epoch (answers session.statement) shared session command ≡ Some after
    → step_of address epoch answers number shared session replies (command ∷ todo) ≡ Some (after.0, went_on answers session command todo replies after.1)
step_of_waiting address epoch answers number shared session replies command todo after same waits went =
    let here : (session.statement == number) ≡ true = grind (arith, nat_tests) in
    if_true (session.statement == number && needs_moment (answers session.statement) session command)
    (option_map (λ (made : Shared × After). (made.0, went_on answers session command todo replies made.1)) (moment_at address epoch (answers session.statement) shared session command))
    None (and_from (session.statement == number) (needs_moment (answers session.statement) session command) here (ap (λ (said : Option Said). is_none said) waits))
    ∙ ap (option_map (λ (made : Shared × After). (made.0, went_on answers session command todo replies made.1))) went

pub step_here : (address : List ℕ → List ℕ) (epoch : ℤ) (answers : Shortages) (moment : Moment) (shared : Shared) (runners : List Runner) (session : Session) (replies : List Reply) (command : Command) (todo : List Command) (after : Shared × After)
    → slice_get runners moment.session ≡ Some (record { session = session; replies = replies; todo = command ∷ todo }) → session.statement ≡ moment.statement
    → alone (answers moment.session session.statement) session command ≡ None
    → moment_at address epoch (answers moment.session session.statement) shared session command ≡ Some after
    → step address epoch answers moment (record { shared = shared; runners = runners })
    ≡ Some (record { shared = after.0; runners = slice_set runners moment.session (went_on (answers moment.session) session command todo replies after.1) })
step_here address epoch answers moment shared runners session replies command todo after there same waits went =
    ap (option_and_then (λ (runner : Runner). option_map (put_runner moment.session runners)
    (step_of address epoch (answers moment.session) moment.statement shared runner.session runner.replies runner.todo))) there
    ∙ ap (option_map (put_runner moment.session runners))
    (step_of_waiting address epoch (answers moment.session) moment.statement shared session replies command todo after same waits went)

-- a session that stands behind a statement's start isn't answered without its decision
pub behind_waits : (answer : Option Shortage) (session : Session) (command : Command) → is_before_statement session.place ≡ false → alone answer session command ≡ None
behind_waits answer session command behind = ap (λ (test : Bool). option_map (past session.statement) (if test then alone_by answer session command else None)) behind

-- ---- the number goes up by one

past_alone : (number : ℕ) (found : Option Said) (said : Said) → option_map (past number) found ≡ Some said → IsPast number said.0
past_alone number None said h = absurd (cc)
past_alone number (Some before) said h =
    let same : past number before ≡ said = cc in
    (ap (λ (s : Said). s.0.statement) (sym same), ap (λ (s : Said). is_before_statement s.0.place) (sym same))

-- what is said at the end of a moment
abbrev said_in : Said → Option (Shared × After) → Said
said_in other None = other
said_in other (Some (shared, Past said)) = said
said_in other (Some (shared, Still transaction place)) = other

abbrev is_answered : Option (Shared × After) → Bool
is_answered None = false
is_answered (Some (shared, Past said)) = true
is_answered (Some (shared, Still transaction place)) = false

past_after : (number : ℕ) (found : Option (Shared × After)) (left : Shared) (said : Said) → option_map (past_moment number) found ≡ Some (left, Past said) → IsPast number said.0
past_after number None left said h = absurd (cc)
past_after number (Some (shared, Past before)) left said h =
    let same : past number before ≡ said = ap (said_in said) h in
    (ap (λ (s : Said). s.0.statement) (sym same), ap (λ (s : Said). is_before_statement s.0.place) (sym same))
past_after number (Some (shared, Still transaction place)) left said h = let apart : false ≡ true = ap is_answered h in absurd (cc)

pub alone_past : (answer : Option Shortage) (session : Session) (command : Command) (said : Said) → alone answer session command ≡ Some said → IsPast session.statement said.0
alone_past answer session command said is = past_alone session.statement (if is_before_statement session.place then alone_by answer session command else None) said is

pub moment_past : (address : List ℕ → List ℕ) (epoch : ℤ) (answer : Option Shortage) (shared : Shared) (session : Session) (command : Command) (left : Shared) (said : Said)
    → moment_at address epoch answer shared session command ≡ Some (left, Past said) → IsPast session.statement said.0
moment_past address epoch answer shared session command left said is = past_after session.statement (moment_in address epoch answer shared session command session.place) left said is

pub served_number : (address : List ℕ → List ℕ) (epoch : ℤ) (answer : Option Shortage) (session : Session) (command : Command) (turns : List Turn) (said : Said)
    → ServedIn address epoch answer session command turns said → IsPast session.statement said.0
served_number address epoch answer session command [] said served =
    past_alone session.statement (if is_before_statement session.place then alone_by answer session command else None) said served
served_number address epoch answer session command (turn ∷ []) said served =
    past_after session.statement (moment_in address epoch answer turn.found session command session.place) turn.left said served.answered
served_number address epoch answer session command (start ∷ decision ∷ []) said served =
    past_after session.statement (moment_in address epoch answer decision.found (record session { place = served.place; transaction = Some served.transaction }) command served.place) decision.left said served.answered
served_number address epoch answer session command (one ∷ two ∷ three ∷ turns) said served = absurd served
