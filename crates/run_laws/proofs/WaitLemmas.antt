-- A decision that is still to come stands behind its start.
use Rattle.std.proofs.Common.{◌≡◌, refl, sym, ◌∙◌, ap, ℕ, ℤ, Bool, true, false, not, List, [], ◌∷◌, Option, Some, None, Ok, Err, if◌then◌else◌}
use Rattle.std.specs.Prelude.{Result}
use Rattle.std.specs.Option.{option_map, option_and_then}
use Rattle.script_text.specs.Output.{Shortage, AtOnce, AfterStart, Clashes}
use Rattle.script_text.specs.declared.replies.Reply.{Reply}
use Rattle.script_text.specs.declared.replies.Reply.TheVariants as print
use Rattle.plain_sessions.specs.Merging.{Worked, Answers, Closes}
use Rattle.plain_sessions.specs.Records.{BranchState, Shared, state_of}
use Rattle.plain_sessions.specs.Sessions.{Place, Before, Between, Closing, Said, Session, Transaction, is_before_statement, is_changed, is_changed_since, over, taken, with_own, with_variable, within}
use Rattle.plain_sessions.specs.Statements.{worked}
use Rattle.plain_sessions.specs.Branching.{branch_step, checkout_name, checkout_step, moved_to, status, switched_to}
use Rattle.plain_sessions.specs.Replies.{done, one_row, refused}
use Rattle.plain_sessions.specs.declared.commands.Command.{Command}
use Rattle.plain_sessions.specs.declared.commands.Command.TheVariants.{Faulty, Begin, CommitAll, Rollback, Switch, Say, Data, OnBranches, Checkout}
use Rattle.plain_sessions.specs.declared.commands.Work.{Work}
use Rattle.plain_sessions.specs.Moments.{After, Past, Still, Change, answered, begin, begun, begun_after, changed_by, closed, closing_of, decided, decided_closing, if_closing, is_in_transaction, moment_at, moment_by, moment_in, moment_of, past_moment, ruled, settled, start_of, start_only, started, stepped, takes_start, with_both}

abbrev is_behind : Option (Shared × After) → Bool
is_behind None = true
is_behind (Some (shared, Past said)) = true
is_behind (Some (shared, Still transaction place)) = not (is_before_statement place)

-- ---- what ends a statement

ended : (found : Option Shared) (said : Said) → is_behind (option_map (λ (left : Shared). (left, Past said)) found) ≡ true
ended None said = refl
ended (Some left) said = refl

after_settling : (address : List ℕ → List ℕ) (shared : Shared) (session next : Session) (change : Result Change ℕ) → is_behind (settled address shared session next change) ≡ true
after_settling address shared session next (Ok change) = ended (changed_by address shared session change) (next, change.reply)
after_settling address shared session next (Err number) = refl

after_both : (f : Transaction → BranchState → Option (Shared × After)) → ((t : Transaction) (present : BranchState) → is_behind (f t present) ≡ true) → (shared : Shared) (session : Session)
    → is_behind (with_both f shared session) ≡ true
after_both f each shared session =
    elim session.transaction as (λ found. is_behind (option_and_then (λ (t : Transaction). option_and_then (f t) (state_of shared.branches session.branch)) found) ≡ true) [
      | None ↦ refl
      | Some t ↦ elim (state_of shared.branches session.branch) as (λ there. is_behind (option_and_then (f t) there) ≡ true) [
        | None ↦ refl
        | Some present ↦ each t present
      ]
    ]

after_deciding : (address : List ℕ → List ℕ) (next : Session) (reply : Reply) (shared : Shared) (session : Session) → is_behind (decided address next reply shared session) ≡ true
after_deciding address next reply shared session =
    after_both (λ t present. settled address shared session next (ruled session t present reply)) (λ t present. after_settling address shared session next (ruled session t present reply)) shared session

after_closing : (address : List ℕ → List ℕ) (epoch : ℤ) (shared : Shared) (session : Session) (t : Transaction) (present : BranchState) (outcome : Result Worked ℕ)
    → is_behind (if_closing address epoch shared session t present outcome) ≡ true
after_closing address epoch shared session t present (Ok (Closes call)) = after_settling address shared session (over session) (closed address epoch shared.commits session t present call)
after_closing address epoch shared session t present (Ok (Answers reply own)) = refl
after_closing address epoch shared session t present (Err number) = refl

after_call : (address : List ℕ → List ℕ) (epoch : ℤ) (work : Work) (shared : Shared) (session : Session) → is_behind (decided_closing address epoch work shared session) ≡ true
after_call address epoch work shared session =
    after_both (λ t present. if_closing address epoch shared session t present (worked session t work)) (λ t present. after_closing address epoch shared session t present (worked session t work)) shared session

after_step : (shared : Shared) (session : Session) (next : Said) (outcome : Result Shared ℕ) → is_behind (Some (stepped shared session next outcome)) ≡ true
after_step shared session next (Ok left) = refl
after_step shared session next (Err number) = refl

-- ---- starts

after_answer : (shared : Shared) (session : Session) (now : Transaction) (reply : Reply) → is_behind (Some (shared, answered session now reply)) ≡ true
after_answer shared session now reply = by_tests (not session.variables.autocommit) (is_changed_since now)
  where
    by_tests : (kept changed : Bool) → is_behind (Some (shared, if kept then Past (within session now, reply) else (if changed then Still now (Between reply) else Past (session, reply)))) ≡ true
    by_tests true changed = refl
    by_tests false true = refl
    by_tests false false = refl

after_work : (shared : Shared) (session : Session) (t : Transaction) (outcome : Result Worked ℕ) → is_behind (Some (shared, started session t outcome)) ≡ true
after_work shared session t (Err number) = refl
after_work shared session t (Ok (Answers reply own)) = after_answer shared session (with_own own t) reply
after_work shared session t (Ok (Closes call)) = refl

after_start : (shared : Shared) (session : Session) (work : Work) → is_behind (start_of shared session work) ≡ true
after_start shared session work =
    elim (taken shared session) as (λ found. is_behind (option_map (λ (t : Transaction). (shared, started session t (worked session t work))) found) ≡ true) [
      | None ↦ refl
      | Some t ↦ after_work shared session t (worked session t work)
    ]

after_begun : (shared : Shared) (session : Session) → is_behind (begun session shared) ≡ true
after_begun shared session =
    elim (taken shared session) as (λ found. is_behind (option_map (λ (t : Transaction). (shared, Past (within session t, done))) found) ≡ true) [
      | None ↦ refl
      | Some t ↦ refl
    ]

after_both_at_once : (address : List ℕ → List ℕ) (shared : Shared) (session : Session) (change : Result Change ℕ) → is_behind (begun_after address shared session change) ≡ true
after_both_at_once address shared session (Ok change) =
    elim (changed_by address shared session change) as (λ found. is_behind (option_and_then (begun session) found) ≡ true) [
      | None ↦ refl
      | Some left ↦ after_begun left session
    ]
after_both_at_once address shared session (Err number) = refl

after_begin : (address : List ℕ → List ℕ) (shared : Shared) (session : Session) → is_behind (begin address shared session) ≡ true
after_begin address shared session =
    elim (is_changed session) as (λ test. is_behind (if test then with_both (λ t present. begun_after address shared session (ruled session t present done)) shared session else begun session shared) ≡ true) [
      | true ↦ after_both (λ t present. begun_after address shared session (ruled session t present done)) (λ t present. after_both_at_once address shared session (ruled session t present done)) shared session
      | false ↦ after_begun shared session
    ]

-- ---- the moment

after_moment : (address : List ℕ → List ℕ) (epoch : ℤ) (shared : Shared) (session : Session) (command : Command) → is_behind (moment_of address epoch shared session command) ≡ true
after_moment address epoch shared session (Faulty refusal) = refl
after_moment address epoch shared session Begin = after_begin address shared session
after_moment address epoch shared session CommitAll = after_deciding address (over session) done shared session
after_moment address epoch shared session Rollback = refl
after_moment address epoch shared session (Switch setting) = after_deciding address (with_variable setting.variable setting.on (over session)) done shared session
after_moment address epoch shared session (Say one) = refl
after_moment address epoch shared session (Data work) =
    elim (is_in_transaction session) as (λ test. is_behind (if test then decided_closing address epoch work shared session else start_of shared session work) ≡ true) [
      | true ↦ after_call address epoch work shared session
      | false ↦ after_start shared session work
    ]
after_moment address epoch shared session (OnBranches request) = after_step shared session (session, one_row (status ∷ [])) (branch_step shared session request)
after_moment address epoch shared session (Checkout request) =
    after_step shared session (moved_to (checkout_name request) session, switched_to (checkout_name request)) (checkout_step shared session request)

after_start_only : (shared : Shared) (session : Session) (command : Command) (reply : Reply) → is_behind (start_only shared session command reply) ≡ true
after_start_only shared session command reply =
    elim (takes_start session command) as (λ test. is_behind (if test then Some (shared, Past (session, reply)) else None) ≡ true) [ true ↦ refl | false ↦ refl ]

after_by : (address : List ℕ → List ℕ) (epoch : ℤ) (answer : Option Shortage) (shared : Shared) (session : Session) (command : Command) → is_behind (moment_by address epoch answer shared session command) ≡ true
after_by address epoch None shared session command = after_moment address epoch shared session command
after_by address epoch (Some AtOnce) shared session command = refl
after_by address epoch (Some AfterStart) shared session command = after_start_only shared session command (refused 2)
after_by address epoch (Some (Clashes clash)) shared session command = after_start_only shared session command (print.Collided clash)

after_close : (address : List ℕ → List ℕ) (epoch : ℤ) (shared : Shared) (session : Session) (command : Command) → is_behind (closing_of address epoch shared session command) ≡ true
after_close address epoch shared session (Data work) = after_call address epoch work shared session
after_close address epoch shared session (Faulty refusal) = refl
after_close address epoch shared session Begin = refl
after_close address epoch shared session CommitAll = refl
after_close address epoch shared session Rollback = refl
after_close address epoch shared session (Switch setting) = refl
after_close address epoch shared session (Say one) = refl
after_close address epoch shared session (OnBranches request) = refl
after_close address epoch shared session (Checkout request) = refl

after_in : (address : List ℕ → List ℕ) (epoch : ℤ) (answer : Option Shortage) (shared : Shared) (session : Session) (command : Command) (place : Place)
    → is_behind (moment_in address epoch answer shared session command place) ≡ true
after_in address epoch answer shared session command Before = after_by address epoch answer shared session command
after_in address epoch answer shared session command (Between reply) = after_deciding address (over session) reply shared session
after_in address epoch answer shared session command Closing = after_close address epoch shared session command

still_behind : (number : ℕ) (found : Option (Shared × After)) → is_behind found ≡ is_behind (option_map (past_moment number) found)
still_behind number None = refl
still_behind number (Some (shared, Past said)) = refl
still_behind number (Some (shared, Still transaction place)) = refl

none_before : (test : Bool) → not test ≡ true → test ≡ false
none_before true is = absurd (cc)
none_before false is = refl

-- what a start leaves to be decided isn't before its statement
pub behind_start : (address : List ℕ → List ℕ) (epoch : ℤ) (answer : Option Shortage) (shared : Shared) (session : Session) (command : Command) (left : Shared) (transaction : Transaction) (place : Place)
    → moment_at address epoch answer shared session command ≡ Some (left, Still transaction place) → is_before_statement place ≡ false
behind_start address epoch answer shared session command left transaction place is =
    none_before (is_before_statement place)
    (sym (ap is_behind is) ∙ sym (still_behind session.statement (moment_in address epoch answer shared session command session.place)) ∙ after_in address epoch answer shared session command session.place)
