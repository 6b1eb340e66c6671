-- What a session says without a moment, and what it does at one, leave all sound.
use Rattle.std.proofs.Common.{◌≡◌, ◌≤◌, refl, ap, ◌∙◌, subst, ℕ, ℤ, Bool, true, false, cond, not, List, [], ◌∷◌, length, Option, None, Some, Ok, Err}
use Rattle.std.specs.Prelude.{IfOk}
use Rattle.std.specs.Option.{option_map, option_and_then}
use Rattle.std.proofs.lemmas.Bool.{and_parts}
use Rattle.schema_model.specs.PlainCommits.{Commits, is_known}
use Rattle.script_text.specs.Output.{Shortage, AtOnce, AfterStart, Clashes}
use Rattle.script_text.specs.declared.replies.Reply.{Reply}
use Rattle.script_text.specs.declared.replies.Reply.TheVariants as print
use Rattle.sql_procedures.specs.declared.requests.BranchRequest.{BranchRequest}
use Rattle.sql_procedures.specs.declared.requests.CheckoutRequest.{CheckoutRequest}
use Rattle.sql_procedures.specs.declared.requests.CheckoutRequest.TheVariants as checkout
use Rattle.sql_procedures.specs.Arguments.{is_point}
use Rattle.expr_eval.specs.Binding.{Outcome}
use Rattle.plain_sessions.specs.declared.commands.Command.{Command}
use Rattle.plain_sessions.specs.declared.commands.Command.TheVariants.{Faulty, Begin, CommitAll, Rollback, Switch, Say, Data, OnBranches, Checkout}
use Rattle.plain_sessions.specs.declared.commands.Work.{Work}
use Rattle.plain_sessions.specs.Branching.{branch_step, checkout_name, checkout_step, moved_to, status, switched_to}
use Rattle.plain_sessions.specs.Fitness.{IsFitCommand, IsFitWork, is_fit_checkout}
use Rattle.plain_sessions.specs.Merging.{Answers, Closes, Worked}
use Rattle.plain_sessions.specs.Moments as moments
use Rattle.plain_sessions.specs.Moments.{After, Change, Past, Still, alone, alone_by, answered, begin, begun, begun_after, changed_by, closed, closing_of, decided, decided_closing, effect_alone, ends_by_set, if_answered, if_closing, is_in_transaction, moment_at, moment_by, moment_in, moment_of, on_branches, past, past_moment, ruled, set_alone, settled, start_of, start_only, started, stepped, takes_start, with_both}
use Rattle.plain_sessions.specs.Records.{BranchState, Shared, state_of}
use Rattle.plain_sessions.specs.Replies.{done, one_row, refused}
use Rattle.plain_sessions.specs.Sessions.{Before, Between, Closing, Place, Said, Session, Transaction, is_before_statement, is_changed, is_changed_since, over, started_at, taken, with_own, with_variable, within}
use Rattle.plain_sessions.specs.Statements.{worked}
use Rattle.keep_laws.specs.StateLaws.{IsKeptWork}
use Rattle.check_laws.specs.Meant.{IsMeantWork}
use Rattle.check_laws.proofs.Branchings.{branch_sound, checkout_sound}
use Rattle.check_laws.proofs.Deciding.{Laws, closed_sound, ruled_sound}
use Rattle.check_laws.proofs.Heads.{IsLed, point_short, work_led}
use Rattle.check_laws.proofs.Outcomes.{IfSome, map_some, then_some}
use Rattle.check_laws.proofs.Sound.{IsSoundChange, IsSoundIfOpen, IsSoundMove, IsSoundSession, IsSoundShared, IsSoundTransaction, change_sound, session_grown, start_sound}
use Rattle.check_laws.proofs.Statements.{work_keeps}

-- ---- sessions

pub over_sound : (commits : Commits) (session : Session) → IsSoundSession commits session → IsSoundSession commits (over session)
over_sound commits session is = record { name = is.name; branch = is.branch; transaction = tt }

within_sound : (commits : Commits) (session : Session) (t : Transaction) → IsSoundSession commits session → IsSoundTransaction commits t → IsSoundSession commits (within session t)
within_sound commits session t is at = record { name = is.name; branch = is.branch; transaction = at }

variable_sound : (commits : Commits) (session : Session) (variable : List ℕ) (on : Bool) → IsSoundSession commits session → IsSoundSession commits (with_variable variable on session)
variable_sound commits session variable on is = record { name = is.name; branch = is.branch; transaction = is.transaction }

open_sound : (commits : Commits) (session : Session) (t : Transaction) → IsSoundSession commits session → session.transaction ≡ Some t → IsSoundTransaction commits t
open_sound commits session t is e = subst (IsSoundIfOpen commits) e is.transaction

abbrev pub IsSoundSaid : Commits → Said → Type 0
IsSoundSaid commits said = IsSoundSession commits said.0

-- ---- what a database statement comes to

record IsSoundWork (t : Transaction) (made : Worked) : Type 0 where
  kept : IsKeptWork made
  meant : IsMeantWork made
  led : IsLed t.commits t.own.head made

module _ (laws : Laws) (commits : Commits) (session : Session) (is : IsSoundSession commits session) (t : Transaction) (at : IsSoundTransaction commits t) where
  work_sound : (work : Work) → IsFitWork work → IfOk (worked session t work) (IsSoundWork t)
  work_sound work fit = by (worked session t work) (laws.work session t work at.kept fit) (work_keeps laws.same session t work at.kept at.meant fit) (work_led session t is.branch at.heads work fit)
    where
      by : (o : Outcome Worked) → IfOk o IsKeptWork → IfOk o IsMeantWork → IfOk o (IsLed t.commits t.own.head) → IfOk o (IsSoundWork t)
      by (Ok made) k m l = record { kept = k; meant = m; led = l }
      by (Err number) k m l = tt

  own_sound : (reply : Reply) (own : BranchState) → IsSoundWork t (Answers reply own) → IsSoundTransaction commits (with_own own t)
  own_sound reply own made = let kept = at.kept in let meant = at.meant in record {
    kept = record { start = kept.start; own = made.kept; commits = kept.commits };
    meant = record { start = meant.start; own = made.meant; commits = meant.commits };
    among = at.among;
    heads = at.heads;
    own = ap (is_known t.commits) made.led ∙ at.own;
  }

-- ---- without a moment

module _ (laws : Laws) (commits : Commits) (session : Session) (is : IsSoundSession commits session) where
  data_alone : (work : Work) → IsFitWork work → IfSome (option_and_then (λ t. if_answered session t (worked session t work)) session.transaction) (IsSoundSaid commits)
  data_alone work fit = then_some (IsSoundSaid commits) (λ t. if_answered session t (worked session t work)) session.transaction (λ t e.
      let at = open_sound commits session t is e in by t at (worked session t work) (work_sound laws commits session is t at work fit))
    where
      by : (t : Transaction) → IsSoundTransaction commits t → (o : Outcome Worked) → IfOk o (IsSoundWork t) → IfSome (if_answered session t o) (IsSoundSaid commits)
      by t at (Ok (Answers reply own)) made = within_sound commits session (with_own own t) is (own_sound laws commits session is t at reply own made)
      by t at (Ok (Closes call)) made = tt
      by t at (Err number) made = is

  set_sound : (variable : List ℕ) (on : Bool) → IfSome (set_alone session variable on) (IsSoundSaid commits)
  set_sound variable on =
      let ended = variable_sound commits (over session) variable on (over_sound commits session is) in
      let stays = variable_sound commits session variable on is in
      let first : IfSome (cond (is_changed session) None (Some (with_variable variable on (over session), done))) (IsSoundSaid commits) =
      elim (is_changed session) as (λ b. IfSome (cond b None (Some (with_variable variable on (over session), done))) (IsSoundSaid commits)) [ true ↦ tt | false ↦ ended ] in
      elim (ends_by_set session variable on) as (λ b. IfSome (cond b (cond (is_changed session) None (Some (with_variable variable on (over session), done))) (Some (with_variable variable on session, done))) (IsSoundSaid commits)) [
        | true ↦ first
        | false ↦ stays
      ]

  effect_sound : (command : Command) → IsFitCommand command → IfSome (effect_alone session command) (IsSoundSaid commits)
  effect_sound (Faulty refusal) fit = is
  effect_sound Begin fit = tt
  effect_sound CommitAll fit = let ended = over_sound commits session is in elim (is_changed session) as (λ b. IfSome (cond b None (Some (over session, done))) (IsSoundSaid commits)) [ true ↦ tt | false ↦ ended ]
  effect_sound Rollback fit = over_sound commits session is
  effect_sound (Switch setting) fit = set_sound setting.variable setting.on
  effect_sound (Say one) fit = is
  effect_sound (Data work) fit = data_alone work fit
  effect_sound (OnBranches request) fit = tt
  effect_sound (Checkout request) fit = elim (is_changed session) as (λ b. IfSome (cond b (Some (session, refused 9006)) None) (IsSoundSaid commits)) [ true ↦ is | false ↦ tt ]

  by_sound : (answer : Option Shortage) (command : Command) → IsFitCommand command → IfSome (alone_by answer session command) (IsSoundSaid commits)
  by_sound None command fit = effect_sound command fit
  by_sound (Some AtOnce) command fit = is
  by_sound (Some AfterStart) command fit = tt
  by_sound (Some (Clashes clash)) command fit = elim (takes_start session command) as (λ b. IfSome (cond b None (Some (session, print.Collided clash))) (IsSoundSaid commits)) [ true ↦ tt | false ↦ is ]

  pub alone_sound : (answer : Option Shortage) (command : Command) → IsFitCommand command → IfSome (alone answer session command) (IsSoundSaid commits)
  alone_sound answer command fit =
      let by = by_sound answer command fit in
      let before : IfSome (cond (is_before_statement session.place) (alone_by answer session command) None) (IsSoundSaid commits) =
      elim (is_before_statement session.place) as (λ b. IfSome (cond b (alone_by answer session command) None) (IsSoundSaid commits)) [ true ↦ by | false ↦ tt ] in
      pasts (cond (is_before_statement session.place) (alone_by answer session command) None) before
    where
      pasts : (o : Option Said) → IfSome o (IsSoundSaid commits) → IfSome (option_map (past session.statement) o) (IsSoundSaid commits)
      pasts None sound = tt
      pasts (Some said) sound = record { name = sound.name; branch = sound.branch; transaction = sound.transaction }

-- ---- at a moment

abbrev pub IsSoundAfter : Commits → After → Type 0
IsSoundAfter commits (Past said) = IsSoundSaid commits said
IsSoundAfter commits (Still t place) = IsSoundTransaction commits t

pub record IsSoundMoment (epoch : ℤ) (before : Shared) (made : Shared × After) : Type 0 where
  pub move : IsSoundMove epoch before made.0
  pub after : IsSoundAfter made.0.commits made.1

module _ (laws : Laws) (address : List ℕ → List ℕ) (epoch : ℤ) (shared : Shared) (sound : IsSoundShared epoch shared) where
  still : IsSoundMove epoch shared shared
  still = record { shared = sound; among = λ k commit at. at }

  module _ (session : Session) (is : IsSoundSession shared.commits session) where
    settled_sound : (next : Session) (o : Outcome Change) (present : BranchState) → IsSoundSession shared.commits next → state_of shared.branches session.branch ≡ Some present
        → IfOk o (IsSoundChange address epoch shared.commits) → IfSome (settled address shared session next o) (IsSoundMoment epoch shared)
    settled_sound next (Ok change) present goes found c =
        map_some (IsSoundMoment epoch shared) (λ left. (left, Past (next, change.reply))) (changed_by address shared session change) (λ left e.
        let move = change_sound laws.shared address epoch shared left session change present sound c found e in
        record { move = move; after = session_grown shared.commits left.commits next move.among goes })
    settled_sound next (Err number) present goes found c = record { move = still; after = over_sound shared.commits session is }

    both_sound : (f : Transaction → BranchState → Option (Shared × After))
        → ((t : Transaction) (present : BranchState) → IsSoundTransaction shared.commits t → state_of shared.branches session.branch ≡ Some present → IfSome (f t present) (IsSoundMoment epoch shared))
        → IfSome (with_both f shared session) (IsSoundMoment epoch shared)
    both_sound f h =
        then_some (IsSoundMoment epoch shared) (λ t. option_and_then (f t) (state_of shared.branches session.branch)) session.transaction (λ t e.
        then_some (IsSoundMoment epoch shared) (f t) (state_of shared.branches session.branch) (λ present found. h t present (open_sound shared.commits session t is e) found))

    decided_sound : (next : Session) (reply : Reply) → IsSoundSession shared.commits next → IfSome (decided address next reply shared session) (IsSoundMoment epoch shared)
    decided_sound next reply goes =
        both_sound (λ t present. settled address shared session next (ruled session t present reply)) (λ t present at found.
        settled_sound next (ruled session t present reply) present goes found (ruled_sound laws address epoch shared sound session is t at present found reply))

    closing_sound : (work : Work) → IsFitWork work → IfSome (decided_closing address epoch work shared session) (IsSoundMoment epoch shared)
    closing_sound work fit =
        both_sound (λ t present. if_closing address epoch shared session t present (worked session t work)) (λ t present at found.
        by t present at found (worked session t work) (work_sound laws shared.commits session is t at work fit))
      where
        by : (t : Transaction) (present : BranchState) → IsSoundTransaction shared.commits t → state_of shared.branches session.branch ≡ Some present → (o : Outcome Worked) → IfOk o (IsSoundWork t)
            → IfSome (if_closing address epoch shared session t present o) (IsSoundMoment epoch shared)
        by t present at found (Ok (Closes call)) made =
            settled_sound (over session) (closed address epoch shared.commits session t present call) present (over_sound shared.commits session is) found
            (closed_sound laws address epoch shared sound session is t at present found call made.kept made.meant made.led)
        by t present at found (Ok (Answers reply own)) made = tt
        by t present at found (Err number) made = tt

    -- ---- starts

    taken_sound : (P : Shared × After → Type 0) (f : Transaction → Shared × After) → ((t : Transaction) → IsSoundTransaction shared.commits t → P (f t)) → IfSome (option_map f (taken shared session)) P
    taken_sound P f h = by (state_of shared.branches session.branch) refl
      where
        by : (o : Option BranchState) → state_of shared.branches session.branch ≡ o → IfSome (option_map f (option_map (started_at shared) o)) P
        by None e = tt
        by (Some state) e = h (started_at shared state) (start_sound laws.shared epoch shared sound session.branch state e)

    answered_sound : (now : Transaction) (reply : Reply) → IsSoundTransaction shared.commits now → IsSoundAfter shared.commits (answered session now reply)
    answered_sound now reply at =
        let inside = within_sound shared.commits session now is at in
        let rest : IsSoundAfter shared.commits (cond (is_changed_since now) (Still now (Between reply)) (Past (session, reply))) =
        elim (is_changed_since now) as (λ b. IsSoundAfter shared.commits (cond b (Still now (Between reply)) (Past (session, reply)))) [ true ↦ at | false ↦ is ] in
        elim (not session.variables.autocommit) as (λ b. IsSoundAfter shared.commits (cond b (Past (within session now, reply)) (cond (is_changed_since now) (Still now (Between reply)) (Past (session, reply))))) [
          | true ↦ inside
          | false ↦ rest
        ]

    started_sound : (t : Transaction) → IsSoundTransaction shared.commits t → (o : Outcome Worked) → IfOk o (IsSoundWork t) → IsSoundAfter shared.commits (started session t o)
    started_sound t at (Err number) made = is
    started_sound t at (Ok (Answers reply own)) made = answered_sound (with_own own t) reply (own_sound laws shared.commits session is t at reply own made)
    started_sound t at (Ok (Closes call)) made = at

    start_of_sound : (work : Work) → IsFitWork work → IfSome (start_of shared session work) (IsSoundMoment epoch shared)
    start_of_sound work fit = taken_sound (IsSoundMoment epoch shared) (λ t. (shared, started session t (worked session t work))) (λ t at.
        record { move = still; after = started_sound t at (worked session t work) (work_sound laws shared.commits session is t at work fit) })

    begun_sound : IfSome (begun session shared) (IsSoundMoment epoch shared)
    begun_sound = taken_sound (IsSoundMoment epoch shared) (λ t. (shared, Past (within session t, done))) (λ t at. record { move = still; after = within_sound shared.commits session t is at })

module _ (laws : Laws) (address : List ℕ → List ℕ) (epoch : ℤ) (shared : Shared) (sound : IsSoundShared epoch shared) (session : Session) (is : IsSoundSession shared.commits session) where
  -- ---- BEGIN: the decision on what was open, and then a start on what that leaves

  later : (left : Shared) → IsSoundMove epoch shared left → (o : Option (Shared × After)) → IfSome o (IsSoundMoment epoch left) → IfSome o (IsSoundMoment epoch shared)
  later left move None made = tt
  later left move (Some last) made = let next = made.move in record {
    move = record { shared = next.shared; among = λ k commit at. next.among k commit (move.among k commit at) };
    after = made.after;
  }

  begun_later : (o : Outcome Change) (present : BranchState) → state_of shared.branches session.branch ≡ Some present → IfOk o (IsSoundChange address epoch shared.commits)
      → IfSome (begun_after address shared session o) (IsSoundMoment epoch shared)
  begun_later (Err number) present found c = record { move = record { shared = sound; among = λ k commit at. at }; after = over_sound shared.commits session is }
  begun_later (Ok change) present found c =
      then_some (IsSoundMoment epoch shared) (begun session) (changed_by address shared session change) (λ left e.
      let move = change_sound laws.shared address epoch shared left session change present sound c found e in
      later left move (begun session left) (begun_sound laws address epoch left move.shared session (session_grown shared.commits left.commits session move.among is)))

  begin_sound : IfSome (begin address shared session) (IsSoundMoment epoch shared)
  begin_sound =
      let both = both_sound laws address epoch shared sound session is (λ t present. begun_after address shared session (ruled session t present done)) (λ t present at found.
      begun_later (ruled session t present done) present found (ruled_sound laws address epoch shared sound session is t at present found done)) in
      let alone = begun_sound laws address epoch shared sound session is in
      elim (is_changed session) as (λ b. IfSome (cond b (with_both (λ t present. begun_after address shared session (ruled session t present done)) shared session) (begun session shared)) (IsSoundMoment epoch shared)) [
        | true ↦ both
        | false ↦ alone
      ]

  -- ---- steps on branches

  stepped_sound : (next : Said) (o : Outcome Shared) → ((left : Shared) → IsSoundMove epoch shared left → IsSoundSaid left.commits next) → IfOk o (IsSoundMove epoch shared)
      → IsSoundMoment epoch shared (stepped shared session next o)
  stepped_sound next (Ok left) goes move = record { move = move; after = goes left move }
  stepped_sound next (Err number) goes move = record { move = record { shared = sound; among = λ k commit at. at }; after = is }

  on_branches_sound : (request : BranchRequest) → IsSoundMoment epoch shared (on_branches shared session request)
  on_branches_sound request =
      stepped_sound (session, one_row (status ∷ [])) (branch_step shared session request) (λ left move. session_grown shared.commits left.commits session move.among is)
      (branch_sound laws.shared epoch shared sound session request)

  name_short : (request : CheckoutRequest) → is_fit_checkout request ≡ true → length (checkout_name request) ≤ 64
  name_short (checkout.Existing name) fit = point_short name fit
  name_short (checkout.New made) fit = point_short made.name (and_parts (is_point made.name) _ fit).0

  checked_out_sound : (request : CheckoutRequest) → is_fit_checkout request ≡ true → IsSoundMoment epoch shared (moments.checked_out shared session request)
  checked_out_sound request fit =
      stepped_sound (moved_to (checkout_name request) session, switched_to (checkout_name request)) (checkout_step shared session request)
      (λ left move. record { name = is.name; branch = name_short request fit; transaction = tt })
      (checkout_sound laws.shared epoch shared sound session request)

  -- ---- the whole

  moment_of_sound : (command : Command) → IsFitCommand command → IfSome (moment_of address epoch shared session command) (IsSoundMoment epoch shared)
  moment_of_sound (Faulty refusal) fit = tt
  moment_of_sound Begin fit = begin_sound
  moment_of_sound CommitAll fit = decided_sound laws address epoch shared sound session is (over session) done (over_sound shared.commits session is)
  moment_of_sound Rollback fit = tt
  moment_of_sound (Switch setting) fit =
      decided_sound laws address epoch shared sound session is (with_variable setting.variable setting.on (over session)) done
      (variable_sound shared.commits (over session) setting.variable setting.on (over_sound shared.commits session is))
  moment_of_sound (Say one) fit = tt
  moment_of_sound (Data work) fit =
      let closing = closing_sound laws address epoch shared sound session is work fit in
      let start = start_of_sound laws address epoch shared sound session is work fit in
      elim (is_in_transaction session) as (λ b. IfSome (cond b (decided_closing address epoch work shared session) (start_of shared session work)) (IsSoundMoment epoch shared)) [
        | true ↦ closing
        | false ↦ start
      ]
  moment_of_sound (OnBranches request) fit = on_branches_sound request
  moment_of_sound (Checkout request) fit = checked_out_sound request fit

  start_only_sound : (command : Command) (reply : Reply) → IfSome (start_only shared session command reply) (IsSoundMoment epoch shared)
  start_only_sound command reply =
      let stays : IsSoundMoment epoch shared (shared, Past (session, reply)) = record { move = record { shared = sound; among = λ k commit at. at }; after = is } in
      elim (takes_start session command) as (λ b. IfSome (cond b (Some (shared, Past (session, reply))) None) (IsSoundMoment epoch shared)) [ true ↦ stays | false ↦ tt ]

  moment_by_sound : (answer : Option Shortage) (command : Command) → IsFitCommand command → IfSome (moment_by address epoch answer shared session command) (IsSoundMoment epoch shared)
  moment_by_sound None command fit = moment_of_sound command fit
  moment_by_sound (Some AtOnce) command fit = tt
  moment_by_sound (Some AfterStart) command fit = start_only_sound command (refused 2)
  moment_by_sound (Some (Clashes clash)) command fit = start_only_sound command (print.Collided clash)

  closing_of_sound : (command : Command) → IsFitCommand command → IfSome (closing_of address epoch shared session command) (IsSoundMoment epoch shared)
  closing_of_sound (Data work) fit = closing_sound laws address epoch shared sound session is work fit
  closing_of_sound (Faulty refusal) fit = tt
  closing_of_sound Begin fit = tt
  closing_of_sound CommitAll fit = tt
  closing_of_sound Rollback fit = tt
  closing_of_sound (Switch setting) fit = tt
  closing_of_sound (Say one) fit = tt
  closing_of_sound (OnBranches request) fit = tt
  closing_of_sound (Checkout request) fit = tt

  in_sound : (answer : Option Shortage) (command : Command) (place : Place) → IsFitCommand command → IfSome (moment_in address epoch answer shared session command place) (IsSoundMoment epoch shared)
  in_sound answer command Before fit = moment_by_sound answer command fit
  in_sound answer command (Between reply) fit = decided_sound laws address epoch shared sound session is (over session) reply (over_sound shared.commits session is)
  in_sound answer command Closing fit = closing_of_sound command fit

  pub moment_sound : (answer : Option Shortage) (command : Command) → IsFitCommand command → IfSome (moment_at address epoch answer shared session command) (IsSoundMoment epoch shared)
  moment_sound answer command fit = pasts (moment_in address epoch answer shared session command session.place) (in_sound answer command session.place fit)
    where
      pasts : (o : Option (Shared × After)) → IfSome o (IsSoundMoment epoch shared) → IfSome (option_map (past_moment session.statement) o) (IsSoundMoment epoch shared)
      pasts None sound = tt
      pasts (Some (left, Past said)) sound = let after = sound.after in record { move = sound.move; after = record { name = after.name; branch = after.branch; transaction = after.transaction } }
      pasts (Some (left, Still t place)) sound = sound
