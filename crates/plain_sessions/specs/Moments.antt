-- Statements that need no moment, and the moments: starts, decisions, and steps on branches.
use Rattle.std.specs.Prelude.{ℕ, ◌+◌, ℤ, Bool, false, ◌&&◌, not, is_some, if◌then◌else◌, List, [], ◌∷◌, Option, None, Some, Ok, Err}
use Rattle.std.specs.Option.{option_and_then, option_map, option_to_list}
use Rattle.tuple_codec.specs.AddressTexts.{address_text}
use Rattle.script_text.specs.Output.{Shortage, AtOnce, AfterStart, Clashes}
use Rattle.script_text.specs.declared.replies.Reply.TheVariants as print
use Rattle.schema_model.specs.PlainCommits.{Commits, PlainCommit, commit_address}
use Rattle.sql_procedures.specs.declared.requests.BranchRequest.{BranchRequest}
use Rattle.sql_procedures.specs.declared.requests.CheckoutRequest.{CheckoutRequest}
use Rattle.expr_eval.specs.Binding.{Outcome, and_then}
use Rattle.plain_sql.specs.Lists.{unless}
use Rattle.std.specs.Prelude.{codes}
use Rattle.plain_sessions.specs.Records.{BranchState, Shared, clean_at, commit_on, is_same_state, root_of, state_of, with_branch, with_new_commit}
use Rattle.plain_sessions.specs.Sessions.{Place, Before, Between, Closing, Said, Session, Transaction, is_autocommit, is_before_statement, is_changed, is_changed_since, over, taken, with_own, with_variable, within}
use Rattle.script_text.specs.declared.replies.Reply.{Reply}
use Rattle.plain_sessions.specs.Replies.{done, one_row, refused, refused_by, text_field}
use Rattle.plain_sessions.specs.declared.commands.Command.{Command}
use Rattle.plain_sessions.specs.declared.commands.Command.TheVariants.{Faulty, Begin, CommitAll, Rollback, Switch, Say, Data, OnBranches, Checkout}
use Rattle.plain_sessions.specs.declared.commands.Work.{Work}
use Rattle.plain_sessions.specs.CommitRule.{decide}
use Rattle.plain_sessions.specs.Branching.{branch_step, checkout_name, checkout_step, moved_to, status, switched_to}
use Rattle.plain_sessions.specs.Merging.{Worked, Answers, Closes, Ending, Committing, Forwarding, Joining, merge_reply}
use Rattle.plain_sessions.specs.Statements.{said, worked}

-- ---- statements without a moment

abbrev pub is_in_transaction : Session → Bool
is_in_transaction session = is_some session.transaction

-- a database statement outside a transaction takes its start
abbrev pub takes_start : Session → Command → Bool
takes_start session (Data work) = not (is_in_transaction session)
takes_start session command = false

abbrev pub if_answered : Session → Transaction → Outcome Worked → Option Said
if_answered session t (Ok (Answers reply own)) = Some (within session (with_own own t), reply)
if_answered session t (Ok (Closes call)) = None
if_answered session t (Err number) = Some (session, refused number)

-- SET autocommit from 0 to 1 ends a transaction as COMMIT does
abbrev pub ends_by_set : Session → List ℕ → Bool → Bool
ends_by_set session variable on = is_autocommit variable && on && not session.variables.autocommit

abbrev pub set_alone : Session → List ℕ → Bool → Option Said
set_alone session variable on =
    if ends_by_set session variable on
    then (if is_changed session then None else Some (with_variable variable on (over session), done))
    else Some (with_variable variable on session, done)

-- the answer to a statement that needs no moment; none where it needs one
abbrev pub effect_alone : Session → Command → Option Said
effect_alone session (Faulty refusal) = Some (session, refused_by refusal)
effect_alone session Begin = None
effect_alone session CommitAll = if is_changed session then None else Some (over session, done)
effect_alone session Rollback = Some (over session, done)
effect_alone session (Switch setting) = set_alone session setting.variable setting.on
effect_alone session (Say one) = Some (session, said session one)
effect_alone session (Data work) = option_and_then (λ t. if_answered session t (worked session t work)) session.transaction
effect_alone session (OnBranches request) = None
effect_alone session (Checkout request) = if is_changed session then Some (session, refused 9006) else None

-- by what no rule tells: 1 takes no moment; 2 takes a start; 3 takes one where the statement would
abbrev pub alone_by : Option Shortage → Session → Command → Option Said
alone_by None session command = effect_alone session command
alone_by (Some AtOnce) session command = Some (session, refused 1)
alone_by (Some AfterStart) session command = None
alone_by (Some (Clashes clash)) session command = if takes_start session command then None else Some (session, print.Collided clash)

-- the next statement comes
abbrev pub past : ℕ → Said → Said
past number said = (record said.0 { statement = number + 1; place = Before }, said.1)

abbrev pub alone : Option Shortage → Session → Command → Option Said
alone answer session command =
    option_map (past session.statement) (if is_before_statement session.place then alone_by answer session command else None)

-- ---- decisions

-- what a decision makes of the branch, the commit that it makes, and what it answers
pub record Change : Type 0 where
  pub becomes : BranchState
  pub made : Option PlainCommit
  pub reply : Reply

abbrev pub without_commit : Reply → BranchState → Change
without_commit reply state = record { becomes = state; made = None; reply = reply }

-- by the commit rule
abbrev pub ruled : Session → Transaction → BranchState → Reply → Outcome Change
ruled session t present reply = and_then (decide t.start present t.own session.variables) (λ state. Ok (without_commit reply state))

-- DOLT_COMMIT commits the candidate's staged database on the present head, and on the commit being merged
abbrev pub commit_of : ℤ → Commits → Session → BranchState → List ℕ → BranchState → PlainCommit
commit_of epoch commits session present message state =
    commit_on commits epoch session.name state.staged (present.head ∷ option_to_list state.merging) message

abbrev pub committed_as : (List ℕ → List ℕ) → PlainCommit → BranchState → Change
committed_as address commit state =
    let k = commit_address address commit in
    record {
      becomes = record { head = k; working = state.working; staged = state.staged; merging = None };
      made = Some commit;
      reply = one_row (text_field (codes "hash") (address_text k) ∷ []);
    }

-- a DOLT_MERGE is on the branch as it was at the start
abbrev pub unless_moved : Transaction → BranchState → Change → Outcome Change
unless_moved t present change = unless (not (is_same_state present t.start)) 1213 (Ok change)

abbrev pub forwarded : Commits → List ℕ → Change
forwarded commits other =
    without_commit (merge_reply (address_text other) 1 0 (codes "merge successful")) (clean_at other (root_of commits other))

abbrev pub merged_as : (List ℕ → List ℕ) → PlainCommit → Change
merged_as address commit =
    let k = commit_address address commit in
    record { becomes = clean_at k commit.database; made = Some commit; reply = merge_reply (address_text k) 0 0 (codes "merge successful") }

-- a closing call's decision
abbrev pub closed : (List ℕ → List ℕ) → ℤ → Commits → Session → Transaction → BranchState → Ending → Outcome Change
closed address epoch commits session t present (Committing own message) =
    and_then (decide t.start present own session.variables) (λ state.
    Ok (committed_as address (commit_of epoch commits session present message state) state))
closed address epoch commits session t present (Forwarding other) = unless_moved t present (forwarded commits other)
closed address epoch commits session t present (Joining database other message) =
    unless_moved t present (merged_as address (commit_on commits epoch session.name database (t.own.head ∷ other ∷ []) message))

-- ---- what a decision leaves

-- the branch's record, and a commit that was made
abbrev pub with_change : List ℕ → Change → Shared → Commits → Shared
with_change branch change shared commits = record shared { branches = with_branch branch change.becomes shared.branches; commits = commits }

abbrev pub commits_with : (List ℕ → List ℕ) → Option PlainCommit → Commits → Option Commits
commits_with address None commits = Some commits
commits_with address (Some commit) commits = with_new_commit address commit commits

abbrev pub changed_by : (List ℕ → List ℕ) → Shared → Session → Change → Option Shared
changed_by address shared session change = option_map (with_change session.branch change shared) (commits_with address change.made shared.commits)

-- after a moment: the statement is answered; or a decision is still to come, in this transaction
pub data After : Type 0 where
  Past : Said → After
  Still : Transaction → Place → After

-- the session that goes on where the decision is well; where it is refused, the transaction is over all the same
abbrev pub settled : (List ℕ → List ℕ) → Shared → Session → Session → Outcome Change → Option (Shared × After)
settled address shared session next (Ok change) = option_map (λ left. (left, Past (next, change.reply))) (changed_by address shared session change)
settled address shared session next (Err number) = Some (shared, Past (over session, refused number))

-- in a transaction, on the branch as it is now
abbrev pub with_both : {A : Type 0} → (Transaction → BranchState → Option A) → Shared → Session → Option A
with_both f shared session =
    option_and_then (λ t. option_and_then (f t) (state_of shared.branches session.branch)) session.transaction

-- COMMIT, or the decision behind a statement with this reply
abbrev pub decided : (List ℕ → List ℕ) → Session → Reply → Shared → Session → Option (Shared × After)
decided address next reply shared session =
    with_both (λ t present. settled address shared session next (ruled session t present reply)) shared session

abbrev pub if_closing : (List ℕ → List ℕ) → ℤ → Shared → Session → Transaction → BranchState → Outcome Worked → Option (Shared × After)
if_closing address epoch shared session t present (Ok (Closes call)) =
    settled address shared session (over session) (closed address epoch shared.commits session t present call)
if_closing address epoch shared session t present (Ok (Answers reply own)) = None
if_closing address epoch shared session t present (Err number) = None

abbrev pub decided_closing : (List ℕ → List ℕ) → ℤ → Work → Shared → Session → Option (Shared × After)
decided_closing address epoch work shared session =
    with_both (λ t present. if_closing address epoch shared session t present (worked session t work)) shared session

-- ---- starts

-- a statement that took the start itself: a refusal drops the transaction; with autocommit it is decided on where the
-- own state isn't that of the start, and is over otherwise; without autocommit it stays open
abbrev pub answered : Session → Transaction → Reply → After
answered session now reply =
    if not session.variables.autocommit then Past (within session now, reply) else (
    if is_changed_since now then Still now (Between reply) else
    Past (session, reply))

abbrev pub started : Session → Transaction → Outcome Worked → After
started session t (Err number) = Past (session, refused number)
started session t (Ok (Answers reply own)) = answered session (with_own own t) reply
started session t (Ok (Closes call)) = Still t Closing

abbrev pub start_of : Shared → Session → Work → Option (Shared × After)
start_of shared session work = option_map (λ t. (shared, started session t (worked session t work))) (taken shared session)

-- BEGIN
abbrev pub begun : Session → Shared → Option (Shared × After)
begun session shared = option_map (λ t. (shared, Past (within session t, done))) (taken shared session)

-- the decision on what was open comes first; where it is refused, nothing is started
abbrev pub begun_after : (List ℕ → List ℕ) → Shared → Session → Outcome Change → Option (Shared × After)
begun_after address shared session (Ok change) = option_and_then (begun session) (changed_by address shared session change)
begun_after address shared session (Err number) = Some (shared, Past (over session, refused number))

abbrev pub begin : (List ℕ → List ℕ) → Shared → Session → Option (Shared × After)
begin address shared session =
    if is_changed session then with_both (λ t present. begun_after address shared session (ruled session t present done)) shared session
    else begun session shared

-- ---- steps on branches

-- a refused step leaves everything
abbrev pub stepped : Shared → Session → Said → Outcome Shared → Shared × After
stepped shared session next (Ok left) = (left, Past next)
stepped shared session next (Err number) = (shared, Past (session, refused number))

abbrev pub on_branches : Shared → Session → BranchRequest → Shared × After
on_branches shared session request = stepped shared session (session, one_row (status ∷ [])) (branch_step shared session request)

abbrev pub checked_out : Shared → Session → CheckoutRequest → Shared × After
checked_out shared session request =
    let name = checkout_name request in stepped shared session (moved_to name session, switched_to name) (checkout_step shared session request)

-- ---- the moment that a session needs

abbrev pub moment_of : (List ℕ → List ℕ) → ℤ → Shared → Session → Command → Option (Shared × After)
moment_of address epoch shared session (Faulty refusal) = None
moment_of address epoch shared session Begin = begin address shared session
moment_of address epoch shared session CommitAll = decided address (over session) done shared session
moment_of address epoch shared session Rollback = None
moment_of address epoch shared session (Switch setting) = decided address (with_variable setting.variable setting.on (over session)) done shared session
moment_of address epoch shared session (Say one) = None
moment_of address epoch shared session (Data work) =
    if is_in_transaction session then decided_closing address epoch work shared session else start_of shared session work
moment_of address epoch shared session (OnBranches request) = Some (on_branches shared session request)
moment_of address epoch shared session (Checkout request) = Some (checked_out shared session request)

-- a start and nothing else
abbrev pub start_only : Shared → Session → Command → Reply → Option (Shared × After)
start_only shared session command reply = if takes_start session command then Some (shared, Past (session, reply)) else None

abbrev pub moment_by : (List ℕ → List ℕ) → ℤ → Option Shortage → Shared → Session → Command → Option (Shared × After)
moment_by address epoch None shared session command = moment_of address epoch shared session command
moment_by address epoch (Some AtOnce) shared session command = None
moment_by address epoch (Some AfterStart) shared session command = start_only shared session command (refused 2)
moment_by address epoch (Some (Clashes clash)) shared session command = start_only shared session command (print.Collided clash)

abbrev pub closing_of : (List ℕ → List ℕ) → ℤ → Shared → Session → Command → Option (Shared × After)
closing_of address epoch shared session (Data work) = decided_closing address epoch work shared session
closing_of address epoch shared session command = None

-- by where the session stands
abbrev pub moment_in : (List ℕ → List ℕ) → ℤ → Option Shortage → Shared → Session → Command → Place → Option (Shared × After)
moment_in address epoch answer shared session command Before = moment_by address epoch answer shared session command
moment_in address epoch answer shared session command (Between reply) = decided address (over session) reply shared session
moment_in address epoch answer shared session command Closing = closing_of address epoch shared session command

abbrev pub past_moment : ℕ → Shared × After → Shared × After
past_moment number (shared, Past said) = (shared, Past (past number said))
past_moment number (shared, Still t place) = (shared, Still t place)

-- what it does on the state found; none where the session needs none
abbrev pub moment_at : (List ℕ → List ℕ) → ℤ → Option Shortage → Shared → Session → Command → Option (Shared × After)
moment_at address epoch answer shared session command =
    option_map (past_moment session.statement) (moment_in address epoch answer shared session command session.place)
