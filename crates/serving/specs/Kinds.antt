-- Which kind of statement it is: what may have a decision of its own, and what a session answers by itself.
use Rattle.std.specs.Prelude.{Bool, true, false, ◌&&◌, ◌||◌, not}
use Rattle.sql_procedures.specs.declared.requests.MergeRequest.TheVariants as merging
use Rattle.plain_sessions.specs.declared.commands.Command.{Command}
use Rattle.plain_sessions.specs.declared.commands.Command.TheVariants as command
use Rattle.plain_sessions.specs.declared.commands.Work.{Work}
use Rattle.plain_sessions.specs.declared.commands.Work.TheVariants as work
use Rattle.plain_sessions.specs.Moments.{is_in_transaction}
use Rattle.plain_sessions.specs.Sessions as plain
use Rattle.session_txn.specs.Answering.{is_local}

-- DOLT_COMMIT, and DOLT_MERGE of a name: these may have a decision of their own
abbrev pub may_close : Work → Bool
may_close (work.Commit request) = true
may_close (work.Merge (merging.Merge request)) = true
may_close (work.Merge merging.Abort) = false
may_close asked = false

-- what has no decision but the commit rule's, and leaves its session on its branch; a call with arguments that its procedure doesn't take is answered by its text alone
abbrev pub is_in_place : Command → Bool
is_in_place (command.Faulty refusal) = true
is_in_place command.Begin = true
is_in_place command.CommitAll = true
is_in_place command.Rollback = true
is_in_place (command.Switch setting) = true
is_in_place (command.Say list) = true
is_in_place (command.Data asked) = not (may_close asked)
is_in_place (command.OnBranches request) = false
is_in_place (command.Checkout request) = false

-- a call of a procedure that has no decision but the commit rule's
abbrev pub is_call : Work → Bool
is_call (work.Add tables) = true
is_call (work.ResetTo reset) = true
is_call (work.Merge merging.Abort) = true
is_call (work.Merge (merging.Merge request)) = false
is_call (work.Resolve request) = true
is_call (work.Verify way) = true
is_call asked = false

abbrev pub calls : Command → Bool
calls (command.Data asked) = is_call asked
calls asked = false

-- the session answers it by itself
abbrev pub is_alone : plain.Session → Command → Bool
is_alone p asked = (calls asked && is_in_transaction p) || is_local p asked

abbrev pub is_data : Command → Bool
is_data (command.Data asked) = true
is_data asked = false
