-- Statements that a session answers by itself.
use Rattle.std.specs.Prelude.{Bool, true, false, not, ◌&&◌}
use Rattle.plain_sessions.specs.Sessions as plain
use Rattle.plain_sessions.specs.Sessions.{is_changed}
use Rattle.plain_sessions.specs.Moments.{ends_by_set, is_in_transaction}
use Rattle.plain_sessions.specs.declared.commands.Command.{Command}
use Rattle.plain_sessions.specs.declared.commands.Command.TheVariants as command
use Rattle.plain_sessions.specs.declared.commands.Work.TheVariants as work

-- it needs no moment, or its start was taken; a call of a procedure isn't among these
abbrev pub is_local : plain.Session → Command → Bool
is_local p (command.Faulty refusal) = true
is_local p command.Begin = false
is_local p command.CommitAll = not (is_changed p)
is_local p command.Rollback = true
is_local p (command.Switch setting) = not (ends_by_set p setting.variable setting.on && is_changed p)
is_local p (command.Say one) = true
is_local p (command.Data (work.Ask one)) = is_in_transaction p
is_local p (command.Data (work.Change write)) = is_in_transaction p
is_local p (command.Data other) = false
is_local p (command.OnBranches request) = false
is_local p (command.Checkout request) = false

-- nothing refuses it, and it takes no memory: COMMIT of nothing, ROLLBACK and SET
abbrev pub is_always_done : Command → Bool
is_always_done command.CommitAll = true
is_always_done command.Rollback = true
is_always_done (command.Switch setting) = true
is_always_done other = false
