-- A worker with its player may cross threads. One search is too long for a request, so each kind of it has its own.
use denote.RattleType.{RattleType}
use denote.Param.Send.{IsSend, sendable}
use denote.Param.SendFields.{declared_send, variants_send}
use Rattle.std.proofs.Crossing.{crosses}
use Rattle.plain_sessions.specs.contracts.commands.Command as Command
use Rattle.plain_sessions.specs.contracts.commands.Work as Work
use Rattle.script_run.specs.contracts.players.Player as Player
use Rattle.script_run.specs.contracts.players.Stage as Stage
use Rattle.script_text.proofs.replies.Reply.TheSendSync as reply
use Rattle.seat_gate.proofs.workers.Worker.TheSendSync as worker
use Rattle.seat_gate.specs.contracts.workers.Worker as Worker
use Rattle.serving.specs.contracts.meeting.Pending as Pending
use Rattle.session_state.proofs.sessions.Session.TheSendSync as session
use Rattle.sql_ast.proofs.expressions.Expr.TheLaws.TheKnot as expr
use Rattle.sql_ast.specs.contracts.faults.Refusal as Refusal
use Rattle.sql_ast.specs.contracts.selects.Select as Select
use Rattle.sql_ast.specs.contracts.statements.Setting as Setting
use Rattle.sql_ast.specs.contracts.statements.Write as Write
use Rattle.sql_procedures.specs.contracts.requests.BranchRequest as BranchRequest
use Rattle.sql_procedures.specs.contracts.requests.CheckoutRequest as CheckoutRequest
use Rattle.sql_procedures.specs.contracts.requests.CommitRequest as CommitRequest
use Rattle.sql_procedures.specs.contracts.requests.MergeRequest as MergeRequest
use Rattle.sql_procedures.specs.contracts.requests.Reset as Reset
use Rattle.sql_procedures.specs.contracts.requests.Resolution as Resolution
use Rattle.sql_procedures.specs.contracts.requests.Tables as Tables
use Rattle.sql_procedures.specs.contracts.requests.Verification as Verification
use Rattle.tuple_codec.specs.declared.addresses.Digester.{Ghosts}

select_send : IsSend Select.the_row
select_send = search (crosses, expr.crosses, sendable) depth 60 fits 20000

write_send : IsSend Write.the_row
write_send = search (crosses, expr.crosses, sendable) depth 60 fits 20000

tables_send : IsSend Tables.the_row
tables_send = search (crosses, sendable) depth 60 fits 20000

reset_send : IsSend Reset.the_row
reset_send = search (crosses, sendable) depth 60 fits 20000

commit_send : IsSend CommitRequest.the_row
commit_send = search (crosses, sendable) depth 60 fits 20000

merge_send : IsSend MergeRequest.the_row
merge_send = search (crosses, sendable) depth 60 fits 20000

resolution_send : IsSend Resolution.the_row
resolution_send = search (crosses, sendable) depth 60 fits 20000

verification_send : IsSend Verification.the_row
verification_send = search (crosses, sendable) depth 60 fits 20000

work_send : IsSend Work.the_row
work_send = search (variants_send, select_send, write_send, tables_send, reset_send, commit_send, merge_send, resolution_send, verification_send, tt) depth 60

refusal_send : IsSend Refusal.the_row
refusal_send = search (crosses, sendable) depth 60 fits 20000

setting_send : IsSend Setting.the_row
setting_send = search (crosses, sendable) depth 60 fits 20000

branch_send : IsSend BranchRequest.the_row
branch_send = search (crosses, sendable) depth 60 fits 20000

checkout_send : IsSend CheckoutRequest.the_row
checkout_send = search (crosses, sendable) depth 60 fits 20000

command_send : IsSend Command.the_row
command_send = search (variants_send, refusal_send, setting_send, select_send, work_send, branch_send, checkout_send, tt) depth 60

pending_send : IsSend Pending.the_row
pending_send = search (crosses, sendable) depth 60 fits 20000

stage_send : IsSend Stage.the_row
stage_send = search (variants_send, command_send, pending_send, crosses, sendable) depth 60 fits 20000

module _ (D : RattleType) (g : Ghosts D.Denot) where
  pub player_send : IsSend (Player.the_row D g)
  player_send = declared_send (Player.the_type D g) (session.the_send D g, (search (reply.the_send, crosses, sendable) depth 60 fits 20000, (search (crosses, sendable) depth 60 fits 20000, (stage_send, tt))))

  pub worker_send : IsSend (Worker.the_row (Player.the_row D g))
  worker_send = worker.the_send (Player.the_row D g) player_send
