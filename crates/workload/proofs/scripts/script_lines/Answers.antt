use Rattle.workload.proofs.WorkloadLemmas.{none_yet, one_more}
use Rattle.workload.specs.Workload.{with_session}
use Rattle.workload.proofs.scripts.script_lines.Goals as goal

pub loop-session-init : goal.loop-session-init
loop-session-init c = none_yet (with_session c.args.seed) _ _ c.new-lines.ensures

pub loop-session-preserved : goal.loop-session-preserved
loop-session-preserved c = one_more c.loop-session.session (with_session c.args.seed) _ _ _ c.loop-session.invariant c.in_ok-add_session.ensures
