use denote.Param.Send.{sendable}
use Rattle.thread_run.proofs.SendLemmas.{worker_send}
use Rattle.thread_run.proofs.running.run_each.Goals as goal

pub for_each_mut-requires-send-T : goal.for_each_mut-requires-send-T
for_each_mut-requires-send-T g c κs within = search (worker_send, sendable) depth 20
