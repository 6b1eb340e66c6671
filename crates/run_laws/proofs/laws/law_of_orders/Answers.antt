use Rattle.run_laws.proofs.ReplayLemmas.{replay_decision, replay_dropped, replay_end, replay_first, replay_local, replay_moment, replay_start, replay_state, replay_stopped, step_refused}
use Rattle.run_laws.proofs.laws.law_of_orders.Goals as goal

pub returns : goal.returns
returns c = record {
  first = replay_first;
  local = replay_local;
  moment = replay_moment;
  start = replay_start;
  decision = replay_decision;
  dropping = replay_dropped;
  state = replay_state;
  plain = replay_end;
  refused = step_refused;
  stopped = replay_stopped;
}
