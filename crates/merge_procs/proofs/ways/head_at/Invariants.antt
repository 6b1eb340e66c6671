use Rattle.std.proofs.Common.{◌≡◌, drop, map}
use Rattle.session_state.specs.Transactions.{head_seen}
use Rattle.merge_procs.specs.Ways.{head_at}
use Rattle.merge_procs.proofs.ways.head_at.Given as goal

abbrev pub invariant-loop-head : goal.invariant-loop-head
invariant-loop-head l = head_at l.name (map head_seen (drop l.head-index l.heads)) ≡ head_at l.name (map head_seen l.heads)
