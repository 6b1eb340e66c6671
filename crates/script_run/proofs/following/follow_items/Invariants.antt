use Rattle.std.proofs.Common.{take}
use Rattle.run_laws.specs.Orders.{asked_order}
use Rattle.script_run.specs.Following.{IsPlayingAt}
use Rattle.script_run.proofs.following.follow_items.Given as goal

abbrev pub invariant-loop-at : goal.invariant-loop-at
invariant-loop-at g l = IsPlayingAt g.D.Digester.address l.epoch l.script (take l.at (asked_order l.script)) l.playing
