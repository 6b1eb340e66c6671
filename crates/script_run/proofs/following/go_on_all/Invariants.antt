use Rattle.std.proofs.Common.{◌≡◌, ℤ, List, length}
use Rattle.script_text.specs.declared.scripts.Moment.{Moment}
use Rattle.script_text.specs.declared.scripts.Script.{Script}
use Rattle.script_run.specs.Following.{AreSettledTo, CantFollow, IsPlayingAt}
use Rattle.script_run.proofs.following.go_on_all.Given as goal

abbrev pub invariant-loop-place : goal.invariant-loop-place
invariant-loop-place g l = record {
  playing : (epoch : ℤ) (script : Script) (moments : List Moment) → IsPlayingAt g.D.Digester.address epoch script moments l.fn.playing → IsPlayingAt g.D.Digester.address epoch script moments l.playing;
  lists : length l.playing.players.items ≡ length l.fn.playing.players.items;
  settled : AreSettledTo l.place l.playing.players.items;
  past : (moment : Moment) → CantFollow moment l.fn.playing.players.items → CantFollow moment l.playing.players.items;
}
