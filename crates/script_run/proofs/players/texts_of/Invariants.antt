use Rattle.std.proofs.Common.{◌≡◌, ◌++◌, drop}
use Rattle.script_run.specs.Following.{texts_of}
use Rattle.script_run.proofs.players.texts_of.Given as goal

abbrev pub invariant-loop-line : goal.invariant-loop-line
invariant-loop-line l = l.texts ++ texts_of l.place (drop l.line-index l.lines) ≡ texts_of l.place l.lines
