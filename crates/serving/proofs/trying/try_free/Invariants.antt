use Rattle.serving.specs.Deciding.{HasLost}
use Rattle.serving.proofs.trying.try_free.Given as goal

abbrev pub invariant-loop-try : goal.invariant-loop-try
invariant-loop-try g l = ((first : _) → g.T.Meeting.ready first l.fn.meeting → g.T.Meeting.ready first l.meeting)
    × HasLost l._try (g.T.Meeting.tells l.fn.meeting) (g.T.Meeting.tells l.meeting)
