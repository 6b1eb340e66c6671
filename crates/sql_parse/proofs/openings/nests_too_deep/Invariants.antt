use Rattle.std.proofs.Common.{◌≡◌, ◌≤◌, drop}
use Rattle.sql_parse.specs.Openings.{opens_from, opens_too_many}
use Rattle.sql_parse.proofs.openings.nests_too_deep.Given as goal

-- what is left to count decides as all pieces do
abbrev pub invariant-loop-piece : goal.invariant-loop-piece
invariant-loop-piece l = (l.opened ≤ l.piece-index) × (l.closed ≤ l.piece-index)
    × (opens_from l.opened l.closed (drop l.piece-index l.pieces) ≡ opens_too_many l.pieces)
