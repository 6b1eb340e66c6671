use Rattle.std.proofs.Common.{◌≡◌, ◌++◌, drop}
use Rattle.sql_ast.specs.Values as spec
use Rattle.sql_ast.proofs.reading.canonical_pieces_of.Given as goal

-- the pieces that were read, and those that are left, are all
abbrev pub invariant-loop-token : goal.invariant-loop-token
invariant-loop-token l = l.pieces.items ++ spec.canonical_pieces_of l.text (drop l.token-index l.tokens) ≡ spec.canonical_pieces_of l.text l.tokens
