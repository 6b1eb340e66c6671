use Rattle.std.proofs.Common.{◌≡◌, ◌++◌, length}
use Rattle.sql_ast.specs.Values as spec
use Rattle.sql_ast.proofs.byte_strings.hex_bytes.Given as goal

-- what was read, and what is left to read, give the bytes
abbrev pub invariant-pairs : goal.invariant-pairs
invariant-pairs l = l.bytes ++ spec.hex_bytes l.left ≡ spec.hex_bytes l.digits

abbrev pub decreases-pairs : goal.decreases-pairs
decreases-pairs l = length l.left
