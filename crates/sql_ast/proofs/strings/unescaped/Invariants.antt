use Rattle.std.proofs.Common.{◌≡◌, ◌++◌, length}
use Rattle.sql_ast.specs.Values.{string_from}
use Rattle.sql_ast.proofs.strings.unescaped.Given as goal

-- what was read, and what is left to read, give the string
abbrev pub invariant-bytes : goal.invariant-bytes
invariant-bytes l = l.text ++ string_from l.quote l.left ≡ string_from l.quote l.bytes

abbrev pub decreases-bytes : goal.decreases-bytes
decreases-bytes l = length l.left
