use Rattle.std.proofs.Common.{◌≡◌, ◌++◌, drop}
use Rattle.sql_ast.specs.Values.{lowered}
use Rattle.sql_ast.proofs.lower_words.lower_case_of.Given as goal

-- what was lowered, and what is left, give the word
abbrev pub invariant-loop-byte : goal.invariant-loop-byte
invariant-loop-byte l = l.word.items ++ lowered (drop l.byte-index l.bytes) ≡ lowered l.bytes
