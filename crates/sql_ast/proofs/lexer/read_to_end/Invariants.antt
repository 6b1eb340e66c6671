use Rattle.std.proofs.Common.{◌≡◌, drop}
use Rattle.sql_ast.specs.Tokens.{tokens, tokens_from}
use Rattle.sql_ast.proofs.lexer.read_to_end.Given as goal

-- what was read, and what is left to read, give the text's tokens
abbrev pub invariant-loop-byte : goal.invariant-loop-byte
invariant-loop-byte l = (l.at ≡ l.byte-index) × (tokens_from l.at (drop l.byte-index l.text) l.reading ≡ tokens l.text)
