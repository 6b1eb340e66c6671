-- What texts come to, computed where it is known.
use Rattle.std.proofs.Common.{◌≡◌, refl, codes, ℕ, List, [], ◌∷◌, ◌++◌, Bool, true, false, Result, Ok, Err}
use Rattle.std.specs.Prelude.{replicate}
use Rattle.sql_ast.specs.declared.faults.Refusal.{Refusal}
use Rattle.sql_ast.specs.declared.signs.Sign.TheVariants as sign
use Rattle.sql_ast.specs.declared.statements.Statement.{Statement}
use Rattle.sql_ast.specs.declared.statements.Statement.TheVariants as statement
use Rattle.sql_ast.specs.declared.pieces.Piece.TheVariants as piece
use Rattle.sql_grammar.specs.Pieces.{same_sign, same_keyword}
use Rattle.sql_grammar.specs.Reading.{sees, sees_keyword, sees_word, name, string, list, chain, chain_from}
use Rattle.sql_parse.specs.Openings.{opens_too_many}
use Rattle.sql_parse.specs.Parsing.{parsed, refused}
use Rattle.sql_statements.specs.Statements.{arguments, call, statement_behind, any_statement, statement_of}

abbrev misplaced : ℕ → Result Statement Refusal
misplaced at = Err (record { number = 1064; at = at })

-- before the grammar: the first bad token, then a first word that begins no statement

bad_tokens : (parsed (codes "ALTER ?") ≡ misplaced 6) × (parsed (codes "foo 99999999999999999999") ≡ refused 1264)
bad_tokens = (refl, refl)

other_words : (parsed (codes "COLUMN t") ≡ refused 9013) × (parsed (codes "distinct t") ≡ refused 9013)
other_words = (refl, refl)

-- 64 parentheses may be open, and one that is closed early counts against those that are opened later

open_parentheses : (opens_too_many (replicate 64 (piece.Sign sign.OpenParenthesis)) ≡ false) × (opens_too_many (replicate 65 (piece.Sign sign.OpenParenthesis)) ≡ true)
    × (opens_too_many (piece.Sign sign.CloseParenthesis ∷ replicate 65 (piece.Sign sign.OpenParenthesis)) ≡ false)
unfolding same_sign
open_parentheses = (refl, refl, refl)

-- the first token that fits no statement, or the text's end

misplaced_tokens : (parsed (codes "`select` 1") ≡ misplaced 0) × (parsed (codes "") ≡ misplaced 0) × (parsed (codes "COMMIT WORK;") ≡ misplaced 11) × (parsed (codes "START ") ≡ misplaced 6)
unfolding same_sign same_keyword sees sees_keyword sees_word statement_behind any_statement statement_of
misplaced_tokens = (refl, refl, refl, refl)

-- behind the grammar

calls : (parsed (codes "CALL _()") ≡ refused 9013) × (parsed (codes "CALL DOLT_ADD()") ≡ refused 9008)
unfolding same_sign same_keyword sees sees_keyword name string list chain chain_from arguments call statement_behind any_statement statement_of
calls = (refl, refl)

statements : (parsed (codes "commit WORK") ≡ Ok statement.Commit) × (parsed (codes "\tRollback ") ≡ Ok statement.Rollback)
unfolding same_sign same_keyword sees sees_keyword sees_word statement_behind any_statement statement_of
statements = (refl, refl)
