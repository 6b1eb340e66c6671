use Rattle.std.proofs.Common.{List, length}
use Rattle.std.proofs.lemmas.Result.{IfOk-at_ok}
use Rattle.sql_ast.specs.Slices.{AreSlices}
use Rattle.sql_ast.specs.declared.tokens.Token.{Token}
use Rattle.sql_ast.proofs.SliceLemmas.{tokens_slices}
use Rattle.sql_ast.proofs.lexer.lex.Goals as goal

pub returns-in-Ok-clause-slices : goal.returns-in-Ok-clause-slices
returns-in-Ok-clause-slices c =
    IfOk-at_ok (λ (ts : List Token). AreSlices c.args.text.now 0 ts (length c.args.text.now)) c.in-Ok.ensures (tokens_slices c.args.text.now)
