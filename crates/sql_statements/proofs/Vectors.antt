-- Statements, computed on pieces whose statements are known.
use Rattle.std.proofs.Common.{◌≡◌, refl, codes, [], ◌∷◌, Ok, Err, Some, true, false}
use Rattle.sql_ast.specs.declared.expressions.Expr.TheVariants as e
use Rattle.sql_ast.specs.declared.expressions.Literal.TheVariants as literal
use Rattle.sql_ast.specs.declared.selects.Select.TheVariants as select
use Rattle.sql_ast.specs.declared.signs.Sign.TheVariants as sign
use Rattle.sql_ast.specs.declared.statements.AlterAction.TheVariants as action
use Rattle.sql_ast.specs.declared.statements.Statement.TheVariants as statement
use Rattle.sql_ast.specs.declared.statements.Write.TheVariants as write
use Rattle.sql_ast.specs.declared.tables.Attribute.TheVariants as attribute
use Rattle.sql_ast.specs.declared.tables.TypeName.TheVariants as type
use Rattle.sql_ast.specs.declared.words.Keyword.TheVariants as word
use Rattle.sql_ast.specs.declared.pieces.Piece.TheVariants.{Keyword, Word, Text, Whole, Sign}
use Rattle.sql_grammar.specs.Pieces.{same_sign, same_keyword}
use Rattle.sql_grammar.specs.Reading as reading
use Rattle.sql_grammar.specs.Reading.{sees, sees_keyword, sees_word, sees_name, name, optional_name, string, list, chain, chain_from}
use Rattle.sql_grammar.specs.Expressions.{column, called, test_ahead, term_ahead, literal_ahead, other_atom, plain_atom, atom, unary, product, term, sum, tested, comparison, negation, conjunction, disjunction, expression, any}
use Rattle.sql_statements.specs.Selects.{named, begins_all_of, one_item, item, listing_from, listing, items, named_from, alone, selection}
use Rattle.sql_statements.specs.Heads.{begins_session_point, begins_session}
use Rattle.sql_statements.specs.Alters.{alter, any_action, action_behind}
use Rattle.sql_statements.specs.Tables as tables
use Rattle.sql_statements.specs.Tables.{names, type_name, size, default, attributes, attributes_from, attribute_ahead, attribute_behind, actions, first_action, update_action, referenced, foreign_key, any_element, element_ahead, element_behind, elements, if_not_exists, create}
use Rattle.sql_statements.specs.Statements.{scope_behind, scope_word, scope, setting, call, arguments, statement_behind, any_statement, statement_of}

-- SET session = 1: the variable is `session`
sets_a_variable_called_session : statement_of (Keyword word.Set ∷ Word (codes "session") ∷ Sign sign.Equal ∷ Whole 1 ∷ []) ≡ Ok (statement.Set (record { variable = codes "session"; on = true }))
unfolding same_sign same_keyword sees name begins_session begins_session_point scope_behind scope_word scope setting statement_behind any_statement statement_of
sets_a_variable_called_session = refl

-- SET @@session.autocommit = OFF
sets_behind_session : statement_of (Keyword word.Set ∷ Sign sign.AtAt ∷ Word (codes "session") ∷ Sign sign.Point ∷ Word (codes "autocommit") ∷ Sign sign.Equal ∷ Word (codes "off") ∷ []) ≡ Ok (statement.Set (record { variable = codes "autocommit"; on = false }))
unfolding same_sign same_keyword sees name begins_session begins_session_point scope_behind scope_word scope setting statement_behind any_statement statement_of
sets_behind_session = refl

-- SET autocommit = 2
stops_at_a_two : statement_of (Keyword word.Set ∷ Word (codes "autocommit") ∷ Sign sign.Equal ∷ Whole 2 ∷ []) ≡ Err 1
unfolding same_sign same_keyword sees name begins_session begins_session_point scope_behind scope_word scope setting statement_behind any_statement statement_of
stops_at_a_two = refl

-- CALL dolt_add('.')
calls : statement_of (Keyword word.Call ∷ Word (codes "dolt_add") ∷ Sign sign.OpenParenthesis ∷ Text (codes ".") ∷ Sign sign.CloseParenthesis ∷ []) ≡ Ok (statement.Call (record { name = codes "dolt_add"; arguments = codes "." ∷ [] }))
unfolding same_sign same_keyword sees name string list chain chain_from arguments call statement_behind any_statement statement_of
calls = refl

-- BEGIN WORK WORK
stops_at_a_second_work : statement_of (Word (codes "begin") ∷ Word (codes "work") ∷ Word (codes "work") ∷ []) ≡ Err 1
unfolding sees_word statement_behind any_statement statement_of
stops_at_a_second_work = refl

-- SELECT 1 x: FROM could follow
wants_from_or_as : statement_of (Keyword word.Select ∷ Whole 1 ∷ Word (codes "x") ∷ []) ≡ Err 0
unfolding same_sign same_keyword sees sees_keyword sees_name name optional_name chain chain_from column called test_ahead term_ahead literal_ahead other_atom plain_atom atom unary product term sum tested comparison negation conjunction disjunction expression any named begins_all_of one_item item listing_from listing items named_from alone selection statement_behind any_statement statement_of
wants_from_or_as = refl

-- SELECT 1 AS x
selects_alone : statement_of (Keyword word.Select ∷ Whole 1 ∷ Keyword word.As ∷ Word (codes "x") ∷ []) ≡ Ok (statement.Select (select.Alone (record { expr = e.Literal (literal.Whole 1); name = Some (codes "x") } ∷ [])))
unfolding same_sign same_keyword sees sees_keyword sees_name name optional_name chain chain_from column called test_ahead term_ahead literal_ahead other_atom plain_atom atom unary product term sum tested comparison negation conjunction disjunction expression any named begins_all_of one_item item listing_from listing items named_from alone selection statement_behind any_statement statement_of
selects_alone = refl

-- CREATE TABLE t (FOREIGN KEY (a) REFERENCES p (a) ON UPDATE RESTRICT ON DELETE RESTRICT)
wants_delete_before_update : statement_of (Keyword word.Create ∷ Keyword word.Table ∷ Word (codes "t") ∷ Sign sign.OpenParenthesis ∷ Keyword word.Foreign ∷ Keyword word.Key
    ∷ Sign sign.OpenParenthesis ∷ Word (codes "a") ∷ Sign sign.CloseParenthesis ∷ Keyword word.References ∷ Word (codes "p") ∷ Sign sign.OpenParenthesis ∷ Word (codes "a") ∷ Sign sign.CloseParenthesis
    ∷ Keyword word.On ∷ Keyword word.Update ∷ Keyword word.Restrict ∷ Keyword word.On ∷ Keyword word.Delete ∷ Keyword word.Restrict ∷ Sign sign.CloseParenthesis ∷ []) ≡ Err 4
unfolding same_sign same_keyword sees sees_keyword sees_name name list chain chain_from names actions first_action update_action referenced foreign_key any_element element_ahead element_behind elements if_not_exists create statement_behind any_statement statement_of
wants_delete_before_update = refl

-- ALTER TABLE t MODIFY modify VARCHAR(9) NOT NULL DEFAULT 'x'
modifies_a_column : statement_of (Keyword word.Alter ∷ Keyword word.Table ∷ Word (codes "t") ∷ Word (codes "modify") ∷ Word (codes "modify") ∷ Word (codes "varchar") ∷ Sign sign.OpenParenthesis ∷ Whole 9
    ∷ Sign sign.CloseParenthesis ∷ Keyword word.Not ∷ Keyword word.Null ∷ Keyword word.Default ∷ Text (codes "x") ∷ [])
    ≡ Ok (statement.Write (write.Alter (record {
      table = codes "t";
      action = action.Modify (record {
        name = codes "modify";
        kind = type.Varchar 9;
        attributes = attribute.NotNull ∷ attribute.Default false (literal.Text (codes "x")) ∷ [];
      });
    })))
unfolding same_sign same_keyword sees sees_keyword sees_name name reading.whole reading.literal default size type_name tables.column attributes attributes_from attribute_ahead attribute_behind alter any_action action_behind statement_behind any_statement statement_of
modifies_a_column = refl

-- ALTER TABLE t DROP COLUMN x
drops_a_column : statement_of (Keyword word.Alter ∷ Keyword word.Table ∷ Word (codes "t") ∷ Keyword word.Drop ∷ Keyword word.Column ∷ Word (codes "x") ∷ [])
    ≡ Ok (statement.Write (write.Alter (record { table = codes "t"; action = action.Drop (codes "x") })))
unfolding same_sign same_keyword sees sees_keyword sees_name name alter any_action action_behind statement_behind any_statement statement_of
drops_a_column = refl

-- ALTER TABLE t ADD x INT UNIQUE
alters_make_no_keys : statement_of (Keyword word.Alter ∷ Keyword word.Table ∷ Word (codes "t") ∷ Keyword word.Add ∷ Word (codes "x") ∷ Word (codes "int") ∷ Keyword word.Unique ∷ []) ≡ Err 1
unfolding same_sign same_keyword sees sees_keyword sees_name name type_name tables.column attributes attributes_from attribute_ahead attribute_behind alter any_action action_behind statement_behind any_statement statement_of
alters_make_no_keys = refl
