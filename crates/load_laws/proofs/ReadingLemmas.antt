-- The texts of the workload, as they are read.
use Rattle.std.proofs.Common.{◌≡◌, ◌∙◌, sym, ap, refl, cond, ℕ, Bool, false, List, codes, Ok, arith}
use Rattle.sql_ast.specs.Tokens.{and_then}
use Rattle.sql_ast.specs.declared.expressions.Comparison.TheVariants as comparison
use Rattle.sql_ast.specs.declared.expressions.Expr.{fold-roll-Expr}
use Rattle.sql_ast.specs.declared.expressions.Expr.TheOpen.{Expr-F}
use Rattle.sql_ast.specs.declared.expressions.Expr.TheVariants as expr
use Rattle.sql_ast.specs.declared.expressions.Expr.TheVariants.{rolls-Compare, rolls-Literal, rolls-Name}
use Rattle.sql_ast.specs.declared.expressions.Literal.TheVariants as literal
use Rattle.sql_ast.specs.declared.statements.Statement.{Statement}
use Rattle.sql_ast.specs.declared.statements.Statement.TheVariants as statement
use Rattle.sql_ast.specs.declared.statements.Write.TheVariants as write
use Rattle.sql_grammar.specs.Expressions.{any, atom, called, column, comparison, conjunction, disjunction, expression, literal_ahead, negation, other_atom, plain_atom, product, sum, term, term_ahead, test_ahead, tested, unary}
use Rattle.sql_grammar.specs.Pieces.{same_keyword, same_sign}
use Rattle.sql_grammar.specs.Reading.{chain, chain_from, list, name, optional_name, sees, sees_keyword, sees_name, sees_word}
use Rattle.sql_ast.specs.declared.pieces.Piece.{Piece}
use Rattle.sql_text.specs.Features.{has, step}
use Rattle.sql_text.specs.declared.features.Feature.{Feature}
use Rattle.sql_text.specs.declared.features.Feature.TheVariants as feature
use Rattle.sql_parse.specs.Openings.{is_hopeless}
use Rattle.sql_parse.specs.Parsing.{judged, placed, refused, statement_by, statement_in}
use Rattle.sql_statements.specs.Selects.{filter}
use Rattle.sql_statements.specs.Statements.{any_entry, any_statement, assignment, insert, named_columns, statement_behind, statement_of, tuple, update}
use Rattle.sql_statements.specs.Tables as tables
use Rattle.plain_sessions.specs.Commands.{command, command_or_fault, statement_command}
use Rattle.plain_sessions.specs.declared.commands.Command.TheVariants.{Begin, CommitAll, Data}
use Rattle.plain_sessions.specs.declared.commands.Work.TheVariants.{Change}
use Rattle.workload.specs.declared.steps.LoadStep.TheVariants.{Begins, Commits, Inserts, Makes, Updates}
use Rattle.workload.specs.declared.steps.Pair.{Pair}
use Rattle.workload.specs.Workload.{create_text}
use Rattle.load_laws.specs.Parts.{StepsAreRead}
use Rattle.load_laws.specs.Steps as steps
use Rattle.load_laws.proofs.ReadingTexts.{HasPieces, insert_has, insert_pieces, update_has, update_pieces}

-- ---- a statement without a number

begin_read : command (codes "BEGIN") ≡ Begin
unfolding command sees_word statement_behind any_statement statement_of
begin_read = refl

commit_read : command (codes "COMMIT") ≡ CommitAll
unfolding command sees_word statement_behind any_statement statement_of
commit_read = refl

create_read : command create_text ≡ Data (Change (write.Create steps.create))
unfolding command same_sign same_keyword sees sees_keyword sees_word sees_name name optional_name list chain chain_from tables.type_name tables.column tables.attributes tables.attributes_from tables.attribute_ahead tables.attribute_behind tables.any_element tables.element_ahead tables.element_behind tables.elements tables.if_not_exists tables.create statement_behind any_statement statement_of
create_read = refl

-- ---- from pieces to what is asked

record IsSaid (ps : List Piece) (said : Statement) : Type 0 where
  hopeful : is_hopeless ps ≡ false
  read : statement_of ps ≡ Ok said
  inside : judged said ≡ Ok said

said_read : (text : List ℕ) (ps : List Piece) (said : Statement) → HasPieces text ps → IsSaid ps said → command text ≡ statement_command said
unfolding command
said_read text ps said known is =
    ap (λ t. command_or_fault (and_then t (statement_in text))) known.tokens_are
    ∙ ap (λ qs. command_or_fault (statement_by text known.found qs)) known.pieces_are
    ∙ ap (λ (hopeless : Bool). command_or_fault (cond hopeless (refused 9013) (and_then (placed text known.found (statement_of ps)) judged))) is.hopeful
    ∙ ap (λ read. command_or_fault (and_then (placed text known.found read) judged)) is.read
    ∙ ap command_or_fault is.inside

-- ---- no expression here has what it may not

number_step : (f : Feature) (n : ℕ) → step f (Expr-F.Literal (literal.Whole n)) ≡ false
number_step feature.Aggregate n = refl
number_step feature.SessionWord n = refl
number_step feature.LongName n = refl
number_step feature.OtherVariable n = refl

number_has : (f : Feature) (n : ℕ) → has f (steps.number n) ≡ false
number_has f n = ap (has f) (sym (rolls-Literal (literal.Whole n))) ∙ fold-roll-Expr Bool (step f) (Expr-F.Literal (literal.Whole n)) ∙ number_step f n

key_step : (f : Feature) → step f (Expr-F.Name (codes "id")) ≡ false
key_step feature.Aggregate = refl
key_step feature.SessionWord = refl
key_step feature.LongName = refl
key_step feature.OtherVariable = refl

key_has : (f : Feature) → has f (expr.Name (codes "id")) ≡ false
key_has f = ap (has f) (sym (rolls-Name (codes "id"))) ∙ fold-roll-Expr Bool (step f) (Expr-F.Name (codes "id")) ∙ key_step f

test_step : (f : Feature) → step f (Expr-F.Compare false comparison.Equal false) ≡ false
test_step feature.Aggregate = refl
test_step feature.SessionWord = refl
test_step feature.LongName = refl
test_step feature.OtherVariable = refl

-- `id = K`
test_has : (f : Feature) (n : ℕ) → has f (expr.Compare (expr.Name (codes "id")) comparison.Equal (steps.number n)) ≡ false
test_has f n =
    ap (has f) (sym (rolls-Compare (expr.Name (codes "id")) comparison.Equal (steps.number n)))
    ∙ fold-roll-Expr Bool (step f) (Expr-F.Compare (expr.Name (codes "id")) comparison.Equal (steps.number n))
    ∙ ap (λ (b : Bool). step f (Expr-F.Compare b comparison.Equal (has f (steps.number n)))) (key_has f)
    ∙ ap (λ (b : Bool). step f (Expr-F.Compare false comparison.Equal b)) (number_has f n)
    ∙ test_step f

-- ---- statements with numbers

insert_said : (pair : Pair) → IsSaid (insert_pieces pair.key pair.value) (statement.Write (write.Insert (steps.insert pair)))
unfolding same_sign same_keyword sees sees_keyword name list chain chain_from called test_ahead term_ahead literal_ahead plain_atom atom unary product term sum tested comparison negation conjunction disjunction expression any any_entry tuple named_columns insert statement_behind any_statement statement_of
insert_said pair = record {
  hopeful = refl;
  read = refl;
  inside = rw (
    number_has feature.LongName pair.key,
    number_has feature.LongName pair.value,
    number_has feature.Aggregate pair.key,
    number_has feature.SessionWord pair.key,
    number_has feature.Aggregate pair.value,
    number_has feature.SessionWord pair.value,
  ) refl;
}

update_said : (pair : Pair) → IsSaid (update_pieces pair.key pair.value) (statement.Write (write.Update (steps.update pair)))
unfolding same_sign same_keyword sees sees_keyword name list chain chain_from column called test_ahead term_ahead literal_ahead other_atom plain_atom atom unary product term sum tested comparison negation conjunction disjunction expression any filter assignment update statement_behind any_statement statement_of
update_said pair = record {
  hopeful = refl;
  read = refl;
  inside = rw (
    number_has feature.LongName pair.value,
    test_has feature.LongName pair.key,
    number_has feature.Aggregate pair.value,
    number_has feature.SessionWord pair.value,
    test_has feature.Aggregate pair.key,
    test_has feature.SessionWord pair.key,
  ) refl;
}

pub steps_read : StepsAreRead
steps_read Begins small = begin_read
steps_read Makes small = create_read
steps_read (Inserts pair) small =
    said_read _ (insert_pieces pair.key pair.value) (statement.Write (write.Insert (steps.insert pair)))
    (insert_has pair.key pair.value (omega (arith, small.key_small)) (omega (arith, small.value_small))) (insert_said pair)
steps_read (Updates pair) small =
    said_read _ (update_pieces pair.key pair.value) (statement.Write (write.Update (steps.update pair)))
    (update_has pair.key pair.value (omega (arith, small.key_small)) (omega (arith, small.value_small))) (update_said pair)
steps_read Commits small = commit_read
