-- Whatever statement a text is, it is sound; and what a sound statement creates can be kept.
use Rattle.std.specs.Prelude.{◌≡◌, ◌≤◌, ℕ, true, false, List, ◌∷◌, ◌++◌, length, Option, None, Some, Ok, Err}
use Rattle.std.specs.List.{AllByRecursion}
use Rattle.sql_ast.specs.declared.places.Last.TheVariants.{Other}
use Rattle.sql_ast.specs.declared.statements.Alter.{Alter}
use Rattle.sql_ast.specs.declared.statements.AlterAction.{AlterAction}
use Rattle.sql_ast.specs.declared.statements.AlterAction.TheVariants as action
use Rattle.sql_ast.specs.declared.statements.Statement.{Statement}
use Rattle.sql_ast.specs.declared.statements.Statement.TheVariants as statement
use Rattle.sql_ast.specs.declared.statements.Write.TheVariants as write
use Rattle.sql_ast.specs.declared.tables.CreateTable.{CreateTable}
use Rattle.sql_ast.specs.declared.tables.Element.{Element}
use Rattle.sql_ast.specs.declared.tables.Element.TheVariants as element
use Rattle.sql_ast.specs.declared.pieces.Piece.{Piece}
use Rattle.sql_parse.specs.Parsing.{parsed}
use Rattle.sql_grammar.specs.Checking.{canonical_expression}
use Rattle.sql_rules.specs.Outside.{outside}
use Rattle.sql_statements.specs.Statements.{statement_of}
use Rattle.sql_text.specs.Canon.{text}
use Rattle.tuple_codec.specs.Texts.{is_utf8}
use Rattle.sql_laws.specs.Canonical.{paired}
use Rattle.sql_laws.specs.Sound.{is_sound}
use Rattle.sql_laws.specs.Written.{are_given}

-- whatever is read of pieces that a text gives is sound
abbrev pub ReadsSound : Type 0
ReadsSound = (pieces : List Piece) (s : Statement) → are_given Other pieces ≡ true → statement_of pieces ≡ Ok s → is_sound s ≡ true

-- so whatever statement a text of UTF-8 is, it is sound, and in the language
abbrev pub ParsesSound : Type 0
ParsesSound = (statement : List ℕ) (s : Statement) → is_utf8 statement ≡ true → parsed statement ≡ Ok s → (outside s ≡ false) × (is_sound s ≡ true)

-- where reading stops at a piece, it stops there whatever stands behind that piece
abbrev pub StatementsStop : Type 0
StatementsStop = (front : List Piece) (t : Piece) (behind other : List Piece) → statement_of (front ++ t ∷ behind) ≡ Err (length (t ∷ behind)) → statement_of (front ++ t ∷ other) ≡ Err (length (t ∷ other))

-- What a table keeps of what creates and alters it.

abbrev pub IsKeptName : List ℕ → Type 0
IsKeptName name = (is_utf8 name ≡ true) × (1 ≤ length name) × (length name ≤ 64)

abbrev pub IfGiven : Option (List ℕ) → Type 0
IfGiven (Some name) = IsKeptName name
IfGiven None = Unit {0}

-- a CHECK's canonical text is read as what it says
abbrev pub IsKeptElement : Element → Type 0
IsKeptElement (element.Column column) = IsKeptName column.name
IsKeptElement (element.PrimaryKey columns) = Unit {0}
IsKeptElement (element.Unique name columns) = IfGiven name
IsKeptElement (element.Index name columns) = IsKeptName name
IsKeptElement (element.Check name condition) = IfGiven name × (canonical_expression (text condition) ≡ Some (paired condition)) × (is_utf8 (text condition) ≡ true)
IsKeptElement (element.ForeignKey key) = IfGiven key.name × IsKeptName key.parent × AllByRecursion IsKeptName key.parent_columns

-- of a sound CREATE in the language
abbrev pub CreatesKept : Type 0
CreatesKept = (create : CreateTable) → outside (statement.Write (write.Create create)) ≡ false → is_sound (statement.Write (write.Create create)) ≡ true
    → IsKeptName create.table × AllByRecursion IsKeptElement create.elements

abbrev pub IsKeptAction : AlterAction → Type 0
IsKeptAction (action.Add column) = IsKeptName column.name
IsKeptAction (action.Drop name) = IsKeptName name
IsKeptAction (action.Modify column) = IsKeptName column.name

-- of a sound ALTER in the language
abbrev pub AltersKept : Type 0
AltersKept = (alter : Alter) → outside (statement.Write (write.Alter alter)) ≡ false → is_sound (statement.Write (write.Alter alter)) ≡ true → IsKeptName alter.table × IsKeptAction alter.action
