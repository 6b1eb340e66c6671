-- Tables.
use Rattle.std.proofs.Common.{◌≡◌, refl, ℕ, suc, Bool, List, [], ◌∷◌, ◌++◌, length, drop, Option, Some, None, Ok, Err}
use Rattle.sql_ast.specs.declared.signs.Sign.TheVariants as sign
use Rattle.sql_ast.specs.declared.statements.Alter.{Alter}
use Rattle.sql_ast.specs.declared.statements.AlterAction.{AlterAction}
use Rattle.sql_ast.specs.declared.tables.Attribute.{Attribute}
use Rattle.sql_ast.specs.declared.tables.ColumnElement.{ColumnElement}
use Rattle.sql_ast.specs.declared.tables.CreateTable.{CreateTable}
use Rattle.sql_ast.specs.declared.tables.DropTable.{DropTable}
use Rattle.sql_ast.specs.declared.tables.Element.{Element}
use Rattle.sql_ast.specs.declared.tables.TypeName.{TypeName}
use Rattle.sql_ast.specs.declared.words.Keyword.TheVariants as word
use Rattle.sql_ast.specs.declared.pieces.Piece.{Piece}
use Rattle.sql_grammar.specs.Reading.{Outcome, Reader, and_then, pure, seen}
use Rattle.sql_statements.specs.Alters.{action_behind, action_by, alter, any_action}
use Rattle.sql_statements.specs.TableHeads.{action_of, attribute_of, element_of, one_of, type_of}
use Rattle.sql_statements.specs.Tables.{actions, any_element, attribute_ahead, attribute_behind, attribute_by, attributes, attributes_by, attributes_from, check, column, constraint, create, decimal, default, drop_table, element_ahead, element_at, element_behind, element_by, elements, first_action, foreign_key, if_exists, if_not_exists, index, index_word, names, places, primary_key, referenced, size, tinyint, type_by, type_name, unique, update_action}
use Rattle.sql_statements.specs.declared.elements.Parent.{Parent}
use Rattle.sql_statements.specs.declared.table_heads.ActionHead.{ActionHead}
use Rattle.sql_statements.specs.declared.table_heads.ActionHead.TheVariants as does
use Rattle.sql_statements.specs.declared.table_heads.AttributeHead.{AttributeHead}
use Rattle.sql_statements.specs.declared.table_heads.AttributeHead.TheVariants as marks
use Rattle.sql_statements.specs.declared.table_heads.Definer.{Definer}
use Rattle.sql_statements.specs.declared.table_heads.Definer.TheVariants as definer
use Rattle.sql_statements.specs.declared.table_heads.ElementHead.{ElementHead}
use Rattle.sql_statements.specs.declared.table_heads.ElementHead.TheVariants as begins
use Rattle.sql_statements.specs.declared.table_heads.TypeHead.{TypeHead}
use Rattle.sql_statements.specs.declared.table_heads.TypeHead.TheVariants as called
use Rattle.sql_laws.proofs.Local.{Takes, loop_local, takes_of_short, turned}
use Rattle.sql_laws.proofs.LocalWords.{IsLocal, ahead, any_one, bind, chosen, eats, eats_keyword, expects, expects_keyword, gives, listed, literal_one, name_one, perhaps_name, mapped, short, skips, views, whole_one}

pub names_local : IsLocal (List (List ℕ)) names
unfolding names
names_local = bind (expects sign.OpenParenthesis) (λ u. bind (listed name_one) (λ found. bind (expects sign.CloseParenthesis) (λ v. gives)))

-- types

tinyint_local : IsLocal TypeName tinyint
unfolding tinyint
tinyint_local = bind (expects sign.OpenParenthesis) (λ u. bind (views one_of) (λ v. bind (expects sign.CloseParenthesis) (λ w. gives)))

size_local : IsLocal ℕ size
unfolding size
size_local = bind (expects sign.OpenParenthesis) (λ u. bind whole_one (λ n. bind (expects sign.CloseParenthesis) (λ w. gives)))

places_local : IsLocal ℕ places
unfolding places
places_local = bind (eats sign.Comma) (λ b. chosen b whole_one gives)

decimal_local : IsLocal TypeName decimal
unfolding decimal
decimal_local = bind (expects sign.OpenParenthesis) (λ u. bind whole_one (λ n. bind places_local (λ m. bind (expects sign.CloseParenthesis) (λ w. gives))))

type_by_local : (head : TypeHead) → IsLocal TypeName (type_by head)
type_by_local called.BigInt = gives
type_by_local called.Int = gives
type_by_local called.Bool = gives
type_by_local called.TinyInt = tinyint_local
type_by_local called.Varchar = mapped _ size_local
type_by_local called.Varbinary = mapped _ size_local
type_by_local called.Decimal = decimal_local

type_local : IsLocal TypeName type_name
unfolding type_name
type_local = bind (views type_of) type_by_local

-- attributes

default_local : IsLocal Attribute default
unfolding default
default_local = bind (eats sign.Minus) (λ minus. bind literal_one (λ value. gives))

attribute_by_local : (head : AttributeHead) → IsLocal Attribute (attribute_by head)
attribute_by_local marks.Not = bind (expects_keyword word.Null) (λ u. gives)
attribute_by_local marks.Null = gives
attribute_by_local marks.Default = default_local
attribute_by_local marks.Primary = bind (expects_keyword word.Key) (λ u. gives)
attribute_by_local marks.Unique = gives

attribute_behind_local : (head : AttributeHead) → IsLocal Attribute (attribute_behind head)
unfolding attribute_behind
attribute_behind_local = attribute_by_local

-- an attribute, if one comes next
abbrev one_attribute : Option AttributeHead → Reader (Option Attribute)
one_attribute (Some head) = λ ts. and_then (attribute_behind head (drop 1 ts)) (λ x. pure (Some x))
one_attribute None = pure None

one_attribute_local : (o : Option AttributeHead) → IsLocal (Option Attribute) (one_attribute o)
one_attribute_local (Some head) = bind skips (λ u. bind (attribute_behind_local head) (λ x. gives {x = Some x}))
one_attribute_local None = gives

module _ (definer : Definer) where
  abbrev link : Reader (Option Attribute)
  link = λ ts. one_attribute (seen (attribute_of definer) ts) ts

  link_local : IsLocal (Option Attribute) link
  link_local = ahead (attribute_of definer) one_attribute one_attribute_local

  link_takes : (ts : List Piece) → Takes Attribute (length ts) (link ts)
  link_takes [] = tt
  link_takes (t ∷ ts) = at (attribute_of definer t)
    where
      at : (o : Option AttributeHead) → Takes Attribute (suc (length ts)) (one_attribute o (t ∷ ts))
      at (Some head) = takes_of_short Attribute (length ts) _ (short (bind (attribute_behind_local head) (λ x. gives)) ts)
      at None = tt

  turns_by : (n : ℕ) (found : List Attribute) (ts : List Piece) → attributes_from definer (suc n) found ts ≡ and_then (link ts) (turned (attributes_from definer n) (λ xs x. xs ++ x ∷ []) found)
  unfolding attributes_from attribute_ahead
  turns_by n found ts = at (seen (attribute_of definer) ts)
    where
      behind : (o : Outcome Attribute) → and_then o (λ x. attributes_from definer n (found ++ x ∷ [])) ≡ and_then (and_then o (λ x. pure (Some x))) (turned (attributes_from definer n) (λ xs x. xs ++ x ∷ []) found)
      behind (Ok read) = refl
      behind (Err k) = refl

      at : (o : Option AttributeHead) → attributes_by (attributes_from definer n) found o ts ≡ and_then (one_attribute o ts) (turned (attributes_from definer n) (λ xs x. xs ++ x ∷ []) found)
      at (Some head) = behind (attribute_behind head (drop 1 ts))
      at None = refl

  attributes_local : IsLocal (List Attribute) (attributes definer)
  unfolding attributes attributes_from
  attributes_local = record { runs = loop_local (List Attribute) Attribute (attributes_from definer) (λ xs x. xs ++ x ∷ []) link (λ s ts. refl) turns_by link_local.runs link_takes refl [] }

  column_local : IsLocal ColumnElement (column definer)
  unfolding column
  column_local = bind name_one (λ n. bind type_local (λ t. bind attributes_local (λ found. gives)))

-- keys, checks and foreign keys

primary_key_local : IsLocal Element primary_key
unfolding primary_key
primary_key_local = bind (expects_keyword word.Key) (λ u. mapped _ names_local)

index_word_local : IsLocal Bool index_word
unfolding index_word
index_word_local = bind (eats_keyword word.Key) (λ b. chosen b gives (eats_keyword word.Index))

unique_local : IsLocal Element unique
unfolding unique
unique_local = bind index_word_local (λ b. bind perhaps_name (λ n. mapped _ names_local))

index_local : IsLocal Element index
unfolding index
index_local = bind name_one (λ n. mapped _ names_local)

check_local : (n : Option (List ℕ)) → IsLocal Element (check n)
unfolding check
check_local n = bind (expects sign.OpenParenthesis) (λ u. bind any_one (λ x. bind (expects sign.CloseParenthesis) (λ v. gives)))

update_action_local : IsLocal (Unit {0}) update_action
unfolding update_action
update_action_local = bind (eats_keyword word.On) (λ b. chosen b (bind (expects_keyword word.Update) (λ u. expects_keyword word.Restrict)) gives)

first_action_local : IsLocal (Unit {0}) first_action
unfolding first_action
first_action_local =
    bind (eats_keyword word.Delete) (λ b. chosen b (bind (expects_keyword word.Restrict) (λ u. update_action_local)) (bind (expects_keyword word.Update) (λ u. expects_keyword word.Restrict)))

actions_local : IsLocal (Unit {0}) actions
unfolding actions
actions_local = bind (eats_keyword word.On) (λ b. chosen b first_action_local gives)

referenced_local : IsLocal Parent referenced
unfolding referenced
referenced_local = bind (expects_keyword word.References) (λ u. bind name_one (λ n. bind names_local (λ found. bind actions_local (λ v. gives))))

foreign_key_local : (n : Option (List ℕ)) → IsLocal Element (foreign_key n)
unfolding foreign_key
foreign_key_local n = bind (expects_keyword word.Key) (λ u. bind names_local (λ own. mapped _ referenced_local))

constraint_local : IsLocal Element constraint
unfolding constraint
constraint_local =
    bind name_one (λ n. bind (eats_keyword word.Check) (λ b. chosen b (check_local (Some n)) (bind (expects_keyword word.Foreign) (λ u. foreign_key_local (Some n)))))

-- elements

element_by_local : (head : ElementHead) → IsLocal Element (element_by head)
element_by_local begins.Primary = primary_key_local
element_by_local begins.Unique = unique_local
element_by_local begins.Index = index_local
element_by_local begins.Constraint = constraint_local
element_by_local begins.Check = check_local None
element_by_local begins.Foreign = foreign_key_local None

element_behind_local : (head : ElementHead) → IsLocal Element (element_behind head)
unfolding element_behind
element_behind_local = element_by_local

element_at_local : (o : Option ElementHead) → IsLocal Element (element_at o)
element_at_local (Some head) = bind skips (λ u. element_behind_local head)
element_at_local None = mapped _ (column_local definer.Create)

any_element_local : IsLocal Element any_element
unfolding any_element element_ahead
any_element_local = ahead element_of element_at element_at_local

-- tables

if_not_exists_local : IsLocal Bool if_not_exists
unfolding if_not_exists
if_not_exists_local = bind (eats_keyword word.If) (λ b. chosen b (bind (bind (expects_keyword word.Not) (λ u. expects_keyword word.Exists)) (λ v. gives)) gives)

if_exists_local : IsLocal Bool if_exists
unfolding if_exists
if_exists_local = bind (eats_keyword word.If) (λ b. chosen b (bind (expects_keyword word.Exists) (λ v. gives)) gives)

elements_local : IsLocal (List Element) elements
unfolding elements
elements_local = bind (expects sign.OpenParenthesis) (λ u. bind (listed any_element_local) (λ found. bind (expects sign.CloseParenthesis) (λ v. gives)))

pub create_local : IsLocal CreateTable create
unfolding create
create_local = bind (expects_keyword word.Table) (λ u. bind if_not_exists_local (λ b. bind name_one (λ n. bind elements_local (λ found. gives))))

pub drop_local : IsLocal DropTable drop_table
unfolding drop_table
drop_local = bind (expects_keyword word.Table) (λ u. bind if_exists_local (λ b. bind name_one (λ n. gives)))

-- ALTER

action_by_local : (head : ActionHead) → IsLocal AlterAction (action_by head)
action_by_local does.Add = mapped _ (column_local definer.Alter)
action_by_local does.Drop = mapped _ name_one
action_by_local does.Modify = mapped _ (column_local definer.Alter)

action_behind_local : (head : ActionHead) → IsLocal AlterAction (action_behind head)
unfolding action_behind
action_behind_local head = bind (eats_keyword word.Column) (λ b. action_by_local head)

any_action_local : IsLocal AlterAction any_action
unfolding any_action
any_action_local = bind (views action_of) action_behind_local

pub alter_local : IsLocal Alter alter
unfolding alter
alter_local = bind (expects_keyword word.Table) (λ u. bind name_one (λ n. bind any_action_local (λ done. gives)))
