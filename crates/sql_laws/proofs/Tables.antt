-- Tables.
use Rattle.std.proofs.Common.{◌≡◌, ap, refl, subst, sym, ℕ, zero, suc, Bool, true, false, cond, ◌&&◌, List, [], ◌∷◌, ◌++◌, length, drop, Option, Some, None, Ok, Err}
use Rattle.std.specs.List.{list_all}
use Rattle.std.proofs.lemmas.Bool.{and_from, and_parts}
use Rattle.sql_ast.specs.declared.expressions.Literal.{Literal}
use Rattle.sql_ast.specs.declared.places.Last.TheVariants.{Operand, Other, UnaryMinus}
use Rattle.sql_ast.specs.declared.signs.Sign.TheVariants as sign
use Rattle.sql_ast.specs.declared.words.Keyword.{Keyword}
use Rattle.sql_ast.specs.declared.words.Keyword.TheVariants as word
use Rattle.sql_ast.specs.declared.pieces.Piece.{Piece}
use Rattle.sql_ast.specs.declared.pieces.Piece.TheVariants as piece
use Rattle.sql_grammar.specs.Pieces.{is_sign, same_sign}
use Rattle.sql_grammar.specs.Reading.{Outcome, and_then, literal, sees}
use Rattle.sql_laws.specs.Spelling.{mark}
use Rattle.sql_laws.specs.Written.{are_given, after_piece, is_given, is_literal, is_name}
use Rattle.sql_laws.proofs.Readers.{Fine, ahead, Gives, IsMinus, Sound, all_added, any_sound, anything, bind, chosen, eats, eats_keyword, expects, expects_keyword, gives, list_sound, loosens, names_one, perhaps_named, views, wholes_one}
use Rattle.sql_ast.specs.declared.statements.Alter.{Alter}
use Rattle.sql_ast.specs.declared.statements.AlterAction.{AlterAction}
use Rattle.sql_ast.specs.declared.tables.Attribute.{Attribute}
use Rattle.sql_ast.specs.declared.tables.Attribute.TheVariants as attribute
use Rattle.sql_ast.specs.declared.tables.ColumnElement.{ColumnElement}
use Rattle.sql_ast.specs.declared.tables.CreateTable.{CreateTable}
use Rattle.sql_ast.specs.declared.tables.DropTable.{DropTable}
use Rattle.sql_ast.specs.declared.tables.Element.{Element}
use Rattle.sql_ast.specs.declared.tables.TypeName.{TypeName}
use Rattle.sql_statements.specs.TableHeads.{action_of, attribute_in, attribute_of, element_of, one_of, type_of}
use Rattle.sql_statements.specs.Alters.{action_behind, action_by, alter, any_action}
use Rattle.sql_statements.specs.declared.table_heads.ActionHead.{ActionHead}
use Rattle.sql_statements.specs.declared.table_heads.ActionHead.TheVariants as does
use Rattle.sql_statements.specs.declared.table_heads.Definer.{Definer}
use Rattle.sql_statements.specs.declared.table_heads.Definer.TheVariants as definer
use Rattle.sql_statements.specs.Tables.{actions, any_element, attribute_ahead, attribute_behind, attribute_by, attributes, attributes_by, attributes_from, check, column, constraint, create, decimal, default, drop_table, element_ahead, element_at, element_behind, element_by, elements, first_action, foreign_key, if_exists, if_not_exists, index, index_word, names, places, primary_key, referenced, size, tinyint, type_by, type_name, unique, update_action}
use Rattle.sql_statements.specs.declared.elements.Parent.{Parent}
use Rattle.sql_statements.specs.declared.table_heads.AttributeHead.{AttributeHead}
use Rattle.sql_statements.specs.declared.table_heads.AttributeHead.TheVariants as marks
use Rattle.sql_statements.specs.declared.table_heads.ElementHead.{ElementHead}
use Rattle.sql_statements.specs.declared.table_heads.ElementHead.TheVariants as begins
use Rattle.sql_statements.specs.declared.table_heads.TypeHead.{TypeHead}
use Rattle.sql_statements.specs.declared.table_heads.TypeHead.TheVariants as called
use Rattle.sql_laws.specs.Sound.{is_action, is_alter, is_altering, is_attribute, is_create, is_drop, is_element, is_filled, is_names, is_perhaps}

pub names_sound : Sound (List (List ℕ)) is_names names
unfolding names same_sign
names_sound = bind (expects sign.OpenParenthesis refl) (λ u a. bind (list_sound names_one) (λ found all. bind (expects sign.CloseParenthesis refl) (λ v b. gives all)))

-- types

one_such : (t : Piece) (x : Unit {0}) → is_given Other t ≡ true → one_of t ≡ Some x → (anything x ≡ true) × (IsMinus t → ⊥)
one_such (piece.Whole value) x given is = (refl, λ minus. cc)
one_such t x given is = absurd (cc)

tinyint_sound : Sound TypeName anything tinyint
unfolding tinyint same_sign
tinyint_sound = bind (expects sign.OpenParenthesis refl) (λ u a. bind (views one_of one_such) (λ v b. bind (expects sign.CloseParenthesis refl) (λ w c. gives refl)))

size_sound : Sound ℕ anything size
unfolding size same_sign
size_sound = bind (expects sign.OpenParenthesis refl) (λ u a. bind wholes_one (λ n b. bind (expects sign.CloseParenthesis refl) (λ w c. gives refl)))

places_sound : Sound ℕ anything places
unfolding places same_sign
places_sound = bind (eats sign.Comma refl) (λ b a. chosen b wholes_one (gives refl))

decimal_sound : Sound TypeName anything decimal
unfolding decimal same_sign
decimal_sound =
    bind (expects sign.OpenParenthesis refl) (λ u a. bind wholes_one (λ n b. bind places_sound (λ m c. bind (expects sign.CloseParenthesis refl) (λ w d. gives refl))))

type_by_sound : (head : TypeHead) → Sound TypeName anything (type_by head)
type_by_sound called.BigInt = gives refl
type_by_sound called.Int = gives refl
type_by_sound called.Bool = gives refl
type_by_sound called.TinyInt = tinyint_sound
type_by_sound called.Varchar = bind size_sound (λ n a. gives refl)
type_by_sound called.Varbinary = bind size_sound (λ n a. gives refl)
type_by_sound called.Decimal = decimal_sound

type_such : (t : Piece) (x : TypeHead) → is_given Other t ≡ true → type_of t ≡ Some x → (anything x ≡ true) × (IsMinus t → ⊥)
type_such (piece.Word n) x given is = (refl, λ minus. cc)
type_such t x given is = absurd (cc)

type_sound : Sound TypeName anything type_name
unfolding type_name
type_sound = bind (views type_of type_such) (λ head a. type_by_sound head)

-- attributes

literal_behind : (minus : Bool) (ts : List Piece) → are_given (cond minus UnaryMinus Other) ts ≡ true → Gives Literal (is_literal minus) (literal ts)
unfolding literal
literal_behind minus [] given = tt
literal_behind true (piece.Whole value ∷ ts) given = let parts = and_parts (is_given UnaryMinus (piece.Whole value)) (are_given Operand ts) given in (parts.0, loosens ts parts.1)
literal_behind false (piece.Whole value ∷ ts) given = let parts = and_parts (is_given Other (piece.Whole value)) (are_given Operand ts) given in (parts.0, loosens ts parts.1)
literal_behind minus (piece.Decimal value places ∷ ts) given =
    let parts = and_parts (is_given (cond minus UnaryMinus Other) (piece.Decimal value places)) (are_given Operand ts) given in (parts.0, loosens ts parts.1)
literal_behind minus (piece.Text value ∷ ts) given =
    let parts = and_parts (is_given (cond minus UnaryMinus Other) (piece.Text value)) (are_given Operand ts) given in (parts.0, loosens ts parts.1)
literal_behind minus (piece.Bytes value ∷ ts) given =
    let parts = and_parts (is_given (cond minus UnaryMinus Other) (piece.Bytes value)) (are_given Operand ts) given in (parts.0, loosens ts parts.1)
literal_behind minus (piece.Keyword word.True ∷ ts) given = (refl, loosens ts given)
literal_behind minus (piece.Keyword word.False ∷ ts) given = (refl, loosens ts given)
literal_behind minus (piece.Keyword word.Null ∷ ts) given = (refl, loosens ts given)
literal_behind minus (t ∷ ts) given = tt

is_minus : (t : Piece) → is_sign sign.Minus t ≡ true → t ≡ mark sign.Minus
unfolding same_sign
is_minus (piece.Sign sign.Minus) is = refl
is_minus t is = absurd (cc)

-- DEFAULT, of whatever test asks of its literal what a text gives
module _ (test : Attribute → Bool) (is : (minus : Bool) (value : Literal) → is_literal minus value ≡ true → test (attribute.Default minus value) ≡ true) where
  default_of : (minus : Bool) (o : Outcome Literal) → Gives Literal (is_literal minus) o → Gives Attribute test (and_then o (λ value us. Ok (attribute.Default minus value, us)))
  default_of minus (Ok read) gave = (is minus read.0 gave.0, gave.1)
  default_of minus (Err left) gave = tt

  default_at : (ts : List Piece) → Fine ts → Gives Attribute test (default ts)
  unfolding default sees
  default_at [] fine = default_of false (literal []) (literal_behind false [] fine)
  default_at (t ∷ ts) fine =
      elim (is_sign sign.Minus t) as (λ b. is_sign sign.Minus t ≡ b → Gives Attribute test (and_then (cond b (Ok (true, ts)) (Ok (false, t ∷ ts))) (λ minus us. and_then (literal us) (λ value vs. Ok (attribute.Default minus value, vs))))) [
        | true ↦ λ is_ahead. default_of true (literal ts) (literal_behind true ts (subst (λ u. are_given (after_piece u Other) ts ≡ true) (is_minus t is_ahead) (and_parts (is_given Other t) (are_given (after_piece t Other) ts) fine).1))
        | false ↦ λ is_ahead. default_of false (literal (t ∷ ts)) (literal_behind false (t ∷ ts) fine)
      ] refl

  default_sound : Sound Attribute test default
  default_sound = record { runs = default_at }

abbrev is_defining : Definer → Attribute → Bool
is_defining definer.Create = is_attribute
is_defining definer.Alter = is_altering

-- ALTER has no words of keys
abbrev is_defining_head : Definer → AttributeHead → Bool
is_defining_head definer.Alter marks.Primary = false
is_defining_head definer.Alter marks.Unique = false
is_defining_head definer head = true

attribute_by_sound : (definer : Definer) (head : AttributeHead) → is_defining_head definer head ≡ true → Sound Attribute (is_defining definer) (attribute_by head)
attribute_by_sound definer.Create marks.Not such = bind (expects_keyword word.Null) (λ u a. gives refl)
attribute_by_sound definer.Create marks.Null such = gives refl
attribute_by_sound definer.Create marks.Default such = default_sound is_attribute (λ minus value is. is)
attribute_by_sound definer.Create marks.Primary such = bind (expects_keyword word.Key) (λ u a. gives refl)
attribute_by_sound definer.Create marks.Unique such = gives refl
attribute_by_sound definer.Alter marks.Not such = bind (expects_keyword word.Null) (λ u a. gives refl)
attribute_by_sound definer.Alter marks.Null such = gives refl
attribute_by_sound definer.Alter marks.Default such = default_sound is_altering (λ minus value is. is)
attribute_by_sound definer.Alter marks.Primary such = absurd (cc)
attribute_by_sound definer.Alter marks.Unique such = absurd (cc)

attribute_behind_sound : (definer : Definer) (head : AttributeHead) → is_defining_head definer head ≡ true → Sound Attribute (is_defining definer) (attribute_behind head)
unfolding attribute_behind
attribute_behind_sound definer head such = attribute_by_sound definer head such

keyword_such : (definer : Definer) (w : Keyword) (x : AttributeHead) → attribute_in definer w ≡ Some x → is_defining_head definer x ≡ true
keyword_such definer.Create w x is = refl
keyword_such definer.Alter word.Not x is = let same : marks.Not ≡ x = cc in ap (is_defining_head definer.Alter) (sym same)
keyword_such definer.Alter word.Null x is = let same : marks.Null ≡ x = cc in ap (is_defining_head definer.Alter) (sym same)
keyword_such definer.Alter word.Default x is = let same : marks.Default ≡ x = cc in ap (is_defining_head definer.Alter) (sym same)
keyword_such definer.Alter w x is = absurd (cc)

attribute_such : (definer : Definer) (t : Piece) (x : AttributeHead) → attribute_of definer t ≡ Some x → (is_defining_head definer x ≡ true) × (IsMinus t → ⊥)
attribute_such definer (piece.Keyword w) x is = (keyword_such definer w x is, λ minus. cc)
attribute_such definer t x is = absurd (cc)

attributes_from_sound : (definer : Definer) (n : ℕ) (found : List Attribute) → list_all (is_defining definer) found ≡ true
    → Sound (List Attribute) (list_all (is_defining definer)) (attributes_from definer n found)
unfolding attributes_from attribute_ahead
attributes_from_sound definer zero found all = gives all
attributes_from_sound definer (suc n) found all =
    ahead (attribute_of definer) (attribute_such definer) (attributes_by (attributes_from definer n) found)
    (λ head such ts fine. (bind (attribute_behind_sound definer head such) (λ x is. attributes_from_sound definer n (found ++ x ∷ []) (all_added (is_defining definer) found x all is))).runs (drop 1 ts) fine)
    (gives all)

attributes_sound : (definer : Definer) → Sound (List Attribute) (list_all (is_defining definer)) (attributes definer)
unfolding attributes
attributes_sound definer = record { runs = λ ts fine. (attributes_from_sound definer (length ts) [] refl).runs ts fine }

abbrev is_defined : Definer → ColumnElement → Bool
is_defined definer x = is_name x.name && list_all (is_defining definer) x.attributes

column_sound : (definer : Definer) → Sound ColumnElement (is_defined definer) (column definer)
unfolding column
column_sound definer = bind names_one (λ n named. bind type_sound (λ t a. bind (attributes_sound definer) (λ found all. gives (and_from _ _ named all))))

-- keys, checks and foreign keys

primary_key_sound : Sound Element is_element primary_key
unfolding primary_key
primary_key_sound = bind (expects_keyword word.Key) (λ u a. bind names_sound (λ found all. gives all))

index_word_sound : Sound Bool anything index_word
unfolding index_word
index_word_sound = bind (eats_keyword word.Key) (λ b a. chosen b (gives refl) (eats_keyword word.Index))

unique_sound : Sound Element is_element unique
unfolding unique
unique_sound = bind index_word_sound (λ b a. bind perhaps_named (λ n named. bind names_sound (λ found all. gives (and_from _ _ named all))))

index_sound : Sound Element is_element index
unfolding index
index_sound = bind names_one (λ n named. bind names_sound (λ found all. gives (and_from _ _ named all)))

check_sound : (n : Option (List ℕ)) → is_perhaps is_name n ≡ true → Sound Element is_element (check n)
unfolding check same_sign
check_sound n named =
    bind (expects sign.OpenParenthesis refl) (λ u a. bind any_sound (λ x is. bind (expects sign.CloseParenthesis refl) (λ v b. gives (and_from _ _ named is))))

update_action_sound : Sound (Unit {0}) anything update_action
unfolding update_action
update_action_sound = bind (eats_keyword word.On) (λ b a. chosen b (bind (expects_keyword word.Update) (λ u c. expects_keyword word.Restrict)) (gives refl))

first_action_sound : Sound (Unit {0}) anything first_action
unfolding first_action
first_action_sound =
    bind (eats_keyword word.Delete) (λ b a. chosen b (bind (expects_keyword word.Restrict) (λ u c. update_action_sound)) (bind (expects_keyword word.Update) (λ u c. expects_keyword word.Restrict)))

actions_sound : Sound (Unit {0}) anything actions
unfolding actions
actions_sound = bind (eats_keyword word.On) (λ b a. chosen b first_action_sound (gives refl))

abbrev is_parent : Parent → Bool
is_parent x = is_name x.table && is_names x.columns

referenced_sound : Sound Parent is_parent referenced
unfolding referenced
referenced_sound =
    bind (expects_keyword word.References) (λ u a. bind names_one (λ n named. bind names_sound (λ found all. bind actions_sound (λ v b. gives (and_from _ _ named all)))))

foreign_key_sound : (n : Option (List ℕ)) → is_perhaps is_name n ≡ true → Sound Element is_element (foreign_key n)
unfolding foreign_key
foreign_key_sound n named =
    bind (expects_keyword word.Key) (λ u a. bind names_sound (λ own all. bind referenced_sound (λ other is. gives (and_from _ _ (and_from _ _ named all) is))))

constraint_sound : Sound Element is_element constraint
unfolding constraint
constraint_sound =
    bind names_one (λ n named. bind (eats_keyword word.Check) (λ b a. chosen b (check_sound (Some n) named) (bind (expects_keyword word.Foreign) (λ u c. foreign_key_sound (Some n) named))))

-- elements

element_by_sound : (head : ElementHead) → Sound Element is_element (element_by head)
element_by_sound begins.Primary = primary_key_sound
element_by_sound begins.Unique = unique_sound
element_by_sound begins.Index = index_sound
element_by_sound begins.Constraint = constraint_sound
element_by_sound begins.Check = check_sound None refl
element_by_sound begins.Foreign = foreign_key_sound None refl

element_behind_sound : (head : ElementHead) → Sound Element is_element (element_behind head)
unfolding element_behind
element_behind_sound head = element_by_sound head

element_such : (t : Piece) (x : ElementHead) → element_of t ≡ Some x → (anything x ≡ true) × (IsMinus t → ⊥)
element_such (piece.Keyword w) x is = (refl, λ minus. cc)
element_such t x is = absurd (cc)

any_element_sound : Sound Element is_element any_element
unfolding any_element element_ahead
any_element_sound = ahead element_of element_such element_at (λ head such ts fine. (element_behind_sound head).runs (drop 1 ts) fine) (bind (column_sound definer.Create) (λ x is. gives is))

-- tables

if_not_exists_sound : Sound Bool anything if_not_exists
unfolding if_not_exists
if_not_exists_sound = bind (eats_keyword word.If) (λ b a. chosen b (bind (bind (expects_keyword word.Not) (λ u c. expects_keyword word.Exists)) (λ v d. gives refl)) (gives refl))

if_exists_sound : Sound Bool anything if_exists
unfolding if_exists
if_exists_sound = bind (eats_keyword word.If) (λ b a. chosen b (bind (expects_keyword word.Exists) (λ v d. gives refl)) (gives refl))

elements_sound : Sound (List Element) (is_filled is_element) elements
unfolding elements same_sign
elements_sound = bind (expects sign.OpenParenthesis refl) (λ u a. bind (list_sound any_element_sound) (λ found all. bind (expects sign.CloseParenthesis refl) (λ v b. gives all)))

pub create_sound : Sound CreateTable is_create create
unfolding create
create_sound = bind (expects_keyword word.Table) (λ u a. bind if_not_exists_sound (λ b c. bind names_one (λ n named. bind elements_sound (λ found all. gives (and_from _ _ named all)))))

pub drop_sound : Sound DropTable is_drop drop_table
unfolding drop_table
drop_sound = bind (expects_keyword word.Table) (λ u a. bind if_exists_sound (λ b c. bind names_one (λ n named. gives named)))

-- ALTER

action_by_sound : (head : ActionHead) → Sound AlterAction is_action (action_by head)
action_by_sound does.Add = bind (column_sound definer.Alter) (λ x is. gives is)
action_by_sound does.Drop = bind names_one (λ n named. gives named)
action_by_sound does.Modify = bind (column_sound definer.Alter) (λ x is. gives is)

action_behind_sound : (head : ActionHead) → Sound AlterAction is_action (action_behind head)
unfolding action_behind
action_behind_sound head = bind (eats_keyword word.Column) (λ b a. action_by_sound head)

action_such : (t : Piece) (x : ActionHead) → is_given Other t ≡ true → action_of t ≡ Some x → (anything x ≡ true) × (IsMinus t → ⊥)
action_such (piece.Keyword w) x given is = (refl, λ minus. cc)
action_such (piece.Word n) x given is = (refl, λ minus. cc)
action_such t x given is = absurd (cc)

any_action_sound : Sound AlterAction is_action any_action
unfolding any_action
any_action_sound = bind (views action_of action_such) (λ head a. action_behind_sound head)

pub alter_sound : Sound Alter is_alter alter
unfolding alter
alter_sound = bind (expects_keyword word.Table) (λ u a. bind names_one (λ n named. bind any_action_sound (λ done is. gives (and_from _ _ named is))))
