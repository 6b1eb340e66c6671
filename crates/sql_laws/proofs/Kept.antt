-- What a table keeps of what creates and alters it.
use Rattle.std.proofs.Common.{◌≡◌, ◌≤◌, ◌∙◌, inl, inr, sym, ℕ, true, false, ◌&&◌, ◌||◌, List, [], ◌∷◌, Option, None, Some, length, arith}
use Rattle.std.specs.List.{AllByRecursion, list_all, list_any}
use Rattle.std.proofs.lemmas.Bool.{and_parts, false≢true, lt-ltb, or_parts}
use Rattle.std.proofs.lemmas.Bool.Decides.{leb_tells}
use Rattle.sql_ast.specs.declared.statements.AlterAction.{AlterAction}
use Rattle.sql_ast.specs.declared.statements.AlterAction.TheVariants as action
use Rattle.sql_ast.specs.declared.statements.Statement.TheVariants as statement
use Rattle.sql_ast.specs.declared.statements.Write.TheVariants as write
use Rattle.sql_ast.specs.declared.tables.Element.{Element}
use Rattle.sql_ast.specs.declared.tables.Element.TheVariants as element
use Rattle.sql_text.specs.Depths.{is_deep}
use Rattle.sql_text.specs.Features.{is_long}
use Rattle.sql_rules.specs.Defaults.{has_outside_default}
use Rattle.sql_rules.specs.Names.{action_long, are_long, element_long, is_long_if, is_long_worded, is_system_name, names_long}
use Rattle.sql_rules.specs.Outside.{makes_some_long, statement_outside}
use Rattle.sql_rules.specs.Tables.{element_outside, elements_outside}
use Rattle.sql_rules.specs.Writes.{is_misplaced}
use Rattle.sql_laws.specs.Sound.{is_action, is_altering, is_attribute, is_element, is_expr, is_filled, is_names, is_perhaps}
use Rattle.sql_laws.specs.Written.{is_name}
use Rattle.sql_laws.proofs.StoredTexts.{stores_text}
use Rattle.tuple_codec.proofs.Utf8Lemmas.{to_test}
use Rattle.sql_laws.proofs.TextUtf8.{name_text}
use Rattle.sql_laws.specs.SoundLaws.{AltersKept, IsKeptAction, CreatesKept, IfGiven, IsKeptElement, IsKeptName}
use Rattle.sql_laws.proofs.Readers.{filled_all}

short : (name : List ℕ) → is_long name ≡ false → length name ≤ 64
short name is = elim (leb_tells 65 (length name)) as (λ b. length name ≤ 64) [
  | inl tells ↦ absurd (false≢true (sym is ∙ lt-ltb 64 (length name) (omega (arith, tells.1))))
  | inr tells ↦ omega (arith, tells.1)
]

pub name_kept : (name : List ℕ) → is_name name ≡ true → is_long name ≡ false → IsKeptName name
name_kept [] is brief = absurd (cc)
name_kept (byte ∷ bytes) is brief = (to_test (byte ∷ bytes) (name_text (byte ∷ bytes) is), omega arith, short (byte ∷ bytes) brief)

given_kept : (name : Option (List ℕ)) → is_perhaps is_name name ≡ true → is_long_if name ≡ false → IfGiven name
given_kept (Some name) is brief = name_kept name is brief
given_kept None is brief = tt

names_kept : (names : List (List ℕ)) → list_all is_name names ≡ true → are_long names ≡ false → AllByRecursion IsKeptName names
names_kept [] are brief = tt
names_kept (name ∷ names) are brief =
    let each = and_parts (is_name name) (list_all is_name names) are in
    let short_ = or_parts (is_long name) (are_long names) brief in
    (name_kept name each.0 short_.0, names_kept names each.1 short_.1)

element_kept : (all : List Element) (e : Element) → element_outside all e ≡ false → element_long e ≡ false → is_element e ≡ true → IsKeptElement e
element_kept all (element.Column column) inside brief is = name_kept column.name (and_parts (is_name column.name) (list_all is_attribute column.attributes) is).0 brief
element_kept all (element.PrimaryKey columns) inside brief is = tt
element_kept all (element.Unique name columns) inside brief is =
    given_kept name (and_parts (is_perhaps is_name name) (is_names columns) is).0 (or_parts (is_long_if name) (are_long columns) brief).0
element_kept all (element.Index name columns) inside brief is = name_kept name (and_parts (is_name name) (is_names columns) is).0 (or_parts (is_long name) (are_long columns) brief).0
element_kept all (element.Check name x) inside brief is =
    let parts = and_parts (is_perhaps is_name name) (is_expr x) is in
    let stored = stores_text x parts.1 (or_parts (is_misplaced x) (is_deep x) inside).1 in
    (given_kept name parts.0 (or_parts (is_long_if name) (names_long x) brief).0, stored.0, stored.1)
element_kept all (element.ForeignKey key) inside brief is =
    let parts = and_parts (is_perhaps is_name key.name && is_names key.columns) (is_name key.parent && is_names key.parent_columns) is in
    let own = and_parts (is_perhaps is_name key.name) (is_names key.columns) parts.0 in
    let other = and_parts (is_name key.parent) (is_names key.parent_columns) parts.1 in
    let all_but = or_parts (is_long_if key.name || are_long key.columns || is_long key.parent) (are_long key.parent_columns) brief in
    let front = or_parts (is_long_if key.name || are_long key.columns) (is_long key.parent) all_but.0 in
    let first = or_parts (is_long_if key.name) (are_long key.columns) front.0 in
    (given_kept key.name own.0 first.0, name_kept key.parent other.0 front.1, names_kept key.parent_columns (filled_all is_name key.parent_columns other.1) all_but.1)

elements_kept : (all es : List Element) → list_any (element_outside all) es ≡ false → list_any element_long es ≡ false → list_all is_element es ≡ true → AllByRecursion IsKeptElement es
elements_kept all [] inside brief are = tt
elements_kept all (e ∷ es) inside brief are =
    let one_ = or_parts (element_outside all e) (list_any (element_outside all) es) inside in
    let two = or_parts (element_long e) (list_any element_long es) brief in
    let three = and_parts (is_element e) (list_all is_element es) are in
    (element_kept all e one_.0 two.0 three.0, elements_kept all es one_.1 two.1 three.1)

pub creates_kept : CreatesKept
creates_kept c inside sound =
    let s = statement.Write (write.Create c) in
    let es = c.elements in
    let parts = or_parts (is_long_worded s) (statement_outside s) inside in
    let brief = or_parts (is_long c.table) (list_any element_long es) parts.0 in
    let unmade = (or_parts (is_system_name c.table || elements_outside es || list_any (has_outside_default es) es) (makes_some_long c.table es) parts.1).0 in
    let kept = (or_parts (is_system_name c.table || elements_outside es) (list_any (has_outside_default es) es) unmade).0 in
    let fit = (or_parts (is_system_name c.table) (elements_outside es) kept).1 in
    let each = (or_parts _ (list_any (element_outside es) es) fit).1 in
    let is = and_parts (is_name c.table) (is_filled is_element es) sound in
    (name_kept c.table is.0 brief.0, elements_kept es es each brief.1 (filled_all is_element es is.1))

action_kept : (done : AlterAction) → action_long done ≡ false → is_action done ≡ true → IsKeptAction done
action_kept (action.Add column) brief is = name_kept column.name (and_parts (is_name column.name) (list_all is_altering column.attributes) is).0 brief
action_kept (action.Drop name) brief is = name_kept name is brief
action_kept (action.Modify column) brief is = name_kept column.name (and_parts (is_name column.name) (list_all is_altering column.attributes) is).0 brief

pub alters_kept : AltersKept
alters_kept a inside sound =
    let s = statement.Write (write.Alter a) in
    let parts = or_parts (is_long_worded s) (statement_outside s) inside in
    let brief = or_parts (is_long a.table) (action_long a.action) parts.0 in
    let is = and_parts (is_name a.table) (is_action a.action) sound in
    (name_kept a.table is.0 brief.0, action_kept a.action brief.1 is.1)
