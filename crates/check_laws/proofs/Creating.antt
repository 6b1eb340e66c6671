-- CREATE: the CHECKs that are kept are the texts of those that were judged.
use Rattle.std.proofs.Common.{◌≡◌, refl, ap, ℕ, true, false, cond, not, ◌||◌, List, [], ◌∷◌, Ok, Err, length, nat_le}
use Rattle.std.specs.Prelude.{IfOk}
use Rattle.std.specs.List.{AllByRecursion, list_all, list_any}
use Rattle.std.proofs.lemmas.Bool.{and_parts, or_parts}
use Rattle.schema_model.specs.Limits.{is_within_limits, most_tables}
use Rattle.schema_model.specs.PlainTables.{NamedTable, PlainDatabase}
use Rattle.schema_model.specs.declared.schemas.Schema.{Schema}
use Rattle.schema_model.specs.declared.schemas.Column.{Column}
use Rattle.sql_ast.specs.declared.expressions.Expr.{Expr}
use Rattle.sql_ast.specs.declared.statements.Statement.TheVariants as statement
use Rattle.sql_ast.specs.declared.statements.Write.TheVariants as write
use Rattle.sql_ast.specs.declared.tables.CreateTable.{CreateTable}
use Rattle.sql_ast.specs.declared.tables.Element.{Element}
use Rattle.sql_ast.specs.declared.tables.Element.TheVariants as element
use Rattle.sql_text.specs.Depths.{is_deep}
use Rattle.sql_rules.specs.Defaults.{has_outside_default}
use Rattle.sql_rules.specs.Names.{is_long_worded, is_system_name}
use Rattle.sql_rules.specs.Constraints.{made_names}
use Rattle.sql_rules.specs.Outside.{makes_some_long, statement_outside}
use Rattle.sql_rules.specs.Tables.{element_outside, elements_outside}
use Rattle.sql_rules.specs.Writes.{is_misplaced}
use Rattle.sql_rules.specs.declared.constraints.Sort.TheVariants as sort
use Rattle.sql_values.specs.Kinds.{is_bool}
use Rattle.sql_laws.specs.Sound.{is_element, is_expr, is_filled, is_perhaps}
use Rattle.sql_laws.specs.Written as written
use Rattle.expr_eval.specs.Binding.{Outcome, and_then, bound, if_truth}
use Rattle.expr_eval.specs.declared.bound.BoundExpr.{BoundExpr}
use Rattle.expr_eval.specs.declared.scopes.ScopeColumn.{ScopeColumn}
use Rattle.plain_sql.specs.Answers.{Meaning}
use Rattle.plain_sql.specs.Plans.{condition, meaning}
use Rattle.plain_writes.specs.Violations.{own_scope}
use Rattle.plain_writes.specs.Writes.{Effect}
use Rattle.plain_schemas.specs.Effects.{changed_to, check_allowed, create_effect, foreign_allowed, if_within, is_there, judged, key_lists, empty_table, with_table}
use Rattle.plain_schemas.specs.Lists.{all_allowed}
use Rattle.plain_schemas.specs.Made.{checks_named, columns_made, name_for, schema_of}
use Rattle.sql_laws.specs.Fit.{IsFit}
use Rattle.sql_laws.proofs.Readers.{filled_all}
use Rattle.plain_writes.proofs.RowOrderLemmas.{two}
use Rattle.plain_writes.proofs.OutcomeLemmas.{then_so}
use Rattle.check_laws.specs.Meant.{AreMeant, IsMeantCheck, is_condition}
use Rattle.check_laws.proofs.Databases.{IsMeantEffect, left_meant, placed_meant}
use Rattle.check_laws.proofs.Outcomes.{then_ok, unless_ok}

-- ---- conditions

found_condition : (o : Outcome BoundExpr) (m : Meaning) → and_then (and_then o if_truth) (λ found. Ok (meaning found)) ≡ Ok m → is_condition o ≡ true
found_condition (Ok b) m e = two (is_bool b.kind) (λ t. t) (λ t. absurd (refused b t m e))
  where
    refused : (b : BoundExpr) → is_bool b.kind ≡ false → (m : Meaning) → and_then (if_truth b) (λ found. Ok (meaning found)) ≡ Ok m → ⊥
    refused b t m e = let r : and_then (if_truth b) (λ found. Ok (meaning found)) ≡ Err 9001 = ap (λ c. and_then (cond c (Ok b) (Err 9001)) (λ found. Ok (meaning found))) t in cc
found_condition (Err number) m e = cc

pub condition_so : (scope : List ScopeColumn) (x : Expr) (m : Meaning) → condition scope x ≡ Ok m → is_condition (bound scope x) ≡ true
unfolding condition
condition_so scope x m e = found_condition (bound scope x) m e

-- ---- the CHECKs of the elements

-- a CHECK that is sound and in the language, and a condition over this scope
abbrev IsGoodCheck : List ScopeColumn → Element → Type 0
IsGoodCheck scope (element.Check name x) = (is_expr x ≡ true) × (is_deep x ≡ false) × (is_condition (bound scope x) ≡ true)
IsGoodCheck scope other = Unit {0}

one_good : (scope : List ScopeColumn) (all : List Element) (e : Element) → element_outside all e ≡ false → is_element e ≡ true → check_allowed scope e ≡ Ok tt → IsGoodCheck scope e
one_good scope all (element.Check name x) inside is allowed =
    let found = then_so (condition scope x) (λ meaning. Ok tt) tt allowed in
    ((and_parts (is_perhaps written.is_name name) (is_expr x) is).1, (or_parts (is_misplaced x) (is_deep x) inside).1, condition_so scope x found.0 found.1)
one_good scope all (element.Column column) inside is allowed = tt
one_good scope all (element.PrimaryKey names) inside is allowed = tt
one_good scope all (element.Unique name names) inside is allowed = tt
one_good scope all (element.Index name names) inside is allowed = tt
one_good scope all (element.ForeignKey key) inside is allowed = tt

all_good : (scope : List ScopeColumn) (all es : List Element) → list_any (element_outside all) es ≡ false → list_all is_element es ≡ true → all_allowed (check_allowed scope) es ≡ Ok tt
    → AllByRecursion (IsGoodCheck scope) es
all_good scope all [] inside are allowed = tt
all_good scope all (e ∷ es) inside are allowed =
    let first = or_parts (element_outside all e) (list_any (element_outside all) es) inside in
    let good = and_parts (is_element e) (list_all is_element es) are in
    let steps = then_so (check_allowed scope e) (λ done. all_allowed (check_allowed scope) es) tt allowed in
    (one_good scope all e first.0 good.0 steps.1, all_good scope all es first.1 good.1 steps.2)

checks_meant : (name : List ℕ) (schema : Schema) (made : List (List ℕ)) (es : List Element) → AllByRecursion (IsGoodCheck (own_scope name schema)) es
    → AllByRecursion (IsMeantCheck name schema) (checks_named made es)
checks_meant name schema made [] good = tt
checks_meant name schema made (element.Check given x ∷ es) good =
    let one = good.0 in
    (record { expr = x; sound = one.0; shallow = one.1; text_is = refl; binds = one.2 }, checks_meant name schema (name_for made given).1 es good.1)
checks_meant name schema made (element.Column column ∷ es) good = checks_meant name schema made es good.1
checks_meant name schema made (element.PrimaryKey names ∷ es) good = checks_meant name schema made es good.1
checks_meant name schema made (element.Unique given names ∷ es) good = checks_meant name schema made es good.1
checks_meant name schema made (element.Index given names ∷ es) good = checks_meant name schema made es good.1
checks_meant name schema made (element.ForeignKey key ∷ es) good = checks_meant name schema made es good.1

-- ---- the whole

inside_of : (create : CreateTable) → IsFit (write.Create create) → (list_any (element_outside create.elements) create.elements ≡ false) × (list_all is_element create.elements ≡ true)
inside_of create fit =
    let s = statement.Write (write.Create create) in
    let es = create.elements in
    let p4 = or_parts (is_long_worded s) (statement_outside s) fit.inside in
    let p3 = or_parts (is_system_name create.table || elements_outside es || list_any (has_outside_default es) es) (makes_some_long create.table es) p4.1 in
    let p2 = or_parts (is_system_name create.table || elements_outside es) (list_any (has_outside_default es) es) p3.0 in
    let p1 = or_parts (is_system_name create.table) (elements_outside es) p2.0 in
    ((or_parts _ (list_any (element_outside es) es) p1.1).1, filled_all is_element es (and_parts (written.is_name create.table) (is_filled is_element es) fit.sound).1)

judged_meant : (database : PlainDatabase) (create : CreateTable) (columns : List Column) → AreMeant database → IsFit (write.Create create) → IfOk (judged database create (schema_of create columns)) IsMeantEffect
judged_meant database create columns meant fit =
    let schema = schema_of create columns in
    let scope = own_scope create.table schema in
    let new : NamedTable = record { name = create.table; table = empty_table schema } in
    let whole : Outcome Effect = Ok (changed_to (with_table database create.table schema)) in
    let limits = not (is_within_limits schema) || nat_le most_tables (length database) in
    then_ok IsMeantEffect (all_allowed (check_allowed scope) create.elements) (λ checked.
    and_then (all_allowed (foreign_allowed database create.table schema.columns (key_lists schema)) create.elements) (λ referred. if_within database create.table schema)) (λ checked h.
    then_ok IsMeantEffect (all_allowed (foreign_allowed database create.table schema.columns (key_lists schema)) create.elements) (λ referred. if_within database create.table schema) (λ referred i.
    let inside = inside_of create fit in
    unless_ok IsMeantEffect limits 9010 whole (λ j.
    placed_meant new database (checks_meant create.table schema (made_names create.table create.elements sort.Check) create.elements (all_good scope create.elements create.elements inside.0 inside.1 h)) meant)))

pub creates_meant : (database : PlainDatabase) (create : CreateTable) → AreMeant database → IsFit (write.Create create) → IfOk (create_effect database create) IsMeantEffect
creates_meant database create meant fit =
    let new : Outcome Effect = and_then (columns_made create.elements) (λ columns. judged database create (schema_of create columns)) in
    elim (is_there database create.table) as (λ b. IfOk (cond b (cond create.if_not_exists (Ok (changed_to database)) (Err 1050)) new) IsMeantEffect) [
      | true ↦ left_meant 1050 database create.if_not_exists meant
      | false ↦ then_ok IsMeantEffect (columns_made create.elements) _ (λ columns h. judged_meant database create columns meant fit)
    ]
