-- ALTER: a CHECK says the same of a table with a column more, with one less that it doesn't name, and with one defined anew that it doesn't name.
use Rattle.std.proofs.Common.{◌≡◌, refl, sym, ap, ◌∙◌, subst, ℕ, zero, suc, true, false, true≢false, cond, not, ◌||◌, List, [], ◌∷◌, ◌++◌, set, Option, Some, None, Ok, Err, bytes_eq}
use Rattle.std.specs.Prelude.{IfOk, is_some}
use Rattle.std.specs.Cmp.Lexicographic.{bytes_decides}
use Rattle.std.specs.List.{AllByRecursion, find, list_any, remove}
use Rattle.std.specs.Option.{option_and_then, option_map}
use Rattle.std.proofs.lemmas.Bool.{and_parts, not-false, not-true, or_parts}
use Rattle.schema_model.specs.Limits.{is_within_limits}
use Rattle.schema_model.specs.PlainTables.{NamedTable, PlainDatabase, PlainTable, is_keyed}
use Rattle.schema_model.specs.Schemas.{is_schema}
use Rattle.schema_model.specs.declared.schemas.CheckDef.{CheckDef}
use Rattle.schema_model.specs.declared.schemas.Column.{Column}
use Rattle.schema_model.specs.declared.schemas.Schema.{Schema}
use Rattle.sql_ast.specs.declared.expressions.Expr.{Expr}
use Rattle.sql_ast.specs.declared.statements.Alter.{Alter}
use Rattle.sql_ast.specs.declared.statements.AlterAction.{AlterAction}
use Rattle.sql_ast.specs.declared.statements.AlterAction.TheVariants as action
use Rattle.sql_ast.specs.declared.statements.Write.TheVariants as write
use Rattle.sql_grammar.specs.Checking.{canonical_expression}
use Rattle.sql_values.specs.Kinds.{is_bool, may_assign}
use Rattle.sql_values.specs.declared.kinds.Kind.{Kind}
use Rattle.check_laws.specs.CheckLaws.{BindAlike}
use Rattle.check_laws.proofs.Checks.{keeps_checks}
use Rattle.expr_eval.specs.Binding.{Outcome, and_then, bound, mismatch}
use Rattle.expr_eval.specs.declared.bound.BoundExpr.{BoundExpr}
use Rattle.expr_eval.specs.declared.scopes.ScopeColumn.{ScopeColumn}
use Rattle.plain_sql.specs.Answers.{Meaning}
use Rattle.plain_sql.specs.Lists.{each, or_refuse, unless}
use Rattle.plain_sql.specs.Plans.{condition}
use Rattle.plain_writes.specs.CheckTexts.{checks}
use Rattle.plain_writes.specs.Violations.{column_place, is_called, meaning_if, own_scope, table_in}
use Rattle.plain_writes.specs.Writes.{Effect, replaced}
use Rattle.plain_schemas.specs.Altered.{alter_effect, altered, change_of, check_needs, column_after, free_place, is_open, is_used, kind_at, redefined, redefined_from, refers_to, schema_after, small_row_after, table_after, without_column}
use Rattle.plain_schemas.specs.Effects.{changed_to}
use Rattle.plain_schemas.specs.declared.changing.ColumnChange.{ColumnChange}
use Rattle.plain_schemas.specs.declared.changing.ColumnChange.TheVariants as change
use Rattle.sql_laws.specs.Fit.{IsFit}
use Rattle.sql_laws.proofs.Kept.{alters_kept}
use Rattle.plain_writes.specs.WriteLaws.{IsKept}
use Rattle.plain_writes.proofs.DatabaseLemmas.{found_kept}
use Rattle.plain_writes.proofs.RowOrderLemmas.{two}
use Rattle.plain_writes.proofs.OutcomeLemmas.{found_so, ok_same, then_so, unless_so}
use Rattle.keep_laws.proofs.Altering.{alters_keep}
use Rattle.keep_laws.proofs.SchemaParts.{parts_so}
use Rattle.keep_laws.proofs.TestLemmas.{if_ok}
use Rattle.check_laws.specs.Meant.{AreMeant, IsMeantCheck, IsMeantTable, is_condition}
use Rattle.check_laws.specs.Named.{names_of}
use Rattle.check_laws.proofs.Creating.{condition_so}
use Rattle.check_laws.proofs.Databases.{IsMeantEffect, found_meant, replaced_meant}
use Rattle.check_laws.proofs.Following.{MovesName, condition_moves}
use Rattle.check_laws.proofs.Scopes.{are_apart, column_named, name_moves, scope_of}

-- ---- a CHECK by its text

alike_condition : (o p : Outcome BoundExpr) → BindAlike o p → is_condition o ≡ is_condition p
alike_condition (Ok a) (Ok b) h = ap is_bool h.0
alike_condition (Err m) (Err n) h = refl
alike_condition (Ok a) (Err n) h = absurd h
alike_condition (Err n) (Ok b) h = absurd h

-- what is read of a CHECK's text binds as the expression that was written
pub record IsReadBack (check : CheckDef) (expr : Expr) : Type 0 where
  pub back : Expr
  pub read : canonical_expression check.text ≡ Some back
  pub alike : (scope : List ScopeColumn) → BindAlike (bound scope back) (bound scope expr)

pub read_back : (name : List ℕ) (schema : Schema) (check : CheckDef) (it : IsMeantCheck name schema check) → IsReadBack check it.expr
read_back name schema check it =
    let kept = keeps_checks it.expr it.sound it.shallow in
    let same = kept.1 in record { back = kept.0; read = ap canonical_expression (sym it.text_is) ∙ same.0; alike = same.1 }

-- so it is a condition where the expression is one
pub back_condition : (scope : List ScopeColumn) (check : CheckDef) (expr : Expr) (it : IsReadBack check expr) → is_condition (bound scope it.back) ≡ is_condition (bound scope expr)
back_condition scope check expr it = alike_condition (bound scope it.back) (bound scope expr) (it.alike scope)

some_meaning : (scope : List ScopeColumn) (y : Expr) (o : Outcome Meaning) → condition scope y ≡ o → is_some (meaning_if o) ≡ true → is_condition (bound scope y) ≡ true
some_meaning scope y (Ok m) e h = condition_so scope y m e
some_meaning scope y (Err n) e h = absurd (true≢false (sym h))

-- where a CHECK's text is judged, its expression is a condition
pub judged_condition : (name : List ℕ) (schema other : Schema) (check : CheckDef) (it : IsMeantCheck name schema check) → is_some (checks name other check.text) ≡ true → is_condition (bound (own_scope name other) it.expr) ≡ true
judged_condition name schema other check it h =
    let scope = own_scope name other in
    let back = read_back name schema check it in
    let said : is_some (meaning_if (condition scope back.back)) ≡ true = sym (ap (λ (o : Option Expr). is_some (option_and_then (λ expr. meaning_if (condition scope expr)) o)) back.read) ∙ h in
    sym (back_condition scope check it.expr back) ∙ some_meaning scope back.back (condition scope back.back) refl said

-- ---- names in a table whose columns change

all_names : (P : List ℕ → Type 0) → ((name : List ℕ) → P name) → (names : List (List ℕ)) → AllByRecursion P names
all_names P h [] = tt
all_names P h (name ∷ names) = (h name, all_names P h names)

-- each column that has a name there has it here, as it is
abbrev pub Contains : List Column → List Column → Type 0
Contains columns others = (name : List ℕ) (c : Column) → column_named name columns ≡ Some c → column_named name others ≡ Some c

pub grown_condition : (table : List ℕ) (columns others : List Column) (x : Expr) → are_apart others ≡ true → Contains columns others → is_condition (bound (scope_of table columns) x) ≡ true
    → is_condition (bound (scope_of table others) x) ≡ true
grown_condition table columns others x apart within h =
    condition_moves (scope_of table columns) (scope_of table others) x
    (all_names (MovesName (scope_of table columns) (scope_of table others)) (λ name. name_moves table name columns others apart (λ c found. (c, within name c found, refl))) (names_of x)) h

added_contains : (columns : List Column) (column : Column) → Contains columns (columns ++ column ∷ [])
added_contains [] column name c h = cc
added_contains (one ∷ columns) column name c h = two (bytes_eq one.name name)
    (λ t. ap (λ b. cond b (Some one) (column_named name (columns ++ column ∷ []))) t ∙ sym (ap (λ b. cond b (Some one) (column_named name columns)) t) ∙ h)
    (λ t. ap (λ b. cond b (Some one) (column_named name (columns ++ column ∷ []))) t ∙ added_contains columns column name c (sym (ap (λ b. cond b (Some one) (column_named name columns)) t) ∙ h))

unnamed : (column : Column) (columns : List Column) (name : List ℕ) → bytes_eq column.name name ≡ true → list_any (λ (other : Column). bytes_eq column.name other.name) columns ≡ false → column_named name columns ≡ None
unnamed column [] name is h = refl
unnamed column (other ∷ columns) name is h =
    let parts = or_parts (bytes_eq column.name other.name) (list_any (λ (other : Column). bytes_eq column.name other.name) columns) h in
    two (bytes_eq other.name name)
    (λ t. absurd (true≢false (sym ((bytes_decides column.name other.name).1 ((bytes_decides column.name name).0 is ∙ sym ((bytes_decides other.name name).0 t))) ∙ parts.0)))
    (λ t. ap (λ b. cond b (Some other) (column_named name columns)) t ∙ unnamed column columns name is parts.1)

set_contains : (columns : List Column) (place : ℕ) (column : Column) → are_apart (set columns place column) ≡ true → Contains (remove columns place) (set columns place column)
set_contains [] zero column apart name c h = cc
set_contains [] (suc place) column apart name c h = cc
set_contains (one ∷ columns) zero column apart name c h =
    let parts = and_parts (not (list_any (λ (other : Column). bytes_eq column.name other.name) columns)) (are_apart columns) apart in
    two (bytes_eq column.name name)
    (λ t. let none = unnamed column columns name t (not-true _ parts.0) in cc)
    (λ t. ap (λ b. cond b (Some column) (column_named name columns)) t ∙ h)
set_contains (one ∷ columns) (suc place) column apart name c h =
    let parts = and_parts (not (list_any (λ (other : Column). bytes_eq one.name other.name) (set columns place column))) (are_apart (set columns place column)) apart in
    two (bytes_eq one.name name)
    (λ t. ap (λ b. cond b (Some one) (column_named name (set columns place column))) t ∙ sym (ap (λ b. cond b (Some one) (column_named name (remove columns place))) t) ∙ h)
    (λ t. ap (λ b. cond b (Some one) (column_named name (set columns place column))) t
    ∙ set_contains columns place column parts.1 name c (sym (ap (λ b. cond b (Some one) (column_named name (remove columns place))) t) ∙ h))

-- ---- the CHECKs after a change

-- what is known of a change that is allowed: no CHECK needs a column that goes or is defined anew
abbrev IsAllowed : List ℕ → Schema → ColumnChange → Type 0
IsAllowed name schema (change.Add column) = Unit {0}
IsAllowed name schema (change.Remove place) = list_any (check_needs checks name (without_column schema place)) schema.checks ≡ false
IsAllowed name schema (change.Redefine place kind column) = list_any (check_needs checks name (without_column schema place)) schema.checks ≡ false

pub with_binding : (name : List ℕ) (schema other : Schema) (check : CheckDef) (it : IsMeantCheck name schema check) → is_condition (bound (own_scope name other) it.expr) ≡ true → IsMeantCheck name other check
with_binding name schema other check it h = record { expr = it.expr; sound = it.sound; shallow = it.shallow; text_is = it.text_is; binds = h }

checks_after : (name : List ℕ) (schema other : Schema) → ((check : CheckDef) → IsMeantCheck name schema check → IsMeantCheck name other check) → (list : List CheckDef)
    → AllByRecursion (IsMeantCheck name schema) list → AllByRecursion (IsMeantCheck name other) list
checks_after name schema other by [] all = tt
checks_after name schema other by (check ∷ list) all = (by check all.0, checks_after name schema other by list all.1)

-- the same where each is judged without a column
checks_without : (name : List ℕ) (schema without other : Schema) → ((check : CheckDef) (it : IsMeantCheck name schema check) → is_condition (bound (own_scope name without) it.expr) ≡ true → is_condition (bound (own_scope name other) it.expr) ≡ true)
    → (list : List CheckDef) → list_any (check_needs checks name without) list ≡ false → AllByRecursion (IsMeantCheck name schema) list → AllByRecursion (IsMeantCheck name other) list
checks_without name schema without other by [] free all = tt
checks_without name schema without other by (check ∷ list) free all =
    let parts = or_parts (check_needs checks name without check) (list_any (check_needs checks name without) list) free in
    let it = all.0 in
    let judged = judged_condition name schema without check it (not-false (is_some (checks name without check.text)) parts.0) in
    (with_binding name schema other check it (by check it judged), checks_without name schema without other by list parts.1 all.1)

after_meant : (name : List ℕ) (schema : Schema) (done : ColumnChange) → IsAllowed name schema done → is_schema (schema_after done schema) ≡ true → IsMeantTable name schema → IsMeantTable name (schema_after done schema)
after_meant name schema (change.Add column) allowed is meant =
    let other = schema_after (change.Add column) schema in
    let parts = parts_so other is in
    checks_after name schema other
    (λ check it. with_binding name schema other check it (grown_condition name schema.columns other.columns it.expr parts.apart (added_contains schema.columns column) it.binds)) schema.checks meant
after_meant name schema (change.Remove place) allowed is meant =
    let other = without_column schema place in checks_without name schema other other (λ check it h. h) schema.checks allowed meant
after_meant name schema (change.Redefine place kind column) allowed is meant =
    let other = schema_after (change.Redefine place kind column) schema in
    let without = without_column schema place in
    let parts = parts_so other is in
    checks_without name schema without other (λ check it h. grown_condition name without.columns other.columns it.expr parts.apart (set_contains schema.columns place column parts.apart) h) schema.checks allowed meant

-- ---- which changes are allowed

free_so : (database : PlainDatabase) (name : List ℕ) (schema : Schema) (column : List ℕ) (place : ℕ) → is_used checks database name schema column place ≡ false
    → list_any (check_needs checks name (without_column schema place)) schema.checks ≡ false
free_so database name schema column place h =
    let key = is_keyed schema.key place in
    let indexes = list_any (λ index. is_keyed index.columns place) schema.indexes in
    let needs = list_any (check_needs checks name (without_column schema place)) schema.checks in
    let foreign = list_any (λ foreign. is_keyed foreign.columns place) schema.foreign in
    let p5 = or_parts (key || indexes || needs || foreign) (list_any (refers_to name column) database) h in
    let p4 = or_parts (key || indexes || needs) foreign p5.0 in
    (or_parts (key || indexes) needs p4.0).1

free_place_so : (database : PlainDatabase) (name : List ℕ) (schema : Schema) (column : List ℕ) (place : ℕ) → free_place checks database name schema column ≡ Ok place
    → list_any (check_needs checks name (without_column schema place)) schema.checks ≡ false
free_place_so database name schema column place e =
    let found = then_so (or_refuse 1054 (column_place schema column)) (λ place. unless (is_used checks database name schema column place) 9013 (Ok place)) place e in
    let here : Outcome ℕ = Ok found.0 in
    let parts = unless_so (is_used checks database name schema column found.0) 9013 here place found.2 in
    subst (λ p. list_any (check_needs checks name (without_column schema p)) schema.checks ≡ false) (ok_same here found.0 place refl parts.1) (free_so database name schema column found.0 parts.0)

redefined_so : (place : ℕ) (column : Column) (kind : Kind) (done : ColumnChange) → redefined_from place column kind ≡ Ok done → change.Redefine place kind column ≡ done
redefined_so place column kind done e = two (may_assign kind column.kind)
    (λ t. let made : Outcome ColumnChange = Ok (change.Redefine place kind column) in
    ok_same made (change.Redefine place kind column) done refl (sym (ap (λ b. cond b (Ok (change.Redefine place kind column)) mismatch) t) ∙ e))
    (λ t. let refused : redefined_from place column kind ≡ Err 9001 = ap (λ b. cond b (Ok (change.Redefine place kind column)) mismatch) t in cc)

change_allowed : (database : PlainDatabase) (name : List ℕ) (schema : Schema) (done : AlterAction) (found : ColumnChange) → change_of checks database name schema done ≡ Ok found → IsAllowed name schema found
change_allowed database name schema (action.Add column) found e =
    let next : Outcome ColumnChange = and_then (column_after column) (λ made. Ok (change.Add made)) in
    let parts = unless_so (is_some (column_place schema column.name)) 9013 next found e in
    let made = then_so (column_after column) (λ made. Ok (change.Add made)) found parts.1 in
    let whole : Outcome ColumnChange = Ok (change.Add made.0) in
    subst (IsAllowed name schema) (ok_same whole (change.Add made.0) found refl made.2) tt
change_allowed database name schema (action.Drop column) found e =
    let place = then_so (free_place checks database name schema column) (λ place. Ok (change.Remove place)) found e in
    let whole : Outcome ColumnChange = Ok (change.Remove place.0) in
    subst (IsAllowed name schema) (ok_same whole (change.Remove place.0) found refl place.2) (free_place_so database name schema column place.0 place.1)
change_allowed database name schema (action.Modify column) found e =
    let place = then_so (free_place checks database name schema column.name) (λ place. and_then (column_after column) (redefined schema place)) found e in
    let made = then_so (column_after column) (redefined schema place.0) found place.2 in
    let kind = then_so (or_refuse 9001 (kind_at schema place.0)) (redefined_from place.0 made.0) found made.2 in
    subst (IsAllowed name schema) (redefined_so place.0 made.0 kind.0 found kind.2) (free_place_so database name schema column.name place.0 place.1)

-- ---- the whole

replaced_found : (name : List ℕ) (database : PlainDatabase) (table after : PlainTable) → table_in database name ≡ Some table → table_in (replaced name after database) name ≡ Some after
replaced_found name [] table after e = cc
replaced_found name (named ∷ database) table after e =
    let new : NamedTable = record { name = name; table = after } in
    let of = λ (one : NamedTable). option_map (λ (named : NamedTable). named.table) (cond (is_called name one) (Some one) (find (is_called name) (replaced name after database))) in
    two (is_called name named)
    (λ t. ap (λ b. of (cond b new named)) t ∙ ap (λ b. option_map (λ (named : NamedTable). named.table) (cond b (Some new) (find (is_called name) (replaced name after database)))) ((bytes_decides name name).1 refl))
    (λ t. ap (λ b. of (cond b new named)) t ∙ ap (λ b. option_map (λ (named : NamedTable). named.table) (cond b (Some named) (find (is_called name) (replaced name after database)))) t
    ∙ replaced_found name database table after (sym (ap (λ b. option_map (λ (named : NamedTable). named.table) (cond b (Some named) (find (is_called name) database))) t) ∙ e))

schema_made : (table after : PlainTable) (done : ColumnChange) → table_after table done ≡ Ok after → schema_after done table.schema ≡ after.schema
schema_made table after done e =
    let schema = schema_after done table.schema in
    let rows = then_so (each (small_row_after schema done) table.rows)
    (λ rows. unless (not (is_within_limits schema)) 9010 (Ok (record { schema = schema; rows = rows; conflicts = []; violations = [] }))) after e in
    let made : PlainTable = record { schema = schema; rows = rows.0; conflicts = []; violations = [] } in
    let whole : Outcome PlainTable = Ok made in
    let parts = unless_so (not (is_within_limits schema)) 9010 whole after rows.2 in
    ap (λ (t : PlainTable). t.schema) (ok_same whole made after refl parts.1)

altered_meant : (database : PlainDatabase) (alter : Alter) (effect : Effect) → IsKept database → AreMeant database → IsFit (write.Alter alter) → alter_effect checks database alter ≡ Ok effect → IsMeantEffect effect
altered_meant database alter effect kept meant fit e =
    let found = then_so (or_refuse 1146 (table_in database alter.table)) (altered checks database alter) effect e in
    let table = found.0 in
    let there = found_so 1146 (table_in database alter.table) table found.1 in
    let next : Outcome Effect = and_then (change_of checks database alter.table table.schema alter.action) (λ change. and_then (table_after table change) (λ after. Ok (changed_to (replaced alter.table after database)))) in
    let closed = unless_so (is_open table) 9011 next effect found.2 in
    let done = then_so (change_of checks database alter.table table.schema alter.action) (λ change. and_then (table_after table change) (λ after. Ok (changed_to (replaced alter.table after database)))) effect closed.1 in
    let after = then_so (table_after table done.0) (λ after. Ok (changed_to (replaced alter.table after database))) effect done.2 in
    let whole : Outcome Effect = Ok (changed_to (replaced alter.table after.0 database)) in
    let same = ok_same whole (changed_to (replaced alter.table after.0 database)) effect refl after.2 in
    let still : IsKept (replaced alter.table after.0 database) =
    subst (λ (made : Effect). IsKept made.database) (sym same) (alters_keep checks database alter effect (alters_kept alter fit.inside fit.sound).1 kept e) in
    let it = found_kept alter.table (replaced alter.table after.0 database) after.0 still (replaced_found alter.table database table after.0 there) in
    let is = it.is_table in
    let schema_is = schema_made table after.0 done.0 after.1 in
    subst IsMeantEffect same (replaced_meant alter.table after.0 database
    (subst (IsMeantTable alter.table) schema_is (after_meant alter.table table.schema done.0 (change_allowed database alter.table table.schema alter.action done.0 done.1)
    (ap is_schema schema_is ∙ is.schema) (found_meant alter.table database table meant there))) meant)

pub alters_meant : (database : PlainDatabase) (alter : Alter) → IsKept database → AreMeant database → IsFit (write.Alter alter) → IfOk (alter_effect checks database alter) IsMeantEffect
alters_meant database alter kept meant fit = if_ok IsMeantEffect (alter_effect checks database alter) (λ effect e. altered_meant database alter effect kept meant fit e)
