-- The table that a statement names.
use Rattle.std.proofs.Common.{◌≡◌, ℕ, Bool, true, false, cond, List, [], ◌∷◌, Option, Some, None, map, bytes_eq, ap, sym, ◌∙◌, subst, Ok, Err}
use Rattle.std.specs.List.{find, list_all}
use Rattle.std.proofs.lemmas.Bool.{and_parts}
use Rattle.std.specs.Option.{option_map}
use Rattle.tuple_codec.specs.Limits.{is_type}
use Rattle.schema_model.specs.PlainTables as plain
use Rattle.schema_model.specs.PlainTables.{PlainDatabase, PlainTable}
use Rattle.schema_model.specs.declared.schemas.Column.{Column}
use Rattle.sql_ast.specs.declared.statements.Update.{Update}
use Rattle.expr_eval.specs.Binding.{Outcome, and_then}
use Rattle.expr_eval.specs.declared.scopes.ScopeColumn.{ScopeColumn}
use Rattle.plain_sql.specs.Lists.{each, or_refuse}
use Rattle.plain_writes.specs.declared.tables.NamedTable.{NamedTable}
use Rattle.plain_writes.specs.Seen.{named_seen}
use Rattle.plain_writes.specs.Steps.{updated_by}
use Rattle.plain_writes.specs.Typed.{are_typed}
use Rattle.plain_writes.specs.Violations.{Checks, is_called, own_scope, table_in}
use Rattle.plain_writes.specs.Writes.{Assign, Effect, bound_assignment, on_table, updated}

abbrev pub has_known_types : PlainTable → Bool
has_known_types table = list_all (λ (column : Column). is_type column.kind) table.schema.columns

typed_if : (same : Bool) (first : plain.NamedTable) (others : Option plain.NamedTable) (table : PlainTable)
    → has_known_types first.table ≡ true
    → (option_map (λ named. named.table) others ≡ Some table → has_known_types table ≡ true)
    → option_map (λ named. named.table) (cond same (Some first) others) ≡ Some table
    → has_known_types table ≡ true
typed_if true first others table here later found = let one : first.table ≡ table = cc in subst (λ (t : PlainTable). has_known_types t ≡ true) one here
typed_if false first others table here later found = later found

-- the types of a table's columns are types where those of its database are
pub typed_in : (database : List NamedTable) (name : List ℕ) (table : PlainTable)
    → are_typed database ≡ true → table_in (map named_seen database) name ≡ Some table → has_known_types table ≡ true
typed_in [] name table typed found = absurd (cc)
typed_in (first ∷ rest) name table typed found =
    let parts = and_parts (has_known_types (named_seen first).table) (are_typed rest) typed in
    typed_if (bytes_eq first.name name) (named_seen first) (find (is_called name) (map named_seen rest)) table parts.0 (λ later. typed_in rest name table parts.1 later) found

-- what a statement comes to, by what a look-up of its table found
module _ {A : Type 0} (view : A → PlainTable) (database : PlainDatabase) (name text : List ℕ) (next : PlainTable → Outcome Effect) (result : Option A)
    (looked : table_in database text ≡ option_map view result) (same : text ≡ name) where
  pub found_at : (table : A) → result ≡ Some table → table_in database name ≡ Some (view table)
  found_at table found = ap (table_in database) (sym same) ∙ looked ∙ ap (option_map view) found

  pub on_found : (table : A) → result ≡ Some table → on_table database name next ≡ next (view table)
  on_found table found = ap (λ one. and_then (or_refuse 1146 one) next) (found_at table found)

  pub on_missing : result ≡ None → on_table database name next ≡ Err 1146
  on_missing missing = ap (λ one. and_then (or_refuse 1146 one) next) (ap (table_in database) (sym same) ∙ looked ∙ ap (option_map view) missing)

-- an UPDATE whose assignments are bound
pub once_bound : (checks : Checks) (database : PlainDatabase) (update : Update) (table : PlainTable) (scope : List ScopeColumn) (sets : List Assign)
    → scope ≡ own_scope update.table table.schema
    → each (bound_assignment table.schema scope) update.assignments ≡ Ok sets
    → updated checks database update table ≡ updated_by checks database update table scope sets
once_bound checks database update table scope sets scoped bound =
    let own : List ScopeColumn = own_scope update.table table.schema in
    let here : each (bound_assignment table.schema own) update.assignments ≡ Ok sets =
    subst (λ (s : List ScopeColumn). each (bound_assignment table.schema s) update.assignments ≡ Ok sets) scoped bound in
    ap (λ (outcome : Outcome (List Assign)). and_then outcome (updated_by checks database update table own)) here
    ∙ ap (λ (s : List ScopeColumn). updated_by checks database update table s sets) (sym scoped)
