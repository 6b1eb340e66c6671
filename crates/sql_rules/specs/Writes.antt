-- What DROP, INSERT, UPDATE and DELETE may not say.
use Rattle.std.specs.Prelude.{ℕ, Bool, false, ◌||◌, ◌&&◌, List, Option, nat_eq, nat_lt, codes, length, not}
use Rattle.std.specs.List.{list_any, starts_with}
use Rattle.sql_ast.specs.declared.expressions.Expr.{Expr}
use Rattle.sql_ast.specs.declared.statements.Insert.{Insert}
use Rattle.sql_ast.specs.declared.statements.InsertCell.{InsertCell}
use Rattle.sql_ast.specs.declared.statements.InsertCell.TheVariants as entry
use Rattle.sql_ast.specs.declared.statements.Update.{Update}
use Rattle.sql_ast.specs.declared.statements.Delete.{Delete}
use Rattle.sql_text.specs.Features.{has}
use Rattle.sql_rules.specs.Names.{in_given, is_system_name, repeats, repeats_by}
use Rattle.sql_text.specs.declared.features.Feature.TheVariants as feature

-- an aggregate, `@@` and a name, or `active_branch()`, where none of them may stand
abbrev pub is_misplaced : Expr → Bool
is_misplaced expr = has feature.Aggregate expr || has feature.SessionWord expr

abbrev pub is_misplaced_if : Option Expr → Bool
is_misplaced_if expr = in_given is_misplaced expr

-- a name that goes on behind this front
abbrev pub is_below : List ℕ → List ℕ → Bool
is_below front name = starts_with nat_eq name front && nat_lt (length front) (length name)

-- the conflicts, or the recorded violations, of some table
abbrev pub is_list_of_entries : List ℕ → Bool
is_list_of_entries name = is_below (codes "dolt_conflicts_") name || is_below (codes "dolt_constraint_violations_") name

abbrev pub entry_outside : InsertCell → Bool
entry_outside (entry.Value value) = is_misplaced value
entry_outside entry.Default = false

abbrev pub insert_outside : Insert → Bool
insert_outside insert =
    is_system_name insert.table || in_given repeats insert.columns || list_any (λ tuple. list_any entry_outside tuple) insert.tuples

abbrev pub update_outside : Update → Bool
update_outside update =
    is_system_name update.table || repeats_by (λ assignment. assignment.column) update.assignments
    || list_any (λ assignment. is_misplaced assignment.value) update.assignments || is_misplaced_if update.filter

abbrev pub delete_outside : Delete → Bool
delete_outside delete = is_system_name delete.table && not (is_list_of_entries delete.table) || is_misplaced_if delete.filter
