-- Which SELECT names a table of conflicts or of violations.
use Rattle.std.specs.Prelude.{ℕ, Bool, ◌||◌, nat_eq, List, [], None, codes}
use Rattle.std.specs.List.{list_any, starts_with}
use Rattle.sql_ast.specs.declared.selects.FromClause.{FromClause}

-- the name of each table of conflicts or of violations begins so, and no stored table's
abbrev pub is_entry_name : List ℕ → Bool
is_entry_name name = starts_with nat_eq name (codes "dolt_conflicts") || starts_with nat_eq name (codes "dolt_constraint_violations")

abbrev pub reads_entries : FromClause → Bool
reads_entries from = is_entry_name from.first.table || list_any (λ join. is_entry_name join.source.table) from.joins

-- the FROM of a SELECT that names one table
abbrev pub source_of : List ℕ → FromClause
source_of name = record { first = record { table = name; alias = None }; joins = [] }
