-- Which column a name means.
use Rattle.std.specs.Prelude.{ℕ, Bool, ◌==◌, ◌&&◌, List, Option, None, count_by, bytes_eq, if◌then◌else◌}
use Rattle.std.specs.List.{position}
use Rattle.expr_eval.specs.declared.scopes.ScopeColumn.{ScopeColumn}

abbrev pub is_named : List ℕ → ScopeColumn → Bool
is_named name column = bytes_eq column.name name

abbrev pub is_qualified : List ℕ → List ℕ → ScopeColumn → Bool
is_qualified source name column = bytes_eq column.source source && bytes_eq column.name name

-- the place of the only column that is meant; None where there is none or more than one
abbrev pub only : (ScopeColumn → Bool) → List ScopeColumn → Option ℕ
only meant scope = if count_by meant scope == 1 then position meant scope else None

abbrev pub place_named : List ℕ → List ScopeColumn → Option ℕ
place_named name scope = only (is_named name) scope

abbrev pub place_qualified : List ℕ → List ℕ → List ScopeColumn → Option ℕ
place_qualified source name scope = only (is_qualified source name) scope
