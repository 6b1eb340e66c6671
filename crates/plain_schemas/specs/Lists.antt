-- What is allowed, and where columns stand.
use Rattle.std.specs.Prelude.{ℕ, Bool, nat_lt, List, [], ◌∷◌, map, Option, Ok, bytes_eq, slice_get}
use Rattle.std.specs.List.{flat_map, position}
use Rattle.std.specs.Option.{option_to_list}
use Rattle.tuple_codec.specs.declared.values.SqlType.{SqlType}
use Rattle.schema_model.specs.declared.schemas.Column.{Column}
use Rattle.expr_eval.specs.Binding.{Outcome, and_then}
use Rattle.expr_eval.specs.declared.scopes.ScopeColumn.{ScopeColumn}

-- each in turn, up to the first refusal
abbrev pub all_allowed : {A : Type 0} → (A → Outcome Unit) → List A → Outcome Unit
all_allowed judge [] = Ok tt
all_allowed judge (x ∷ xs) = and_then (judge x) (λ done. all_allowed judge xs)

-- where the column of this name stands
abbrev pub place_in : List Column → List ℕ → Option ℕ
place_in columns name = position (λ column. bytes_eq column.name name) columns

-- where the columns of these names stand, in the order of the names
abbrev pub places : List Column → List (List ℕ) → List ℕ
places columns names = flat_map (λ name. option_to_list (place_in columns name)) names

abbrev pub kind_at : List Column → ℕ → List SqlType
kind_at columns place = map (λ column. column.kind) (option_to_list (slice_get columns place))

abbrev pub kinds_at : List Column → List ℕ → List SqlType
kinds_at columns places = flat_map (kind_at columns) places

-- a place that a schema can hold
abbrev pub fits_byte : ℕ → Bool
fits_byte place = nat_lt place 256

abbrev pub scope_column : List ℕ → Column → ScopeColumn
scope_column source column = record { source = source; name = column.name; kind = column.kind }
