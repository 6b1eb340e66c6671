-- What the workload's table holds in the end: each key that is inserted, with the value that is written last.
use Rattle.std.specs.Prelude.{ℕ, ◌==◌, pos, if◌then◌else◌, Bool, true, false, List, [], ◌∷◌, codes, map, None}
use Rattle.std.specs.List.{flat_map}
use Rattle.tuple_codec.specs.Rows.{Cells}
use Rattle.tuple_codec.specs.declared.values.SqlType.TheVariants as kind
use Rattle.tuple_codec.specs.declared.values.Value.TheVariants as cell
use Rattle.schema_model.specs.PlainTables.{PlainTable}
use Rattle.schema_model.specs.declared.schemas.Column.{Column}
use Rattle.schema_model.specs.declared.schemas.Schema.{Schema}
use Rattle.workload.specs.declared.steps.LoadStep.TheVariants.{Inserts, Updates}
use Rattle.workload.specs.declared.steps.LoadStep.{LoadStep}
use Rattle.workload.specs.declared.steps.Pair.{Pair}
use Rattle.workload.specs.Workload.{steps_of}

-- ---- what a list of steps writes

-- what a step writes, if anything
abbrev pub written : LoadStep → List Pair
written (Inserts pair) = pair ∷ []
written (Updates pair) = pair ∷ []
written step = []

-- what a step inserts, if anything
abbrev pub inserted : LoadStep → List Pair
inserted (Inserts pair) = pair ∷ []
inserted step = []

-- the value that is written last under a key; the one given where none is
abbrev pub last_value : ℕ → ℕ → List Pair → ℕ
last_value key value [] = value
last_value key value (pair ∷ pairs) = last_value key (if pair.key == key then pair.value else value) pairs

-- each pair that is inserted, in order, with the last value of its key
abbrev pub last_rows : List LoadStep → List Pair
last_rows steps = map (λ pair. record { key = pair.key; value = last_value pair.key pair.value (flat_map written steps) }) (flat_map inserted steps)

-- ---- the table

abbrev pub big_int : List ℕ → Bool → Column
big_int name not_null = record { name = name; kind = kind.BigInt; not_null = not_null; default = None }

abbrev pub load_schema : Schema
load_schema = record { columns = big_int (codes "id") true ∷ big_int (codes "v") false ∷ []; key = 0 ∷ []; indexes = []; checks = []; foreign = [] }

abbrev pub row : Pair → Cells
row pair = cell.Int (pos pair.key) ∷ cell.Int (pos pair.value) ∷ []

abbrev pub load_table : List Pair → PlainTable
load_table pairs = record { schema = load_schema; rows = map row pairs; conflicts = []; violations = [] }

-- session by session, as they stand in the script
abbrev pub all_steps : ℕ → List LoadStep
all_steps seed = flat_map (steps_of seed) (0 ∷ 1 ∷ 2 ∷ 3 ∷ 4 ∷ 5 ∷ 6 ∷ 7 ∷ [])

-- the table `load_rows` in the end
unfoldable pub loaded : ℕ → PlainTable
loaded seed = load_table (last_rows (all_steps seed))
