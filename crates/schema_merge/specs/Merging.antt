-- Schemas merged by names.
use Rattle.std.specs.Prelude.{◌≡◌, ℕ, Bool, true, ◌&&◌, not, if◌then◌else◌, List, [], ◌∷◌, ◌++◌, map, filter, codes, is_some, Option, None, Some, Result, Ok, Err, slice_get}
use Rattle.std.specs.Option.{option_and_then, option_map}
use Rattle.std.specs.Cmp.Lexicographic.{pointwise}
use Rattle.tuple_codec.specs.RowRule.{same_option, three_way}
use Rattle.schema_model.specs.Sameness.{is_same_column, is_same_option}
use Rattle.schema_model.specs.declared.schemas.Column.{Column}
use Rattle.schema_model.specs.declared.schemas.IndexDef.{IndexDef}
use Rattle.schema_model.specs.declared.schemas.CheckDef.{CheckDef}
use Rattle.schema_model.specs.declared.schemas.ForeignKey.{ForeignKey}
use Rattle.schema_model.specs.declared.schemas.Schema.{Schema}
use Rattle.schema_merge.specs.declared.faults.SchemaFault.{SchemaFault}
use Rattle.schema_merge.specs.declared.faults.SchemaFault.TheVariants as fault
use Rattle.schema_merge.specs.Parts.{PartKind, Sides, find, of_checks, of_columns, of_foreign, of_indexes, moved_places, sides}

-- ---- the part of one name

-- a part with the schema in which it stands
abbrev pub stands : {P : Type 0} → (P → List ℕ) → PartKind P → List ℕ → Option Schema → Option (Schema × P)
stands called kind name None = None
stands called kind name (Some schema) = option_map (λ part. (schema, part)) (find called name (kind.parts schema))

abbrev pub same_pair : {P : Type 0} → PartKind P → Schema × P → Schema × P → Bool
same_pair kind a b = kind.same a.0 a.1 b.0 b.1

-- a part that was taken from a side, or its absence, as it stands in the merged schema
abbrev pub taken : {P : Type 0} → PartKind P → Sides → List Column → Option (Schema × P) → Option (Option P)
taken kind all columns None = Some None
taken kind all columns (Some pair) = option_map (λ part. Some part) (kind.moved all columns pair.0 pair.1)

-- what becomes of the part of a name, absence counting as a definition; none is a conflict
abbrev pub part3 : {P : Type 0} → (P → List ℕ) → PartKind P → Sides → List Column → List ℕ → Option (Option P)
part3 called kind all columns name =
    option_and_then (taken kind all columns)
    (three_way (same_option (same_pair kind)) (stands called kind name all.base) (stands called kind name (Some all.ours)) (stands called kind name (Some all.theirs)))

-- ---- the parts of one kind

-- a part before the others, unless one of those is in conflict
abbrev pub with_part : {P : Type 0} → P → Result (List P) (List ℕ) → Result (List P) (List ℕ)
with_part part (Ok parts) = Ok (part ∷ parts)
with_part part (Err name) = Err name

abbrev pub step : {P : Type 0} → List ℕ → Option (Option P) → Result (List P) (List ℕ) → Result (List P) (List ℕ)
step name None later = Err name
step name (Some None) later = later
step name (Some (Some part)) later = with_part part later

-- the parts of names in order, or the first name in conflict
abbrev pub merged_by : {P : Type 0} → (List ℕ → Option (Option P)) → List (List ℕ) → Result (List P) (List ℕ)
merged_by part_of [] = Ok []
merged_by part_of (name ∷ names) = step name (part_of name) (merged_by part_of names)

-- the same behind parts that are merged already
abbrev pub with_parts : {P : Type 0} → List P → Result (List P) (List ℕ) → Result (List P) (List ℕ)
with_parts done (Ok parts) = Ok (done ++ parts)
with_parts done (Err name) = Err name

-- theirs whose names ours haven't
abbrev pub others : {P : Type 0} → (P → List ℕ) → List P → List P → List P
others called ours theirs = filter (λ part. not (is_some (find called (called part) ours))) theirs

-- the names of ours, and then theirs
abbrev pub names3 : {P : Type 0} → (P → List ℕ) → List P → List P → List (List ℕ)
names3 called ours theirs = map called ours ++ map called (others called ours theirs)

abbrev pub parts3 : {P : Type 0} → (P → List ℕ) → PartKind P → Sides → List Column → Result (List P) (List ℕ)
parts3 called kind all columns = merged_by (part3 called kind all columns) (names3 called (kind.parts all.ours) (kind.parts all.theirs))

-- ---- the whole

-- one list of key names with equal definitions, so of equal columns
abbrev pub columns_at : List Column → List ℕ → List (Option Column)
columns_at columns places = map (slice_get columns) places

abbrev pub same_key : Schema → Schema → Bool
same_key a b = pointwise (is_same_option is_same_column) (columns_at a.columns a.key) (columns_at b.columns b.key)

abbrev pub same_key_in : Option Schema → Schema → Bool
same_key_in None schema = true
same_key_in (Some base) schema = same_key base schema

abbrev pub keys_agree : Sides → Bool
keys_agree all = same_key all.theirs all.ours && same_key_in all.base all.ours

abbrev pub and_then : {A B : Type 0} → Result A (List ℕ) → (A → Result B (List ℕ)) → Result B (List ℕ)
and_then (Ok value) go = go value
and_then (Err name) go = Err name

-- the schema of merged parts
abbrev pub schema_of : Schema → List Column → List IndexDef → List CheckDef → List ForeignKey → Schema
schema_of ours columns indexes checks foreign = record {
  columns = columns;
  key = moved_places columns ours ours.key;
  indexes = indexes;
  checks = checks;
  foreign = foreign;
}

-- what has merged columns, or the part in conflict
abbrev pub over_columns : Sides → List Column → Result Schema (List ℕ)
over_columns all columns =
    if keys_agree all then
    and_then (parts3 (λ part. part.name) of_indexes all columns) (λ indexes.
    and_then (parts3 (λ part. part.name) of_checks all columns) (λ checks.
    and_then (parts3 (λ part. part.name) of_foreign all columns) (λ foreign. Ok (schema_of all.ours columns indexes checks foreign))))
    else Err (codes "primary key")

-- the merged schema, or the first part in conflict: a column, else the primary key, else an index, a check or a foreign key
unfoldable pub schema3 : Option Schema → Schema → Schema → Result Schema (List ℕ)
schema3 base ours theirs = and_then (parts3 (λ part. part.name) of_columns (sides base ours theirs) []) (over_columns (sides base ours theirs))

-- ---- what code answers

abbrev pub Answers : {A : Type 0} → Result A SchemaFault → Result A (List ℕ) → Type 0
Answers (Ok value) wanted = wanted ≡ Ok value
Answers (Err fault.Memory) wanted = Unit {0}
Answers (Err (fault.Conflict part)) wanted = wanted ≡ Err part
