-- The parts of a schema by their names, and what each kind of part has: columns, indexes, checks and foreign keys.
use Rattle.std.specs.Prelude.{ℕ, Bool, true, false, ◌==◌, ◌&&◌, nat_le, if◌then◌else◌, List, [], ◌∷◌, map, Option, None, Some, bytes_eq, position, slice_get}
use Rattle.std.specs.List.{list_all}
use Rattle.std.specs.Option.{option_map_or}
use Rattle.std.specs.Cmp.Lexicographic.{pointwise}
use Rattle.tuple_codec.specs.declared.values.SqlType.{SqlType}
use Rattle.tuple_codec.specs.declared.values.SqlType.TheVariants as kind
use Rattle.schema_model.specs.Sameness.{is_same_column, is_same_kind, is_same_truth}
use Rattle.schema_model.specs.declared.schemas.Column.{Column}
use Rattle.schema_model.specs.declared.schemas.IndexDef.{IndexDef}
use Rattle.schema_model.specs.declared.schemas.CheckDef.{CheckDef}
use Rattle.schema_model.specs.declared.schemas.ForeignKey.{ForeignKey}
use Rattle.schema_model.specs.declared.schemas.Schema.{Schema}
use Rattle.schema_merge.specs.Names.{names_in}

-- what is merged; the base may be absent
pub record Sides : Type 0 where
  pub base : Option Schema
  pub ours : Schema
  pub theirs : Schema

abbrev pub sides : Option Schema → Schema → Schema → Sides
sides base ours theirs = record { base = base; ours = ours; theirs = theirs }

-- the part of a name
abbrev pub find : {P : Type 0} → (P → List ℕ) → List ℕ → List P → Option P
find called name [] = None
find called name (part ∷ parts) = if bytes_eq (called part) name then Some part else find called name parts

abbrev pub column : List ℕ → Schema → Option Column
column name schema = find (λ part. part.name) name schema.columns

-- ---- columns by position and by name

abbrev pub name_at : List Column → ℕ → List ℕ
name_at columns place = option_map_or (λ part. part.name) (slice_get columns place) []

abbrev pub names_at : List Column → List ℕ → List (List ℕ)
names_at columns places = map (name_at columns) places

-- where the column of a name stands, if it does
abbrev pub place_of : List Column → List ℕ → Option ℕ
place_of columns name = position (λ part. bytes_eq part.name name) columns

abbrev pub place_or_first : List Column → List ℕ → ℕ
place_or_first columns name = option_map_or (λ place. place) (place_of columns name) 0

-- a merged column is there, with the definition that it has on a side
abbrev pub keeps : List Column → Schema → List ℕ → Bool
keeps columns side name =
    option_map_or (λ part. option_map_or (is_same_column part) (column name side) false) (find (λ part. part.name) name columns) false

-- the same for the columns at these positions of the side, and where they stand among merged columns
abbrev pub keeps_places : List Column → Schema → List ℕ → Bool
keeps_places columns side places = list_all (λ place. keeps columns side (name_at side.columns place)) places

unfoldable pub moved_place : List Column → Schema → ℕ → ℕ
moved_place columns side place = place_or_first columns (name_at side.columns place)

abbrev pub moved_places : List Column → Schema → List ℕ → List ℕ
moved_places columns side places = map (moved_place columns side) places

-- ---- types

-- the first type is equal to the second or wider
abbrev pub covers : SqlType → SqlType → Bool
covers kind.BigInt kind.Int = true
covers (kind.Varchar a) (kind.Varchar b) = nat_le b a
covers (kind.Varbinary a) (kind.Varbinary b) = nat_le b a
covers (kind.Decimal a c) (kind.Decimal b d) = c == d && nat_le b a
covers a b = is_same_kind a b

-- a type covers that of the column of this name, if there is one
abbrev pub covers_in : SqlType → List ℕ → Option Schema → Bool
covers_in type name None = true
covers_in type name (Some schema) = option_map_or (λ part. covers type part.kind) (column name schema) true

abbrev pub covers_all : Sides → Column → Bool
covers_all all part = covers_in part.kind part.name all.base && covers_in part.kind part.name (Some all.ours) && covers_in part.kind part.name (Some all.theirs)

-- ---- kinds of parts

-- What a kind of part has beside its name: where it stands in a schema, when it has the same definition in two schemas, and, of one taken from a
-- side, how it stands in the schema of the merged columns, if it can.
pub record PartKind (P : Type 0) : Type 0 where
  pub parts : Schema → List P
  pub same : Schema → P → Schema → P → Bool
  pub moved : Sides → List Column → Schema → P → Option P

abbrev pub if_so : {P : Type 0} → Bool → P → Option P
if_so test part = if test then Some part else None

abbrev pub of_columns : PartKind Column
of_columns = record {
  parts = λ schema. schema.columns;
  same = λ schema a other b. is_same_column a b;
  moved = λ all columns side part. if_so (covers_all all part) part;
}

abbrev pub same_index : Schema → IndexDef → Schema → IndexDef → Bool
same_index schema a other b = is_same_truth a.unique b.unique && pointwise bytes_eq (names_at schema.columns a.columns) (names_at other.columns b.columns)

abbrev pub moved_index : List Column → Schema → IndexDef → IndexDef
moved_index columns side part = record part { columns = moved_places columns side part.columns }

abbrev pub of_indexes : PartKind IndexDef
of_indexes = record {
  parts = λ schema. schema.indexes;
  same = same_index;
  moved = λ all columns side part. if_so (keeps_places columns side part.columns) (moved_index columns side part);
}

abbrev pub of_checks : PartKind CheckDef
of_checks = record {
  parts = λ schema. schema.checks;
  same = λ schema a other b. bytes_eq a.text b.text;
  moved = λ all columns side part. if_so (list_all (keeps columns side) (names_in part.text)) part;
}

abbrev pub same_foreign : Schema → ForeignKey → Schema → ForeignKey → Bool
same_foreign schema a other b =
    pointwise bytes_eq (names_at schema.columns a.columns) (names_at other.columns b.columns)
    && bytes_eq a.parent b.parent
    && pointwise bytes_eq a.parent_columns b.parent_columns

abbrev pub moved_foreign : List Column → Schema → ForeignKey → ForeignKey
moved_foreign columns side part = record part { columns = moved_places columns side part.columns }

abbrev pub of_foreign : PartKind ForeignKey
of_foreign = record {
  parts = λ schema. schema.foreign;
  same = same_foreign;
  moved = λ all columns side part. if_so (keeps_places columns side part.columns) (moved_foreign columns side part);
}
