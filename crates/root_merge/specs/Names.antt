-- The names of three databases in order, and what is done for each.
use Rattle.std.specs.Prelude.{◌≡◌, ℕ, List, [], ◌∷◌, map, Option, None, Some, Result, Ok}
use Rattle.tuple_codec.specs.Edits.{order}
use Rattle.tuple_codec.specs.declared.addresses.Address.{Address}
use Rattle.schema_model.specs.PlainTables.{PlainDatabase}
use Rattle.chunk_store.specs.Chunks.{Chunks}
use Rattle.table_root.specs.declared.records.TableEntry.{TableEntry}
use Rattle.schema_merge.specs.KeyByKey.{all_keys}
use Rattle.schema_merge.specs.RootMerge.{MergedDatabase, MergedTable, SchemaConflict, either_table, names_of, step, table_in}
use Rattle.root_merge.specs.Choosing.{LeadsTo, address_in, chosen}
use Rattle.root_merge.specs.declared.names.Named.{Named}

abbrev pub names_in : List TableEntry → List (List ℕ)
names_in tables = map (λ named. named.name) tables

-- ---- by addresses

abbrev pub chosen_for : List TableEntry → List TableEntry → List TableEntry → List ℕ → Named
chosen_for base ours theirs name = record { name = name; choice = chosen (address_in name base) (address_in name ours) (address_in name theirs) }

abbrev pub all_chosen : List TableEntry → List TableEntry → List TableEntry → List Named
all_chosen base ours theirs = map (chosen_for base ours theirs) (all_keys order (names_in base) (names_in ours) (names_in theirs))

-- a table as databases list it, if there is one
abbrev pub listed_as : List ℕ → Option Address → List TableEntry
listed_as name None = []
listed_as name (Some table) = record { name = name; table = table } ∷ []

-- ---- by contents

-- a name, and what becomes of its table
pub record Wanted : Type 0 where
  pub name : List ℕ
  pub table : Result MergedTable (List ℕ)

abbrev pub wanted_for : PlainDatabase → PlainDatabase → PlainDatabase → List ℕ → Wanted
wanted_for base ours theirs name = record { name = name; table = either_table (table_in name base) (table_in name ours) (table_in name theirs) }

abbrev pub all_wanted : PlainDatabase → PlainDatabase → PlainDatabase → List Wanted
all_wanted base ours theirs = map (wanted_for base ours theirs) (all_keys order (names_of base) (names_of ours) (names_of theirs))

-- what all these come to
abbrev pub together : List Wanted → Result MergedDatabase SchemaConflict
together [] = Ok (record { database = []; conflicts = 0 })
together (wanted ∷ more) = step wanted.name wanted.table (together more)

-- each choice leads to what becomes of the table of its name
abbrev pub LeadTo : (List ℕ → List ℕ) → Chunks → List Named → List Wanted → Type 0
LeadTo address chunks [] [] = Unit {0}
LeadTo address chunks (named ∷ names) (wanted ∷ more) =
    (named.name ≡ wanted.name) × LeadsTo address chunks named.choice wanted.table × LeadTo address chunks names more
LeadTo address chunks names wanted = ⊥
