-- Reading tables, databases and branch records from left to right.
use Rattle.std.specs.Prelude.{ℕ, ◌==◌, ◌&&◌, if◌then◌else◌, List, [], ◌∷◌, length, Option, None, Some}
use Rattle.std.specs.Int.{w16, w32, from_be_bytes}
use Rattle.std.specs.Option.{option_map}
use Rattle.tuple_codec.specs.Fields.{bytes_at, short_at}
use Rattle.tuple_codec.specs.declared.addresses.Address.{Address}
use Rattle.tuple_codec.specs.declared.records.BranchRecord.{BranchRecord}
use Rattle.schema_model.specs.Reading.{◌>>=◌, address_at, items_at}
use Rattle.schema_model.specs.declared.schemas.Schema.{Schema}
use Rattle.table_root.specs.Databases.{names_rise}
use Rattle.table_root.specs.declared.records.StoredTable.{StoredTable}
use Rattle.table_root.specs.declared.records.TableEntry.{TableEntry}

abbrev pub as_two : List ℕ × List ℕ → ℕ × List ℕ
as_two x = (from_be_bytes w16 x.0, x.1)

-- a number in two bytes
abbrev pub two_at : List ℕ → Option (ℕ × List ℕ)
two_at bytes = option_map as_two (bytes_at 2 bytes)

abbrev pub as_four : List ℕ × List ℕ → ℕ × List ℕ
as_four x = (from_be_bytes w32 x.0, x.1)

-- a number in four bytes
abbrev pub four_at : List ℕ → Option (ℕ × List ℕ)
four_at bytes = option_map as_four (bytes_at 4 bytes)

-- the bytes after the one that tells what kind of chunk it is
abbrev pub after_kind : ℕ → List ℕ → Option (List ℕ)
after_kind kind [] = None
after_kind kind (first ∷ rest) = if first == kind then Some rest else None

-- nothing may follow
abbrev pub alone : {A : Type 0} → A × List ℕ → Option A
alone x = if length x.1 == 0 then Some x.0 else None

-- a table's name and address
unfoldable pub named_at : List ℕ → Option (TableEntry × List ℕ)
named_at bytes = do
  name ← short_at bytes
  table ← address_at name.1
  Some (record { name = name.0; table = table.0 }, table.1)

-- the bytes of a table's schema, and those after them
unfoldable pub schema_text : List ℕ → Option (List ℕ × List ℕ)
schema_text bytes = do
  rest ← after_kind 3 bytes
  size ← four_at rest
  bytes_at size.0 size.1

-- the table of this schema whose roots these are
unfoldable pub table_of : Schema → List ℕ → Option StoredTable
table_of schema bytes = do
  rows ← address_at bytes
  indexes ← items_at address_at (length schema.indexes) rows.1
  conflicts ← address_at indexes.1
  violations ← address_at conflicts.1
  alone (record { schema = schema; rows = rows.0; indexes = indexes.0; conflicts = conflicts.0; violations = violations.0 }, violations.1)

-- nothing may follow, and the names rise
abbrev pub if_database : List TableEntry × List ℕ → Option (List TableEntry)
if_database x = if length x.1 == 0 && names_rise x.0 then Some x.0 else None

unfoldable pub database_of : List ℕ → Option (List TableEntry)
database_of bytes = do
  rest ← after_kind 4 bytes
  count ← two_at rest
  tables ← items_at named_at count.0 count.1
  if_database tables

-- the commit of a merge in progress, if there is one
abbrev pub merging_at : List ℕ → Option (Option Address × List ℕ)
merging_at [] = None
merging_at (flag ∷ rest) =
    if flag == 0 then Some (None, rest)
    else (if flag == 1 then option_map (λ commit. (Some commit.0, commit.1)) (address_at rest) else None)

unfoldable pub branch_of : List ℕ → Option BranchRecord
branch_of bytes = do
  rest ← after_kind 6 bytes
  head ← address_at rest
  working ← address_at head.1
  staged ← address_at working.1
  merging ← merging_at staged.1
  alone (record { head = head.0; working = working.0; staged = staged.0; merging = merging.0 }, merging.1)
