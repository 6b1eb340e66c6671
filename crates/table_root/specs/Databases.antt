-- Databases as bytes, and which database is found at an address.
use Rattle.std.specs.Prelude.{◌≡◌, ◌<◌, ◌++◌, ◌∷◌, ◌^◌, ℕ, Bool, true, nat_lt, List, length, map, Some}
use Rattle.std.specs.List.{flat_map, list_all}
use Rattle.std.specs.Ordering.{nat_cmp}
use Rattle.std.specs.Cmp.Lexicographic.{slice_cmp}
use Rattle.tuple_codec.specs.Fields.{short}
use Rattle.schema_model.specs.Limits.{is_short_name}
use Rattle.schema_model.specs.PlainTables.{rises}
use Rattle.schema_model.specs.WrittenForms.{WrittenEntry, database_form}
use Rattle.chunk_store.specs.Chunks.{Chunks}
use Rattle.tuple_codec.specs.declared.addresses.Address.{Address}
use Rattle.table_root.specs.Tables.{is_address}
use Rattle.table_root.specs.declared.records.TableEntry.{TableEntry}

abbrev pub entry_of : TableEntry → WrittenEntry
entry_of named = record { name = named.name; address = named.table.0 }

-- the bytes of a table's name and address
abbrev pub named_bytes : TableEntry → List ℕ
named_bytes named = short named.name ++ named.table.0

-- a database's bytes
abbrev pub written_database : List TableEntry → List ℕ
written_database tables = database_form (map entry_of tables)

-- the name's length fits in one byte
abbrev pub fits_name : TableEntry → Bool
fits_name named = nat_lt (length named.name) 256

abbrev pub has_address : TableEntry → Bool
has_address named = is_address named.table

-- each name comes strictly before the next
abbrev pub names_rise : List TableEntry → Bool
names_rise tables = rises (λ a b. slice_cmp nat_cmp a.name b.name) tables

abbrev pub has_short_name : TableEntry → Bool
has_short_name named = is_short_name named.name

-- what a database is: tables by rising name, their number and each name's length fitting in their fields
pub record IsStoredDatabase (tables : List TableEntry) : Type 0 where
  pub few : length tables < 2 ^ 16
  pub names : list_all fits_name tables ≡ true
  pub addresses : list_all has_address tables ≡ true
  pub rise : names_rise tables ≡ true

-- these are the database's bytes
abbrev pub IsDatabaseIn : List ℕ → List TableEntry → Type 0
IsDatabaseIn bytes tables = IsStoredDatabase tables × (written_database tables ≡ bytes)

-- the database's bytes are found at the address
pub record IsDatabaseFound (chunks : Chunks) (k : List ℕ) (tables : List TableEntry) : Type 0 where
  pub is_database : IsStoredDatabase tables
  pub held : chunks k ≡ Some (written_database tables)

-- some database's are
abbrev pub HasDatabase : Chunks → List ℕ → Type 0
HasDatabase chunks k = (tables : List TableEntry) × IsDatabaseFound chunks k tables

-- the bytes are those of these tables, one after another
pub record AreListed (bytes : List ℕ) (tables : List TableEntry) : Type 0 where
  pub are : bytes ≡ flat_map named_bytes tables
  pub names : list_all fits_name tables ≡ true
  pub addresses : list_all has_address tables ≡ true

-- the address is that of the first of these tables, and the bytes are those of the others
pub record IsFirstListed (table : Address) (rest : List ℕ) (tables : List TableEntry) : Type 0 where
  pub name : List ℕ
  pub others : List TableEntry
  pub both : tables ≡ record { name = name; table = table } ∷ others
  pub listed : AreListed rest others
