-- Violations as a database records them: which lists it may record, and the database that has recorded one.
use Rattle.std.specs.Prelude.{◌≡◌, ℕ, Bool, true, false, ◌&&◌, if◌then◌else◌, List, [], ◌∷◌, ◌++◌, bytes_eq, filter, map}
use Rattle.std.specs.List.{AllByRecursion, flat_map, list_all}
use Rattle.std.specs.Option.{option_map_or}
use Rattle.std.specs.Ordering.{nat_cmp, ordering_then}
use Rattle.std.specs.Cmp.Lexicographic.{slice_cmp}
use Rattle.std.specs.declared.cmp.Ordering.{Ordering}
use Rattle.tuple_codec.specs.KeyBytes.{key_cell}
use Rattle.tuple_codec.specs.Nodes.{Item, Rise, leaf_item}
use Rattle.tuple_codec.specs.Trees.{IsRow}
use Rattle.tuple_codec.specs.declared.values.Value.TheVariants as cell
use Rattle.schema_model.specs.Limits.{is_database_within_limits, is_named_within_limits, is_violation_within_limits, is_within_limits}
use Rattle.schema_model.specs.PlainTables.{IsDatabase, NamedTable, PlainDatabase, PlainTable, Violation, is_violation, rises, violation_cmp, violation_item}
use Rattle.schema_model.specs.Schemas.{is_name}
use Rattle.schema_model.specs.declared.schemas.Schema.{Schema}
use Rattle.chunk_store.specs.Chunks.{Chunks}
use Rattle.chunk_store.specs.Kinds.{is_database}
use Rattle.table_root.specs.Standing.{AreThere, IsTableAt, IsTableOf}
use Rattle.table_root.specs.declared.records.StoredTable.{StoredTable}
use Rattle.table_root.specs.declared.records.TableEntry as entries
use Rattle.plain_writes.specs.Violations.{Found, table_in}
use Rattle.table_root.specs.Kept.{IsKeptAt}
use Rattle.violation_lists.specs.Written.{written_in}
use Rattle.violation_lists.specs.declared.listing.ListedViolation as listing

-- ---- the database that has recorded them

-- the violations of the table of this name
abbrev pub is_of : List ℕ → Found → Bool
is_of name one = bytes_eq one.table name

abbrev pub violations_of : List ℕ → List Found → List Violation
violations_of name found = map (λ (one : Found). one.violation) (filter (is_of name) found)

-- the same table with this list of violations
abbrev pub with_list : PlainTable → List Violation → PlainTable
with_list table list = record { schema = table.schema; rows = table.rows; conflicts = table.conflicts; violations = list }

abbrev pub recorded_in : List Found → NamedTable → NamedTable
recorded_in found named = record { name = named.name; table = with_list named.table (violations_of named.name found) }

-- each table with its violations among these in place of those that it had recorded
abbrev pub recorded_as : List Found → PlainDatabase → PlainDatabase
recorded_as found database = map (recorded_in found) database

-- ---- what may be recorded

-- violations by table, kind, constraint and key
abbrev pub found_cmp : Found → Found → Ordering
found_cmp a b = ordering_then (slice_cmp nat_cmp a.table b.table) (violation_cmp a.violation b.violation)

-- a violation of a row of the schema, which keeps the limits
abbrev pub may_stand : Schema → Violation → Bool
may_stand schema violation = is_violation schema violation && is_violation_within_limits schema violation

-- one that a table of the database may have
abbrev pub may_stand_in : PlainDatabase → Found → Bool
may_stand_in database one = option_map_or (λ table. may_stand table.schema one.violation) (table_in database one.table) false

-- the list writes down violations that tables of the database may have, each once and in order
pub record IsRecordable (database : PlainDatabase) (list : List listing.ListedViolation) (found : List Found) : Type 0 where
  pub written : list ≡ flat_map (written_in database) found
  pub stand : list_all (may_stand_in database) found ≡ true
  pub rise : rises found_cmp found ≡ true

-- the same, where the database stands at an address
pub record CanRecord (address : List ℕ → List ℕ) (chunks : Chunks) (k : List ℕ) (list : List listing.ListedViolation) (database : PlainDatabase) (found : List Found) : Type 0 where
  pub kept : IsKeptAt address chunks k database
  pub recordable : IsRecordable database list found

-- ---- how the private functions go

-- the item of a violation in its table's list
abbrev pub listed_item : listing.ListedViolation → Item
listed_item one = leaf_item (one.kind ∷ (key_cell (cell.Text one.constraint) ++ one.key)) one.row

-- it is a violation of the table of this name
abbrev pub is_listed : List ℕ → listing.ListedViolation → Bool
is_listed name one = bytes_eq one.table name

abbrev pub listed_if : List ℕ → listing.ListedViolation → List Item
listed_if name one = if is_listed name one then listed_item one ∷ [] else []

-- the items of the violations of the table of this name
abbrev pub listed_items : List ℕ → List listing.ListedViolation → List Item
listed_items name list = flat_map (listed_if name) list

abbrev pub has_name : listing.ListedViolation → Bool
has_name one = is_name one.constraint

-- these items are those of violations that the table may have, each once and in order
pub record MayList (items : List Item) (schema : Schema) (found : List Violation) : Type 0 where
  pub items_are : items ≡ map (violation_item schema) found
  pub stand : list_all (may_stand schema) found ≡ true
  pub rise : rises violation_cmp found ≡ true

-- rows of a tree, of which nothing is said how many there are
pub record AreRising (items : List Item) : Type 0 where
  pub each : AllByRecursion IsRow items
  pub rise : Rise items

-- the address stands for the table, whose violations may be these
pub record CanRecordTable (address : List ℕ → List ℕ) (chunks : Chunks) (k name : List ℕ) (list : List listing.ListedViolation) (table : PlainTable) (found : List Violation) : Type 0 where
  pub at : IsTableAt address chunks k table
  pub limits : is_within_limits table.schema ≡ true
  pub names : list_all has_name list ≡ true
  pub may : MayList (listed_items name list) table.schema found

abbrev pub MayListNamed : List listing.ListedViolation → List Found → NamedTable → Type 0
MayListNamed list found named = MayList (listed_items named.name list) named.table.schema (violations_of named.name found)

-- these tables stand, and the violations of each may be those that the list has of it
pub record CanRecordEach (address : List ℕ → List ℕ) (chunks : Chunks) (tables : List entries.TableEntry) (list : List listing.ListedViolation) (database : PlainDatabase) (found : List Found) : Type 0 where
  pub there : AreThere address chunks database tables
  pub limits : list_all is_named_within_limits database ≡ true
  pub names : list_all has_name list ≡ true
  pub may : AllByRecursion (MayListNamed list found) database

-- a table that may be written
pub record MayStand (address : List ℕ → List ℕ) (chunks : Chunks) (table : StoredTable) (contents : PlainTable) : Type 0 where
  pub stands : IsTableOf address chunks table contents
  pub limits : is_within_limits contents.schema ≡ true

-- a database that may be written: its tables stand
pub record MayBeWritten (address : List ℕ → List ℕ) (chunks : Chunks) (tables : List entries.TableEntry) (database : PlainDatabase) : Type 0 where
  pub is_database : IsDatabase database
  pub within : is_database_within_limits database ≡ true
  pub there : AreThere address chunks database tables

-- a table is named so and stands there
pub record IsEntryOf (address : List ℕ → List ℕ) (chunks : Chunks) (entry : entries.TableEntry) (named : NamedTable) : Type 0 where
  pub name : entry.name ≡ named.name
  pub at : IsTableAt address chunks entry.table.0 named.table
