-- The bytes of tables, databases, commits and branch records.
use Rattle.std.specs.Prelude.{ℕ, ℤ, List, [], ◌∷◌, ◌++◌, length, map, Option, None, Some}
use Rattle.std.specs.List.{flat_map}
use Rattle.std.specs.Int.{w16, w32, w64, cast_unsigned, to_be_bytes}
use Rattle.tuple_codec.specs.Fields.{short}
use Rattle.tuple_codec.specs.RowBytes.{length_prefixed}
use Rattle.tuple_codec.specs.Trees.{root}
use Rattle.tuple_codec.specs.declared.addresses.Address.{Address}
use Rattle.tuple_codec.specs.declared.records.BranchRecord.{BranchRecord}
use Rattle.schema_model.specs.SchemaBytes.{schema_bytes}
use Rattle.schema_model.specs.PlainTables.{NamedTable, PlainDatabase, PlainTable, conflict_items, index_items, row_items, violation_items}
use Rattle.schema_model.specs.declared.schemas.Schema.{Schema}

-- a table: its schema behind a length, and the addresses of the trees of its rows, of each index in order, of its
-- conflicts and of its violations
abbrev pub table_form : Schema → List ℕ → List (List ℕ) → List ℕ → List ℕ → List ℕ
table_form schema rows indexes conflicts violations =
    3 ∷ (to_be_bytes w32 (length (schema_bytes schema)) ++ (schema_bytes schema ++ (rows ++ (flat_map (λ index. index) indexes ++ (conflicts ++ violations)))))

abbrev pub table_bytes : (List ℕ → List ℕ) → PlainTable → List ℕ
table_bytes address table =
    table_form table.schema (root address (row_items table)) (map (λ index. root address (index_items table index)) table.schema.indexes)
    (root address (conflict_items table)) (root address (violation_items table))

abbrev pub table_address : (List ℕ → List ℕ) → PlainTable → List ℕ
table_address address table = address (table_bytes address table)

-- a table's name and address within a database
pub record WrittenEntry : Type 0 where
  pub name : List ℕ
  pub address : List ℕ

-- a database: how many tables, and by rising name each name and the table's address
abbrev pub database_form : List WrittenEntry → List ℕ
database_form entries = 4 ∷ (to_be_bytes w16 (length entries) ++ flat_map (λ entry. short entry.name ++ entry.address) entries)

abbrev pub entry_of : (List ℕ → List ℕ) → NamedTable → WrittenEntry
entry_of address named = record { name = named.name; address = table_address address named.table }

abbrev pub database_bytes : (List ℕ → List ℕ) → PlainDatabase → List ℕ
database_bytes address database = database_form (map (entry_of address) database)

abbrev pub database_address : (List ℕ → List ℕ) → PlainDatabase → List ℕ
database_address address database = address (database_bytes address database)

-- a commit: the addresses of its database and of its parents, its height, date, committer and message
pub record CommitParts : Type 0 where
  pub root : List ℕ
  pub parents : List (List ℕ)
  pub height : ℕ
  pub date : ℤ
  pub committer : List ℕ
  pub message : List ℕ

abbrev pub commit_bytes : CommitParts → List ℕ
commit_bytes commit =
    5 ∷ (commit.root ++ (length commit.parents ∷ (flat_map (λ parent. parent) commit.parents ++ (to_be_bytes w64 commit.height
    ++ (to_be_bytes w64 (cast_unsigned w64 commit.date) ++ (length_prefixed commit.committer ++ length_prefixed commit.message))))))

-- the commit of a merge in progress, if there is one
abbrev pub merging_bytes : Option Address → List ℕ
merging_bytes None = 0 ∷ []
merging_bytes (Some commit) = 1 ∷ commit.0

-- a branch record: its head, its working and its staged database, and the merge
abbrev pub branch_bytes : BranchRecord → List ℕ
branch_bytes branch = 6 ∷ (branch.head.0 ++ (branch.working.0 ++ (branch.staged.0 ++ merging_bytes branch.merging)))
