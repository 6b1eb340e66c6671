-- What reading answers, and that each written form has one spelling.
use Rattle.std.specs.Prelude.{◌≡◌, List, Option, Some}
use Rattle.tuple_codec.specs.declared.records.BranchRecord.{BranchRecord}
use Rattle.schema_model.specs.WrittenForms.{branch_bytes}
use Rattle.prolly_tree.specs.Standing.{Exactly}
use Rattle.table_root.specs.Tables.{IsStoredTable, written_table}
use Rattle.table_root.specs.Databases.{IsStoredDatabase, written_database}
use Rattle.table_root.specs.Branches.{IsBranch}
use Rattle.table_root.specs.declared.records.StoredTable.{StoredTable}
use Rattle.table_root.specs.declared.records.TableEntry.{TableEntry}

-- a thing is found exactly where it is there, so None exactly where nothing is
abbrev pub Reads : {A : Type 0} → (A → Type 0) → Option A → Type 0
Reads {A} Is found = (thing : A) → Exactly (found ≡ Some thing) (Is thing)

-- two tables, two databases or two branch records with the same bytes are one
pub record HaveOneSpelling : Type 0 where
  pub tables : (a b : StoredTable) → IsStoredTable a → IsStoredTable b → written_table a ≡ written_table b → a ≡ b
  pub databases : (a b : List TableEntry) → IsStoredDatabase a → IsStoredDatabase b → written_database a ≡ written_database b → a ≡ b
  pub branches : (a b : BranchRecord) → IsBranch a → IsBranch b → branch_bytes a ≡ branch_bytes b → a ≡ b
