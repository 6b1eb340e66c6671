-- Rows that keep the limits are rows of a tree, and a table of the trees' roots stands.
use Rattle.std.proofs.Common.{◌<◌, ◌^◌, ℕ, List, [], map, sym, subst}
use Rattle.std.proofs.lemmas.List.{length-map}
use Rattle.tuple_codec.specs.Nodes.{Item}
use Rattle.tuple_codec.specs.Rows.{Cells}
use Rattle.tuple_codec.specs.Trees.{AreRows, root}
use Rattle.tuple_codec.specs.declared.addresses.Address.{Address}
use Rattle.schema_model.specs.PlainTables.{row_item}
use Rattle.schema_model.specs.declared.schemas.Schema.{Schema}
use Rattle.chunk_store.specs.Chunks.{Chunks}
use Rattle.chunk_store.specs.Standing.{IsTree}
use Rattle.table_root.specs.Rows.{RowItemsFollow}
use Rattle.table_root.specs.Standing.{IsTableOf}
use Rattle.index_keep.specs.Keeping.{AreIndexes, CanIndex, table_of_rows}
use Rattle.index_keep.proofs.StandLemmas.{rows_are}
use Rattle.sql_write.specs.Building.{CanBuild}
use Rattle.sql_write.proofs.RiseLemmas.{items_rise}

pub built_rows : RowItemsFollow → (schema : Schema) (rows : List Cells) → CanBuild schema rows → AreRows (map (row_item schema) rows)
built_rows follow schema rows can = record {
  each = rows_are schema rows can.limits;
  rise = items_rise follow schema rows can.is_table.schema can.is_table.rows can.is_table.keys;
  few = subst (λ n. n < 2 ^ 63) (sym (length-map rows (row_item schema))) can.few;
}

pub can_index : (address : List ℕ → List ℕ) (chunks : Chunks) (k : List ℕ) (schema : Schema) (rows : List Cells) → CanBuild schema rows
    → IsTree address chunks k (map (row_item schema) rows) → CanIndex address chunks k schema rows
can_index address chunks k schema rows can tree = record {
  rows_of = record { valid = can.is_table.schema; fit = can.is_table.rows; limits = can.limits; few = can.few };
  tree = tree;
}

-- the tree stands at its own root
own_tree : (address : List ℕ → List ℕ) (chunks : Chunks) (k : List ℕ) (items : List Item) → IsTree address chunks k items → IsTree address chunks (root address items) items
own_tree address chunks k items tree = subst (λ at. IsTree address chunks at items) (sym tree.named) tree

pub table_stands : (address : List ℕ → List ℕ) (chunks : Chunks) (schema : Schema) (rows : List Cells) (row_root none : Address) (roots : List Address)
    → CanBuild schema rows → IsTree address chunks row_root.0 (map (row_item schema) rows) → IsTree address chunks none.0 []
    → AreIndexes address chunks (table_of_rows schema rows) roots
    → IsTableOf address chunks (record { schema = schema; rows = row_root; indexes = roots; conflicts = none; violations = none }) (table_of_rows schema rows)
table_stands address chunks schema rows row_root none roots can tree empty indexes = record {
  is_table = can.is_table;
  trees = record {
    rows = own_tree address chunks row_root.0 (map (row_item schema) rows) tree;
    indexes = indexes.stand;
    conflicts = own_tree address chunks none.0 [] empty;
    violations = own_tree address chunks none.0 [] empty;
  };
  value = λ i. record {
    schema = schema;
    rows = record { 0 = sym tree.named i };
    indexes = indexes.roots_are i;
    conflicts = record { 0 = sym empty.named i };
    violations = record { 0 = sym empty.named i };
  };
}
