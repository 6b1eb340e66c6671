-- Merged tables as they stand in a draft: their trees, and their indexes made anew.
use Rattle.std.proofs.Common.{◌≡◌, ◌≤◌, ◌<◌, ◌^◌, ◌+◌, refl, sym, ap, ◌∙◌, subst, ℕ, true, false, Bool, List, [], ◌∷◌, length, map, Option, Some, None, Result, Ok, Err, arith}
use Rattle.std.specs.List.{list_all}
use Rattle.std.specs.Option.{option_map, option_map_or}
use Rattle.std.specs.Result.{IfErr, IsErr, IsErrAnd}
use Rattle.std.proofs.lemmas.List.{length-map}
use Rattle.tuple_codec.specs.Nodes.{Item}
use Rattle.tuple_codec.specs.declared.addresses.Address.{Address}
use Rattle.schema_model.specs.Limits.{is_row_within_limits, is_table_within_limits, is_within_limits}
use Rattle.schema_model.specs.PlainTables.{PlainTable, conflict_item, conflict_items, row_item}
use Rattle.schema_model.specs.declared.schemas.Schema.{Schema}
use Rattle.chunk_store.specs.Chunks.{Chunks}
use Rattle.chunk_store.specs.Drafts.{Drafting, Grows}
use Rattle.chunk_store.specs.Kinds.{is_data, is_database, is_either, is_node, is_table}
use Rattle.chunk_store.specs.Laws.{DraftsGrow}
use Rattle.chunk_store.specs.Standing.{IsTree}
use Rattle.schema_merge.specs.Merging.{and_then, schema3}
use Rattle.schema_merge.specs.TableMerge.{table3, table_of, three_on}
use Rattle.table_root.specs.Rows.{AreRowsAt}
use Rattle.table_root.specs.Standing.{IsTableOf, IsUnindexedOf}
use Rattle.table_root.specs.declared.records.StoredTable.{StoredTable}
use Rattle.index_keep.specs.Keeping.{AreIndexes, CanIndex, table_of_rows}
use Rattle.chunk_store.specs.Clashes.{IsReason}
use Rattle.chunk_store.specs.declared.faults.PutFault.{PutFault}
use Rattle.chunk_store.specs.declared.faults.PutFault.TheVariants as put
use Rattle.table_merge.specs.Merging.{AreSides, IsMergeReason, IsSide, IsSidePerhaps, PlainSides, fault_of_put, merged_contents}
use Rattle.table_merge.specs.declared.faults.MergeFault.{MergeFault}
use Rattle.root_merge.specs.Kept.{IsKeptPerhaps}
use Rattle.root_merge.specs.Merging.{CanMergeRows, CanMergeSides, IsLimitFault, MayBecome, part_in, schemas_merged}
use Rattle.root_merge.specs.declared.reading.Sides.{Sides}
use Rattle.root_merge.proofs.MergedLemmas.{few_rows, row_limits_of}

-- ---- trees

pub schema_same : (address : List ℕ → List ℕ) (chunks : Chunks) (table : StoredTable) (contents : PlainTable) → IsUnindexedOf address chunks table contents → table.schema ≡ contents.schema
schema_same address chunks table contents stands = ap (λ (t : StoredTable). t.schema) stands.value

pub rows_tree : (address : List ℕ → List ℕ) (chunks : Chunks) (table : StoredTable) (contents : PlainTable) → IsUnindexedOf address chunks table contents
    → IsTree address chunks table.rows.0 (map (row_item contents.schema) contents.rows)
rows_tree address chunks table contents stands =
    subst (λ (k : List ℕ). IsTree address chunks k (map (row_item contents.schema) contents.rows)) (sym (ap (λ (t : StoredTable). t.rows.0) stands.value)) stands.trees.rows

pub rows_at : (address : List ℕ → List ℕ) (chunks : Chunks) (table : StoredTable) (contents : PlainTable) → IsUnindexedOf address chunks table contents
    → AreRowsAt address chunks table.rows.0 table.schema contents.rows
rows_at address chunks table contents stands =
    subst (λ (s : Schema). AreRowsAt address chunks table.rows.0 s contents.rows) (sym (schema_same address chunks table contents stands))
    (record { fit = stands.is_table.rows; tree = rows_tree address chunks table contents stands })

pub conflicts_tree : (address : List ℕ → List ℕ) (chunks : Chunks) (table : StoredTable) (contents : PlainTable) → IsUnindexedOf address chunks table contents
    → IsTree address chunks table.conflicts.0 (conflict_items contents)
conflicts_tree address chunks table contents stands =
    subst (λ (k : List ℕ). IsTree address chunks k (conflict_items contents)) (sym (ap (λ (t : StoredTable). t.conflicts.0) stands.value)) stands.trees.conflicts

pub conflicts_count : (contents : PlainTable) → length (conflict_items contents) ≡ length contents.conflicts
conflicts_count contents = length-map contents.conflicts (conflict_item contents.schema)

-- ---- indexes

pub can_index : (address : List ℕ → List ℕ) (chunks : Chunks) (table : StoredTable) (contents : PlainTable) → MayBecome address chunks table contents
    → CanIndex address chunks table.rows.0 table.schema contents.rows
can_index address chunks table contents may =
    subst (λ (s : Schema). CanIndex address chunks table.rows.0 s contents.rows) (sym (schema_same address chunks table contents may.stands))
    (record {
      rows_of = record { valid = may.stands.is_table.schema; fit = may.stands.is_table.rows; limits = row_limits_of contents may.within; few = few_of contents may.within };
      tree = rows_tree address chunks table contents may.stands;
    }) where
      few_of : (contents : PlainTable) → is_table_within_limits contents ≡ true → length contents.rows < 2 ^ 63
      few_of contents within = let few = few_rows contents within in omega (arith, few)

pub table_made : (address : List ℕ → List ℕ) (chunks : Chunks) (table : StoredTable) (contents : PlainTable) (roots : List Address) → IsUnindexedOf address chunks table contents
    → AreIndexes address chunks (table_of_rows table.schema contents.rows) roots
    → IsTableOf address chunks (record { schema = table.schema; rows = table.rows; indexes = roots; conflicts = table.conflicts; violations = table.violations }) contents
table_made address chunks table contents roots stands indexes =
    let own = subst (λ (s : Schema). AreIndexes address chunks (table_of_rows s contents.rows) roots) (schema_same address chunks table contents stands) indexes in
    record {
      is_table = stands.is_table;
      trees = record { rows = stands.trees.rows; indexes = own.stand; conflicts = stands.trees.conflicts; violations = stands.trees.violations };
      value = λ i. record {
        schema = (stands.value i).schema;
        rows = (stands.value i).rows;
        indexes = own.roots_are i;
        conflicts = (stands.value i).conflicts;
        violations = (stands.value i).violations;
      };
    }

-- ---- chunks that come

pub node_data : DraftsGrow → (d e : Drafting) → Grows is_node d e → Grows is_data d e
node_data laws d e grows = laws.either_left is_node (is_either is_table is_database) d e grows

pub table_data : DraftsGrow → (d e : Drafting) → Grows is_table d e → Grows is_data d e
table_data laws d e grows = laws.either_right is_node (is_either is_table is_database) d e (laws.either_left is_table is_database d e grows)

pub database_data : DraftsGrow → (d e : Drafting) → Grows is_database d e → Grows is_data d e
database_data laws d e grows = laws.either_right is_node (is_either is_table is_database) d e (laws.either_right is_table is_database d e grows)

-- ---- faults from below

pub put_reason : (address : List ℕ → List ℕ) (chunks : Chunks) (fault : PutFault) → IsReason address chunks fault → IsMergeReason address chunks (fault_of_put fault)
put_reason address chunks put.Memory reason = tt
put_reason address chunks (put.Collision clash) reason = reason

pub put_limit : (within : Bool) (fault : PutFault) → IsLimitFault within (fault_of_put fault)
put_limit within put.Memory = tt
put_limit within (put.Collision clash) = tt

-- what `?` hands on
pub same_fault : {T : Type 0} (P : MergeFault → Type 0) (result : Result T MergeFault) (why : MergeFault) → P why → IsErr result × IsErrAnd result (λ fault. fault ≡ why) → IfErr result P
same_fault P (Ok x) why of h = absurd h.1
same_fault P (Err fault) why of h = subst P (sym h.1) of

-- ---- schemas

schema_told : (address : List ℕ → List ℕ) (chunks : Chunks) (table : StoredTable) (contents : PlainTable) → IsSide address chunks table contents → table.schema ≡ contents.schema
schema_told address chunks table contents side = ap (λ (t : StoredTable). t.schema) side.stands.value

base_told : (address : List ℕ → List ℕ) (chunks : Chunks) (table : Option StoredTable) (contents : Option PlainTable) → IsSidePerhaps address chunks table contents
    → option_map (λ (t : StoredTable). t.schema) table ≡ option_map (λ (t : PlainTable). t.schema) contents
base_told address chunks None None side = refl
base_told address chunks (Some table) (Some contents) side = ap (λ (s : Schema). Some s) (schema_told address chunks table contents side)
base_told address chunks None (Some contents) side = absurd side
base_told address chunks (Some table) None side = absurd side

merged_part : (contents : PlainSides) → part_in (merged_contents contents) ≡ part_in (schema3 (option_map (λ (t : PlainTable). t.schema) contents.base) contents.ours.schema contents.theirs.schema)
unfolding table3
merged_part contents = by (schema3 (option_map (λ (t : PlainTable). t.schema) contents.base) contents.ours.schema contents.theirs.schema) where
  by : (schema : Result Schema (List ℕ)) → part_in (and_then schema (λ s. Ok (table_of s (three_on s contents.base contents.ours contents.theirs)))) ≡ part_in schema
  by (Ok s) = refl
  by (Err part) = refl

pub part_told : (address : List ℕ → List ℕ) (chunks : Chunks) (base : Option StoredTable) (ours theirs : StoredTable) (contents : PlainSides) → AreSides address chunks base ours theirs contents
    → part_in (schemas_merged base ours theirs) ≡ part_in (merged_contents contents)
part_told address chunks base ours theirs contents sides =
    (λ i. part_in (schema3 (base_told address chunks base contents.base sides.base_side i) (schema_told address chunks ours contents.ours sides.our_side i) (schema_told address chunks theirs contents.theirs sides.their_side i)))
    ∙ sym (merged_part contents)

pub limits_told : (address : List ℕ → List ℕ) (chunks : Chunks) (table : StoredTable) (contents : PlainTable) → IsSide address chunks table contents → is_within_limits table.schema ≡ true
limits_told address chunks table contents side = ap (λ (s : Schema). is_within_limits s) (schema_told address chunks table contents side) ∙ side.limits

-- ---- tables that are merged

base_kept : (address : List ℕ → List ℕ) (chunks : Chunks) (k : Option Address) (base : Option PlainTable) → IsKeptPerhaps address chunks k base → option_map_or is_table_within_limits base true ≡ true
base_kept address chunks None None kept = refl
base_kept address chunks (Some k) (Some table) kept = kept.within
base_kept address chunks None (Some table) kept = absurd kept
base_kept address chunks (Some k) None kept = absurd kept

pub sides_can : (address : List ℕ → List ℕ) (chunks : Chunks) (base : Option Address) (ours theirs : Address) (sides : Sides) (contents : PlainSides) (table : PlainTable)
    → CanMergeRows address chunks base ours theirs contents table → AreSides address chunks sides.base sides.ours sides.theirs contents → CanMergeSides address chunks sides contents table
sides_can address chunks base ours theirs sides contents table can are = record {
  stand = record {
    sides = are;
    base_kept = base_kept address chunks base contents.base can.kept.base_side;
    ours_kept = can.kept.our_side.within;
    theirs_kept = can.kept.their_side.within;
  };
  comes = can.comes;
}
