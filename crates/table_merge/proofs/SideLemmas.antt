-- Tables that are merged, and what their schemas and rows come to.
use Rattle.std.proofs.Common.{◌≡◌, ℕ, true, List, [], map, Option, Some, None, Result, Ok, Err, refl, sym, ap, ◌∙◌, subst, option_map}
use Rattle.tuple_codec.specs.Rows.{Cells}
use Rattle.chunk_store.specs.Chunks.{Chunks}
use Rattle.schema_model.specs.Limits.{is_within_limits}
use Rattle.schema_model.specs.PlainTables.{IsTable, PlainTable}
use Rattle.schema_model.specs.Sameness.{SamenessIsEquality}
use Rattle.schema_model.specs.Schemas.{is_schema}
use Rattle.schema_model.specs.declared.schemas.Schema.{Schema}
use Rattle.schema_merge.specs.Merging.{and_then, schema3}
use Rattle.schema_merge.specs.Projecting.{projected}
use Rattle.schema_merge.specs.TableMerge.{Three, rows_on, rows_on_or_none, table3, table_of, three_on}
use Rattle.table_root.specs.declared.records.StoredTable.{StoredTable}
use Rattle.table_root.specs.Rows.{AreRowsAt}
use Rattle.table_merge.specs.Laws.{IsTablePerhaps}
use Rattle.table_merge.specs.Merging.{AreSides, IsSide, IsSidePerhaps, PlainSides, merged_contents}
use Rattle.table_merge.specs.Steps.{schema_perhaps, wanted_schema}
use Rattle.table_merge.specs.Walking.{keyed_rows}
use Rattle.table_merge.proofs.MergeLemmas.{AreThree}
use Rattle.table_merge.proofs.TableLemmas.{merges_are_tables, three_stand}

-- ---- one side

module _ (address : List ℕ → List ℕ) (chunks : Chunks) where
  pub side_schema : (table : StoredTable) (contents : PlainTable) → IsSide address chunks table contents → table.schema ≡ contents.schema
  side_schema table contents side = let stands = side.stands in ap (λ (t : StoredTable). t.schema) stands.value

  pub side_is_schema : (table : StoredTable) (contents : PlainTable) → IsSide address chunks table contents → is_schema table.schema ≡ true
  side_is_schema table contents side = let is = side.stands.is_table in ap is_schema (side_schema table contents side) ∙ is.schema

  pub side_within : (table : StoredTable) (contents : PlainTable) → IsSide address chunks table contents → is_within_limits table.schema ≡ true
  side_within table contents side = ap is_within_limits (side_schema table contents side) ∙ side.limits

  pub side_rows : (table : StoredTable) (contents : PlainTable) → IsSide address chunks table contents → AreRowsAt address chunks table.rows.0 table.schema contents.rows
  side_rows table contents side =
      let stands = side.stands in
      let is = stands.is_table in
      let trees = stands.trees in
      subst (λ (t : StoredTable). AreRowsAt address chunks t.rows.0 t.schema contents.rows) (sym stands.value) (record { fit = is.rows; tree = trees.rows })

  pub side_keyed : (table : StoredTable) (contents : PlainTable) (to : Schema) (rows : List Cells) → IsSide address chunks table contents → rows ≡ contents.rows
      → keyed_rows to (map (projected table.schema to) rows) ≡ keyed_rows to (rows_on to contents)
  side_keyed table contents to rows side same =
      ap (λ (l : List Cells). keyed_rows to (map (projected table.schema to) l)) same
      ∙ ap (λ (from : Schema). keyed_rows to (map (projected from to) contents.rows)) (side_schema table contents side)

  pub there : (table : StoredTable) (contents : Option PlainTable) → IsSidePerhaps address chunks (Some table) contents → (one : PlainTable) × IsSide address chunks table one
  there table None h = absurd h
  there table (Some one) h = (one, h)

  pub read_there : (P : List Cells → Type 0) (table : StoredTable) (to : Schema) → ((one : PlainTable) → IsSide address chunks table one → P (rows_on to one))
      → (contents : Option PlainTable) → IsSidePerhaps address chunks (Some table) contents → P (rows_on_or_none to contents)
  read_there P table to h None side = absurd side
  read_there P table to h (Some one) side = h one side

  pub read_none : (to : Schema) (contents : Option PlainTable) → IsSidePerhaps address chunks None contents → keyed_rows to (rows_on_or_none to contents) ≡ []
  read_none to None side = refl
  read_none to (Some one) side = absurd side

  perhaps_schema : (table : Option StoredTable) (contents : Option PlainTable) → IsSidePerhaps address chunks table contents
      → option_map (λ (one : PlainTable). one.schema) contents ≡ schema_perhaps table
  perhaps_schema None None side = refl
  perhaps_schema (Some table) (Some contents) side = ap (λ (s : Schema). Some s) (sym (side_schema table contents side))
  perhaps_schema None (Some contents) side = absurd side
  perhaps_schema (Some table) None side = absurd side

  perhaps_table : (table : Option StoredTable) (contents : Option PlainTable) → IsSidePerhaps address chunks table contents → IsTablePerhaps contents
  perhaps_table None None side = tt
  perhaps_table (Some table) (Some contents) side = side.stands.is_table
  perhaps_table None (Some contents) side = absurd side
  perhaps_table (Some table) None side = absurd side

-- ---- the merged schema

abbrev pub three_of : Schema → PlainSides → Three
three_of schema contents = three_on schema contents.base contents.ours contents.theirs

-- what is known where the schemas merge
pub record Known (schema : Schema) (contents : PlainSides) : Type 0 where
  pub is : merged_contents contents ≡ Ok (table_of schema (three_of schema contents))
  pub is_table : IsTable (table_of schema (three_of schema contents))
  pub three : AreThree schema (three_of schema contents)

module _ (address : List ℕ → List ℕ) (chunks : Chunks) (base : Option StoredTable) (ours theirs : StoredTable) (contents : PlainSides) (are : AreSides address chunks base ours theirs contents) where
  same_wanted : schema3 (option_map (λ (one : PlainTable). one.schema) contents.base) contents.ours.schema contents.theirs.schema ≡ wanted_schema base ours theirs
  same_wanted =
      ap (λ (b : Option Schema). schema3 b contents.ours.schema contents.theirs.schema) (perhaps_schema address chunks base contents.base are.base_side)
      ∙ ap (λ (s : Schema). schema3 (schema_perhaps base) s contents.theirs.schema) (sym (side_schema address chunks ours contents.ours are.our_side))
      ∙ ap (λ (s : Schema). schema3 (schema_perhaps base) ours.schema s) (sym (side_schema address chunks theirs contents.theirs are.their_side))

  abbrev over : Result Schema (List ℕ) → Result PlainTable (List ℕ)
  over r = and_then r (λ (schema : Schema). Ok (table_of schema (three_of schema contents)))

  contents_are : merged_contents contents ≡ over (wanted_schema base ours theirs)
  unfolding table3
  contents_are = ap over same_wanted

  pub known : SamenessIsEquality → (schema : Schema) → wanted_schema base ours theirs ≡ Ok schema → Known schema contents
  known same schema e =
      let our_side = are.our_side in
      let their_side = are.their_side in
      let b = perhaps_table address chunks base contents.base are.base_side in
      let o = our_side.stands.is_table in
      let t = their_side.stands.is_table in
      let is : merged_contents contents ≡ Ok (table_of schema (three_of schema contents)) = contents_are ∙ ap over e in
      record {
        is = is;
        is_table = merges_are_tables same contents.base contents.ours contents.theirs (table_of schema (three_of schema contents)) b o t our_side.limits their_side.limits is;
        three = three_stand same.columns contents.base contents.ours contents.theirs schema b o t our_side.limits their_side.limits (same_wanted ∙ e);
      }

  pub in_conflict : (part : List ℕ) → wanted_schema base ours theirs ≡ Err part → merged_contents contents ≡ Err part
  in_conflict part e = contents_are ∙ ap over e
