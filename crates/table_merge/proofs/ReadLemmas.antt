-- Rows that were read are those that are merged.
use Rattle.std.proofs.Common.{◌≡◌, true, List, ◌∙◌}
use Rattle.schema_model.specs.Schemas.{is_schema}
use Rattle.schema_model.specs.declared.schemas.Schema.{Schema}
use Rattle.schema_merge.specs.TableMerge.{rows_on, rows_on_or_none}
use Rattle.table_merge.specs.Merging.{PlainSides}
use Rattle.table_merge.specs.Steps.{AreRead}
use Rattle.table_merge.specs.Walking.{AreKeyed, three_in}
use Rattle.table_merge.specs.declared.keyed.KeyedRow.{KeyedRow}
use Rattle.table_merge.specs.declared.sides.Sides.{Sides}
use Rattle.table_merge.proofs.SideLemmas.{Known, three_of}
use Rattle.table_merge.proofs.WalkLemmas.{Stand, stand}

module _ (schema : Schema) (contents : PlainSides) (known : Known schema contents) (read : Sides) (is : AreRead schema contents read) where
  base_stands : (rows : List KeyedRow) → rows ≡ read.base.items → Stand schema rows (rows_on_or_none schema contents.base)
  base_stands rows e = let three = known.three in stand schema rows (rows_on_or_none schema contents.base) (e ∙ is.base_rows) three.base

  ours_stand : (rows : List KeyedRow) → rows ≡ read.ours.items → Stand schema rows (rows_on schema contents.ours)
  ours_stand rows e = let three = known.three in stand schema rows (rows_on schema contents.ours) (e ∙ is.our_rows) three.ours

  theirs_stand : (rows : List KeyedRow) → rows ≡ read.theirs.items → Stand schema rows (rows_on schema contents.theirs)
  theirs_stand rows e = let three = known.three in stand schema rows (rows_on schema contents.theirs) (e ∙ is.their_rows) three.theirs

  pub base_keyed : (rows : List KeyedRow) → rows ≡ read.base.items → AreKeyed schema rows
  base_keyed rows e = let one = base_stands rows e in one.keyed

  pub ours_keyed : (rows : List KeyedRow) → rows ≡ read.ours.items → AreKeyed schema rows
  ours_keyed rows e = let one = ours_stand rows e in one.keyed

  pub theirs_keyed : (rows : List KeyedRow) → rows ≡ read.theirs.items → AreKeyed schema rows
  theirs_keyed rows e = let one = theirs_stand rows e in one.keyed

  pub three_is : (base ours theirs : List KeyedRow) → base ≡ read.base.items → ours ≡ read.ours.items → theirs ≡ read.theirs.items → three_in base ours theirs ≡ three_of schema contents
  three_is base ours theirs b o t =
      let sb = base_stands base b in
      let so = ours_stand ours o in
      let st = theirs_stand theirs t in
      λ i. record { base = sb.are i; ours = so.are i; theirs = st.are i }

  pub known_schema : is_schema schema ≡ true
  known_schema = let table = known.is_table in table.schema
