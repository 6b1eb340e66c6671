-- Edits that put rows.
use Rattle.std.proofs.Common.{◌≡◌, List, [], ◌∷◌, map, ap, refl}
use Rattle.tuple_codec.specs.Rows.{Cells}
use Rattle.tuple_codec.specs.declared.edits.Edit.{Edit}
use Rattle.schema_model.specs.declared.schemas.Schema.{Schema}
use Rattle.sql_write.specs.Differences.{row_edits}
use Rattle.sql_write.specs.Inserting.{edit_of}

-- what turns no rows into rows puts each
pub puts_rows : (schema : Schema) (rows : List Cells) → row_edits schema [] rows ≡ map (edit_of schema) rows
puts_rows schema [] = refl
puts_rows schema (row ∷ rows) = ap (λ (l : List Edit). edit_of schema row ∷ l) (puts_rows schema rows)
