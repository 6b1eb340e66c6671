use Rattle.std.proofs.Common.{◌≡◌, Some}
use Rattle.std.specs.List.{AllZip, slice_get}
use Rattle.std.proofs.lemmas.Result.{IfOk-weaker}
use Rattle.sql_ast.specs.declared.expressions.Comparison.TheVariants as op
use Rattle.schema_model.specs.declared.schemas.IndexDef.{IndexDef}
use Rattle.sql_select.specs.Parts.{AreEntriesIn, IsFixed}
use Rattle.sql_select.proofs.entries.entries_in.Goals as goal

pub returns : goal.returns
returns c = λ entries.
    IfOk-weaker c.told_entries.result (λ found. found ≡ Some entries
    → (index : IndexDef) × (slice_get c.args.schema.now.indexes entries.place ≡ Some index) × AllZip (IsFixed c.args.schema.now c.args.first.now c.args.rest.now op.Equal) index.columns entries.cells)
    (λ found. found ≡ Some entries → AreEntriesIn c.args.schema.now c.args.first.now c.args.rest.now entries)
    (λ found f e. let is = f e in record { first_calm = c.is_steady.ensures c.if-not-is_steady.false; rest_calm = c.are_steady.ensures c.if-not-are_steady.false; index = is.0; there = is.1; fixed = is.2 })
    (c.told_entries.ensures entries)
