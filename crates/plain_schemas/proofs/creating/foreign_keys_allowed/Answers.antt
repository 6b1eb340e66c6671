use Rattle.std.proofs.Common.{◌≡◌, ◌∙◌, List, ap, map, subst}
use Rattle.schema_model.specs.declared.schemas.Column.{Column}
use Rattle.schema_model.specs.PlainTables.{PlainDatabase}
use Rattle.sql_ast.specs.declared.tables.CreateTable.{CreateTable}
use Rattle.expr_eval.specs.Binding.{Outcome}
use Rattle.plain_sql.specs.Gives.{Gives}
use Rattle.plain_writes.specs.Seen.{named_seen}
use Rattle.plain_schemas.specs.Lists.{all_allowed}
use Rattle.plain_schemas.specs.Made.{schema_of}
use Rattle.plain_schemas.specs.Effects.{foreign_allowed, key_lists}
use Rattle.plain_schemas.proofs.creating.foreign_keys_allowed.Goals as goal

pub returns : goal.returns
returns c =
    let database : PlainDatabase = map named_seen c.args.database.now in
    let create : CreateTable = c.args.create.now in
    let columns : List Column = c.args.columns.now in
    let keys : c.as_slice-4.result.now ≡ key_lists (schema_of create columns) =
    c.as_slice-4.ensures ∙ c.in_ok-keys.ensures ∙ ap (λ (them : List Column). key_lists (schema_of create them)) c.as_slice.ensures in
    let same : all_allowed (foreign_allowed database c.as_slice-2.result.now c.as_slice-3.result.now c.as_slice-4.result.now) c.as_slice-5.result.now
    ≡ all_allowed (foreign_allowed database create.table columns (key_lists (schema_of create columns))) create.elements =
    λ i. all_allowed (foreign_allowed database (c.as_slice-2.ensures i) (c.as_slice-3.ensures i) (keys i)) (c.as_slice-5.ensures i) in
    subst (λ (outcome : Outcome Unit). Gives c.each_foreign_key_allowed.result outcome) same c.each_foreign_key_allowed.ensures
