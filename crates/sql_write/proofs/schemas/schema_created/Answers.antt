use Rattle.std.proofs.Common.{◌≡◌, List, Some, None, Ok, false, map, ap, sym, ◌∙◌}
use Rattle.schema_model.specs.PlainTables.{PlainDatabase, PlainTable}
use Rattle.plain_writes.specs.declared.tables.NamedTable.{NamedTable}
use Rattle.schema_model.specs.declared.schemas.Schema.{Schema}
use Rattle.plain_writes.specs.Seen.{named_seen, table_seen, effect_seen}
use Rattle.plain_writes.specs.Violations.{table_in}
use Rattle.plain_schemas.specs.Effects.{empty_table, is_there}
use Rattle.sql_write.proofs.SchemaLemmas.{created_absent}
use Rattle.sql_write.proofs.schemas.schema_created.Goals as goal

pub unreachable-requires : goal.unreachable-requires
unreachable-requires c =
    let create = c.args.create.now in
    let database : PlainDatabase = map named_seen c.args.database.now in
    let none : is_there database create.table ≡ false = ap (is_there database) (sym c.as_slice-name.ensures) ∙ sym c.is_there.ensures ∙ c.if-is_there.false in
    let made = created_absent database create (effect_seen c.in_ok-effect.effect) none c.in_ok-effect.ensures in
    let missed : Some (empty_table made.0) ≡ None =
    sym made.2
    ∙ ap (λ (l : List NamedTable). table_in (map named_seen l) create.table) (sym c.as_slice.ensures)
    ∙ ap (table_in (map named_seen c.as_slice.result.now)) (sym c.as_slice-name.ensures)
    ∙ c.in-None.ensures in
    cc

pub returns : goal.returns
returns c =
    let create = c.args.create.now in
    let database : PlainDatabase = map named_seen c.args.database.now in
    let none : is_there database create.table ≡ false = ap (is_there database) (sym c.as_slice-name.ensures) ∙ sym c.is_there.ensures ∙ c.if-is_there.false in
    let made = created_absent database create (effect_seen c.in_ok-effect.effect) none c.in_ok-effect.ensures in
    let found : Some (empty_table made.0) ≡ Some (table_seen c.in-Some.table.now) =
    sym made.2
    ∙ ap (λ (l : List NamedTable). table_in (map named_seen l) create.table) (sym c.as_slice.ensures)
    ∙ ap (table_in (map named_seen c.as_slice.result.now)) (sym c.as_slice-name.ensures)
    ∙ c.in-Some.ensures in
    let same : empty_table made.0 ≡ table_seen c.in-Some.table.now = cc in
    made.1 ∙ ap (λ (s : Schema). Ok (Some s)) (ap (λ (t : PlainTable). t.schema) same ∙ sym c.in_ok-copy_schema-in-Some.ensures)
