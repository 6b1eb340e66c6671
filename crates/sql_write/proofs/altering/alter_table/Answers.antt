use Rattle.std.proofs.Common.{List, ap, sym, ◌∙◌, subst, refl, ℕ}
use Rattle.schema_model.specs.PlainTables.{PlainTable}
use Rattle.tuple_codec.specs.Rows.{Cells}
use Rattle.chunk_store.specs.Drafts.{chunks_of}
use Rattle.table_root.specs.Standing.{IsReadAt}
use Rattle.plain_writes.specs.Seen.{table_seen}
use Rattle.plain_writes.specs.Violations.{table_in}
use Rattle.plain_writes.specs.Writes.{replaced}
use Rattle.plain_schemas.specs.Altered.{alter_effect}
use Rattle.plain_schemas.specs.Effects.{changed_to}
use Rattle.plain_writes.specs.CheckTexts.{checks}
use Rattle.index_keep.specs.Keeping.{table_of_rows}
use Rattle.sql_write.specs.Altering.{CanRebuild}
use Rattle.sql_write.proofs.AlteringLemmas.{alters, bare_after, found_parts, may_rebuild, put_makes}
use Rattle.sql_write.proofs.MakingLemmas.{made_of}
use Rattle.sql_write.proofs.altering.alter_table.Goals as goal

pub altered-requires-clause-table : goal.altered-requires-clause-table
altered-requires-clause-table g c κs within =
    let contents = c.requires.kept.0 in
    let found = found_parts g.D.Digester.address (chunks_of c.args.draft.now.chunks) c.args.database.now.0 c.as_slice-name.result.now contents c.in_ok-found.found (table_in contents c.as_slice-name.result.now) (c.in_ok-found.ensures contents c.requires.kept.1) in
    (found.0, found.2)

pub rebuild_table-requires-after_bounds : goal.rebuild_table-requires-after_bounds
rebuild_table-requires-after_bounds g c κs within =
    let address = g.D.Digester.address in
    let chunks = chunks_of c.args.draft.now.chunks in
    let alter = c.args.alter.now in
    let contents = c.requires.kept.0 in
    let kept = c.requires.kept.1 in
    let found = found_parts address chunks c.args.database.now.0 c.as_slice-name.result.now contents c.in_ok-found.found (table_in contents c.as_slice-name.result.now) (c.in_ok-found.ensures contents kept) in
    let named = ap (table_in contents) (sym c.as_slice-name.ensures) ∙ found.1 in
    let after = c.in_ok-after.ensures contents found.0 kept found.2 in (
      contents,
      subst (λ (rows : List Cells). CanRebuild address chunks c.in_ok-found.found.tables.items c.in_ok-after.after.schema rows contents) (sym c.as_slice.ensures)
          (may_rebuild c.schemas_suffice.ensures c.schemas_keep.ensures address chunks c.args.database.now.0 checks contents alter c.in_ok-found.found.tables.items found.0 (table_seen c.in_ok-after.after) c.requires.fit kept found.3 named after),
    )

pub returns-in_err-root-clause-done : goal.returns-in_err-root-clause-done
returns-in_err-root-clause-done g c = λ contents kept.
    put_makes g.D.Digester.address (chunks_of c.rebuild_table.new.draft.chunks) c.from_residual-in_err-root.result c.in_err-root.field-0.0 (alter_effect checks contents c.args.alter.now) c.in_err-root.ensures.cause c.from_residual-in_err-root.ensures

pub returns-clause-done : goal.returns-clause-done
returns-clause-done g c = λ contents kept.
    let address = g.D.Digester.address in
    let chunks = chunks_of c.args.draft.now.chunks in
    let new = chunks_of c.rebuild_table.new.draft.chunks in
    let alter = c.args.alter.now in
    let found = found_parts address chunks c.args.database.now.0 c.as_slice-name.result.now contents c.in_ok-found.found (table_in contents c.as_slice-name.result.now) (c.in_ok-found.ensures contents kept) in
    let named = ap (table_in contents) (sym c.as_slice-name.ensures) ∙ found.1 in
    let after = c.in_ok-after.ensures contents found.0 kept found.2 in
    let t : PlainTable = table_seen c.in_ok-after.after in
    let can = may_rebuild c.schemas_suffice.ensures c.schemas_keep.ensures address chunks c.args.database.now.0 checks contents alter c.in_ok-found.found.tables.items found.0 t c.requires.fit kept found.3 named after in
    let at = c.in_ok-root.ensures.stands contents (subst (λ (rows : List Cells). CanRebuild address chunks c.in_ok-found.found.tables.items c.in_ok-after.after.schema rows contents) (sym c.as_slice.ensures) can) in
    let by_rows = subst (λ (rows : List Cells). IsReadAt address new c.in_ok-root.root.0 (replaced c.as_slice-name.result.now (table_of_rows c.in_ok-after.after.schema rows) contents)) c.as_slice.ensures at in
    let by_name = subst (λ (name : List ℕ). IsReadAt address new c.in_ok-root.root.0 (replaced name (table_of_rows c.in_ok-after.after.schema c.in_ok-after.after.rows) contents)) c.as_slice-name.ensures by_rows in
    let whole = subst (λ (x : PlainTable). IsReadAt address new c.in_ok-root.root.0 (replaced alter.table x contents)) (sym (bare_after checks contents alter found.0 t after)) by_name in
    made_of address new (record { root = c.in_ok-root.root; rows = 0 }) (alter_effect checks contents alter) (changed_to (replaced alter.table t contents))
    (alters c.schemas_suffice.ensures checks contents alter found.0 t named after) (record { root = whole.stands; rows = refl })
