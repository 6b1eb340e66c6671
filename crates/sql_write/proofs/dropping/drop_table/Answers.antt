use Rattle.std.proofs.Common.{List, ℕ, Ok, true, false, map, ap, sym, ◌∙◌, refl}
use Rattle.chunk_store.specs.Drafts.{chunks_of}
use Rattle.schema_model.specs.PlainTables.{PlainDatabase}
use Rattle.plain_writes.specs.Seen.{named_seen}
use Rattle.plain_schemas.specs.Effects.{changed_to, drop_effect, without_table}
use Rattle.sql_write.specs.Listing.{without}
use Rattle.sql_write.specs.Skeletons.{table_goes}
use Rattle.sql_write.proofs.MakingLemmas.{made_of, made_same, refused_makes}
use Rattle.sql_write.proofs.SchemaLemmas.{drop_refused, dropped_listed, drops}
use Rattle.sql_write.proofs.dropping.drop_table.Goals as goal

pub returns-in_err-goes-clause-done : goal.returns-in_err-goes-clause-done
returns-in_err-goes-clause-done g c = λ contents kept.
    let statement = c.args.statement.now in
    let at = (c.in_ok-tables.ensures contents kept).at in
    let same = ap (map named_seen) c.as_slice.ensures ∙ c.in_ok-schemas.ensures contents at in
    let told = ap (λ (d : PlainDatabase). table_goes d statement) same ∙ c.schemas_suffice.ensures.goes contents statement in
    refused_makes g.D.Digester.address (chunks_of c.args.draft.now.chunks) c.from_residual-in_err-goes.result c.in_err-goes.field-0.0 (table_goes (map named_seen c.as_slice.result.now) statement) (drop_effect contents statement)
    c.in_err-goes.ensures (λ number e. drop_refused c.schemas_suffice.ensures contents statement number (sym told ∙ e)) c.from_residual-in_err-goes.ensures

pub returns-then-not-goes-clause-done : goal.returns-then-not-goes-clause-done
returns-then-not-goes-clause-done g c = λ contents kept.
    let statement = c.args.statement.now in
    let at = (c.in_ok-tables.ensures contents kept).at in
    let same = ap (map named_seen) c.as_slice.ensures ∙ c.in_ok-schemas.ensures contents at in
    let told = ap (λ (d : PlainDatabase). table_goes d statement) same ∙ c.schemas_suffice.ensures.goes contents statement in
    made_same g.D.Digester.address (chunks_of c.args.draft.now.chunks) c.args.database.now contents (drop_effect contents statement)
    (drops c.schemas_suffice.ensures contents statement false (sym told ∙ c.in_ok-goes.ensures ∙ ap Ok c.if-not-goes.true)) kept

pub put_database-requires-after_bounds : goal.put_database-requires-after_bounds
put_database-requires-after_bounds g c κs within =
    let address = g.D.Digester.address in
    let chunks = chunks_of c.args.draft.now.chunks in
    let statement = c.args.statement.now in
    let contents = c.requires.0 in
    let kept = c.requires.1 in
    let listed = c.in_ok-tables.ensures contents kept in
    let same = ap (map named_seen) c.as_slice.ensures ∙ c.in_ok-schemas.ensures contents listed.at in
    let told = ap (λ (d : PlainDatabase). table_goes d statement) same ∙ c.schemas_suffice.ensures.goes contents statement in (
      without_table statement.table contents,
      dropped_listed c.schemas_suffice.ensures c.schemas_keep.ensures address chunks c.args.database.now.0 contents statement c.in_ok-tables.tables.items c.as_slice-3.result.now kept listed.listed
          (sym told ∙ c.in_ok-goes.ensures ∙ ap Ok c.if-not-goes.false) (c.as_slice-3.ensures.value ∙ c.in_ok-left.ensures ∙ ap (λ (name : List ℕ). without name c.in_ok-tables.tables.items) c.as_slice-2.ensures),
    )

pub returns-clause-done : goal.returns-clause-done
returns-clause-done g c = λ contents kept.
    let address = g.D.Digester.address in
    let chunks = chunks_of c.args.draft.now.chunks in
    let statement = c.args.statement.now in
    let listed = c.in_ok-tables.ensures contents kept in
    let same = ap (map named_seen) c.as_slice.ensures ∙ c.in_ok-schemas.ensures contents listed.at in
    let told = ap (λ (d : PlainDatabase). table_goes d statement) same ∙ c.schemas_suffice.ensures.goes contents statement in
    let goes = sym told ∙ c.in_ok-goes.ensures ∙ ap Ok c.if-not-goes.false in
    let is = c.as_slice-3.ensures.value ∙ c.in_ok-left.ensures ∙ ap (λ (name : List ℕ). without name c.in_ok-tables.tables.items) c.as_slice-2.ensures in
    let left = dropped_listed c.schemas_suffice.ensures c.schemas_keep.ensures address chunks c.args.database.now.0 contents statement c.in_ok-tables.tables.items c.as_slice-3.result.now kept listed.listed goes is in
    made_of address (chunks_of c.put_database.new.draft.chunks) (record { root = c.in_ok-root.root; rows = 0 }) (drop_effect contents statement) (changed_to (without_table statement.table contents))
    (drops c.schemas_suffice.ensures contents statement true goes)
    (record { root = (c.in_ok-root.ensures.stands (without_table statement.table contents) left).stands; rows = refl })
