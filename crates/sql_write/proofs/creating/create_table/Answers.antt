use Rattle.std.proofs.Common.{List, ℕ, Some, None, Ok, map, ap, sym, ◌∙◌, subst, refl}
use Rattle.chunk_store.specs.Drafts.{chunks_of}
use Rattle.schema_model.specs.PlainTables.{PlainDatabase}
use Rattle.table_root.specs.Standing.{IsReadAt}
use Rattle.plain_writes.specs.Seen.{named_seen}
use Rattle.plain_schemas.specs.Effects.{changed_to, create_effect, with_table}
use Rattle.sql_write.specs.Adding.{CanAdd}
use Rattle.sql_write.specs.Skeletons.{schema_created}
use Rattle.sql_write.proofs.MakingLemmas.{made_of, made_same, refused_makes}
use Rattle.sql_write.proofs.SchemaLemmas.{create_refused, creates, may_add}
use Rattle.sql_write.proofs.creating.create_table.Goals as goal

pub returns-in_err-found-clause-done : goal.returns-in_err-found-clause-done
returns-in_err-found-clause-done g c = λ contents kept.
    let create = c.args.create.now in
    let at = (c.in_ok-tables.ensures contents kept).at in
    let same = ap (map named_seen) c.as_slice.ensures ∙ c.in_ok-schemas.ensures contents at in
    let told = ap (λ (d : PlainDatabase). schema_created d create) same ∙ c.schemas_suffice.ensures.created contents create in
    refused_makes g.D.Digester.address (chunks_of c.args.draft.now.chunks) c.from_residual-in_err-found.result c.in_err-found.field-0.0 (schema_created (map named_seen c.as_slice.result.now) create) (create_effect contents create)
    c.in_err-found.ensures (λ number e. create_refused c.schemas_suffice.ensures contents create number (sym told ∙ e)) c.from_residual-in_err-found.ensures

pub add_table-requires-after_bounds : goal.add_table-requires-after_bounds
add_table-requires-after_bounds g c κs within =
    let address = g.D.Digester.address in
    let chunks = chunks_of c.args.draft.now.chunks in
    let create = c.args.create.now in
    let contents = c.requires.kept.0 in
    let kept = c.requires.kept.1 in
    let listed = c.in_ok-tables.ensures contents kept in
    let same = ap (map named_seen) c.as_slice.ensures ∙ c.in_ok-schemas.ensures contents listed.at in
    let told = ap (λ (d : PlainDatabase). schema_created d create) same ∙ c.schemas_suffice.ensures.created contents create in (
      contents,
      subst (λ (name : List ℕ). CanAdd address chunks c.in_ok-tables.tables.items name c.in-Some.schema contents) (sym c.as_slice-in-Some.ensures)
          (may_add c.schemas_suffice.ensures c.schemas_keep.ensures address chunks c.args.database.now.0 contents create c.in_ok-tables.tables.items c.in-Some.schema c.requires.fit kept listed.listed
          (sym told ∙ c.in_ok-found.ensures ∙ ap Ok c.in-Some.is)),
    )

pub returns-in-None-clause-done : goal.returns-in-None-clause-done
returns-in-None-clause-done g c = λ contents kept.
    let create = c.args.create.now in
    let at = (c.in_ok-tables.ensures contents kept).at in
    let same = ap (map named_seen) c.as_slice.ensures ∙ c.in_ok-schemas.ensures contents at in
    let told = ap (λ (d : PlainDatabase). schema_created d create) same ∙ c.schemas_suffice.ensures.created contents create in
    made_same g.D.Digester.address (chunks_of c.args.draft.now.chunks) c.args.database.now contents (create_effect contents create)
    (creates c.schemas_suffice.ensures contents create None (sym told ∙ c.in_ok-found.ensures ∙ ap Ok c.in-None.is)) kept

pub returns-in_ok-root-in-Some-clause-done : goal.returns-in_ok-root-in-Some-clause-done
returns-in_ok-root-in-Some-clause-done g c = λ contents kept.
    let address = g.D.Digester.address in
    let chunks = chunks_of c.args.draft.now.chunks in
    let create = c.args.create.now in
    let listed = c.in_ok-tables.ensures contents kept in
    let same = ap (map named_seen) c.as_slice.ensures ∙ c.in_ok-schemas.ensures contents listed.at in
    let told = ap (λ (d : PlainDatabase). schema_created d create) same ∙ c.schemas_suffice.ensures.created contents create in
    let found = sym told ∙ c.in_ok-found.ensures ∙ ap Ok c.in-Some.is in
    let can = may_add c.schemas_suffice.ensures c.schemas_keep.ensures address chunks c.args.database.now.0 contents create c.in_ok-tables.tables.items c.in-Some.schema c.requires.fit kept listed.listed found in
    let new = chunks_of c.add_table.new.draft.chunks in
    let at = c.in_ok-root-in-Some.ensures.stands contents (subst (λ (name : List ℕ). CanAdd address chunks c.in_ok-tables.tables.items name c.in-Some.schema contents) (sym c.as_slice-in-Some.ensures) can) in
    let stands = subst (λ (name : List ℕ). IsReadAt address new c.in_ok-root-in-Some.root.0 (with_table contents name c.in-Some.schema)) c.as_slice-in-Some.ensures at in
    made_of address new (record { root = c.in_ok-root-in-Some.root; rows = 0 }) (create_effect contents create) (changed_to (with_table contents create.table c.in-Some.schema))
    (creates c.schemas_suffice.ensures contents create (Some c.in-Some.schema) found) (record { root = stands.stands; rows = refl })
