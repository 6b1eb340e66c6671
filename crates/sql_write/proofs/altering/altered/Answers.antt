use Rattle.std.proofs.Common.{◌≡◌, false, map, ap, sym, ◌∙◌, subst}
use Rattle.schema_model.specs.PlainTables.{PlainTable}
use Rattle.chunk_store.specs.Drafts.{chunks_of}
use Rattle.expr_eval.specs.Binding.{Outcome}
use Rattle.plain_sql.specs.Gives.{GivesBy}
use Rattle.plain_writes.specs.Seen.{named_seen, table_seen}
use Rattle.plain_schemas.specs.Altered.{change_of, is_open}
use Rattle.plain_writes.specs.CheckTexts.{checks}
use Rattle.violation_lists.specs.Scanning.{skeleton}
use Rattle.sql_write.proofs.AlteringLemmas.{altered_is, schema_same}
use Rattle.sql_write.proofs.TableLemmas.{kept_read}
use Rattle.sql_write.proofs.altering.altered.Goals as goal

pub returns : goal.returns
returns g c = λ before contents kept stands.
    let address = g.D.Digester.address in
    let chunks = chunks_of c.args.draft.now.chunks in
    let alter = c.args.alter.now in
    let at = kept_read address chunks c.args.database.now.0 before kept in
    let same : map named_seen c.as_slice.result.now ≡ skeleton before = ap (map named_seen) c.as_slice.ensures ∙ c.in_ok-schemas.ensures before at in
    let schema : c.args.table.now.schema ≡ contents.schema = schema_same address chunks c.args.table.now contents stands in
    let closed : is_open contents ≡ false = sym (c.is_open.ensures contents stands) ∙ c.if-is_open.false in
    let here : change_of checks (skeleton before) alter.table contents.schema alter.action ≡ change_of checks (map named_seen c.as_slice.result.now) c.as_slice-name.result.now c.args.table.now.schema alter.action =
    λ i. change_of checks (sym same i) (sym c.as_slice-name.ensures i) (sym schema i) alter.action in
    let told = sym (c.schemas_suffice.ensures.change checks before alter.table contents.schema alter.action) ∙ here ∙ c.in_ok-change.ensures.same in
    subst (λ (o : Outcome PlainTable). GivesBy table_seen c.changed.result o) (sym (altered_is checks before alter contents c.in_ok-change.change closed told)) (c.changed.ensures contents stands)
