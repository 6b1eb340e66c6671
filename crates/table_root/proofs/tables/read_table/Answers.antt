use Rattle.std.proofs.Common.{◌∙◌, sym, subst}
use Rattle.tuple_codec.proofs.Options.{some_is}
use Rattle.chunk_store.specs.Drafts.{chunks_of}
use Rattle.schema_model.proofs.PartLemmas.{nothing}
use Rattle.table_root.specs.Tables.{IsTableFound, written_table}
use Rattle.table_root.specs.declared.records.StoredTable.{StoredTable}
use Rattle.table_root.proofs.tables.read_table.Goals as goal

pub unreachable-requires-in-None : goal.unreachable-requires-in-None
unreachable-requires-in-None g c =
    let e = some_is c.in-Some.bytes.now (written_table c.requires.0) (c.in-Some.ensures ∙ c.requires.1.held) in
    nothing c.requires.0 (sym c.in-None.is ∙ (c.in_ok-table.ensures c.requires.0).1 (c.requires.1.is_table, sym e))

pub returns : goal.returns
returns g c =
    let e = some_is c.in-Some.bytes.now (written_table c.requires.0) (c.in-Some.ensures ∙ c.requires.1.held) in
    let same = some_is c.in-Some-2.table c.requires.0 (sym c.in-Some-2.is ∙ (c.in_ok-table.ensures c.requires.0).1 (c.requires.1.is_table, sym e)) in
    subst (λ (table : StoredTable). IsTableFound (chunks_of c.args.draft.now.chunks) c.args.address.now.0 table) (sym same) c.requires.1
