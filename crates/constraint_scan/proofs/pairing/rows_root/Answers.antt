use Rattle.std.proofs.Common.{◌≡◌, ◌∙◌, sym}
use Rattle.chunk_store.specs.Drafts.{chunks_of}
use Rattle.table_root.specs.Standing.{table_of_lists}
use Rattle.constraint_scan.proofs.PairLemmas.{root_of}
use Rattle.constraint_scan.proofs.pairing.rows_root.Goals as goal

pub read_table-requires-after_bounds : goal.read_table-requires-after_bounds
read_table-requires-after_bounds g c κs within =
    let address = g.D.Digester.address in
    (table_of_lists address c.requires.0, c.law_of_tables.ensures.tables.found address (chunks_of c.args.draft.now.chunks) c.args.address.now.0 c.requires.0 c.requires.1)

pub returns-then-same : goal.returns-then-same
returns-then-same g c = λ contents at.
    root_of g.D.Digester.address (chunks_of c.args.draft.now.chunks) c.in_ok-table.table contents
    (c.law_of_tables.ensures.values.read g.D.Digester.address (chunks_of c.args.draft.now.chunks) c.args.address.now.0 contents c.in_ok-table.table at c.in_ok-table.ensures)
    c.args.schema.now
    ((c.law_of_sameness.ensures.schemas c.in_ok-table.table.schema c.args.schema.now).0 (sym c.is_same_schema-same.ensures ∙ c.if-same.true))
