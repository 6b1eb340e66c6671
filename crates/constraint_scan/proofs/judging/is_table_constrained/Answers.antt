use Rattle.std.proofs.Common.{◌∙◌, ap}
use Rattle.chunk_store.specs.Drafts.{chunks_of}
use Rattle.table_root.specs.declared.records.StoredTable.{StoredTable}
use Rattle.violation_lists.specs.Scanning.{is_constrained}
use Rattle.violation_lists.proofs.StandLemmas.{table_found, table_same}
use Rattle.constraint_scan.proofs.judging.is_table_constrained.Goals as goal

pub read_table-requires-after_bounds : goal.read_table-requires-after_bounds
read_table-requires-after_bounds g c κs within =
    table_found g.D.Digester.address (chunks_of c.args.draft.now.chunks) c.args.address.now.0 c.law_of_tables.ensures.tables c.requires.0 c.requires.1

pub returns : goal.returns
returns g c = λ contents at.
    let found = table_same g.D.Digester.address (chunks_of c.args.draft.now.chunks) c.args.address.now.0 c.law_of_tables.ensures.tables contents at c.in_ok-table.table c.in_ok-table.ensures in
    c.is_constrained.ensures ∙ ap (λ (t : StoredTable). is_constrained t.schema) found
