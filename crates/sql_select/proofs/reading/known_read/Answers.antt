use Rattle.std.proofs.Common.{map, filter, sym, subst}
use Rattle.chunk_store.specs.Drafts.{chunks_of}
use Rattle.schema_model.specs.PlainTables as plain
use Rattle.table_root.specs.Standing.{AreThere}
use Rattle.sql_select.specs.Sources.{is_read, known_system, known_table}
use Rattle.sql_select.specs.declared.sources.NamedAnswer.{NamedAnswer}
use Rattle.sql_select.proofs.SeekLemmas.{read_alike}
use Rattle.sql_select.proofs.StandLemmas.{database_there}
use Rattle.sql_select.proofs.reading.known_read.Goals as goal

pub returns : goal.returns
returns g c = λ contents at.
    let address = g.D.Digester.address in
    let chunks = chunks_of c.args.draft.now.chunks in
    let query = c.args.query.now in
    let there = subst (AreThere address chunks contents) (sym c.as_slice.ensures.value)
    (database_there address chunks c.args.database.now.0 c.law_of_databases.ensures contents at c.in_ok-tables.tables.items c.in_ok-tables.ensures) in
    read_alike query (map known_table (filter (λ (named : plain.NamedTable). is_read query.from named.name) contents)) (map known_system (filter (λ (named : NamedAnswer). is_read query.from named.name) c.args.system.now))
    c.new-known.result c.push_tables.new.known c.push_system.new.known c.new-known.ensures (c.in_ok-push_tables.ensures contents there) c.in_ok-push_system.ensures
