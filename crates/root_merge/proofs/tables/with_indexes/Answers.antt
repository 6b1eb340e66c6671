use Rattle.std.proofs.Common.{List, sym, subst}
use Rattle.tuple_codec.specs.declared.addresses.Address.{Address}
use Rattle.chunk_store.specs.Chunks.{Extends}
use Rattle.chunk_store.specs.Drafts.{chunks_of}
use Rattle.chunk_store.specs.Kinds.{is_node}
use Rattle.table_root.specs.Standing.{IsTableOf}
use Rattle.root_merge.proofs.TableLemmas.{can_index, table_made}
use Rattle.root_merge.proofs.tables.with_indexes.Goals as goal

pub indexes_of-requires-after_bounds : goal.indexes_of-requires-after_bounds
indexes_of-requires-after_bounds g c κs within =
    (c.requires.0.rows, can_index g.D.Digester.address (chunks_of c.args.draft.now.chunks) c.args.table c.requires.0 c.requires.1)

pub returns-clause-stands : goal.returns-clause-stands
returns-clause-stands g c = λ contents may.
    let address = g.D.Digester.address in
    let old = c.args.draft.now in
    let new = c.indexes_of.new.draft in
    let table = c.args.table in
    let laws = c.laws_of_growth.ensures in
    let more : Extends (chunks_of old.chunks) (chunks_of new.chunks) = laws.drafts.longer_extends old.chunks new.chunks (laws.growth.is_longer is_node old new c.indexes_of.ensures.grows) in
    let stands = laws.values.unindexed_later address (chunks_of old.chunks) (chunks_of new.chunks) contents table more may.stands in
    let indexes = c.in_ok-indexes.ensures.ok contents.rows (can_index address (chunks_of old.chunks) table contents may) in
    subst (λ (roots : List Address). IsTableOf address (chunks_of new.chunks) (record { schema = table.schema; rows = table.rows; indexes = roots; conflicts = table.conflicts; violations = table.violations }) contents)
    (sym c.from_vec.ensures) (table_made address (chunks_of new.chunks) table contents c.in_ok-indexes.indexes.items stands indexes)
