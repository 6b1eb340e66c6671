use Rattle.chunk_store.specs.Kinds.{is_node}
use Rattle.chunk_store.proofs.GrowthLemmas.{drafts_grow}
use Rattle.node_chunker.proofs.chunks.put_chunk.Goals as goal

pub returns-clause-grows : goal.returns-clause-grows
returns-clause-grows g c = drafts_grow.by_put is_node g.D.Digester.address c.args.bytes.now c.args.draft.now c.put.new.self c.put.result c.requires.node c.put.ensures
