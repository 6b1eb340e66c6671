use Rattle.std.proofs.Common.{◌<◌, sym, subst}
use Rattle.tuple_codec.specs.Nodes.{Node}
use Rattle.chunk_store.specs.Drafts.{chunks_of}
use Rattle.prolly_tree.proofs.MeetLemmas.{node_there}
use Rattle.prolly_tree.proofs.meets.node_below.Goals as goal

pub node_at-requires-after_bounds : goal.node_at-requires-after_bounds
node_at-requires-after_bounds g c κs within =
    let there = node_there (chunks_of c.args.draft.now.chunks) c.args.node.now c.args.address.now.0 c.requires.leads c.requires.inner c.requires.named in
    (there.0, there.1.0)

pub returns-clause-deeper : goal.returns-clause-deeper
returns-clause-deeper g c =
    let there = node_there (chunks_of c.args.draft.now.chunks) c.args.node.now c.args.address.now.0 c.requires.leads c.requires.inner c.requires.named in
    subst (λ (n : Node). n.level < c.args.node.now.level) (sym (c.node_at.ensures there.0 there.1.0)) there.1.1
