use Rattle.std.proofs.Common.{◌≡◌, ◌++◌, sym, subst, ◌∙◌}
use Rattle.tuple_codec.specs.Nodes.{Node}
use Rattle.tuple_codec.specs.Edits.{edited}
use Rattle.chunk_store.specs.Drafts.{chunks_of}
use Rattle.prolly_edit.specs.Stages.{Awaits}
use Rattle.prolly_edit.proofs.applying.read_rows.Goals as goal

pub returns-clause-ok : goal.returns-clause-ok
returns-clause-ok g c node more whole stored leaf awaits =
    let same : c.of-leaf.result ≡ node = c.of-leaf.ensures node stored.is_node (c.as_slice.ensures.value ∙ c.in_ok-copy_node.ensures node stored) in
    c.edit_rows.ensures.ok more whole
    (subst (λ (n : Node). Awaits g.D.Digester.address (chunks_of c.args.draft.now.chunks) c.args.tower.now (edited (n.items ++ more) c.args.edits.now) whole) (sym same) awaits)
