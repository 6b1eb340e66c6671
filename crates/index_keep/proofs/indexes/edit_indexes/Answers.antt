use Rattle.std.proofs.Common.{List, [], sym, subst}
use Rattle.chunk_store.specs.Drafts.{chunks_of}
use Rattle.schema_model.specs.declared.schemas.IndexDef.{IndexDef}
use Rattle.tuple_codec.specs.declared.addresses.Address.{Address}
use Rattle.index_keep.specs.Steps.{CanEditIndexes, StandAt}
use Rattle.index_keep.proofs.indexes.edit_indexes.Goals as goal

pub returns-clause-ok : goal.returns-clause-ok
returns-clause-ok g c rows others keys can =
    let address = g.D.Digester.address in
    let old = chunks_of c.args.draft.now.chunks in
    let schema = c.args.schema.now in
    let all = subst (λ (l : List IndexDef). CanEditIndexes address old schema l c.args.roots.now c.args.changes.now rows others keys) (sym c.as_slice.ensures) can in
    let none = subst (λ (l : List Address). StandAt address old schema others [] l) (sym c.new-made.ensures) tt in
    subst (λ (l : List IndexDef). StandAt address (chunks_of c.edit_each.new.draft.chunks) schema others l c.edit_each.new.made) c.as_slice.ensures
    (c.in_ok-edit_each.ensures.ok rows others keys all [] none)
