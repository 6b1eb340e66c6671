use Rattle.std.proofs.Common.{◌∙◌, ap, sym}
use Rattle.chunk_store.specs.Drafts.{chunks_of}
use Rattle.schema_model.specs.declared.schemas.Schema.{Schema}
use Rattle.plain_writes.specs.Violations.{same_types, types_at}
use Rattle.constraint_scan.proofs.FoundLemmas.{parent_found_at}
use Rattle.violation_lists.proofs.TreeLemmas.{schema_same}
use Rattle.constraint_scan.proofs.seeking.has_parent_at.Goals as goal

pub returns-then-same_types : goal.returns-then-same_types
returns-then-same_types g c = λ contents at.
    let schema = schema_same g.D.Digester.address (chunks_of c.args.draft.now.chunks) c.args.parent.now contents at in
    let parent_types = c.as_slice-3.ensures ∙ c.in_ok-parent_types.ensures ∙ ap (λ (s : Schema). types_at s c.args.places.now) schema in
    let own = c.as_slice-2.ensures ∙ c.in_ok-own.ensures ∙ c.as_slice.ensures in
    let types = c.as_slice-4.ensures ∙ c.in_ok-types.ensures ∙ ap (types_at c.args.schema.now) own in
    parent_found_at c.has_key.result c.args.schema.now c.args.foreign.now contents c.args.places.now c.args.key.now
    ((λ i. same_types (sym parent_types i) (sym types i)) ∙ sym c.same_types.ensures ∙ c.if-same_types.true) (c.has_key.ensures contents at)
