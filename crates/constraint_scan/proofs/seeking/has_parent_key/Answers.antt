use Rattle.std.proofs.Common.{◌∙◌, List, ℕ, Some, ap, refl, sym}
use Rattle.chunk_store.specs.Drafts.{chunks_of}
use Rattle.schema_model.specs.declared.schemas.Schema.{Schema}
use Rattle.plain_writes.specs.Violations.{places_of}
use Rattle.constraint_scan.proofs.FoundLemmas.{parent_found}
use Rattle.violation_lists.proofs.TreeLemmas.{schema_same}
use Rattle.constraint_scan.proofs.seeking.has_parent_key.Goals as goal

pub returns-in-Some : goal.returns-in-Some
returns-in-Some g c = λ contents at.
    let schema = schema_same g.D.Digester.address (chunks_of c.args.draft.now.chunks) c.args.parent.now contents at in
    let foreign = c.args.foreign.now in
    let places = ap (λ (s : Schema). places_of s foreign.parent_columns) (sym schema) ∙ ap (places_of c.args.parent.now.schema) (sym c.as_slice.ensures) ∙ sym c.in_ok-places.ensures ∙ c.in-Some.is
    ∙ ap (λ (l : List ℕ). Some l) (sym c.as_slice-in-Some.ensures) in
    parent_found c.has_parent_at.result c.args.schema.now foreign contents c.as_slice-in-Some.result.now c.args.key.now c.args.key.now refl places (c.has_parent_at.ensures contents at)
