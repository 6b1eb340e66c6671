use Rattle.std.proofs.Common.{◌∙◌, ap, sym}
use Rattle.std.specs.List.{list_any}
use Rattle.chunk_store.specs.Drafts.{chunks_of}
use Rattle.tuple_codec.specs.Rows.{same_cells}
use Rattle.schema_model.specs.declared.schemas.Schema.{Schema}
use Rattle.plain_writes.specs.Violations.{is_whole, parent_keys}
use Rattle.constraint_scan.proofs.MissLemmas.{missed_told}
use Rattle.constraint_scan.proofs.PairLemmas.{schema_at}
use Rattle.constraint_scan.proofs.changing.is_missed.Goals as goal

pub returns : goal.returns
returns g c = λ before after contents are child.
    let key = c.args.key.now in
    let foreign = c.args.foreign.now in
    missed_told c.has_child.result after contents foreign key c.as_slice-2.result.now c.as_slice-2.ensures
    (ap is_whole (sym c.as_slice.ensures) ∙ sym c.is_whole.ensures ∙ c.if-not-is_whole.false)
    (ap (λ (s : Schema). list_any (same_cells key) (parent_keys after s foreign)) (sym (schema_at g.D.Digester.address (chunks_of c.args.draft.now.chunks) c.args.child.now contents child))
    ∙ sym (c.in_ok-leads_to.ensures before after are) ∙ c.if-branch.false)
    (c.has_child.ensures contents child)
