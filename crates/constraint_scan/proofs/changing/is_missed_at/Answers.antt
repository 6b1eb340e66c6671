use Rattle.std.proofs.Common.{◌∙◌, ap, sym}
use Rattle.chunk_store.specs.Drafts.{chunks_of}
use Rattle.schema_model.specs.declared.schemas.Schema.{Schema}
use Rattle.tuple_codec.specs.Rows.{key_of}
use Rattle.plain_writes.specs.Violations.{same_types, types_at}
use Rattle.constraint_scan.proofs.MissLemmas.{missed_at}
use Rattle.constraint_scan.proofs.PairLemmas.{schema_at}
use Rattle.constraint_scan.proofs.changing.is_missed_at.Goals as goal

pub returns-in_ok-key : goal.returns-in_ok-key
returns-in_ok-key g c = λ before after contents are child.
    let parent = c.args.parent.now in
    let places = c.args.places.now in
    let foreign = c.args.foreign.now in
    missed_at c.is_missed.result after contents foreign (same_types (types_at parent places) (types_at contents.schema foreign.columns)) c.in_ok-key.key (key_of places c.args.row.now)
    (ap (λ (s : Schema). same_types (types_at parent places) (types_at s foreign.columns)) (sym (schema_at g.D.Digester.address (chunks_of c.args.draft.now.chunks) c.args.child.now contents child))
    ∙ sym c.in_ok-are_typed.ensures ∙ c.if-branch.true)
    c.in_ok-key.ensures (c.is_missed.ensures before after contents are child)
