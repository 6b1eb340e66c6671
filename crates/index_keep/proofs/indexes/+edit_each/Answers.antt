use Rattle.std.proofs.Common.{◌≡◌, ◌∙◌, ◌++◌, ◌∷◌, List, [], get_or, sym, ap, subst, append_assoc}
use Rattle.std.specs.Prelude.{OnOk}
use Rattle.chunk_store.specs.Drafts.{chunks_of}
use Rattle.schema_model.specs.declared.schemas.IndexDef.{IndexDef}
use Rattle.tuple_codec.specs.declared.addresses.Address.{Address}
use Rattle.index_keep.specs.Steps.{StandAt}
use Rattle.index_keep.proofs.MakingLemmas.{by_first, can_by_first, first_can, grown, others_can, stand_more, the_others}
use Rattle.index_keep.proofs.TableLemmas.{stand_later}
use Rattle.index_keep.proofs.indexes.+edit_each.Goals as goal

abbrev no_address : Address
no_address = record { 0 = [] }

pub edit_each-requires-after_bounds : goal.edit_each-requires-after_bounds
edit_each-requires-after_bounds g t c κs within =
    let address = g.D.Digester.address in
    let old = chunks_of c.args.draft.now.chunks in
    let schema = c.args.schema.now in
    let indexes = c.args.indexes.now in
    let roots = c.args.roots.now in
    let index = c.index-item.result in
    let changes = c.args.changes.now in
    let all = can_by_first address old schema indexes index roots no_address changes c.requires.0 c.requires.1 c.requires.2
    c.in-len1-up.len_at_least c.index-item.is c.in-len1-up-roots.len_at_least c.requires.3 in (
      c.requires.0,
      c.requires.1,
      c.requires.2,
      others_can address old schema index (the_others indexes) (get_or roots 0 no_address) (the_others roots) changes c.requires.0 c.requires.1 c.requires.2 all
          (chunks_of c.edit_index.new.draft.chunks) (grown c.args.draft.now c.edit_index.new.draft c.edit_index.ensures.grows),
    )

pub returns-in-len1-up-roots-clause-ok : goal.returns-in-len1-up-roots-clause-ok
returns-in-len1-up-roots-clause-ok g t c rows others keys can done stand =
    let address = g.D.Digester.address in
    let old = chunks_of c.args.draft.now.chunks in
    let now = chunks_of c.edit_index.new.draft.chunks in
    let schema = c.args.schema.now in
    let indexes = c.args.indexes.now in
    let roots = c.args.roots.now in
    let index = c.index-item.result in
    let root = get_or roots 0 no_address in
    let changes = c.args.changes.now in
    let more = grown c.args.draft.now c.edit_index.new.draft c.edit_index.ensures.grows in
    let all = can_by_first address old schema indexes index roots no_address changes rows others keys c.in-len1-up.len_at_least c.index-item.is c.in-len1-up-roots.len_at_least can in
    let rest = others_can address old schema index (the_others indexes) root (the_others roots) changes rows others keys all now more in
    let tree = c.in_ok-edit_index.ensures.ok rows others keys (first_can address old schema index (the_others indexes) root (the_others roots) changes rows others keys all) in
    let later = stand_later address old now more schema others done c.args.made.now stand in
    let pushed = subst (λ (l : List Address). StandAt address now schema others (done ++ index ∷ []) l) (sym c.in_ok-push.ensures.ok)
    (stand_more address now schema others index c.in_ok-edit_index.field-0 tree done c.args.made.now later) in
    let joined : (done ++ index ∷ []) ++ the_others indexes ≡ done ++ indexes =
    append_assoc done (index ∷ []) (the_others indexes) ∙ ap (λ (l : List IndexDef). done ++ l) (sym (by_first indexes index c.in-len1-up.len_at_least c.index-item.is)) in
    subst (λ (l : List IndexDef). OnOk c.edit_each.result (StandAt address (chunks_of c.edit_each.new.draft.chunks) schema others l c.edit_each.new.made)) joined
    (c.edit_each.ensures.ok rows others keys rest (done ++ index ∷ []) pushed)
