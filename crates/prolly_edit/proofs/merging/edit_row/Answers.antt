use Rattle.std.proofs.Common.{◌≡◌, ◌∷◌, List, ap, refl, subst, ◌∙◌}
use Rattle.tuple_codec.specs.Nodes.{Item, leaf_item}
use Rattle.tuple_codec.specs.Edits.{edited, putting}
use Rattle.tuple_codec.specs.declared.edits.Edit.{Edit}
use Rattle.chunk_store.specs.Drafts.{chunks_of}
use Rattle.prolly_edit.specs.Stages.{Awaits, IsFirstAt}
use Rattle.prolly_edit.proofs.EditLemmas.{edit_at, row_passes}
use Rattle.prolly_edit.proofs.merging.edit_row.Goals as goal

-- the first of the edits is put in the row's place
at_edit : (left : List Edit) (edit : Edit) (others : List Edit) (row : Item) (rows : List Item) → IsFirstAt row.key left edit others
    → edited (row ∷ rows) left ≡ putting edit.key edit.value (edited rows others)
at_edit left edit others row rows first = ap (edited (row ∷ rows)) first.are ∙ edit_at row rows edit others first.same

pub put_edit-requires-after_bounds : goal.put_edit-requires-after_bounds
put_edit-requires-after_bounds g c κs within =
    let row = leaf_item c.args.key.now c.args.value.now in
    let rows = c.requires.awaits.0 in
    let whole = c.requires.awaits.1 in
    let P : List Item → Type 0 = λ l. Awaits g.D.Digester.address (chunks_of c.put_before.new.draft.chunks) c.put_before.new.tower l whole in
    let next = at_edit c.in_ok-left.left.now c.in-Some.edit.now c.in-Some.others.now row rows c.in-Some.ensures in
    (edited rows c.in-Some.others.now, whole, subst P next (c.in_ok-left.ensures.ok row rows whole refl c.requires.awaits.2))

pub returns-in_ok-put_edit-in-Some-clause-ok : goal.returns-in_ok-put_edit-in-Some-clause-ok
returns-in_ok-put_edit-in-Some-clause-ok g c rows whole awaits =
    let row = leaf_item c.args.key.now c.args.value.now in
    let P : List Item → Type 0 = λ l. Awaits g.D.Digester.address (chunks_of c.put_before.new.draft.chunks) c.put_before.new.tower l whole in
    let next = at_edit c.in_ok-left.left.now c.in-Some.edit.now c.in-Some.others.now row rows c.in-Some.ensures in
    c.in_ok-put_edit-in-Some.ensures.ok (edited rows c.in-Some.others.now) whole (subst P next (c.in_ok-left.ensures.ok row rows whole refl awaits))

pub push-requires-clause-awaits : goal.push-requires-clause-awaits
push-requires-clause-awaits g c κs within =
    let row = leaf_item c.args.key.now c.args.value.now in
    let rows = c.requires.awaits.0 in
    let whole = c.requires.awaits.1 in
    let P : List Item → Type 0 = λ l. Awaits g.D.Digester.address (chunks_of c.put_before.new.draft.chunks) c.put_before.new.tower l whole in
    let next = row_passes row rows c.in_ok-left.left.now c.in-None.ensures in
    (edited rows c.in_ok-left.left.now, whole, subst P next (c.in_ok-left.ensures.ok row rows whole refl c.requires.awaits.2))

pub returns-in_ok-push-in-None-clause-ok : goal.returns-in_ok-push-in-None-clause-ok
returns-in_ok-push-in-None-clause-ok g c rows whole awaits =
    let row = leaf_item c.args.key.now c.args.value.now in
    let P : List Item → Type 0 = λ l. Awaits g.D.Digester.address (chunks_of c.put_before.new.draft.chunks) c.put_before.new.tower l whole in
    let next = row_passes row rows c.in_ok-left.left.now c.in-None.ensures in
    c.in_ok-push-in-None.ensures.ok (edited rows c.in_ok-left.left.now) whole (subst P next (c.in_ok-left.ensures.ok row rows whole refl awaits))
