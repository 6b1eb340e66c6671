use Rattle.std.proofs.Common.{◌≡◌, ◌+◌, ◌∷◌, suc, sym, subst, ◌∙◌, arith}
use Rattle.std.proofs.lemmas.Result.{IfOk-weaker}
use Rattle.tuple_codec.proofs.Truths.{not_true}
use Rattle.node_format.specs.Views.{ref_of}
use Rattle.node_format.specs.Outlasting.{Outlasts}
use Rattle.chunk_store.specs.Drafts.{chunks_of}
use Rattle.node_chunker.specs.Subtrees.{CanPushRef, IsSubtree, is_clear}
use Rattle.node_chunker.proofs.ClimbLemmas.{extended}
use Rattle.node_chunker.proofs.TowerLemmas.{extends_both}
use Rattle.prolly_edit.specs.Fronts.{is_over}
use Rattle.prolly_edit.specs.Stages.{IsRead, IsTurn, is_past}
use Rattle.prolly_edit.proofs.TurnLemmas.{before, can_push, part_low, pushed, three_true, turned}
use Rattle.prolly_edit.proofs.applying.turn.Goals as goal

pub stays-requires-after_bounds : goal.stays-requires-after_bounds
stays-requires-after_bounds g c κs within =
    (omega arith, part_low g.D.Digester.address c.requires.going.0 (chunks_of c.args.draft.now.chunks) c.args.tower.now c.args.level (ref_of c.args.name.item) c.args.path.now c.args.edits.now c.requires.going.1 c.requires.going.2)

pub push_kept_ref-requires-clause-can : goal.push_kept_ref-requires-clause-can
push_kept_ref-requires-clause-can g c κs within =
    let a = g.D.Digester.address in
    let now = chunks_of c.args.draft.now.chunks in
    let item = ref_of c.args.name.item in
    let level = c.args.level in
    let e : suc level ≡ level + 1 = omega arith in
    let stay = three_true (is_past item.key c.args.edits.now) _ (is_clear (suc level) c.args.tower.now) (sym c.stays.ensures ∙ c.if-stays.true) in
    subst (λ n. CanPushRef a now c.args.tower.now n item) e
    (can_push a c.requires.going.0 now c.args.tower.now level item c.args.path.now c.args.edits.now c.requires.going.1 c.requires.going.2 stay.0 (not_true (is_over c.args.path.now) stay.1) stay.2)

pub read-requires-after_bounds : goal.read-requires-after_bounds
read-requires-after_bounds g c κs within = (
  omega arith,
  (
    c.requires.going.0,
    c.requires.going.1,
    before g.D.Digester.address c.requires.going.0 (chunks_of c.args.draft.now.chunks) c.args.tower.now c.args.level (ref_of c.args.name.item) c.args.path.now c.args.edits.now c.requires.going.1 c.requires.going.2,
  ),
)

pub returns-then-stays-clause-ok : goal.returns-then-stays-clause-ok
returns-then-stays-clause-ok g c start whole going =
    let a = g.D.Digester.address in
    let old = chunks_of c.args.draft.now.chunks in
    let new = chunks_of c.push_kept_ref.new.draft.chunks in
    let tower = c.push_kept_ref.new.self in
    let item = ref_of c.args.name.item in
    let level = c.args.level in
    let e : suc level ≡ level + 1 = omega arith in
    let stay = three_true (is_past item.key c.args.edits.now) _ (is_clear (suc level) c.args.tower.now) (sym c.stays.ensures ∙ c.if-stays.true) in
    let extends = extends_both start old new going.extends (extended c.args.draft.now c.push_kept_ref.new.draft c.in_ok-push_kept_ref.ensures.grows) in
    pushed a start old c.args.tower.now level item c.args.path.now c.args.edits.now whole going stay.0 (not_true (is_over c.args.path.now) stay.1) new tower extends
    (λ rows more stands subtree follow. c.in_ok-push_kept_ref.ensures.ok rows more stands (subst (λ n. IsSubtree a old n item more) e subtree) follow)

pub returns-clause-ok : goal.returns-clause-ok
returns-clause-ok g c start whole going =
    let a = g.D.Digester.address in
    let old = chunks_of c.args.draft.now.chunks in
    let new = chunks_of c.read.new.draft.chunks in
    let tower = c.read.new.tower in
    let path = c.args.path.now in
    let item = ref_of c.args.name.item in
    let level = c.args.level in
    IfOk-weaker c.read.result (λ left. IsRead a start new tower level item.body path c.read.new.path left.now whole)
    (λ left. IsTurn a start new tower ((level, item) ∷ path) c.read.new.path left.now whole)
    (λ left is. turned a start old c.args.tower.now level item path c.args.edits.now whole going new tower c.read.new.path left.now is)
    (c.read.ensures.ok start whole (before a start old c.args.tower.now level item path c.args.edits.now whole going))

pub push_kept_ref-requires-clause-known : goal.push_kept_ref-requires-clause-known
push_kept_ref-requires-clause-known g c κs within =
    let e : suc c.args.level ≡ c.args.level + 1 = omega arith in
    subst (λ n. Outlasts g.D.Digester.address n c.args.name.steps c.args.name.item.key) e c.requires.known
