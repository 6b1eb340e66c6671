use Rattle.std.proofs.Common.{◌≡◌, arith}
use Rattle.std.proofs.lemmas.Result.{IfOk-weaker}
use Rattle.tuple_codec.specs.Edits.{edited}
use Rattle.chunk_store.specs.Drafts.{chunks_of}
use Rattle.prolly_tree.specs.Found.{nodes_in}
use Rattle.node_chunker.proofs.ClimbLemmas.{extended}
use Rattle.node_chunker.proofs.TowerLemmas.{extends_both}
use Rattle.prolly_edit.specs.Fronts.{rest}
use Rattle.prolly_edit.specs.Stages.{Awaits, IsRead}
use Rattle.prolly_edit.proofs.TurnLemmas.{inner_read, leaf_awaits, leaf_read, leaf_stays, node, stored_now}
use Rattle.prolly_edit.proofs.applying.read.Goals as goal

pub read_names-requires-after_bounds : goal.read_names-requires-after_bounds
read_names-requires-after_bounds g c κs within =
    let a = g.D.Digester.address in
    let now = chunks_of c.args.draft.now.chunks in
    let before = c.requires.2 in
    let inner = c.if-level-gt0.true in (
      omega arith,
      (
        node a c.requires.0 now c.args.tower.now c.args.level c.args.address.now.0 c.args.path.now c.args.edits.now c.requires.1 before,
        stored_now a c.requires.0 now c.args.tower.now c.args.level c.args.address.now.0 c.args.path.now c.args.edits.now c.requires.1 before,
        inner,
        before.some inner,
        before.stays,
      ),
    )

pub read_rows-requires-after_bounds : goal.read_rows-requires-after_bounds
read_rows-requires-after_bounds g c κs within =
    let a = g.D.Digester.address in
    let now = chunks_of c.args.draft.now.chunks in
    let before = c.requires.2 in
    let low = c.if-level-gt0.false in
    let leaf : c.args.level ≡ 0 = omega (arith, low) in (
      node a c.requires.0 now c.args.tower.now c.args.level c.args.address.now.0 c.args.path.now c.args.edits.now c.requires.1 before,
      rest (nodes_in c.requires.0) c.args.path.now,
      c.requires.1,
      stored_now a c.requires.0 now c.args.tower.now c.args.level c.args.address.now.0 c.args.path.now c.args.edits.now c.requires.1 before,
      leaf,
      leaf_stays a c.requires.0 now c.args.tower.now c.args.level c.args.address.now.0 c.args.path.now c.args.edits.now c.requires.1 before leaf,
      leaf_awaits a c.requires.0 now c.args.tower.now c.args.level c.args.address.now.0 c.args.path.now c.args.edits.now c.requires.1 before leaf,
    )

pub returns-in_ok-read_names-clause-ok : goal.returns-in_ok-read_names-clause-ok
returns-in_ok-read_names-clause-ok g c start whole before =
    let a = g.D.Digester.address in
    let now = chunks_of c.args.draft.now.chunks in
    let inner = c.if-level-gt0.true in
    let here = node a start now c.args.tower.now c.args.level c.args.address.now.0 c.args.path.now c.args.edits.now whole before in
    let stored = stored_now a start now c.args.tower.now c.args.level c.args.address.now.0 c.args.path.now c.args.edits.now whole before in
    inner_read a start now c.args.tower.now c.args.level c.args.address.now.0 c.args.path.now c.args.edits.now whole before c.read_names.new.path inner
    (c.in_ok-read_names.ensures here stored inner)

pub returns-else-level-gt0-clause-ok : goal.returns-else-level-gt0-clause-ok
returns-else-level-gt0-clause-ok g c start whole before =
    let a = g.D.Digester.address in
    let old = chunks_of c.args.draft.now.chunks in
    let new = chunks_of c.read_rows.new.draft.chunks in
    let tower = c.read_rows.new.tower in
    let path = c.args.path.now in
    let k = c.args.address.now.0 in
    let level = c.args.level in
    let low = c.if-level-gt0.false in
    let leaf : level ≡ 0 = omega (arith, low) in
    let here = node a start old c.args.tower.now level k path c.args.edits.now whole before in
    let stored = stored_now a start old c.args.tower.now level k path c.args.edits.now whole before in
    let awaits = leaf_awaits a start old c.args.tower.now level k path c.args.edits.now whole before leaf in
    let more = rest (nodes_in start) path in
    let extends = extends_both start old new before.extends (extended c.args.draft.now c.read_rows.new.draft c.read_rows.ensures.grows) in
    IfOk-weaker c.read_rows.result (λ left. Awaits a new tower (edited more left.now) whole) (λ left. IsRead a start new tower level k path path left.now whole)
    (λ left later. leaf_read a start old c.args.tower.now level k path c.args.edits.now whole before new tower left.now extends later)
    (c.read_rows.ensures.ok here more whole stored leaf awaits)
