use Rattle.std.proofs.Common.{◌≡◌, ◌<◌, ◌^◌, ◌∷◌, [], ℕ, suc, List, Option, inl, length, sym, subst, arith}
use Rattle.std.specs.Prelude.{IfSome, MatchOption}
use Rattle.node_format.specs.Outlasting.{Outlasts}
use Rattle.prolly_edit.specs.Names.{item_of}
use Rattle.prolly_edit.specs.declared.paths.Name.{Name}
use Rattle.tuple_codec.specs.Nodes.{Item}
use Rattle.tuple_codec.specs.Edits.{edited}
use Rattle.chunk_store.specs.Drafts.{chunks_of}
use Rattle.chunk_store.specs.Kinds.{is_node}
use Rattle.chunk_store.proofs.GrowthLemmas.{drafts_grow}
use Rattle.prolly_tree.specs.Found.{nodes_in}
use Rattle.prolly_tree.proofs.Standing.{trees_lead}
use Rattle.prolly_tree.proofs.One.{one_tree as same_rows}
use Rattle.prolly_edit.specs.Editing.{CanEdit}
use Rattle.prolly_edit.specs.Fronts.{load, rest}
use Rattle.prolly_tree.specs.Fronts.{Front}
use Rattle.prolly_edit.specs.Stages.{Awaits, IsGoing}
use Rattle.prolly_edit.proofs.StageLemmas.{awaits_none}
use Rattle.prolly_edit.proofs.TurnLemmas.{root_begins}
use Rattle.prolly_edit.proofs.applying.apply.Goals as goal

pub known_at-requires-after_bounds : goal.known_at-requires-after_bounds
known_at-requires-after_bounds g c κs within =
    let t = trees_lead g.D.Digester.address (chunks_of c.args.draft.now.chunks) c.args.root.now.0 c.requires.0 c.requires.1.tree in
    (t.0, t.1.opens.stored)

pub read-requires-after_bounds : goal.read-requires-after_bounds
read-requires-after_bounds g c κs within =
    let start = chunks_of c.args.draft.now.chunks in
    let edits = c.args.edits.now in (
      omega arith,
      (
        start,
        edited c.requires.0 edits,
        root_begins g.D.Digester.address start c.args.root.now.0 edits c.requires.0 c.requires.1 c.in_ok-tower.tower (c.in_ok-tower.ensures g.D.Digester.address start)
            c.known_at.result c.known_at.ensures c.level-level.result c.level-level.ensures c.new-path.result c.new-path.ensures,
      ),
    )

pub parts-init : goal.parts-init
parts-init g c =
    let start = chunks_of c.args.draft.now.chunks in
    let edits = c.args.edits.now in
    record {
      grows = c.in_ok-left.ensures.grows;
      going = λ rows can.
          (c.in_ok-left.ensures.ok start (edited rows edits)
          (root_begins g.D.Digester.address start c.args.root.now.0 edits rows can c.in_ok-tower.tower (c.in_ok-tower.ensures g.D.Digester.address start)
          c.known_at.result c.known_at.ensures c.level-level.result c.level-level.ensures c.new-path.result c.new-path.ensures)).going;
    }

pub turn-requires-after_bounds : goal.turn-requires-after_bounds
turn-requires-after_bounds g c κs within =
    let front = subst (λ (o : Option (ℕ × Name)). MatchOption o (c.parts.path ≡ []) (λ part. c.parts.path ≡ (part.0, item_of part.1) ∷ c.next.new.self)) c.in-Some.is c.in_ok-level.ensures.front in
    let known = subst (λ (o : Option (ℕ × Name)). IfSome o (λ part. Outlasts g.D.Digester.address (suc part.0) part.1.steps (item_of part.1).key)) c.in-Some.is c.in_ok-level.ensures.known in
    let start = chunks_of c.args.draft.now.chunks in
    let whole = edited c.requires.0 c.args.edits.now in (
      omega arith,
      (
        (
          start,
          whole,
          subst (λ (f : Front). IsGoing g.D.Digester.address start (chunks_of c.parts.draft.chunks) c.parts.tower f c.parts.left.now whole) front
              (c.parts.invariant.going c.requires.0 c.requires.1),
        ),
        known,
      ),
    )

pub parts-preserved : goal.parts-preserved
parts-preserved g c =
    let front = subst (λ (o : Option (ℕ × Name)). MatchOption o (c.parts.path ≡ []) (λ part. c.parts.path ≡ (part.0, item_of part.1) ∷ c.next.new.self)) c.in-Some.is c.in_ok-level.ensures.front in
    let start = chunks_of c.args.draft.now.chunks in
    record {
      grows = drafts_grow.in_steps is_node c.args.draft.now c.parts.draft c.turn.new.draft c.parts.invariant.grows c.in_ok-left-2.ensures.grows;
      going = λ rows can.
          let whole = edited rows c.args.edits.now in
          (c.in_ok-left-2.ensures.ok start whole
          (subst (λ (f : Front). IsGoing g.D.Digester.address start (chunks_of c.parts.draft.chunks) c.parts.tower f c.parts.left.now whole) front
          (c.parts.invariant.going rows can))).going;
    }

pub parts-smaller : goal.parts-smaller
parts-smaller g c =
    let front = subst (λ (o : Option (ℕ × Name)). MatchOption o (c.parts.path ≡ []) (λ part. c.parts.path ≡ (part.0, item_of part.1) ∷ c.next.new.self)) c.in-Some.is c.in_ok-level.ensures.front in
    let start = chunks_of c.args.draft.now.chunks in
    let whole = edited c.requires.0 c.args.edits.now in
    let is = c.in_ok-left-2.ensures.ok start whole
    (subst (λ (f : Front). IsGoing g.D.Digester.address start (chunks_of c.parts.draft.chunks) c.parts.tower f c.parts.left.now whole) front
    (c.parts.invariant.going c.requires.0 c.requires.1)) in
    subst (λ (f : Front). load (nodes_in start) c.turn.new.path < load (nodes_in start) f) (sym front) is.less

pub put_edits-requires-after_bounds : goal.put_edits-requires-after_bounds
put_edits-requires-after_bounds g c κs within =
    let over = subst (λ (o : Option (ℕ × Name)). MatchOption o (c.parts.path ≡ []) (λ part. c.parts.path ≡ (part.0, item_of part.1) ∷ c.next.new.self)) c.in_default.is c.in_ok-level.ensures.front in
    let start = chunks_of c.args.draft.now.chunks in
    let whole = edited c.requires.0 c.args.edits.now in (
      whole,
      subst (λ (f : Front). Awaits g.D.Digester.address (chunks_of c.parts.draft.chunks) c.parts.tower (edited (rest (nodes_in start) f) c.parts.left.now) whole) over
          (c.parts.invariant.going c.requires.0 c.requires.1).awaits,
    )

pub finish-requires-after_bounds : goal.finish-requires-after_bounds
finish-requires-after_bounds g c κs within =
    let over = subst (λ (o : Option (ℕ × Name)). MatchOption o (c.parts.path ≡ []) (λ part. c.parts.path ≡ (part.0, item_of part.1) ∷ c.next.new.self)) c.in_default.is c.in_ok-level.ensures.front in
    let start = chunks_of c.args.draft.now.chunks in
    let whole = edited c.requires.0 c.args.edits.now in (
      whole,
      inl
          (awaits_none g.D.Digester.address (chunks_of c.put_edits.new.draft.chunks) c.put_edits.new.tower whole
          (c.in_ok-put_edits.ensures.ok whole
          (subst (λ (f : Front). Awaits g.D.Digester.address (chunks_of c.parts.draft.chunks) c.parts.tower (edited (rest (nodes_in start) f) c.parts.left.now) whole) over
          (c.parts.invariant.going c.requires.0 c.requires.1).awaits))),
    )

pub returns-clause-ok : goal.returns-clause-ok
returns-clause-ok g c rows tree =
    let over = subst (λ (o : Option (ℕ × Name)). MatchOption o (c.parts.path ≡ []) (λ part. c.parts.path ≡ (part.0, item_of part.1) ∷ c.next.new.self)) c.in_default.is c.in_ok-level.ensures.front in
    let a = g.D.Digester.address in
    let start = chunks_of c.args.draft.now.chunks in
    let edits = c.args.edits.now in
    let whole = edited rows edits in
    let can : CanEdit a start c.args.root.now.0 edits rows = record {
      tree = tree;
      are_edits = c.requires.1.are_edits;
      few = subst (λ (l : List Item). length (edited l edits) < 2 ^ 63) (same_rows a start c.args.root.now.0 c.requires.0 rows c.requires.1.tree tree) c.requires.1.few;
    } in
    c.finish.ensures.ok whole
    (awaits_none a (chunks_of c.put_edits.new.draft.chunks) c.put_edits.new.tower whole
    (c.in_ok-put_edits.ensures.ok whole
    (subst (λ (f : Front). Awaits a (chunks_of c.parts.draft.chunks) c.parts.tower (edited (rest (nodes_in start) f) c.parts.left.now) whole) over
    (c.parts.invariant.going rows can).awaits)))

pub returns-clause-grows : goal.returns-clause-grows
returns-clause-grows g c =
    drafts_grow.in_steps is_node c.args.draft.now c.put_edits.new.draft c.finish.new.draft
    (drafts_grow.in_steps is_node c.args.draft.now c.parts.draft c.put_edits.new.draft c.parts.invariant.grows c.in_ok-put_edits.ensures.grows)
    c.finish.ensures.grows

pub returns-in_err-left-2-clause-grows : goal.returns-in_err-left-2-clause-grows
returns-in_err-left-2-clause-grows g c =
    drafts_grow.in_steps is_node c.args.draft.now c.parts.draft c.turn.new.draft c.parts.invariant.grows c.in_err-left-2.ensures.grows

pub returns-in_err-put_edits-clause-grows : goal.returns-in_err-put_edits-clause-grows
returns-in_err-put_edits-clause-grows g c =
    drafts_grow.in_steps is_node c.args.draft.now c.parts.draft c.put_edits.new.draft c.parts.invariant.grows c.in_err-put_edits.ensures.grows
