use Rattle.std.proofs.Common.{◌≡◌, ◌<◌, ◌≤◌, ◌+◌, ◌++◌, suc, [], length, Option, refl, subst, ◌∙◌, arith}
use Rattle.std.specs.Prelude.{nat_eq}
use Rattle.std.specs.Option.{option_map, option_to_list}
use Rattle.std.proofs.Math.ListN.{set, length-set}
use Rattle.node_format.specs.declared.items.RefItem.{RefItem}
use Rattle.node_format.specs.Views.{ref_of}
use Rattle.chunk_store.specs.Drafts.{chunks_of}
use Rattle.chunk_store.specs.Kinds.{is_node}
use Rattle.chunk_store.proofs.GrowthLemmas.{drafts_grow}
use Rattle.node_chunker.specs.declared.closings.Closed.{Closed}
use Rattle.node_chunker.specs.Closing.{IsClosing, IsLevelClosed}
use Rattle.node_chunker.proofs.ClimbLemmas.{extended}
use Rattle.node_chunker.proofs.ClosingLemmas.{closing_done, closing_some, level_low, level_ready, level_root, level_up, levels_done}
use Rattle.node_chunker.proofs.closings.close_levels.Goals as goal

pub overflow_cast-level : goal.overflow_cast-level
overflow_cast-level g c =
    let within : c.loop-at.at < length c.loop-at.inner.items = omega arith in
    omega (
      arith,
      level_low g.D.Digester.address (chunks_of c.loop-at.draft.chunks) c.loop-at.inner.items c.loop-at.at (option_to_list (option_map ref_of c.loop-at.carry)) c.requires.0 within
          (c.loop-at.invariant.closing c.requires.0 c.requires.1),
    )

pub overflow_add-level : goal.overflow_add-level
overflow_add-level g c =
    let within : c.loop-at.at < length c.loop-at.inner.items = omega arith in
    omega (
      arith,
      level_low g.D.Digester.address (chunks_of c.loop-at.draft.chunks) c.loop-at.inner.items c.loop-at.at (option_to_list (option_map ref_of c.loop-at.carry)) c.requires.0 within
          (c.loop-at.invariant.closing c.requires.0 c.requires.1),
    )

pub close_level-requires-clause-fits : goal.close_level-requires-clause-fits
close_level-requires-clause-fits g c κs live =
    let within : c.loop-at.at < length c.loop-at.inner.items = omega arith in
    level_ready g.D.Digester.address (chunks_of c.loop-at.draft.chunks) c.loop-at.inner.items c.loop-at.at c.index_mut.result.now (option_to_list (option_map ref_of c.loop-at.carry))
    c.requires.0 within c.index_mut.ensures.value (c.loop-at.invariant.closing c.requires.0 c.requires.1)

pub returns-in-Root-clause-ok : goal.returns-in-Root-clause-ok
returns-in-Root-clause-ok g c rows closing =
    let a = g.D.Digester.address in
    let within : c.loop-at.at < length c.loop-at.inner.items = omega arith in
    let count : c.len.result ≡ length c.loop-at.inner.items = omega arith in
    let new = chunks_of c.close_level.new.draft.chunks in
    let carry = option_to_list (option_map ref_of c.loop-at.carry) in
    let held = c.index_mut.result.now in
    let P : Closed → Type 0 = λ o. IsLevelClosed a new (c.loop-at.at + 1) (held ++ carry) (nat_eq (c.loop-at.at + 1) c.len.result) o in
    let step = subst P c.in-Root.is c.in_ok-root.ensures.ok in
    level_root a (chunks_of c.loop-at.draft.chunks) new c.loop-at.inner.items c.loop-at.at held carry rows c.in-Root.root.0 c.len.result count within
    c.index_mut.ensures.value (c.loop-at.invariant.closing rows closing) step.0 step.1 (extended c.loop-at.draft c.close_level.new.draft c.in_ok-root.ensures.grows)

pub loop-at-preserved : goal.loop-at-preserved
loop-at-preserved g c =
    let a = g.D.Digester.address in
    let within : c.loop-at.at < length c.loop-at.inner.items = omega arith in
    let count : c.len.result ≡ length c.loop-at.inner.items = omega arith in
    let new = chunks_of c.close_level.new.draft.chunks in
    let carry = option_to_list (option_map ref_of c.loop-at.carry) in
    let held = c.index_mut.result.now in
    let P : Closed → Type 0 = λ o. IsLevelClosed a new (c.loop-at.at + 1) (held ++ carry) (nat_eq (c.loop-at.at + 1) c.len.result) o in
    let step = subst P c.in-Below.is c.in_ok-root.ensures.ok in
    record {
      many = length-set c.loop-at.inner.items c.loop-at.at c.close_level.new.node ∙ c.loop-at.invariant.many;
      closing = λ rows closing. level_up a (chunks_of c.loop-at.draft.chunks) new c.loop-at.inner.items (set c.loop-at.inner.items c.loop-at.at c.close_level.new.node) c.loop-at.at held
          c.close_level.new.node carry rows (option_map ref_of c.in-Below.named) c.len.result count within c.index_mut.ensures.value
          (c.loop-at.invariant.closing rows closing) step.0 (extended c.loop-at.draft c.close_level.new.draft c.in_ok-root.ensures.grows) step.1 refl;
      grows = drafts_grow.in_steps is_node c.args.draft.now c.loop-at.draft c.close_level.new.draft c.loop-at.invariant.grows c.in_ok-root.ensures.grows;
    }

pub unreachable-requires : goal.unreachable-requires
unreachable-requires g c =
    let a = g.D.Digester.address in
    let past : length c.loop-at.inner.items ≤ c.loop-at.at = omega arith in
    let chunks = chunks_of c.loop-at.draft.chunks in
    let rows = c.requires.0 in
    let P : Option RefItem → Type 0 = λ o. IsClosing a chunks (suc c.loop-at.at) [] (option_to_list (option_map ref_of o)) rows in
    closing_some a chunks (suc c.loop-at.at) rows (subst P c.in-None.is
    (levels_done a chunks c.loop-at.inner.items c.loop-at.at (option_to_list (option_map ref_of c.loop-at.carry)) rows past (c.loop-at.invariant.closing rows c.requires.1)))

pub returns-clause-ok : goal.returns-clause-ok
returns-clause-ok g c rows closing =
    let a = g.D.Digester.address in
    let past : length c.loop-at.inner.items ≤ c.loop-at.at = omega arith in
    let chunks = chunks_of c.loop-at.draft.chunks in
    let P : Option RefItem → Type 0 = λ o. IsClosing a chunks (suc c.loop-at.at) [] (option_to_list (option_map ref_of o)) rows in
    closing_done a chunks (suc c.loop-at.at) (ref_of c.in-Some.item) rows (subst P c.in-Some.is
    (levels_done a chunks c.loop-at.inner.items c.loop-at.at (option_to_list (option_map ref_of c.loop-at.carry)) rows past (c.loop-at.invariant.closing rows closing)))
