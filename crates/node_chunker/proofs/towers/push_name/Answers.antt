use Rattle.std.proofs.Common.{◌<◌, ◌≤◌, ◌+◌, [], ◌∷◌, length, Option, refl, subst, ◌∙◌, arith}
use Rattle.std.specs.Option.{option_map}
use Rattle.std.proofs.Math.ListN.{set, length-set}
use Rattle.node_format.specs.declared.items.RefItem.{RefItem}
use Rattle.node_format.specs.Views.{ref_of}
use Rattle.chunk_store.specs.Drafts.{chunks_of}
use Rattle.chunk_store.specs.Kinds.{is_node}
use Rattle.chunk_store.proofs.GrowthLemmas.{drafts_grow}
use Rattle.node_chunker.specs.Steps.{IsPushed}
use Rattle.node_chunker.proofs.ClimbLemmas.{climb_low, climb_ready, climb_stays, climb_up, climb_ends, extended}
use Rattle.node_chunker.proofs.towers.push_name.Goals as goal

pub overflow_cast-level : goal.overflow_cast-level
overflow_cast-level g c =
    let within : c.loop-at.at < length c.loop-at.inner.items = omega arith in
    omega (arith, climb_low g.D.Digester.address _ _ (chunks_of c.loop-at.draft.chunks) c.loop-at.inner.items c.loop-at.at (ref_of c.loop-at.item) c.loop-at.invariant.climbing within)

pub overflow_add-level : goal.overflow_add-level
overflow_add-level g c =
    let within : c.loop-at.at < length c.loop-at.inner.items = omega arith in
    omega (arith, climb_low g.D.Digester.address _ _ (chunks_of c.loop-at.draft.chunks) c.loop-at.inner.items c.loop-at.at (ref_of c.loop-at.item) c.loop-at.invariant.climbing within)

pub push-requires-clause-fits : goal.push-requires-clause-fits
push-requires-clause-fits g c κs live =
    let within : c.loop-at.at < length c.loop-at.inner.items = omega arith in
    climb_ready g.D.Digester.address _ _ (chunks_of c.loop-at.draft.chunks) c.loop-at.inner.items c.loop-at.at (ref_of c.loop-at.item)
    c.index_mut.result.now c.loop-at.invariant.climbing within c.index_mut.ensures.value

pub returns-in-None-clause-ok : goal.returns-in-None-clause-ok
returns-in-None-clause-ok g c =
    let a = g.D.Digester.address in
    let within : c.loop-at.at < length c.loop-at.inner.items = omega arith in
    let new = chunks_of c.push.new.draft.chunks in
    let P : Option RefItem → Type 0 = λ o. IsPushed a new (c.loop-at.at + 1) c.index_mut.result.now (ref_of c.loop-at.item) c.push.new.self (option_map ref_of o) in
    climb_stays a _ _ (chunks_of c.loop-at.draft.chunks) new c.loop-at.inner.items
    (set c.loop-at.inner.items c.loop-at.at c.push.new.self) c.loop-at.at (ref_of c.loop-at.item) c.index_mut.result.now c.push.new.self c.loop-at.invariant.climbing within
    c.index_mut.ensures.value (extended c.loop-at.draft c.push.new.draft c.in_ok-push.ensures.grows) (subst P c.in-None.is c.in_ok-push.ensures.ok) refl

pub loop-at-preserved : goal.loop-at-preserved
loop-at-preserved g c =
    let a = g.D.Digester.address in
    let within : c.loop-at.at < length c.loop-at.inner.items = omega arith in
    let new = chunks_of c.push.new.draft.chunks in
    let P : Option RefItem → Type 0 = λ o. IsPushed a new (c.loop-at.at + 1) c.index_mut.result.now (ref_of c.loop-at.item) c.push.new.self (option_map ref_of o) in
    record {
      many = length-set c.loop-at.inner.items c.loop-at.at c.push.new.self ∙ c.loop-at.invariant.many;
      climbing = climb_up a _ _ (chunks_of c.loop-at.draft.chunks) new c.loop-at.inner.items
          (set c.loop-at.inner.items c.loop-at.at c.push.new.self) c.loop-at.at (ref_of c.loop-at.item) (ref_of c.in-Some.named) c.index_mut.result.now c.push.new.self
          c.loop-at.invariant.climbing within c.index_mut.ensures.value (extended c.loop-at.draft c.push.new.draft c.in_ok-push.ensures.grows)
          (subst P c.in-Some.is c.in_ok-push.ensures.ok) refl;
      grows = drafts_grow.in_steps is_node c.args.draft.now c.loop-at.draft c.push.new.draft c.loop-at.invariant.grows c.in_ok-push.ensures.grows;
    }

pub returns-clause-ok : goal.returns-clause-ok
returns-clause-ok g c =
    let past : length c.loop-at.inner.items ≤ c.loop-at.at = omega arith in
    climb_ends g.D.Digester.address _ _ (chunks_of c.loop-at.draft.chunks) c.loop-at.inner.items c.begin_level.new.inner.items
    c.loop-at.at (ref_of c.loop-at.item) (ref_of c.loop-at.item ∷ []) c.loop-at.invariant.climbing past refl c.in_ok-begin_level.ensures
