use Rattle.std.proofs.Common.{◌<◌, ◌+◌, length, Option, refl, subst, arith}
use Rattle.std.specs.Option.{option_map}
use Rattle.std.proofs.Math.ListN.{set}
use Rattle.std.proofs.lemmas.Result.{IfOk-weaker}
use Rattle.node_format.specs.declared.items.RefItem.{RefItem}
use Rattle.node_format.specs.Views.{ref_of}
use Rattle.chunk_store.specs.Drafts.{chunks_of}
use Rattle.node_chunker.specs.Steps.{IsPushed, IsPushedAt}
use Rattle.node_chunker.proofs.ClimbLemmas.{climb_begins, climb_done, climb_low, climb_ready, climb_stays, climb_up, extended}
use Rattle.node_chunker.proofs.towers.push_kept_name.Goals as goal

pub overflow_cast-level : goal.overflow_cast-level
overflow_cast-level g c =
    let a = g.D.Digester.address in
    let old = chunks_of c.args.draft.now.chunks in
    let nodes = c.args.inner.now.items in
    let within : c.args.place < length nodes = omega arith in
    omega (arith, climb_low a _ _ old nodes c.args.place (ref_of c.args.named.now) (climb_begins a old nodes c.args.place (ref_of c.args.named.now) c.requires.fits) within)

pub overflow_add-level : goal.overflow_add-level
overflow_add-level g c =
    let a = g.D.Digester.address in
    let old = chunks_of c.args.draft.now.chunks in
    let nodes = c.args.inner.now.items in
    let within : c.args.place < length nodes = omega arith in
    omega (arith, climb_low a _ _ old nodes c.args.place (ref_of c.args.named.now) (climb_begins a old nodes c.args.place (ref_of c.args.named.now) c.requires.fits) within)

pub push-requires-clause-fits : goal.push-requires-clause-fits
push-requires-clause-fits g c κs live =
    let a = g.D.Digester.address in
    let old = chunks_of c.args.draft.now.chunks in
    let nodes = c.args.inner.now.items in
    let within : c.args.place < length nodes = omega arith in
    climb_ready a _ _ old nodes c.args.place (ref_of c.args.named.now) c.index_mut.result.now
    (climb_begins a old nodes c.args.place (ref_of c.args.named.now) c.requires.fits) within c.index_mut.ensures.value

pub push_name-requires-clause-fits : goal.push_name-requires-clause-fits
push_name-requires-clause-fits g c κs live =
    let a = g.D.Digester.address in
    let old = chunks_of c.args.draft.now.chunks in
    let new = chunks_of c.push.new.draft.chunks in
    let nodes = c.args.inner.now.items in
    let item = ref_of c.args.named.now in
    let within : c.args.place < length nodes = omega arith in
    let P : Option RefItem → Type 0 = λ o. IsPushed a new (c.args.place + 1) c.index_mut.result.now item c.push.new.self (option_map ref_of o) in
    (climb_up a _ _ old new nodes (set nodes c.args.place c.push.new.self) c.args.place item (ref_of c.in-Some.above) c.index_mut.result.now c.push.new.self
    (climb_begins a old nodes c.args.place item c.requires.fits) within c.index_mut.ensures.value
    (extended c.args.draft.now c.push.new.draft c.in_ok-push.ensures.grows) (subst P c.in-Some.is c.in_ok-push.ensures.ok) refl).fits

pub returns-in-None-clause-ok : goal.returns-in-None-clause-ok
returns-in-None-clause-ok g c =
    let a = g.D.Digester.address in
    let old = chunks_of c.args.draft.now.chunks in
    let new = chunks_of c.push.new.draft.chunks in
    let nodes = c.args.inner.now.items in
    let item = ref_of c.args.named.now in
    let within : c.args.place < length nodes = omega arith in
    let P : Option RefItem → Type 0 = λ o. IsPushed a new (c.args.place + 1) c.index_mut.result.now item c.push.new.self (option_map ref_of o) in
    climb_stays a _ _ old new nodes (set nodes c.args.place c.push.new.self) c.args.place item c.index_mut.result.now c.push.new.self
    (climb_begins a old nodes c.args.place item c.requires.fits) within c.index_mut.ensures.value
    (extended c.args.draft.now c.push.new.draft c.in_ok-push.ensures.grows) (subst P c.in-None.is c.in_ok-push.ensures.ok) refl

pub returns-in-Some-clause-ok : goal.returns-in-Some-clause-ok
returns-in-Some-clause-ok g c =
    let a = g.D.Digester.address in
    let old = chunks_of c.args.draft.now.chunks in
    let new = chunks_of c.push.new.draft.chunks in
    let end = chunks_of c.push_name.new.draft.chunks in
    let nodes = c.args.inner.now.items in
    let item = ref_of c.args.named.now in
    let place = c.args.place in
    let within : place < length nodes = omega arith in
    let P : Option RefItem → Type 0 = λ o. IsPushed a new (place + 1) c.index_mut.result.now item c.push.new.self (option_map ref_of o) in
    let after = set nodes place c.push.new.self in
    let climbing = climb_up a _ _ old new nodes after place item (ref_of c.in-Some.above) c.index_mut.result.now c.push.new.self
    (climb_begins a old nodes place item c.requires.fits) within c.index_mut.ensures.value
    (extended c.args.draft.now c.push.new.draft c.in_ok-push.ensures.grows) (subst P c.in-Some.is c.in_ok-push.ensures.ok) refl in
    IfOk-weaker c.push_name.result (λ _. IsPushedAt a end (place + 1) after (ref_of c.in-Some.above) c.push_name.new.inner.items)
    (λ _. IsPushedAt a end place nodes item c.push_name.new.inner.items)
    (λ _ done. climb_done a _ _ new end after c.push_name.new.inner.items (place + 1) (ref_of c.in-Some.above) climbing
    (extended c.push.new.draft c.push_name.new.draft c.push_name.ensures.grows) done)
    c.push_name.ensures.ok
