use Rattle.std.proofs.Common.{◌≡◌, ◌++◌, ◌∷◌, [], List, Option, refl, subst, sym}
use Rattle.std.specs.Option.{option_map}
use Rattle.std.proofs.lemmas.Result.{IfOk-weaker}
use Rattle.tuple_codec.specs.Nodes.{Item, leaf_item}
use Rattle.node_format.specs.declared.items.RefItem.{RefItem}
use Rattle.node_format.specs.Views.{ref_of}
use Rattle.chunk_store.specs.Drafts.{chunks_of}
use Rattle.chunk_store.specs.Standing.{AreHeld}
use Rattle.node_chunker.specs.Towers.{ended_chunks, pushes}
use Rattle.node_chunker.specs.Growth.{IsTower}
use Rattle.node_chunker.specs.Steps.{IsPushed}
use Rattle.node_chunker.proofs.GrowthLemmas.{writable_here}
use Rattle.node_chunker.proofs.ClimbLemmas.{extended, name_fits, row_climbs, row_fits, row_stays}
use Rattle.node_chunker.proofs.towers.Tower.push_kept_row.Goals as goal

pub push-requires-clause-fits : goal.push-requires-clause-fits
push-requires-clause-fits g c κs live =
    let a = g.D.Digester.address in
    let leaf = c.self.inside.leaf in
    let inner = c.self.inside.inner.items in
    let fits = row_fits a (chunks_of c.args.draft.now.chunks) c.args.self.now leaf inner (leaf_item c.args.key.now c.args.value.now) (leaf_item c.args.key.now c.args.value.now)
    c.self.view_is refl c.requires.can in
    writable_here a 0 leaf inner (leaf_item c.args.key.now c.args.value.now) fits

pub push_name-requires-clause-fits : goal.push_name-requires-clause-fits
push_name-requires-clause-fits g c κs live =
    let a = g.D.Digester.address in
    let leaf = c.self.inside.leaf in
    let inner = c.self.inside.inner.items in
    let x = leaf_item c.args.key.now c.args.value.now in
    let mid = chunks_of c.push.new.draft.chunks in
    let fits = row_fits a (chunks_of c.args.draft.now.chunks) c.args.self.now leaf inner (leaf_item c.args.key.now c.args.value.now) x
    c.self.view_is refl c.requires.can in
    let P : Option RefItem → Type 0 = λ o. IsPushed a mid 0 leaf x c.push.new.self (option_map ref_of o) in
    name_fits a (chunks_of c.args.draft.now.chunks) mid leaf c.push.new.self inner x (ref_of c.in-Some.named) fits (subst P c.in-Some.is c.in_ok-push.ensures.ok)

pub returns-in-None-clause-ok : goal.returns-in-None-clause-ok
returns-in-None-clause-ok g c rows tower =
    let a = g.D.Digester.address in
    let leaf = c.self.inside.leaf in
    let inner = c.self.inside.inner.items in
    let x = leaf_item c.args.key.now c.args.value.now in
    let old = chunks_of c.args.draft.now.chunks in
    let mid = chunks_of c.push.new.draft.chunks in
    let fits = row_fits a old c.args.self.now leaf inner (leaf_item c.args.key.now c.args.value.now) x c.self.view_is refl c.requires.can in
    let P : Option RefItem → Type 0 = λ o. IsPushed a mid 0 leaf x c.push.new.self (option_map ref_of o) in
    let Q : List (List Item) → Type 0 = λ l. IsTower a old l rows in
    let R : Item → Type 0 = λ i. IsTower a mid (c.push.new.self ∷ inner) (rows ++ i ∷ []) in
    subst R refl (row_stays a old mid leaf c.push.new.self inner rows x (subst Q (sym c.self.view_is) tower) fits
    (extended c.args.draft.now c.push.new.draft c.in_ok-push.ensures.grows) (subst P c.in-None.is c.in_ok-push.ensures.ok))

pub returns-in-Some-clause-ok : goal.returns-in-Some-clause-ok
returns-in-Some-clause-ok g c rows tower =
    let a = g.D.Digester.address in
    let leaf = c.self.inside.leaf in
    let inner = c.self.inside.inner.items in
    let x = leaf_item c.args.key.now c.args.value.now in
    let old = chunks_of c.args.draft.now.chunks in
    let mid = chunks_of c.push.new.draft.chunks in
    let new = chunks_of c.push_name.new.draft.chunks in
    let named = ref_of c.in-Some.named in
    let after = c.push_name.new.inner.items in
    let fits = row_fits a old c.args.self.now leaf inner (leaf_item c.args.key.now c.args.value.now) x c.self.view_is refl c.requires.can in
    let P : Option RefItem → Type 0 = λ o. IsPushed a mid 0 leaf x c.push.new.self (option_map ref_of o) in
    let Q : List (List Item) → Type 0 = λ l. IsTower a old l rows in
    let R : Item → Type 0 = λ i. IsTower a new (c.push.new.self ∷ after) (rows ++ i ∷ []) in
    IfOk-weaker c.push_name.result
    (λ _. (after ≡ pushes a 1 inner named) × AreHeld a new (ended_chunks a 1 inner named))
    (λ _. IsTower a new (c.push.new.self ∷ after) (rows ++ leaf_item c.args.key.now c.args.value.now ∷ []))
    (λ _ done. subst R refl (row_climbs a old mid new leaf c.push.new.self inner after rows x named (subst Q (sym c.self.view_is) tower) fits
    (extended c.args.draft.now c.push.new.draft c.in_ok-push.ensures.grows)
    (extended c.push.new.draft c.push_name.new.draft c.push_name.ensures.grows) (subst P c.in-Some.is c.in_ok-push.ensures.ok) done.0 done.1))
    c.push_name.ensures.ok
