use Rattle.std.proofs.Common.{◌≡◌, ◌<◌, ◌++◌, ◌-◌, ◌∷◌, suc, true, List, refl, subst, sym, arith}
use Rattle.std.proofs.lemmas.Result.{IfOk-weaker}
use Rattle.tuple_codec.specs.Nodes.{Item}
use Rattle.node_format.specs.Views.{ref_of}
use Rattle.chunk_store.specs.Drafts.{chunks_of}
use Rattle.node_chunker.specs.Growth.{IsTower}
use Rattle.node_chunker.specs.Steps.{IsPushedAt}
use Rattle.node_chunker.specs.Subtrees.{IsPart, IsWhole, is_clear}
use Rattle.node_chunker.proofs.ClimbLemmas.{extended}
use Rattle.node_chunker.proofs.SubtreeLemmas.{part_of, place_fits, place_tower, place_whole}
use Rattle.node_chunker.proofs.towers.Tower.push_kept_ref.Goals as goal

pub push_kept_name-requires-clause-fits : goal.push_kept_name-requires-clause-fits
push_kept_name-requires-clause-fits g c κs within =
    let a = g.D.Digester.address in
    let old = chunks_of c.args.draft.now.chunks in
    let level = c.args.level in
    let some = c.requires.can.subtree.inner in
    let is : level ≡ suc (level - 1) = omega arith in
    let P : List (List Item) → Type 0 = λ l. IsTower a old l c.requires.can.rows in
    let Q : List (List Item) → Type 0 = λ l. is_clear level l ≡ true in
    let R : Item → Type 0 = λ i. IsPart a old level i c.requires.can.below in
    place_fits a old (level - 1) level is (ref_of c.args.item.now) c.self.inside.leaf c.self.inside.inner.items c.open_levels.new.inner.items
    c.requires.can.rows c.requires.can.below (subst P (sym c.self.view_is) c.requires.can.tower) (subst Q (sym c.self.view_is) c.requires.can.clear)
    c.in_ok-open_levels.ensures (subst R refl c.requires.can.subtree) c.requires.can.follow

pub returns-clause-ok : goal.returns-clause-ok
returns-clause-ok g c rows below tower subtree follow =
    let a = g.D.Digester.address in
    let old = chunks_of c.args.draft.now.chunks in
    let new = chunks_of c.push_kept_name.new.draft.chunks in
    let level = c.args.level in
    let leaf = c.self.inside.leaf in
    let opened = c.open_levels.new.inner.items in
    let end = c.push_kept_name.new.inner.items in
    let named = ref_of c.args.item.now in
    let some = c.requires.can.subtree.inner in
    let is : level ≡ suc (level - 1) = omega arith in
    let P : List (List Item) → Type 0 = λ l. IsTower a old l rows in
    let Q : List (List Item) → Type 0 = λ l. is_clear level l ≡ true in
    IfOk-weaker c.push_kept_name.result (λ _. IsPushedAt a new (level - 1) opened named end) (λ _. IsTower a new (leaf ∷ end) (rows ++ below))
    (λ _ done. place_tower a old (level - 1) level is named leaf c.self.inside.inner.items opened rows below (subst P (sym c.self.view_is) tower)
    (subst Q (sym c.self.view_is) c.requires.can.clear) c.in_ok-open_levels.ensures (part_of a old level named below subtree) follow new end
    (extended c.args.draft.now c.push_kept_name.new.draft c.push_kept_name.ensures.grows) done subtree.ended)
    c.push_kept_name.ensures.ok

pub returns-clause-last : goal.returns-clause-last
returns-clause-last g c rows below tower part follow =
    let a = g.D.Digester.address in
    let old = chunks_of c.args.draft.now.chunks in
    let new = chunks_of c.push_kept_name.new.draft.chunks in
    let level = c.args.level in
    let leaf = c.self.inside.leaf in
    let opened = c.open_levels.new.inner.items in
    let end = c.push_kept_name.new.inner.items in
    let named = ref_of c.args.item.now in
    let some = c.requires.can.subtree.inner in
    let is : level ≡ suc (level - 1) = omega arith in
    let low : level < 256 = omega arith in
    let P : List (List Item) → Type 0 = λ l. IsTower a old l rows in
    let Q : List (List Item) → Type 0 = λ l. is_clear level l ≡ true in
    IfOk-weaker c.push_kept_name.result (λ _. IsPushedAt a new (level - 1) opened named end) (λ _. IsWhole a new (leaf ∷ end) (rows ++ below))
    (λ _ done. place_whole a old (level - 1) level is named leaf c.self.inside.inner.items opened rows below (subst P (sym c.self.view_is) tower)
    (subst Q (sym c.self.view_is) c.requires.can.clear) c.in_ok-open_levels.ensures part follow new end
    (extended c.args.draft.now c.push_kept_name.new.draft c.push_kept_name.ensures.grows) done low)
    c.push_kept_name.ensures.ok
