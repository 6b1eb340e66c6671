use Rattle.std.proofs.Common.{◌≡◌, ◌<◌, ◌∷◌, [], List, length, ◌⊎◌, inl, inr, sym, ap, subst, ◌∙◌, arith}
use Rattle.std.specs.Prelude.{vec_len}
use Rattle.std.specs.Option.{option_map}
use Rattle.std.proofs.lemmas.Bool.{eqb-true}
use Rattle.std.proofs.lemmas.List.{nil_from_length}
use Rattle.tuple_codec.specs.Nodes.{Item}
use Rattle.node_format.specs.Views.{ref_of}
use Rattle.chunk_store.specs.Drafts.{chunks_of}
use Rattle.node_chunker.specs.Growth.{IsTower}
use Rattle.node_chunker.specs.Subtrees.{IsWhole}
use Rattle.node_chunker.proofs.ClimbLemmas.{extended, not_none}
use Rattle.node_chunker.proofs.LeafLemmas.{begins_above, leaf_ready, leaf_root, never_leaf}
use Rattle.node_chunker.proofs.towers.Tower.finish.Goals as goal

pub put-requires-after_bounds : goal.put-requires-after_bounds
put-requires-after_bounds g c κs live =
    let a = g.D.Digester.address in
    let old = chunks_of c.args.draft.now.chunks in
    let P : List (List Item) → Type 0 = λ l. IsTower a old l c.requires.0 ⊎ IsWhole a old l c.requires.0 in
    leaf_ready a old c.self.inside.leaf c.self.inside.inner.items c.requires.0 (subst P (sym c.self.view_is) c.requires.1)

pub close-requires-after_bounds : goal.close-requires-after_bounds
close-requires-after_bounds g c κs live =
    let a = g.D.Digester.address in
    let old = chunks_of c.args.draft.now.chunks in
    let P : List (List Item) → Type 0 = λ l. IsTower a old l c.requires.0 ⊎ IsWhole a old l c.requires.0 in
    leaf_ready a old c.self.inside.leaf c.self.inside.inner.items c.requires.0 (subst P (sym c.self.view_is) c.requires.1)

pub returns-then-is_empty-clause-ok : goal.returns-then-is_empty-clause-ok
returns-then-is_empty-clause-ok g c rows tower =
    let a = g.D.Digester.address in
    let old = chunks_of c.args.draft.now.chunks in
    let new = chunks_of c.put.new.draft.chunks in
    let leaf = c.self.inside.leaf in
    let inner = c.self.inside.inner.items in
    let zero_len = eqb-true (vec_len c.self.inside.inner) 0 (sym c.is_empty.ensures ∙ c.if-is_empty.true) in
    let none : inner ≡ [] = nil_from_length inner (omega arith) in
    let P : List (List Item) → Type 0 = λ l. IsTower a old l rows in
    leaf_root a old new leaf c.put.new.self rows (ref_of c.in_ok-named.named) (subst P (sym c.self.view_is ∙ ap (λ l. leaf ∷ l) none) tower)
    (extended c.args.draft.now c.put.new.draft c.in_ok-named.ensures.grows) c.in_ok-named.ensures.ok

pub returns-then-is_empty-clause-last : goal.returns-then-is_empty-clause-last
returns-then-is_empty-clause-last g c rows whole =
    let a = g.D.Digester.address in
    let old = chunks_of c.args.draft.now.chunks in
    let leaf = c.self.inside.leaf in
    let inner = c.self.inside.inner.items in
    let zero_len = eqb-true (vec_len c.self.inside.inner) 0 (sym c.is_empty.ensures ∙ c.if-is_empty.true) in
    let none : inner ≡ [] = nil_from_length inner (omega arith) in
    let P : List (List Item) → Type 0 = λ l. IsWhole a old l rows in
    absurd (never_leaf a old leaf rows (subst P (sym c.self.view_is ∙ ap (λ l. leaf ∷ l) none) whole))

pub close_levels-requires-after_bounds : goal.close_levels-requires-after_bounds
close_levels-requires-after_bounds g c κs live =
    let a = g.D.Digester.address in
    let old = chunks_of c.args.draft.now.chunks in
    let new = chunks_of c.close.new.draft.chunks in
    let inner = c.self.inside.inner.items in
    let many = not_none (vec_len c.self.inside.inner) (sym c.is_empty.ensures ∙ c.if-is_empty.false) in
    let some : 0 < length inner = omega arith in
    let P : List (List Item) → Type 0 = λ l. IsTower a old l c.requires.0 ⊎ IsWhole a old l c.requires.0 in (
      c.requires.0,
      begins_above a old new c.self.inside.leaf inner c.requires.0 (option_map ref_of c.in_ok-carry.carry) some (subst P (sym c.self.view_is) c.requires.1)
          (extended c.args.draft.now c.close.new.draft c.in_ok-carry.ensures.grows) c.in_ok-carry.ensures.ok,
    )

pub lowest-root-requires-after_bounds : goal.lowest-root-requires-after_bounds
lowest-root-requires-after_bounds g c κs live =
    let a = g.D.Digester.address in
    let old = chunks_of c.args.draft.now.chunks in
    let new = chunks_of c.close.new.draft.chunks in
    let inner = c.self.inside.inner.items in
    let many = not_none (vec_len c.self.inside.inner) (sym c.is_empty.ensures ∙ c.if-is_empty.false) in
    let some : 0 < length inner = omega arith in
    let P : List (List Item) → Type 0 = λ l. IsTower a old l c.requires.0 ⊎ IsWhole a old l c.requires.0 in (
      c.requires.0,
      c.in_ok-top.ensures.ok c.requires.0
          (begins_above a old new c.self.inside.leaf inner c.requires.0 (option_map ref_of c.in_ok-carry.carry) some (subst P (sym c.self.view_is) c.requires.1)
          (extended c.args.draft.now c.close.new.draft c.in_ok-carry.ensures.grows) c.in_ok-carry.ensures.ok),
    )

pub returns-clause-ok : goal.returns-clause-ok
returns-clause-ok g c rows whole =
    let a = g.D.Digester.address in
    let old = chunks_of c.args.draft.now.chunks in
    let new = chunks_of c.close.new.draft.chunks in
    let inner = c.self.inside.inner.items in
    let many = not_none (vec_len c.self.inside.inner) (sym c.is_empty.ensures ∙ c.if-is_empty.false) in
    let some : 0 < length inner = omega arith in
    let P : List (List Item) → Type 0 = λ l. IsTower a old l rows ⊎ IsWhole a old l rows in
    c.lowest-root.ensures rows
    (c.in_ok-top.ensures.ok rows
    (begins_above a old new c.self.inside.leaf inner rows (option_map ref_of c.in_ok-carry.carry) some (subst P (sym c.self.view_is) (inl whole))
    (extended c.args.draft.now c.close.new.draft c.in_ok-carry.ensures.grows) c.in_ok-carry.ensures.ok))

pub returns-clause-last : goal.returns-clause-last
returns-clause-last g c rows whole =
    let a = g.D.Digester.address in
    let old = chunks_of c.args.draft.now.chunks in
    let new = chunks_of c.close.new.draft.chunks in
    let inner = c.self.inside.inner.items in
    let many = not_none (vec_len c.self.inside.inner) (sym c.is_empty.ensures ∙ c.if-is_empty.false) in
    let some : 0 < length inner = omega arith in
    let P : List (List Item) → Type 0 = λ l. IsTower a old l rows ⊎ IsWhole a old l rows in
    c.lowest-root.ensures rows
    (c.in_ok-top.ensures.ok rows
    (begins_above a old new c.self.inside.leaf inner rows (option_map ref_of c.in_ok-carry.carry) some (subst P (sym c.self.view_is) (inr whole))
    (extended c.args.draft.now c.close.new.draft c.in_ok-carry.ensures.grows) c.in_ok-carry.ensures.ok))
