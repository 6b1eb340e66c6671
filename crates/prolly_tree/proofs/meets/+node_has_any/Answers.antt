use Rattle.std.proofs.Common.{◌≡◌, ◌<◌, ◌∷◌, ◌∙◌, None, List, length, drop, refl, sym, ap, subst, arith}
use Rattle.tuple_codec.proofs.Lists.{next_at}
use Rattle.tuple_codec.specs.Edits.{EditsRiseAfter}
use Rattle.tuple_codec.specs.declared.edits.Edit.{Edit}
use Rattle.chunk_store.specs.Drafts.{chunks_of}
use Rattle.prolly_tree.specs.Standing.{rows_below}
use Rattle.prolly_tree.specs.Lists.{has_any, place_of}
use Rattle.prolly_tree.proofs.MeetLemmas.{from_first, leaf_is, none_behind, turn, turn_found, turn_past}
use Rattle.prolly_tree.proofs.meets.+node_has_any.Goals as goal

pub returns-then-level-eq0 : goal.returns-then-level-eq0
returns-then-level-eq0 g t c =
    let leaf : c.args.node.now.level ≡ 0 = omega arith in
    c.leaf_has_any.ensures ∙ leaf_is (chunks_of c.args.draft.now.chunks) c.args.node.now c.requires.leads leaf c.args.edits.now

pub returns-then-at-count : goal.returns-then-at-count
returns-then-at-count g t c =
    let chunks = chunks_of c.args.draft.now.chunks in
    let node = c.args.node.now in
    let left = c.children.left.now in
    let edit = c.edit-item.result in
    let are : left ≡ edit ∷ drop 1 left = next_at left 0 edit (omega (arith, c.in-len1-up.len_at_least)) c.edit-item.is in
    let place = c.place_of-at.ensures.place ∙ ap (λ k. place_of k node.items) c.as_slice.ensures in
    sym (none_behind chunks node edit.key c.requires.leads (sym place ∙ c.if-at-count.true ∙ c.count.ensures) left (from_first left edit (drop 1 left) are c.children.invariant.rise))
    ∙ c.children.invariant.same

pub node_below-requires-clause-named : goal.node_below-requires-clause-named
node_below-requires-clause-named g t c κs within = record { at = c.place_of-at.result; item = _; stands = c.inner_item.ensures; named = refl }

pub node_has_any-requires-clause-leads : goal.node_has_any-requires-clause-leads
node_has_any-requires-clause-leads g t c κs within =
    let chunks = chunks_of c.args.draft.now.chunks in
    let node = c.args.node.now in
    let left = c.children.left.now in
    let edit = c.edit-item.result in
    let are : left ≡ edit ∷ drop 1 left = next_at left 0 edit (omega (arith, c.in-len1-up.len_at_least)) c.edit-item.is in
    let place = c.place_of-at.ensures.place ∙ ap (λ k. place_of k node.items) c.as_slice.ensures in
    let inner : 0 < node.level = omega arith in
    let turned = turn chunks node left edit (drop 1 left) _ _ _ c.node_below.result c.requires.leads inner c.children.invariant.rise are place c.inner_item.ensures c.count_up_to.ensures.count c.node_below.ensures.stored in
    turned.leads

pub node_has_any-requires-clause-rise : goal.node_has_any-requires-clause-rise
node_has_any-requires-clause-rise g t c κs within =
    let chunks = chunks_of c.args.draft.now.chunks in
    let node = c.args.node.now in
    let left = c.children.left.now in
    let edit = c.edit-item.result in
    let are : left ≡ edit ∷ drop 1 left = next_at left 0 edit (omega (arith, c.in-len1-up.len_at_least)) c.edit-item.is in
    let place = c.place_of-at.ensures.place ∙ ap (λ k. place_of k node.items) c.as_slice.ensures in
    let inner : 0 < node.level = omega arith in
    let turned = turn chunks node left edit (drop 1 left) _ _ _ c.node_below.result c.requires.leads inner c.children.invariant.rise are place c.inner_item.ensures c.count_up_to.ensures.count c.node_below.ensures.stored in
    subst (λ (l : List Edit). EditsRiseAfter None l) (sym c.split_at.ensures.front) turned.rise_here

pub returns-then-node_has_any : goal.returns-then-node_has_any
returns-then-node_has_any g t c =
    let chunks = chunks_of c.args.draft.now.chunks in
    let node = c.args.node.now in
    let left = c.children.left.now in
    let edit = c.edit-item.result in
    let are : left ≡ edit ∷ drop 1 left = next_at left 0 edit (omega (arith, c.in-len1-up.len_at_least)) c.edit-item.is in
    let place = c.place_of-at.ensures.place ∙ ap (λ k. place_of k node.items) c.as_slice.ensures in
    let inner : 0 < node.level = omega arith in
    let turned = turn chunks node left edit (drop 1 left) _ _ _ c.node_below.result c.requires.leads inner c.children.invariant.rise are place c.inner_item.ensures c.count_up_to.ensures.count c.node_below.ensures.stored in
    let found = c.node_has_any.ensures ∙ ap (λ (l : List Edit). has_any (rows_below chunks c.node_below.result) l) c.split_at.ensures.front in
    turn_found _ _ _ turned.same (sym found ∙ c.if-node_has_any.true) ∙ c.children.invariant.same

pub children-smaller : goal.children-smaller
children-smaller g t c =
    let chunks = chunks_of c.args.draft.now.chunks in
    let node = c.args.node.now in
    let left = c.children.left.now in
    let edit = c.edit-item.result in
    let are : left ≡ edit ∷ drop 1 left = next_at left 0 edit (omega (arith, c.in-len1-up.len_at_least)) c.edit-item.is in
    let place = c.place_of-at.ensures.place ∙ ap (λ k. place_of k node.items) c.as_slice.ensures in
    let inner : 0 < node.level = omega arith in
    let turned = turn chunks node left edit (drop 1 left) _ _ _ c.node_below.result c.requires.leads inner c.children.invariant.rise are place c.inner_item.ensures c.count_up_to.ensures.count c.node_below.ensures.stored in
    let fewer = turned.fewer in
    let rest = ap (λ (l : List Edit). length l) c.split_at.ensures.back in
    let smaller : length c.split_at.result.1.now < length left = omega (arith, fewer, rest) in
    smaller

pub children-preserved : goal.children-preserved
children-preserved g t c =
    let chunks = chunks_of c.args.draft.now.chunks in
    let node = c.args.node.now in
    let left = c.children.left.now in
    let edit = c.edit-item.result in
    let are : left ≡ edit ∷ drop 1 left = next_at left 0 edit (omega (arith, c.in-len1-up.len_at_least)) c.edit-item.is in
    let place = c.place_of-at.ensures.place ∙ ap (λ k. place_of k node.items) c.as_slice.ensures in
    let inner : 0 < node.level = omega arith in
    let turned = turn chunks node left edit (drop 1 left) _ _ _ c.node_below.result c.requires.leads inner c.children.invariant.rise are place c.inner_item.ensures c.count_up_to.ensures.count c.node_below.ensures.stored in
    let found = c.node_has_any.ensures ∙ ap (λ (l : List Edit). has_any (rows_below chunks c.node_below.result) l) c.split_at.ensures.front in
    record {
      rise = subst (λ (l : List Edit). EditsRiseAfter None l) (sym c.split_at.ensures.back) turned.rise_more;
      same = ap (λ (l : List Edit). has_any (rows_below chunks node) l) c.split_at.ensures.back
          ∙ turn_past _ _ _ turned.same (sym found ∙ c.if-node_has_any.false) ∙ c.children.invariant.same;
    }
