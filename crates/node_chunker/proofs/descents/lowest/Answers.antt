use Rattle.std.proofs.Common.{◌≡◌, ◌<◌, Option, Some, subst, arith}
use Rattle.std.specs.Option.{option_map}
use Rattle.tuple_codec.specs.Nodes.{Node}
use Rattle.tuple_codec.specs.declared.addresses.Address.{Address}
use Rattle.chunk_store.specs.Drafts.{chunks_of}
use Rattle.prolly_tree.specs.Found.{lift}
use Rattle.node_chunker.specs.Lowest.{IsOnlyName}
use Rattle.node_chunker.proofs.LowestLemmas.{below_too, level_at, level_is, node_stored, root_here}
use Rattle.node_chunker.proofs.descents.lowest.Goals as goal

pub down-init : goal.down-init
down-init g c = record { has_all = λ rows above. above }

pub only_name-requires-after_bounds : goal.only_name-requires-after_bounds
only_name-requires-after_bounds g c κs within =
    let is = c.down.invariant.has_all c.requires.0 c.requires.1 in (
      record { level = is.rise; items = lift g.D.Digester.address is.rise 0 c.requires.0 },
      node_stored g.D.Digester.address (chunks_of c.args.draft.now.chunks) c.down.root.0 c.requires.0 is,
    )

pub down-preserved : goal.down-preserved
down-preserved g c =
    let a = g.D.Digester.address in
    let chunks = chunks_of c.args.draft.now.chunks in
    record {
      has_all = λ rows above.
          let is = c.down.invariant.has_all rows above in
          let node : Node = record { level = is.rise; items = lift a is.rise 0 rows } in
          let P : Option Address → Type 0 = λ o. IsOnlyName node (option_map (λ k. k.0) o) in
          (below_too a chunks c.down.root.0 rows is c.in-Some.below.0
          (subst P c.in-Some.is (c.only_name.ensures node (node_stored a chunks c.down.root.0 rows is)))).0;
    }

pub down-smaller : goal.down-smaller
down-smaller g c =
    let a = g.D.Digester.address in
    let chunks = chunks_of c.args.draft.now.chunks in
    let rows = c.requires.0 in
    let is = c.down.invariant.has_all rows c.requires.1 in
    let node : Node = record { level = is.rise; items = lift a is.rise 0 rows } in
    let P : Option Address → Type 0 = λ o. IsOnlyName node (option_map (λ k. k.0) o) in
    let under = below_too a chunks c.down.root.0 rows is c.in-Some.below.0
    (subst P c.in-Some.is (c.only_name.ensures node (node_stored a chunks c.down.root.0 rows is))) in
    let less = under.1 in
    let here : level_at (chunks c.down.root.0) ≡ is.rise = level_is a chunks c.down.root.0 rows is in
    let there : level_at (chunks c.in-Some.below.0) ≡ under.0.rise = level_is a chunks c.in-Some.below.0 rows under.0 in
    let smaller : level_at (chunks c.in-Some.below.0) < level_at (chunks c.down.root.0) = omega arith in
    smaller

pub returns : goal.returns
returns g c rows above =
    let a = g.D.Digester.address in
    let chunks = chunks_of c.args.draft.now.chunks in
    let is = c.down.invariant.has_all rows above in
    let node : Node = record { level = is.rise; items = lift a is.rise 0 rows } in
    let P : Option Address → Type 0 = λ o. IsOnlyName node (option_map (λ k. k.0) o) in
    root_here a chunks c.down.root.0 rows is
    (subst P c.in_default.is (c.only_name.ensures node (node_stored a chunks c.down.root.0 rows is)))
