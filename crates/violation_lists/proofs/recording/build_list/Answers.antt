use Rattle.std.proofs.Common.{List, arith, ap, length, map, subst, ◌∙◌}
use Rattle.std.proofs.lemmas.List.{length-map}
use Rattle.tuple_codec.specs.Nodes.{Item}
use Rattle.node_format.specs.Views.{leaf_of}
use Rattle.chunk_store.specs.Drafts.{chunks_of}
use Rattle.chunk_store.specs.Standing.{IsTree}
use Rattle.violation_lists.specs.Recording.{listed_items}
use Rattle.violation_lists.proofs.ListLemmas.{rows_of_list}
use Rattle.violation_lists.proofs.recording.build_list.Goals as goal

pub build-requires-after_bounds : goal.build-requires-after_bounds
build-requires-after_bounds g c κs within =
    rows_of_list (listed_items c.args.name.now c.args.list.now) (map leaf_of c.as_slice.result.now) (length c.as_slice.result.now) c.requires.rising
    (ap (map leaf_of) c.as_slice.ensures.value ∙ c.in_ok-items.ensures) (length-map c.as_slice.result.now leaf_of)
    (let few = c.as_slice.type_inv.1 in omega (arith, few))

pub returns-clause-stands : goal.returns-clause-stands
returns-clause-stands g c =
    subst (λ (l : List Item). IsTree g.D.Digester.address (chunks_of c.build.new.draft.chunks) c.in_ok-root.root.0 l)
    (ap (map leaf_of) c.as_slice.ensures.value ∙ c.in_ok-items.ensures) c.in_ok-root.ensures.ok
