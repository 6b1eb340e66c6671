use Rattle.std.proofs.Common.{List, Result}
use Rattle.std.specs.Prelude.{IfOk}
use Rattle.std.proofs.lemmas.Result.{IfOk-weaker}
use Rattle.tuple_codec.specs.Nodes.{Item}
use Rattle.tuple_codec.specs.declared.addresses.Address.{Address}
use Rattle.chunk_store.specs.Chunks.{Chunks}
use Rattle.chunk_store.specs.Digests.{cut_address}
use Rattle.chunk_store.specs.Standing.{IsTree}
use Rattle.prolly_tree.specs.Lists.{StandsForRows}
use Rattle.unit_tests.proofs.samples.tree_of.Goals as goal

stands : {E : Type 0} (chunks : Chunks) (r : Result Address E) (rows : List Item) → IfOk r (λ root. IsTree cut_address chunks root.0 rows)
    → IfOk r (λ root. StandsForRows cut_address chunks root.0)
stands chunks r rows tree =
    IfOk-weaker r (λ (root : Address). IsTree cut_address chunks root.0 rows) (λ (root : Address). StandsForRows cut_address chunks root.0) (λ root t. (rows, t)) tree

pub returns-clause-tree : goal.returns-clause-tree
returns-clause-tree g c = stands _ c.build.result _ c.build.ensures.ok
