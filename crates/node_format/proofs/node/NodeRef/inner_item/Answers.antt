use Rattle.std.proofs.Common.{ℕ, List, Some, sym, ap, ◌∙◌}
use Rattle.node_format.specs.Views.{seen}
use Rattle.node_format.proofs.FoundLemmas.{inner_body, inner_found, inner_missing}
use Rattle.node_format.proofs.node.NodeRef.inner_item.Goals as goal

pub from_slice-requires : goal.from_slice-requires
from_slice-requires c = inner_body c.from_item.result.now (seen c.in-Some.item, c.in-Some.field-0-1.now) (sym c.in-Some.ensures)

pub unreachable-requires : goal.unreachable-requires
unreachable-requires c = inner_missing c.args.self.now c.args.i c.from_item.result.now c.requires.within c.from_item.ensures c.requires.inner (sym c.in-None.ensures)

pub returns : goal.returns
returns c =
    let found = inner_found c.args.self.now c.args.i c.from_item.result.now c.requires.within c.from_item.ensures
    (seen c.in-Some.item, c.in-Some.field-0-1.now) c.requires.inner (sym c.in-Some.ensures) in
    found ∙ ap (λ (body : List ℕ). Some (record { key = c.in-Some.item.key.now; body = body; rows = c.in-Some.item.rows })) (sym c.from_slice.ensures)
