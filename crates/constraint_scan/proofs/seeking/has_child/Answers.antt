use Rattle.std.proofs.Common.{◌∙◌}
use Rattle.constraint_scan.proofs.FoundLemmas.{key_found}
use Rattle.constraint_scan.proofs.seeking.has_child.Goals as goal

pub returns : goal.returns
returns g c = λ contents at.
    key_found c.has_key.result c.in_ok-cells.cells c.args.key.now c.as_slice-2.result.now c.args.foreign.now.columns contents.rows c.in_ok-cells.ensures
    (c.as_slice-2.ensures ∙ c.in_ok-places.ensures ∙ c.as_slice.ensures) (c.has_key.ensures contents at)
