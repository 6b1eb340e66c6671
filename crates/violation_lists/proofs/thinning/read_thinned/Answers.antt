use Rattle.std.proofs.Common.{◌∙◌, ◌++◌, ap, map}
use Rattle.plain_writes.specs.Seen.{named_seen}
use Rattle.violation_lists.specs.Scanning.{skeleton}
use Rattle.violation_lists.specs.Thinned.{thin_named}
use Rattle.violation_lists.proofs.ThinLemmas.{thinned_told}
use Rattle.violation_lists.proofs.thinning.read_thinned.Goals as goal

pub returns : goal.returns
returns g c = λ database there.
    let schemas = map named_seen c.as_slice.result.now in
    c.in_ok-push_thin.ensures database there
    ∙ (λ i. map named_seen (c.new-tables.ensures i) ++ map (thin_named schemas) database)
    ∙ thinned_told database schemas (ap (map named_seen) c.as_slice.ensures ∙ c.in_ok-push_schemas.ensures database there ∙ (λ i. map named_seen (c.new-schemas.ensures i) ++ skeleton database))
