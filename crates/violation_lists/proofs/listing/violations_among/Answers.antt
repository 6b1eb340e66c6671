use Rattle.std.proofs.Common.{◌≡◌, ◌∙◌, IfOk, ap, map, subst}
use Rattle.std.specs.List.{flat_map, list_all}
use Rattle.plain_writes.specs.Seen.{found_seen, named_seen}
use Rattle.plain_writes.specs.Violations.{violations}
use Rattle.plain_writes.specs.CheckTexts.{checks}
use Rattle.violation_lists.specs.Written.{fits_in, written_in}
use Rattle.violation_lists.proofs.ThinLemmas.{thin_fits, written_thin}
use Rattle.violation_lists.proofs.listing.violations_among.Goals as goal

pub written_all-requires : goal.written_all-requires
written_all-requires g c =
    let contents = c.requires.0 in
    let read = c.in_ok-tables.ensures contents c.requires.1 in
    let tables = ap (map named_seen) c.as_slice-2.ensures ∙ read in
    let found = ap (map found_seen) c.as_slice-3.ensures ∙ c.in_ok-found.ensures ∙ ap (violations checks) (ap (map named_seen) c.as_slice.ensures ∙ read) in
    (λ i. list_all (fits_in (tables i)) (found i)) ∙ thin_fits checks contents c.requires.2

pub returns : goal.returns
returns g c = λ contents there is.
    let read = c.in_ok-tables.ensures contents there in
    let tables = ap (map named_seen) c.as_slice-2.ensures ∙ read in
    let found = ap (map found_seen) c.as_slice-3.ensures ∙ c.in_ok-found.ensures ∙ ap (violations checks) (ap (map named_seen) c.as_slice.ensures ∙ read) in
    subst (λ listed. IfOk c.written_all.result (λ list. list.items ≡ listed)) ((λ i. flat_map (written_in (tables i)) (found i)) ∙ written_thin checks contents) c.written_all.ensures
