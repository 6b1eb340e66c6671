use Rattle.std.proofs.Common.{ap, ◌∙◌}
use Rattle.schema_merge.specs.Parts.{moved_place, name_at, place_or_first}
use Rattle.schema_merge.proofs.finding.moved_place.Goals as goal

pub returns : goal.returns
unfolding moved_place
returns c =
    c.place_or_first.ensures
    ∙ ap (λ name. place_or_first c.args.columns.now name) (c.name_at.ensures ∙ ap (λ columns. name_at columns c.args.place) c.as_slice.ensures)
