use Rattle.std.proofs.Common.{◌∙◌, ap, sym, ℕ, List}
use Rattle.plain_sql.specs.Lists.{in_order}
use Rattle.plain_sql.specs.Runs.{places_cmp}
use Rattle.plain_writes.proofs.violating.of_unique.Goals as goal

pub breaks_unique-requires : goal.breaks_unique-requires
breaks_unique-requires c = c.requires ∙ ap (λ (places : List ℕ). in_order (places_cmp places) c.args.sorted.now) (sym c.as_slice.ensures)
