use Rattle.std.proofs.Common.{[], arith}
use Rattle.std.specs.Option.{option_copied}
use Rattle.schema_merge.specs.Parts.{of_columns, sides}
use Rattle.schema_merge.proofs.MergeLemmas.{few_columns, few_parts}
use Rattle.schema_merge.proofs.merging.merge.Goals as goal

pub over_columns-requires : goal.over_columns-requires
over_columns-requires c =
    let all = sides (option_copied c.args.base) c.args.ours.now c.args.theirs.now in
    let few = few_parts (λ part. part.name) of_columns all [] c.in-Ok.columns c.in-Ok.ensures in
    let one = few_columns c.args.ours.now c.requires.ours in
    let two = few_columns c.args.theirs.now c.requires.theirs in
    omega (arith, few, one, two)
