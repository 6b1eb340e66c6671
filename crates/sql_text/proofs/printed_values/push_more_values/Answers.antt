use Rattle.std.proofs.Common.{◌≡◌, length, min, arith, rules}
use Rattle.std.proofs.lemmas.Grind.{common_steps}
use Rattle.std.proofs.lemmas.Slice.Zip.{zip_end}
use Rattle.sql_text.proofs.CommaLemmas.{values_end}
use Rattle.sql_text.proofs.printed_values.push_more_values.Goals as goal

pub returns : goal.returns
returns c =
    let count : length c.loop-kind.yielded ≡ min (length c.args.kinds.now) (length c.args.values.now) =
    zip_end c.args.kinds.now c.args.values.now c.loop-kind.yielded c.into_iter-kind-iterator.result c.loop-kind.kind-iterator c.next.new.self c.next.result
    (search rules) (search rules) c.loop-kind.yielded_by c.in-None.is c.next.ensures.steps in
    let nothing = values_end c.args.kinds.now c.args.values.now (length c.loop-kind.yielded) count in
    grind (arith, common_steps, nothing)
