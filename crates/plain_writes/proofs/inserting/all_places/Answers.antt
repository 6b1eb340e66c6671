use Rattle.std.proofs.Common.{◌++◌, ◌∙◌, ap, append_assoc}
use Rattle.plain_writes.proofs.PlaceLemmas.{range_from}
use Rattle.plain_writes.proofs.inserting.all_places.Goals as goal

pub loop-place-preserved : goal.loop-place-preserved
loop-place-preserved c =
    let next = range_from c.loop-place.place c.args.count c.loop-place-test.true in
    rw c.in_ok-push.ensures.ok (rw append_assoc (c.loop-place.invariant ∙ ap (λ left. c.loop-place.places.items ++ left) next))
