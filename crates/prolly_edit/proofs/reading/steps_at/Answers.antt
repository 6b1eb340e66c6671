use Rattle.std.proofs.Common.{◌≡◌, ◌+◌, ◌<◌, length, arith}
use Rattle.prolly_edit.proofs.KeepLemmas.{open_ends}
use Rattle.prolly_edit.proofs.reading.steps_at.Goals as goal

pub returns-then-place-from : goal.returns-then-place-from
returns-then-place-from c address level item stays here size_is size count low =
    let items = c.args.node.now.items in
    let place = c.from-place.result + 1 in
    let more : place < length items = omega arith in
    let place_is : place ≡ c.args.at + 1 = omega arith in
    c.steps_of.ensures address level item.key (open_ends address level items c.args.at c.args.size place item stays here size_is place_is more) size count low
