use Rattle.std.proofs.Common.{map}
use Rattle.std.specs.List.{flat_map}
use Rattle.plain_writes.specs.Seen.{found_seen, named_seen}
use Rattle.violation_lists.specs.Written.{fits_in, written_in}
use Rattle.violation_lists.proofs.WrittenLemmas.{next_fits, next_written}
use Rattle.violation_lists.proofs.listing.written_all.Goals as goal

pub push_written-requires : goal.push_written-requires
push_written-requires c =
    next_fits (fits_in (map named_seen c.args.tables.now)) c.args.found.now c.loop-one.one-index c.one-item.result c.loop-one-test.true c.one-item.is c.requires

pub loop-one-preserved : goal.loop-one-preserved
loop-one-preserved c =
    let f = written_in (map named_seen c.args.tables.now) in
    next_written f (flat_map f (map found_seen c.args.found.now)) c.loop-one.list.items c.push_written.new.list.items c.args.found.now c.loop-one.one-index c.one-item.result
    c.loop-one-test.true c.one-item.is c.loop-one.invariant c.in_ok-push_written.ensures
