use Rattle.std.proofs.Common.{◌<◌, arith, length, map}
use Rattle.plain_writes.specs.Seen.{broken_seen, named_seen}
use Rattle.plain_writes.specs.Violations.{of_foreign}
use Rattle.plain_writes.proofs.ListingLemmas.{more_found}
use Rattle.plain_writes.proofs.violating.of_foreigns.Goals as goal

pub loop-foreign-preserved : goal.loop-foreign-preserved
loop-foreign-preserved c =
    let keys = c.as_slice-keys.result.now in
    let within : c.loop-foreign.foreign-index < length keys = omega arith in
    more_found (of_foreign (map named_seen c.args.database.now) c.args.schema.now c.args.rows.now) broken_seen _ c.loop-foreign.found _ _ keys c.loop-foreign.foreign-index _
    c.loop-foreign.invariant within c.foreign-item.is c.in_ok-more.ensures c.in_ok-append.ensures
