use Rattle.std.proofs.Common.{◌+◌, [], drop, map}
use Rattle.plain_sql.specs.Lists.{each}
use Rattle.plain_sql.specs.Plans.{one_heading}
use Rattle.plain_sql.specs.Seen.{heading_seen}
use Rattle.plain_sql.proofs.EachLemmas.{all_given, next_is, no_memory, none_given, one_given, seen_behind}
use Rattle.plain_sql.proofs.planning.alone_headings.Goals as goal

pub loop-named-preserved : goal.loop-named-preserved
loop-named-preserved c =
    one_given (one_heading []) (drop c.loop-named.named-index c.args.list.now) (drop (c.loop-named.named-index + 1) c.args.list.now) c.named-item.result (map heading_seen c.loop-named.headings) _ (heading_seen c.in_ok-one_heading.field-0) _
    (next_is c.args.list.now c.loop-named.named-index c.named-item.result c.loop-named-test.true c.named-item.is)
    c.in_ok-one_heading.ensures (seen_behind heading_seen c.loop-named.headings _ c.in_ok-one_heading.field-0 c.in_ok-push.ensures.ok) c.loop-named.invariant

pub returns : goal.returns
returns c = all_given (one_heading []) c.args.list.now c.loop-named.named-index (map heading_seen c.loop-named.headings) _ c.loop-named-test.false c.loop-named.invariant

pub returns-in_err-one_heading : goal.returns-in_err-one_heading
returns-in_err-one_heading c =
    none_given (one_heading []) heading_seen (map heading_seen) (drop c.loop-named.named-index c.args.list.now) (drop (c.loop-named.named-index + 1) c.args.list.now) c.named-item.result (map heading_seen c.loop-named.headings) _ c.in_err-one_heading.field-0.0
    (next_is c.args.list.now c.loop-named.named-index c.named-item.result c.loop-named-test.true c.named-item.is)
    c.in_err-one_heading.ensures c.loop-named.invariant c.from_residual.result c.from_residual.ensures

pub returns-in_err-push : goal.returns-in_err-push
returns-in_err-push c = no_memory (map heading_seen) (each (one_heading []) c.args.list.now) c.from_residual-in_err-push.result c.from_residual-in_err-push.ensures
