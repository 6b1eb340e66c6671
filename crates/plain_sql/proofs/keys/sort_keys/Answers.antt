use Rattle.std.proofs.Common.{◌+◌, drop, map}
use Rattle.plain_sql.specs.Lists.{each}
use Rattle.plain_sql.specs.Plans.{sort_key}
use Rattle.plain_sql.specs.Seen.{key_seen}
use Rattle.plain_sql.proofs.EachLemmas.{all_given, next_is, no_memory, none_given, one_given, seen_behind}
use Rattle.plain_sql.proofs.keys.sort_keys.Goals as goal

pub loop-key-preserved : goal.loop-key-preserved
loop-key-preserved c =
    one_given (sort_key c.args.scope.now c.args.list.now) (drop c.loop-key.key-index c.args.keys.now) (drop (c.loop-key.key-index + 1) c.args.keys.now) c.key-item.result (map key_seen c.loop-key.sorters) _ (key_seen c.in_ok-sort_key.field-0) _
    (next_is c.args.keys.now c.loop-key.key-index c.key-item.result c.loop-key-test.true c.key-item.is)
    c.in_ok-sort_key.ensures (seen_behind key_seen c.loop-key.sorters _ c.in_ok-sort_key.field-0 c.in_ok-push.ensures.ok) c.loop-key.invariant

pub returns : goal.returns
returns c = all_given (sort_key c.args.scope.now c.args.list.now) c.args.keys.now c.loop-key.key-index (map key_seen c.loop-key.sorters) _ c.loop-key-test.false c.loop-key.invariant

pub returns-in_err-sort_key : goal.returns-in_err-sort_key
returns-in_err-sort_key c =
    none_given (sort_key c.args.scope.now c.args.list.now) key_seen (map key_seen) (drop c.loop-key.key-index c.args.keys.now) (drop (c.loop-key.key-index + 1) c.args.keys.now) c.key-item.result (map key_seen c.loop-key.sorters) _ c.in_err-sort_key.field-0.0
    (next_is c.args.keys.now c.loop-key.key-index c.key-item.result c.loop-key-test.true c.key-item.is)
    c.in_err-sort_key.ensures c.loop-key.invariant c.from_residual.result c.from_residual.ensures

pub returns-in_err-push : goal.returns-in_err-push
returns-in_err-push c = no_memory (map key_seen) (each (sort_key c.args.scope.now c.args.list.now) c.args.keys.now) c.from_residual-in_err-push.result c.from_residual-in_err-push.ensures
